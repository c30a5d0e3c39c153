use Rattle.core_analyzer.specs.CoreDumps.{dump_of}
use Rattle.core_analyzer.proofs.DumpSpelled.{spelled-read, spelled-right}
use Rattle.core_analyzer.proofs.laws.what_is_written_reads_back.Goals as goal

pub returns : goal.returns
returns c core bytes s = (spelled-right bytes (dump_of core) s, spelled-read bytes (dump_of core) s)
