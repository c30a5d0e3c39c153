use Rattle.std.proofs.Common.{subst}
use Rattle.core_analyzer.specs.Dumps.{IsSpelling}
use Rattle.core_analyzer.proofs.DumpSpelled.{read-spells, spelled-read, spelled-right}
use Rattle.spelling_laws.proofs.dumps.dumps_are_read_as_spelled.Goals as goal

pub returns-clause-read : goal.returns-clause-read
returns-clause-read c bytes dump s = record { right = spelled-right bytes dump s; dump_is = spelled-read bytes dump s }

pub returns-clause-spelled : goal.returns-clause-spelled
returns-clause-spelled c bytes dump are read = subst (IsSpelling bytes) read.dump_is (read-spells bytes (record { below = are }) read.right)
