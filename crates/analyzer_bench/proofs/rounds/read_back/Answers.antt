use Rattle.core_analyzer.specs.CoreDumps.{dump_of}
use Rattle.analyzer_bench.proofs.rounds.read_back.Goals as goal

pub returns-in-Ok : goal.returns-in-Ok
returns-in-Ok c =
    c.a_dump_has_one_spelling.ensures.dump c.args.bytes.now c.in-Ok.dump (dump_of c.args.core.now) c.in-Ok.ensures.ok c.requires
