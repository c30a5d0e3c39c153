use Rattle.rtio_bench.proofs.Passed.{new-passed, opened-passed}
use Rattle.rtio_bench.proofs.edges.opened.Goals as goal

pub cycle-requires-clause-none_skipped : goal.cycle-requires-clause-none_skipped
cycle-requires-clause-none_skipped c = new-passed c.args.edges.now c.in_ok-inputs.inputs c.in_ok-inputs.ensures.fresh

pub returns-clause-passed : goal.returns-clause-passed
returns-clause-passed c = opened-passed c.in_ok-inputs.inputs c.cycle.new.self c.cycle.ensures.after
