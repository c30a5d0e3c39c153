use Rattle.std.proofs.Common.{◌^◌, ◌∙◌, ap}
use Rattle.std.specs.Prelude.{nat_le}
use Rattle.std.specs.List.{list_all}
use Rattle.rtio_types.specs.Time.{cycle_of}
use Rattle.sim_program.proofs.Sending.{early}
use Rattle.sim_program.proofs.link.lines_of.Goals as goal

pub run_rounds-requires-clause-early : goal.run_rounds-requires-clause-early
run_rounds-requires-clause-early c =
    ap (list_all (λ e. nat_le (cycle_of e) (2 ^ 59))) c.trace.ensures ∙ early c.args.run.now.core c.history-lawful.ensures.core
