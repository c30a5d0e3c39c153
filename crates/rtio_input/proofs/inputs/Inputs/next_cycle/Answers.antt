use Rattle.std.proofs.Common.{ap, ◌∙◌}
use Rattle.std.specs.Prelude.{option_map, slice_get}
use Rattle.rtio_input.specs.Script.{edge_cycle}
use Rattle.rtio_input.specs.Channel.{next_cycle}
use Rattle.rtio_input.proofs.inputs.Inputs.next_cycle.Goals as goal

pub returns-clause-value : goal.returns-clause-value
returns-clause-value c = c.next_cycle.ensures ∙ ap next_cycle c.self.view_is

pub returns-clause-right : goal.returns-clause-right
returns-clause-right c = λ script outputs steps counter stands.
    returns-clause-value c ∙ ap (λ left. option_map edge_cycle (slice_get left 0)) stands.left
