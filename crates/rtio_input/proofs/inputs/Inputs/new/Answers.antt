use Rattle.std.proofs.Common.{◌∙◌}
use Rattle.rtio_input.proofs.Made.{new-inputs}
use Rattle.rtio_input.proofs.Standing.{stands-new}
use Rattle.rtio_input.proofs.inputs.Inputs.new.Goals as goal

pub invariant_of-result : goal.invariant_of-result
invariant_of-result c = new-inputs c.args.edges.now c.of.result c.in_ok-closed_channels.field-0.items c.requires (c.of.ensures ∙ c.in_ok-left.ensures) c.in_ok-closed_channels.ensures

pub returns-clause-stands : goal.returns-clause-stands
returns-clause-stands c = stands-new c.args.edges.now c.of.result c.in_ok-closed_channels.field-0.items c.requires (c.of.ensures ∙ c.in_ok-left.ensures) c.in_ok-closed_channels.ensures
