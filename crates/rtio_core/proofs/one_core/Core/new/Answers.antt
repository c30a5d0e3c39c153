use Rattle.std.proofs.Common.{List, [], ap, ◌∙◌, subst}
use Rattle.rtio_types.specs.declared.event.Edge.{Edge}
use Rattle.rtio_input.specs.Past.{InputsStandFor}
use Rattle.rtio_core.specs.Handed.{kept_of}
use Rattle.rtio_core.specs.declared.named.Named.{Named}
use Rattle.rtio_core.proofs.Made.{new_keeps}
use Rattle.rtio_core.proofs.one_core.Core.new.Goals as goal

pub invariant_of-result : goal.invariant_of-result
invariant_of-result c =
    new_keeps c.args.config c.new-3.result c.in_ok-outputs.outputs c.in_ok-inputs.inputs c.in_ok-store.store c.requires c.new-3.ensures.items c.in_ok-outputs.ensures
    (subst (λ (edges : List Edge). InputsStandFor c.in_ok-inputs.inputs edges [] [] 0) c.items.ensures c.in_ok-inputs.ensures.stands)
    (c.in_ok-store.ensures ∙ ap (λ (kept : List Named). kept_of kept) c.items-2.ensures)
