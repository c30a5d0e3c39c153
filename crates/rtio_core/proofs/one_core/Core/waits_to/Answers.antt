use Rattle.std.proofs.Common.{◌≡◌, refl, ap, ◌∙◌, rules, SFits, w64, Some}
use Rattle.std.proofs.lemmas.Int.{to_z-of_z}
use Rattle.rtio_types.specs.declared.request.Waiting.TheVariants as waiting
use Rattle.rtio_types.specs.Time.{counter_reaching}
use Rattle.rtio_core.proofs.Leaping.{waits-edge, waits-out}
use Rattle.rtio_core.proofs.one_core.Core.waits_to.Goals as goal

pub returns-in-Some-Out : goal.returns-in-Some-Out
returns-in-Some-Out c =
    let pends : c.self.inside.pending ≡ Some (waiting.Out c.in-Some-Out.event) = c.in-Some-Out.is ∙ ap Some (rw c.in-Some-Out.is at c.in-Some-Out.field-0-is) in
    waits-out c.self.inside c.args.self.now c.in-Some-Out.event _ c.wait.result c.self.view_is c.self.invariant pends c.wait.ensures c.unwrap_or.ensures

pub returns-then-is_decided : goal.returns-then-is_decided
returns-then-is_decided c =
    let in_range : SFits w64 c.in-Some-Edge.up_to = search rules in
    let pends : c.self.inside.pending ≡ Some (waiting.Edge c.in-Some-Edge.channel c.in-Some-Edge.up_to) = c.in-Some-Edge.is ∙ ap Some (rw c.in-Some-Edge.is at c.in-Some-Edge.field-0-is) in
    waits-edge c.self.inside c.args.self.now c.in-Some-Edge.channel c.in-Some-Edge.up_to _ c.is_decided.result _ c.self.view_is pends (to_z-of_z w64 c.in-Some-Edge.up_to in_range) (c.is_decided.ensures.right _ _ _ c.self.invariant.inputs)
    (rw c.if-is_decided.true refl)

pub returns-else-is_decided : goal.returns-else-is_decided
returns-else-is_decided c =
    let in_range : SFits w64 c.in-Some-Edge.up_to = search rules in
    let pends : c.self.inside.pending ≡ Some (waiting.Edge c.in-Some-Edge.channel c.in-Some-Edge.up_to) = c.in-Some-Edge.is ∙ ap Some (rw c.in-Some-Edge.is at c.in-Some-Edge.field-0-is) in
    waits-edge c.self.inside c.args.self.now c.in-Some-Edge.channel c.in-Some-Edge.up_to _ c.is_decided.result _ c.self.view_is pends (to_z-of_z w64 c.in-Some-Edge.up_to in_range) (c.is_decided.ensures.right _ _ _ c.self.invariant.inputs)
    (rw c.if-is_decided.false (c.counter_reaching-else-is_decided.ensures ∙ ap counter_reaching (to_z-of_z w64 c.in-Some-Edge.up_to in_range)))
