use Rattle.std.proofs.Common.{ap, sym, ◌∙◌, rules, SFits, w64}
use Rattle.std.proofs.lemmas.Int.{to_z-of_z}
use Rattle.rtio_types.specs.declared.request.Reply.TheVariants as answer
use Rattle.rtio_core.proofs.Asked.{reset_keeps}
use Rattle.rtio_core.proofs.Laws.{from-err, from-ok, pushed-onto}
use Rattle.rtio_core.proofs.Next.{room_keeps}
use Rattle.rtio_core.proofs.one_core.Core.reset.Goals as goal

pub invariant_of-self-then-is_err-2 : goal.invariant_of-self-then-is_err-2
invariant_of-self-then-is_err-2 c =
    room_keeps c.self.inside c.reserve.new.self c.clear.new.self c.self.invariant c.reserve.ensures.items
    (from-err c.clear.result _ (sym c.is_err-else-is_err.ensures.value ∙ c.if-is_err-2.true) c.clear.ensures.err)

pub invariant_of-self-2 : goal.invariant_of-self-2
invariant_of-self-2 c =
    let in_range : SFits w64 c.reads.result = search rules in
    reset_keeps c.self.inside c.args.self.now c.push_reserved.new.self c.clear.new.self c.reset.new.self c.args.who _ _ c.self.view_is c.self.invariant c.requires.open c.requires.waiting
    (ap (λ z. answer.Time z) (to_z-of_z w64 c.reads.result in_range ∙ c.reads.ensures))
    (from-ok c.clear.result _ (sym c.is_err-else-is_err.ensures.value ∙ c.if-is_err-2.false) c.clear.ensures.ok _ _ _ _ c.self.invariant.played)
    (c.reset.ensures.stands _ _ _ _ c.self.invariant.inputs)
    (pushed-onto _ _ _ _ c.push_reserved.ensures.items c.reserve.ensures.items) c.raised-self-inside.ensures
