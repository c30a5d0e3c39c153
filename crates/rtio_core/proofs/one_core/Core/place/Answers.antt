use Rattle.std.proofs.Common.{ap, ◌∙◌, refl, arith, sym}
use Rattle.sed_lanes.specs.Lanes.{LanesState}
use Rattle.sed_lanes.specs.Verdict.{verdict}
use Rattle.rtio_core.proofs.Asked.{number-few, output_keeps, reply-placed, verdict-seen}
use Rattle.rtio_core.proofs.Laws.{from-ok, pushed-onto}
use Rattle.rtio_core.proofs.one_core.Core.place.Goals as goal

pub place-requires-clause-decided : goal.place-requires-clause-decided
place-requires-clause-decided c = λ undecided.
    c.requires.decided
    (sym (verdict-seen c.self.inside c.args.self.now c.args.event c.self.view_is c.self.invariant)
    ∙ ap (λ (s : LanesState). verdict s c.args.event c.self.inside.count) (sym c.take_room.ensures.lanes) ∙ undecided)

pub place-requires-clause-room : goal.place-requires-clause-room
place-requires-clause-room c =
    from-ok c.take_room.result _ (sym c.is_err-else-is_err.ensures.value ∙ c.if-is_err-2.false) (c.take_room.ensures.room c.self.inside.count (_, _, _, _, c.self.invariant.played))

pub place-requires-clause-number : goal.place-requires-clause-number
place-requires-clause-number c =
    let few = number-few c.self.inside c.self.invariant in
    omega (arith, few, c.take_room.ensures.number, c.self.inside.entries.ok, c.self.inside.entries.small)

pub invariant_of-self-2 : goal.invariant_of-self-2
invariant_of-self-2 c =
    output_keeps c.self.inside c.args.self.now c.push_reserved.new.self c.place.new.self c.args.who c.args.event _ _ c.self.view_is c.self.invariant c.requires.open c.requires.waiting c.requires.request refl
    (reply-placed c.args.self.now c.args.event c.requires.decided c.requires.later)
    (c.place.ensures _ _ _ _ (c.take_room.ensures.played _ _ _ _ _ c.self.invariant.played))
    (pushed-onto _ _ _ _ c.push_reserved.ensures.items c.reserve.ensures.items) c.raised-self-inside.ensures
