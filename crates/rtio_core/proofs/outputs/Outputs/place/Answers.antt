use Rattle.std.proofs.Common.{◌≡◌, get_or, max, min, refl, ap, ◌∙◌, arith}
use Rattle.std.proofs.lemmas.List.{get_or_read}
use Rattle.rtio_core.proofs.Submitted.{held-are-later, lane-left, number-is-new, peak-below, played-accepted, played-sequence}
use Rattle.rtio_core.proofs.outputs.Outputs.place.Goals as goal

pub place-requires-clause-held : goal.place-requires-clause-held
place-requires-clause-held c = held-are-later c.args.self.now _ c.args.counter _ _ _ c.requires.played.4

pub place-requires-clause-number : goal.place-requires-clause-number
place-requires-clause-number c = number-is-new c.args.self.now _ c.args.counter _ _ _ c.requires.played.4

pub held_by-held-requires : goal.held_by-held-requires
held_by-held-requires c = lane-left c.args.self.now _ c.place.new.self c.args.counter c.args.event c.in-Lane.lane _ _ _ c.requires.played.4 c.in-Lane.ensures.answer c.place.ensures.after

pub index-requires : goal.index-requires
index-requires c =
    let below = peak-below c.args.self.now _ c.args.counter c.args.event c.in-Lane.lane _ _ _ c.requires.played.4 c.in-Lane.ensures.answer in
    omega (arith, below, c.args.self.now.peaks.ok.0)

pub index_mut-requires : goal.index_mut-requires
index_mut-requires c =
    let below = peak-below c.args.self.now _ c.args.counter c.args.event c.in-Lane.lane _ _ _ c.requires.played.4 c.in-Lane.ensures.answer in
    omega (arith, below, c.args.self.now.peaks.ok.0)

pub returns-in-Lane : goal.returns-in-Lane
returns-in-Lane c = λ holds lanes depth steps h.
    let below = peak-below c.args.self.now holds c.args.counter c.args.event c.in-Lane.lane lanes depth steps h c.in-Lane.ensures.answer in
    let was : c.index.result.now ≡ get_or c.args.self.now.peaks.items c.in-Lane.lane 0 = get_or_read c.args.self.now.peaks.items _ _ below c.index.ensures 0 in
    let peak : c.max-peak.result ≡ max (get_or c.args.self.now.peaks.items c.in-Lane.lane 0) c.held_by-held.result = c.max-peak.ensures ∙ ap (λ n. max n c.held_by-held.result) was in
    played-accepted c.args.self.now holds c.place.new.self _ c.held_by-held.result c.max-peak.result c.max-self.result c.min-self.result _ c.args.counter c.args.event c.in-Lane.lane lanes depth steps h c.requires.later c.in-Lane.ensures.answer c.place.ensures.after
    c.held_by-held.ensures peak refl (c.max-self.ensures ∙ ap (max c.args.self.now.greatest) c.cycle_of.ensures.cycle) (c.min-self.ensures ∙ ap (min c.args.self.now.next) c.cycle_of-in-Lane.ensures.cycle) (omega (arith, c.cycle_of.ensures.cycle, c.cycle_of.ensures.small)) refl
    c.requires.room.line c.requires.room.output

pub returns-in-Sequence : goal.returns-in-Sequence
returns-in-Sequence c = λ holds lanes depth steps h.
    played-sequence c.args.self.now holds c.place.new.self c.add.new.self _ c.args.counter c.args.event c.in-Sequence.last lanes depth steps h c.in-Sequence.ensures.answer c.place.ensures.after c.add.ensures c.requires.room.line refl
