use Rattle.std.proofs.Common.{◌≡◌, false, IsTrue, length, ap, ◌∙◌, rules}
use Rattle.dma_store.specs.Kept.{KeptState, handed_in, is_kept, is_playable}
use Rattle.dma_store.proofs.Inside.{store_of, inside-handed, handed-view}
use Rattle.dma_store.proofs.store.Store.hand_in.Goals as goal

pub invariant_of-self-2 : goal.invariant_of-self-2
invariant_of-self-2 c =
    let same : c.in_ok-kept.kept ≡ c.args.recording.now = search rules in
    let playable : IsTrue (is_playable c.in_ok-kept.kept) = rw same c.requires.playable in
    let absent : is_kept (store_of c.self.inside.recordings.entries c.self.inside.epoch) c.args.name.now ≡ false = ap (λ kept. is_kept kept c.args.name.now) c.self.view_is ∙ c.requires.new in
    inside-handed c.self.inside.recordings.entries c.insert.new.self.entries c.self.inside.epoch (record { name = c.args.name.now }) c.in_ok-kept.kept c.self.invariant absent (rw (ap (λ (kept : KeptState). length kept.entries) c.self.view_is) c.requires.place) playable c.in_ok-insert.ensures.unique c.in_ok-insert.ensures.entries

pub returns-clause-ok : goal.returns-clause-ok
returns-clause-ok c =
    let same : c.in_ok-kept.kept ≡ c.args.recording.now = search rules in
    let absent : is_kept (store_of c.self.inside.recordings.entries c.self.inside.epoch) c.args.name.now ≡ false = ap (λ kept. is_kept kept c.args.name.now) c.self.view_is ∙ c.requires.new in
    handed-view c.self.inside.recordings.entries c.insert.new.self.entries c.self.inside.epoch (record { name = c.args.name.now }) c.in_ok-kept.kept c.self.invariant.distinct absent c.in_ok-insert.ensures.entries ∙ ap (handed_in (store_of c.self.inside.recordings.entries c.self.inside.epoch) c.args.name.now) same ∙ ap (λ kept. handed_in kept c.args.name.now c.args.recording.now) c.self.view_is
