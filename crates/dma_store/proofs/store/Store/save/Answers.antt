use Rattle.std.proofs.Common.{◌≡◌, false, IsTrue, refl, ap, sym, ◌∙◌, rules}
use Rattle.dma_store.specs.declared.key.Key.{Key}
use Rattle.dma_store.specs.Kept.{is_full_for, is_playable, saved}
use Rattle.dma_store.proofs.Inside.{store_of, inside-saved, saved-view}
use Rattle.dma_store.proofs.store.Store.save.Goals as goal

pub invariant_of-self-2 : goal.invariant_of-self-2
invariant_of-self-2 c =
    let key : Key = record { name = c.args.name.now } in
    let same : c.in_ok-kept.kept ≡ c.args.recording.now = search rules in
    let place : is_full_for (store_of c.self.inside.recordings.entries c.self.inside.epoch) c.args.name.now ≡ false = ap (λ kept. is_full_for kept c.args.name.now) c.self.view_is ∙ sym c.is_full_for.ensures ∙ c.if-is_full_for.false in
    let playable : IsTrue (is_playable c.in_ok-kept.kept) = rw same c.requires in
    inside-saved c.self.inside.recordings.entries c.insert.new.self.entries c.self.inside.epoch c.next_epoch-self-inside.result key c.in_ok-kept.kept c.self.invariant place playable c.in_ok-insert.ensures.unique c.in_ok-insert.ensures.entries c.next_epoch-self-inside.ensures

pub returns-clause-ok : goal.returns-clause-ok
returns-clause-ok c =
    let key : Key = record { name = c.args.name.now } in
    let same : c.in_ok-kept.kept ≡ c.args.recording.now = search rules in
    saved-view c.self.inside.recordings.entries c.insert.new.self.entries c.self.inside.epoch c.next_epoch-self-inside.result key c.args.name.now c.in_ok-kept.kept c.self.invariant.distinct c.in_ok-insert.ensures.entries refl c.next_epoch-self-inside.ensures ∙ ap (saved (store_of c.self.inside.recordings.entries c.self.inside.epoch) c.args.name.now) same ∙ ap (λ kept. saved kept c.args.name.now c.args.recording.now) c.self.view_is
