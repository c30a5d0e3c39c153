use Rattle.std.proofs.Common.{◌≤◌, length, ap, ◌∙◌}
use Rattle.dma_store.specs.Kept.{is_full_for}
use Rattle.dma_store.proofs.Inside.{full-by_name}
use Rattle.dma_store.proofs.store.Store.is_full_for.Goals as goal

pub returns-then-len-ge-PLACES : goal.returns-then-len-ge-PLACES
returns-then-len-ge-PLACES c =
    let full : 4096 ≤ length c.self.inside.recordings.entries = rw c.len.ensures.len at c.if-len-ge-PLACES.true in
    full-by_name c.self.inside.recordings.entries c.self.inside.epoch c.args.name.now c.contains_key.result full c.contains_key.ensures ∙ ap (λ kept. is_full_for kept c.args.name.now) c.self.view_is
