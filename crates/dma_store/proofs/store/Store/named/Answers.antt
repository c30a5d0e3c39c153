use Rattle.std.proofs.Common.{ap, sym, ◌∙◌}
use Rattle.dma_store.specs.Kept.{recording_named}
use Rattle.dma_store.proofs.Entries.{find-by_name}
use Rattle.dma_store.proofs.Inside.{playable-copied}
use Rattle.dma_store.proofs.store.Store.named.Goals as goal

pub returns-clause-value : goal.returns-clause-value
returns-clause-value c =
    c.get.ensures.value ∙ sym (find-by_name c.args.name.now c.self.inside.recordings.entries) ∙ ap (λ kept. recording_named kept c.args.name.now) c.self.view_is

pub returns-clause-playable : goal.returns-clause-playable
returns-clause-playable c =
    playable-copied c.args.name.now c.self.inside.recordings.entries c.get.result c.self.invariant.playable c.get.ensures.value
