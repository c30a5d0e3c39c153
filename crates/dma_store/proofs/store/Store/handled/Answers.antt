use Rattle.std.proofs.Common.{sym}
use Rattle.dma_store.proofs.Entries.{playable-slice_get}
use Rattle.dma_store.proofs.store.Store.handled.Goals as goal

pub returns-clause-playable : goal.returns-clause-playable
returns-clause-playable c =
    playable-slice_get c.self.inside.recordings.entries _ _ c.self.invariant.playable (sym c.in_ok-recording.ensures.entry)
