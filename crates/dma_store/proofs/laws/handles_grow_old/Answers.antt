use Rattle.dma_store.proofs.Handles.{handle-old, next_differs}
use Rattle.dma_store.proofs.laws.handles_grow_old.Goals as goal

pub returns-clause-old : goal.returns-clause-old
returns-clause-old c = handle-old

pub returns-clause-other : goal.returns-clause-other
returns-clause-other c = next_differs
