use Rattle.dma_store.proofs.Handles.{handle-fetches}
use Rattle.dma_store.proofs.laws.handles_fetch_what_they_name.Goals as goal

pub returns : goal.returns
returns c = handle-fetches
