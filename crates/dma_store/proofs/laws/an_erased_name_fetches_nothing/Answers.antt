use Rattle.dma_store.proofs.Named.{recording-erased}
use Rattle.dma_store.proofs.laws.an_erased_name_fetches_nothing.Goals as goal

pub returns : goal.returns
returns c = recording-erased
