use Rattle.dma_store.proofs.Named.{recording-saved}
use Rattle.dma_store.proofs.laws.a_save_is_fetched.Goals as goal

pub returns : goal.returns
returns c = recording-saved
