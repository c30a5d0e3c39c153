use Rattle.rtio_input.proofs.Fitting.{replies-fit}
use Rattle.rtio_input.proofs.laws.an_edge_reply_fits.Goals as goal

pub returns : goal.returns
returns c = replies-fit
