use Rattle.rtio_headline.proofs.Headlines.{headline}
use Rattle.rtio_headline.proofs.laws.what_is_put_out_was_submitted.Goals as goal

pub returns : goal.returns
returns c = headline
