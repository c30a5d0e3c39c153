use Rattle.rtio_headline.proofs.Few.{log-few, trace-few}
use Rattle.rtio_headline.proofs.laws.no_more_is_told_than_was_asked.Goals as goal

pub returns-clause-trace : goal.returns-clause-trace
returns-clause-trace c = trace-few

pub returns-clause-log : goal.returns-clause-log
returns-clause-log c = log-few
