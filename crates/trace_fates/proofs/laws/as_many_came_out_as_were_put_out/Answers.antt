use Rattle.trace_fates.proofs.Counting.{all_told, as_many_out}
use Rattle.trace_fates.proofs.laws.as_many_came_out_as_were_put_out.Goals as goal

pub returns-clause-out : goal.returns-clause-out
returns-clause-out c = λ core lawful. as_many_out core lawful (c.what_is_put_out_was_submitted.ensures core lawful)

pub returns-clause-all : goal.returns-clause-all
returns-clause-all c = all_told
