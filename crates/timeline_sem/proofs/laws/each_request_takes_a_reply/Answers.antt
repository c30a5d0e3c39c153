use Rattle.timeline_sem.proofs.RepliesTaken.{each_takes_a_reply}
use Rattle.timeline_sem.proofs.laws.each_request_takes_a_reply.Goals as goal

pub returns : goal.returns
returns c = each_takes_a_reply
