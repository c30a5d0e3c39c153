use Rattle.kernel_places.proofs.SessionLaws.{sessions_answer}
use Rattle.kernel_places.proofs.laws.sessions_answer.Goals as goal

pub returns : goal.returns
returns c = sessions_answer
