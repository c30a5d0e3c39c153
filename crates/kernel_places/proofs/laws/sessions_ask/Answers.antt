use Rattle.kernel_places.proofs.SessionLaws.{sessions_ask}
use Rattle.kernel_places.proofs.laws.sessions_ask.Goals as goal

pub returns : goal.returns
returns c = sessions_ask
