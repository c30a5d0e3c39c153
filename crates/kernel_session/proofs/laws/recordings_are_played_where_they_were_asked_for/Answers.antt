use Rattle.kernel_session.proofs.Playing.{plays_what_it_gets}
use Rattle.kernel_session.proofs.laws.recordings_are_played_where_they_were_asked_for.Goals as goal

pub returns : goal.returns
returns c = plays_what_it_gets
