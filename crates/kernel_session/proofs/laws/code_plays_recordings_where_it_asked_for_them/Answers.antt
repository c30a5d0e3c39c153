use Rattle.kernel_session.proofs.Playbacks.{sessions_play_recordings}
use Rattle.kernel_session.proofs.Playing.{runs_play_what_they_get}
use Rattle.kernel_session.proofs.laws.code_plays_recordings_where_it_asked_for_them.Goals as goal

pub returns-clause-runs : goal.returns-clause-runs
returns-clause-runs c = runs_play_what_they_get

pub returns-clause-sessions : goal.returns-clause-sessions
returns-clause-sessions c = sessions_play_recordings
