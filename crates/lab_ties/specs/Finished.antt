-- What a laboratory comes to whose workers have done all that there was to do.
use Rattle.std.specs.Prelude.{◌≡◌, ℕ, ◌<◌, List, [], length, slice_get, Some, None, IsTrue}
use Rattle.std.specs.List.{All}
use Rattle.rtio_core.specs.declared.data.Entry.{Entry}
use Rattle.rtio_core.specs.Core.{CoreState}
use Rattle.rtio_core.specs.Entries.{open_session}
use Rattle.exp_model.specs.declared.session.Session.{Session}
use Rattle.sched_state.specs.declared.entry.SchedEntry.{SchedEntry}
use Rattle.sched_state.specs.Lawful.{halted_by}
use Rattle.sched_state.specs.Picks.{is_over}
use Rattle.sched_core.specs.Scheds.{SchedValue, sched_state}
use Rattle.lab_ties.specs.Acts.{core_acts, sched_acts}
use Rattle.lab_ties.specs.Judged.{IsJudged}
use Rattle.lab_ties.specs.Settings.{config_at}
use Rattle.lab_ties.specs.Ties.{AreTied}

-- The scheduler has this session, and nothing is in flight. No arrival is left, every run has ended, and nobody halted
-- it. All entries are of chairs below the number of workers; and each source was judged rightly
pub record IsFinishedSched (session : Session) (workers : ℕ) (sched : SchedValue) : Type 0 where
  pub session_is : sched.session ≡ session
  pub flying_is : (sched_state sched).flying ≡ []
  pub over : IsTrue (is_over (sched_state sched))
  pub going : halted_by sched.history ≡ None
  pub chairs : All (λ (entry : SchedEntry). entry.chair < workers) sched.history
  pub judged : All (λ (entry : SchedEntry). IsJudged session sched.history entry.act) sched.history

-- The core of a pipeline has the pipeline's settings, and no session is open on it. All entries
-- are of chairs below the number of workers; and of each chair the sessions on the core and the
-- reports of the pipeline's kernel steps are the same steps, each once and in one order
pub record IsFinishedCore (session : Session) (workers : ℕ) (sched : List SchedEntry) (pipeline : ℕ) (core : CoreState) : Type 0 where
  pub config : config_at session pipeline ≡ Some core.config
  pub closed : open_session core.history ≡ None
  pub chairs : All (λ (entry : Entry). entry.chair < workers) core.history
  pub tied : (chair : ℕ) → AreTied session pipeline core.config chair sched (sched_acts chair sched) core.history (core_acts chair core.history)

-- the scheduler, and each pipeline's core
pub record IsFinished (session : Session) (workers : ℕ) (sched : SchedValue) (cores : List CoreState) : Type 0 where
  pub scheduler : IsFinishedSched session workers sched
  pub count : length cores ≡ length session.pipelines
  pub each : (pipeline : ℕ) (core : CoreState) → slice_get cores pipeline ≡ Some core → IsFinishedCore session workers sched.history pipeline core
