-- Desks that are those of a session.
use Rattle.std.specs.Prelude.{◌≡◌, ℕ, length, slice_get, Some, IsTrue}
use Rattle.desk.specs.Seated.{Opened, Seated}
use Rattle.rtio_core.specs.declared.data.Config.{Config}
use Rattle.exp_model.specs.declared.session.Session.{Session}
use Rattle.exp_model.specs.Sessions.{is_session}
use Rattle.sched_state.specs.declared.entry.SchedAct.{SchedAct}
use Rattle.lab_ties.specs.Settings.{config_at}
use Rattle.worker_desks.specs.declared.desks.Desks.{Desks}

-- a chair at the scheduler's desk
abbrev pub SchedChair : Type 0
SchedChair = Seated SchedAct Session

-- the desks are those of this session: the scheduler's session
-- is this one, and a core's settings are those of its pipeline
pub record AreDesksOf (desks : Desks) : Type 0 where
  pub session : IsTrue (is_session desks.session)
  pub sched : desks.sched.fixed ≡ desks.session
  pub count : length desks.cores.items ≡ length desks.session.pipelines
  pub cores : (pipeline : ℕ) (desk : Opened Config) → slice_get desks.cores.items pipeline ≡ Some desk → config_at desks.session pipeline ≡ Some desk.fixed
