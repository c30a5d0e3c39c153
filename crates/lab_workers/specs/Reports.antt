-- What a worker reports of a job.
use Rattle.std.specs.Prelude.{List, [], ◌∷◌}
use Rattle.exp_model.specs.declared.session.Session.{Session}
use Rattle.sched_state.specs.declared.entry.SchedEntry.{SchedEntry}
use Rattle.stage_work.specs.declared.tasks.Report.{Report}
use Rattle.stage_work.specs.Judged.{IsJudged}
use Rattle.stage_work.specs.Reports.{act_told}
use Rattle.lab_workers.specs.Turns.{HasPut}
use Rattle.lab_workers.specs.Workers.{SchedChair, sched_entries}

-- the chair put the report, and nothing else; of a source it tells what is true
pub record HasTold (session : Session) (told : Report) (old new : SchedChair) : Type 0 where
  pub found : List SchedEntry
  pub put : HasPut session found (act_told session found told ∷ []) old new
  pub judged : IsJudged session (sched_entries new.seen) (act_told session found told)
