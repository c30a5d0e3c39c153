-- The lines of the runs.
use Rattle.std.specs.Prelude.{ℕ, List, [], ◌++◌, codes, decimal}
use Rattle.exp_runs.specs.declared.run.Run.{Run}
use Rattle.exp_runs.specs.declared.run.Status.{Status}
use Rattle.exp_runs.specs.declared.run.Status.TheVariants as status

-- how a run ended; of one that goes on nothing is said
abbrev pub status_text : Status → List ℕ
status_text status.Done = codes "done"
status_text status.Failed = codes "failed"
status_text status.Terminated = codes "terminated"
status_text status.Deleted = codes "deleted"
status_text other = []

-- the line of a run
abbrev pub run_line : Run → List ℕ
run_line run = codes "run " ++ decimal run.rid ++ codes " " ++ status_text run.status ++ codes "\n"
