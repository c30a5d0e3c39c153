-- The report of a laboratory, as bytes.
use Rattle.std.specs.Prelude.{ℕ, suc, List, [], ◌∷◌, ◌++◌, flat_map, pos, codes, decimal}
use Rattle.rtio_types.specs.Time.{reading}
use Rattle.rtio_core.specs.Entries.{last_cursor}
use Rattle.rtio_core.specs.Reply.{outputs_at}
use Rattle.rtio_core.specs.Told.{log_at}
use Rattle.rtio_core.specs.Core.{CoreState}
use Rattle.sched_core.specs.Scheds.{SchedValue, sched_state}
use Rattle.sim_report.specs.Lines.{event_line, moment_line}
use Rattle.sim_report.specs.Pending.{pending_events}
use Rattle.sim_report.specs.Report.{log_text}
use Rattle.lab_report.specs.Data.{dataset_line}
use Rattle.lab_report.specs.Runs.{run_line}
use Rattle.lab_report.specs.Steps.{step_line}

-- the line that names a core by its pipeline
abbrev pub core_heading : ℕ → List ℕ
core_heading pipeline = codes "core " ++ decimal pipeline ++ codes "\n"

-- what was put out, what is still to be, and the log
abbrev pub out_text : CoreState → List ℕ
out_text core = flat_map (event_line (codes "out")) (outputs_at core.config core.history core.counter)

abbrev pub pending_text : CoreState → List ℕ
pending_text core = flat_map (event_line (codes "pend")) (pending_events core)

abbrev pub told_text : CoreState → List ℕ
told_text core = log_text (log_at core.config core.history core.counter)

-- a core under its pipeline, with the cursor of the last end and the counter
abbrev pub core_text : ℕ → CoreState → List ℕ
core_text pipeline core =
    core_heading pipeline
    ++ out_text core
    ++ pending_text core
    ++ told_text core
    ++ moment_line (codes "cursor") (last_cursor core.history)
    ++ moment_line (codes "counter") (pos (reading core.counter))

-- the cores, where the first is that of this pipeline
abbrev pub cores_from : ℕ → List CoreState → List ℕ
cores_from pipeline [] = []
cores_from pipeline (core ∷ cores) = core_text pipeline core ++ cores_from (suc pipeline) cores

-- the steps in the order of the history, the runs by number, the
-- datasets in the order of first setting, the cores by pipeline
abbrev pub lab_text : SchedValue → List CoreState → List ℕ
lab_text sched cores =
    flat_map step_line sched.history
    ++ flat_map run_line (sched_state sched).runs
    ++ flat_map dataset_line (sched_state sched).datasets
    ++ cores_from 0 cores
    ++ codes "end\n"
