-- Which job is due.
use Rattle.std.specs.Prelude.{ℕ, Bool, false, ◌&&◌, not, List, [], ◌∷◌, ◌++◌, map, filter, fold, length, min}
use Rattle.std.specs.Prelude.{slice_get, nat_lt, ◌==◌, int_lt, if◌then◌else◌, Option, Some, None, option_map}
use Rattle.std.specs.List.{list_any, list_all, range_with_len}
use Rattle.exp_runs.specs.declared.run.Run.{Run}
use Rattle.exp_runs.specs.declared.run.Status.TheVariants.{Preparing, Running, Analyzing}
use Rattle.exp_runs.specs.Keys.{best, can_prepare, can_run, can_analyze, is_higher, is_of, run_of, some_higher}
use Rattle.exp_runs.specs.Statuses.{is_pending, is_preparing, is_prepared}
use Rattle.exp_runs.specs.Statuses.{is_running, is_analyzing, is_started, is_ended}
use Rattle.exp_runs.specs.Table.{with_status}
use Rattle.exp_model.specs.declared.session.Session.{Session}
use Rattle.exp_model.specs.declared.arrival.Arrival.{Arrival}
use Rattle.sched_state.specs.declared.entry.Flight.{Flight}
use Rattle.sched_state.specs.declared.entry.JobName.{JobName}
use Rattle.sched_state.specs.declared.entry.JobName.TheVariants.{Prepare, Step, Analyze}
use Rattle.sched_state.specs.State.{SchedState, is_step_in, passes, top_of, with_run}

-- some prepared run is higher than this one
abbrev pub prepared_above : List Run → ℕ → Option Run → Bool
prepared_above runs clock None = false
prepared_above runs clock (Some run) = list_any (λ (other : Run). is_prepared other.status && is_higher clock run other) runs

abbrev pub prepared_higher : List Run → ℕ → ℕ → Bool
prepared_higher runs rid clock = prepared_above runs clock (run_of runs rid)

-- what the top of a pipeline's stack decides: while it runs it goes on; where it is paused,
-- the best prepared run takes its place if a prepared one is higher, it waits if another
-- run is higher, and else goes on. Where the stack is empty the best prepared run begins
abbrev pub by_top : List Run → ℕ → ℕ → Option ℕ → Option ℕ
by_top runs clock pipeline None = best (can_run pipeline) runs
by_top runs clock pipeline (Some top) =
    if passes (λ (run : Run). is_running run.status) runs top
    then Some top
    else if prepared_higher runs top clock
    then best (can_run pipeline) runs
    else if some_higher runs top clock then None else Some top

-- the run whose step is due
abbrev pub stepping : SchedState → ℕ → Option ℕ
stepping state pipeline =
    if list_any (λ (flight : Flight). is_step_in state.runs pipeline flight.job) state.flying
    then None
    else by_top state.runs state.clock pipeline (top_of state.runs state.stack pipeline)

-- another run of the pipeline, of at least its priority, is started and hasn't ended
abbrev pub holds_back : Run → Run → Bool
holds_back run other =
    is_of run.pipeline other && not (other.rid == run.rid) && is_started other.status && not (int_lt other.priority run.priority)

-- one with the flush flag waits for those that hold it back
abbrev pub is_held : List Run → ℕ → Bool
is_held runs rid = passes (λ (run : Run). run.flush && list_any (holds_back run) runs) runs rid

abbrev pub unless_held : List Run → Option ℕ → Option ℕ
unless_held runs None = None
unless_held runs (Some rid) = if is_held runs rid then None else Some rid

-- the run that is to be prepared; none goes in the place of one that waits
abbrev pub preparing : SchedState → ℕ → Option ℕ
preparing state pipeline =
    if list_any (λ (run : Run). is_of pipeline run && is_preparing run.status) state.runs
    then None
    else unless_held state.runs (best (can_prepare pipeline state.clock) state.runs)

-- the run that is to be analyzed
abbrev pub analyzing : SchedState → ℕ → Option ℕ
analyzing state pipeline =
    if list_any (λ (run : Run). is_of pipeline run && is_analyzing run.status) state.runs
    then None
    else best (can_analyze pipeline) state.runs

-- the first that there is
abbrev pub or_later : Option ℕ → Option ℕ → Option ℕ
or_later (Some rid) later = Some rid
or_later None later = later

abbrev pub first_with : (ℕ → Option ℕ) → List ℕ → Option ℕ
first_with choose [] = None
first_with choose (pipeline ∷ pipelines) = or_later (choose pipeline) (first_with choose pipelines)

-- the pipelines from 0 up
abbrev pub pipelines_of : Session → List ℕ
pipelines_of session = range_with_len 0 (length session.pipelines)

-- the position in its run stage of the run with this number
abbrev pub found_pos : Option Run → ℕ
found_pos None = 0
found_pos (Some run) = run.pos

abbrev pub pos_of : List Run → ℕ → ℕ
pos_of runs rid = found_pos (run_of runs rid)

-- a job that is due, or else another
abbrev pub job_or : (ℕ → JobName) → Option ℕ → Option JobName → Option JobName
job_or job (Some rid) other = Some (job rid)
job_or job None other = other

-- the job that is due: a run step of the first pipeline that has one, else a preparation, else an analysis
abbrev pub pick : Session → SchedState → Option JobName
pick session state =
    job_or (λ rid. Step rid (pos_of state.runs rid)) (first_with (stepping state) (pipelines_of session))
    (job_or Prepare (first_with (preparing state) (pipelines_of session))
    (job_or Analyze (first_with (analyzing state) (pipelines_of session)) None))

-- the run is on the stack of its pipeline
abbrev pub pushed : ℕ → List ℕ → List ℕ
pushed rid stack = if list_any (λ other. other == rid) stack then stack else rid ∷ stack

-- what the taking of a job changes in its run
abbrev pub begun : JobName → SchedState → SchedState
begun (Prepare rid) state = with_run (with_status Preparing) rid state
begun (Step rid pos) state = let now = with_run (with_status Running) rid state in record now { stack = pushed rid state.stack }
begun (Analyze rid) state = with_run (with_status Analyzing) rid state

-- the job is in flight then
abbrev pub taken : ℕ → JobName → SchedState → SchedState
taken chair job state = let now = begun job state in record now { flying = state.flying ++ record { chair = chair; job = job } ∷ [] }

abbrev pub earlier : Option ℕ → Option ℕ → Option ℕ
earlier None other = other
earlier (Some x) None = Some x
earlier (Some x) (Some y) = Some (min x y)

abbrev pub earliest : List ℕ → Option ℕ
earliest dates = fold (λ so_far date. earlier so_far (Some date)) None dates

-- it waits for a due date after the clock
abbrev pub waits_longer : ℕ → Run → Bool
waits_longer clock run = is_pending run.status && nat_lt clock run.due

-- the next moment at which something may change by itself: the next arrival, or a due date
abbrev pub next_date : SchedState → Option ℕ
next_date state =
    earlier (option_map (λ (arrival : Arrival). arrival.at) (slice_get state.arrivals 0))
    (earliest (map (λ (run : Run). run.due) (filter (waits_longer state.clock) state.runs)))

-- no arrival is left, and every run ended
abbrev pub is_over : SchedState → Bool
is_over state = (length state.arrivals == 0) && list_all (λ (run : Run). is_ended run.status) state.runs
