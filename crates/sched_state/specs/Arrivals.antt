-- What arrives, and what it changes.
use Rattle.std.specs.Prelude.{ℕ, Bool, true, false, ◌&&◌, ◌||◌, not, List, [], ◌∷◌, ◌++◌}
use Rattle.std.specs.Prelude.{filter, fold, length, nat_le, if◌then◌else◌, Option, Some, None}
use Rattle.exp_runs.specs.declared.run.Run.{Run}
use Rattle.exp_runs.specs.declared.run.Status.TheVariants.{Pending, Deleted}
use Rattle.exp_runs.specs.Keys.{run_of}
use Rattle.exp_runs.specs.Statuses.{is_pending, is_preparing, is_prepared}
use Rattle.exp_runs.specs.Statuses.{is_running, is_paused, is_analyzing, is_ended}
use Rattle.exp_runs.specs.Table.{with_fields}
use Rattle.exp_model.specs.declared.session.Session.{Session}
use Rattle.exp_model.specs.declared.arrival.Arrival.{Arrival}
use Rattle.exp_model.specs.declared.arrival.ArrivalAct.{ArrivalAct}
use Rattle.exp_model.specs.declared.arrival.ArrivalAct.TheVariants.{Submit, Delete, Terminate}
use Rattle.exp_model.specs.declared.arrival.Submission.{Submission}
use Rattle.sched_state.specs.declared.entry.Flight.{Flight}
use Rattle.sched_state.specs.State.{SchedState, is_stepping, with_run, off_stack}

-- a run that was just submitted
abbrev pub new_run : ℕ → Submission → Run
new_run rid asked =
    record {
      rid = rid;
      pipeline = asked.pipeline;
      priority = asked.priority;
      due = asked.due;
      flush = asked.flush;
      experiment = asked.experiment;
      pos = 0;
      terminate = false;
      doomed = false;
      status = Pending;
    }

-- its number is the count of runs before it
abbrev pub submitted : Submission → SchedState → SchedState
submitted asked state = record state { runs = state.runs ++ new_run (length state.runs) asked ∷ [] }

-- a run that is to be deleted at its report, and one that is to end at its next pause
abbrev pub doomed : Run → Run → Run
doomed run = with_fields run.pos run.terminate true

abbrev pub ordered_to_end : Run → Run → Run
ordered_to_end run = with_fields run.pos true run.doomed

-- a job of the run is in flight
abbrev pub is_busy : List Flight → Run → Bool
is_busy flying run =
    is_preparing run.status || is_analyzing run.status || (is_running run.status && is_stepping flying run.rid)

-- a run whose job is in flight is doomed; any other that hasn't ended is deleted at once
abbrev pub deleted_run : ℕ → SchedState → Option Run → SchedState
deleted_run rid state None = state
deleted_run rid state (Some run) =
    if is_ended run.status
    then state
    else if is_busy state.flying run then with_run (doomed run) rid state else off_stack Deleted rid state

abbrev pub deleted : ℕ → SchedState → SchedState
deleted rid state = deleted_run rid state (run_of state.runs rid)

-- a run that holds a core is to end at its next pause; one that doesn't yet is deleted
abbrev pub terminated_run : ℕ → SchedState → Option Run → SchedState
terminated_run rid state None = state
terminated_run rid state (Some run) =
    if is_running run.status || is_paused run.status
    then with_run (ordered_to_end run) rid state
    else if is_pending run.status || is_preparing run.status || is_prepared run.status then deleted rid state else state

abbrev pub terminated : ℕ → SchedState → SchedState
terminated rid state = terminated_run rid state (run_of state.runs rid)

abbrev pub arrived : SchedState → ArrivalAct → SchedState
arrived state (Submit asked) = submitted asked state
arrived state (Delete rid) = deleted rid state
arrived state (Terminate rid) = terminated rid state

abbrev pub has_come : ℕ → Arrival → Bool
has_come clock arrival = nat_le arrival.at clock

-- the clock moves to a moment, and what arrives up to it is taken in the order of the list
abbrev pub at_clock : ℕ → SchedState → SchedState
at_clock clock state =
    fold (λ before (arrival : Arrival). arrived before arrival.act)
    (record state { clock = clock; arrivals = filter (λ arrival. not (has_come clock arrival)) state.arrivals })
    (filter (has_come clock) state.arrivals)

-- how a session begins: nothing has happened, and what comes at 0 is taken
abbrev pub opening : Session → SchedState
opening session =
    at_clock 0 (record { runs = []; stack = []; flying = []; clock = 0; arrivals = session.arrivals; datasets = [] })
