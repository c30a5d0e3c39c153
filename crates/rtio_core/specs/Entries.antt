-- The history of a core.
use Rattle.std.specs.Prelude.{ℕ, ◌+◌, Bool, ◌&&◌, List, filter_map, fold, max, nat_le}
use Rattle.std.specs.Prelude.{bytes_eq, if◌then◌else◌, ℤ, pos, Option, Some, None}
use Rattle.std.specs.List.{list_all}
use Rattle.limits.specs.Limits.{lockstep_horizon, most_cost, most_depth, most_hold, most_lanes}
use Rattle.rtio_types.specs.declared.request.Reply.{Reply}
use Rattle.rtio_types.specs.declared.request.Reply.TheVariants as answer
use Rattle.rtio_types.specs.declared.request.Request.{Request}
use Rattle.rtio_types.specs.declared.request.Request.TheVariants as ask
use Rattle.rtio_types.specs.Recordings.{Recorded}
use Rattle.rtio_types.specs.Time.{reading}
use Rattle.sed_lanes.specs.Judged.{LaneStep, Submit, Clear, Judged, judged}
use Rattle.rtio_input.specs.Script.{are_edges_ok}
use Rattle.rtio_input.specs.Past.{InputStep, Read, Overflowed, Reset}
use Rattle.dma_store.specs.Kept.{KeptState, recording_named, saved, erased}
use Rattle.rtio_core.specs.Handed.{are_kept_ok, kept_of}
use Rattle.rtio_core.specs.declared.data.Config.{Config}
use Rattle.rtio_core.specs.declared.data.Act.{Act}
use Rattle.rtio_core.specs.declared.data.Act.TheVariants.{Start, Asked, End}
use Rattle.rtio_core.specs.declared.data.Entry.{Entry}

-- each hold is in its range
abbrev pub are_holds_ok : List ℕ → Bool
are_holds_ok holds = list_all (λ hold. nat_le hold most_hold) holds

-- the numbers of the settings are in their ranges, the edges can be a script, and the recordings can be kept
abbrev pub is_config_ok : Config → Bool
is_config_ok config =
    nat_le 1 config.lanes && nat_le config.lanes most_lanes
    && nat_le 1 config.depth && nat_le config.depth most_depth
    && nat_le config.cost most_cost
    && nat_le 1 config.horizon && nat_le config.horizon lockstep_horizon
    && are_edges_ok config.edges && are_holds_ok config.holds && are_kept_ok config.kept

-- the counter at which the entry was made
abbrev pub act_at : Act → ℕ
act_at (Start of cursor at) = at
act_at (Asked request reply at) = at
act_at (End outcome cursor at) = at

-- the counter of the last entry, 0 if there is none
abbrev pub last_at : List Entry → ℕ
last_at history = fold (λ _ (entry : Entry). act_at entry.act) 0 history

-- the chair and the run of the open session, if there is one
abbrev pub open_session : List Entry → Option (ℕ × ℕ)
open_session history = fold goes_on None history
  where
    goes_on : Option (ℕ × ℕ) → Entry → Option (ℕ × ℕ)
    goes_on running entry = after running entry.chair entry.act
      where
        after : Option (ℕ × ℕ) → ℕ → Act → Option (ℕ × ℕ)
        after running chair (Start of cursor at) = Some (chair, of.rid)
        after running chair (Asked request reply at) = running
        after running chair (End outcome cursor at) = None

-- the cursor of the last end, 0 if there is none
abbrev pub last_cursor : List Entry → ℤ
last_cursor history = fold (λ cursor (entry : Entry). after cursor entry.act) (pos 0) history
  where
    after : ℤ → Act → ℤ
    after cursor (End outcome end at) = end
    after cursor act = cursor

-- the limit of the open session in machine units: what the counter reads at its start; after each request the greater
-- of itself and what the counter reads, and the cost
abbrev pub limit : ℕ → List Entry → ℕ
limit cost history = fold (λ so_far (entry : Entry). after so_far entry.act) 0 history
  where
    after : ℕ → Act → ℕ
    after so_far (Start of cursor at) = reading at
    after so_far (Asked request reply at) = max so_far (reading at) + cost
    after so_far (End outcome cursor at) = so_far

-- what an entry is to the lanes
abbrev pub lane_step : Act → Option LaneStep
lane_step (Asked (ask.Out e) reply at) = Some (Submit at e)
lane_step (Asked ask.Reset reply at) = Some (Clear at)
lane_step act = None

-- the outputs and resets of the history
abbrev pub lane_steps : List Entry → List LaneStep
lane_steps history = filter_map (λ (entry : Entry). lane_step entry.act) history

-- the same with the verdicts
abbrev pub judged_history : Config → List Entry → List Judged
judged_history config history = judged config.lanes config.depth (lane_steps history)

-- what an entry is to the inputs
abbrev pub input_step : Act → Option InputStep
input_step (Asked (ask.Edge channel up_to) (answer.Stamp x) at) = Some (Read at channel)
input_step (Asked (ask.Edge channel up_to) answer.Overflow at) = Some (Overflowed at channel)
input_step (Asked ask.Reset reply at) = Some (Reset at)
input_step act = None

-- the edges read, the overflows told and the resets of the history
abbrev pub input_steps : List Entry → List InputStep
input_steps history = filter_map (λ (entry : Entry). input_step entry.act) history

-- what is kept once that was the reply
abbrev pub kept_by : KeptState → Request → Reply → KeptState
kept_by kept (ask.Save name recording) answer.Done = saved kept name recording
kept_by kept (ask.Erase name) answer.Done = erased kept name
kept_by kept request reply = kept

-- the recordings that were handed in, as the saves and erases of the history leave them
abbrev pub kept_after : Config → List Entry → KeptState
kept_after config history = fold (λ kept (entry : Entry). after kept entry.act) (kept_of config.kept) history
  where
    after : KeptState → Act → KeptState
    after kept (Asked request reply at) = kept_by kept request reply
    after kept act = kept

-- the recording of the last save of a name, or the one that was handed in, if the name wasn't erased since
abbrev pub last_saved : Config → List ℕ → List Entry → Option Recorded
last_saved config name history =
    fold (λ found (entry : Entry). after found entry.act) (recording_named (kept_of config.kept) name) history
  where
    after : Option Recorded → Act → Option Recorded
    after found (Asked (ask.Save other recording) answer.Done at) = if bytes_eq name other then Some recording else found
    after found (Asked (ask.Erase other) answer.Done at) = if bytes_eq name other then None else found
    after found act = found
