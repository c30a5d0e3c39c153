-- What a core keeps of its outputs, in terms of the outputs and resets of its history.
use Rattle.std.specs.Prelude.{◌≡◌, ℕ, true, ◌+◌, ◌^◌, ◌≤◌, ◌<◌, List, [], length, vec_len, vec_capacity}
use Rattle.limits.specs.Limits.{most_lanes}
use Rattle.sed_lanes.specs.Calls.{all_held_from}
use Rattle.sed_lanes.specs.Lanes.{held_events}
use Rattle.sed_lanes.specs.Counters.{NeverFall}
use Rattle.sed_lanes.specs.Judged.{LaneStep, judged, lanes_after, next_number}
use Rattle.sed_lanes.specs.Peaks.{peaks_of}
use Rattle.output_merge.specs.Live.{live, greatest_cycle}
use Rattle.output_merge.specs.Outputs.{logged, outputs, put_out_by, up_to}
use Rattle.output_merge.specs.Sieve.{holds_after}
use Rattle.rtio_core.specs.declared.outputs.Outputs.{Outputs}
use Rattle.rtio_core.specs.LogOrder.{log_lines}
use Rattle.rtio_core.specs.Told.{TellsLog}

-- each part is what the steps make of it at the counter, and there is room for what a tick adds
pub record IsPlayed (o : Outputs) (holds : List ℕ) (lanes depth : ℕ) (steps : List LaneStep) (counter : ℕ) : Type 0 where
  pub lanes_least : 1 ≤ lanes
  pub lanes_most : lanes ≤ most_lanes
  pub depth_least : 1 ≤ depth
  pub in_time : NeverFall 0 steps counter
  pub standing : o.lanes ≡ lanes_after lanes depth (judged lanes depth steps) counter
  pub put_out : o.put_out.items ≡ outputs holds (judged lanes depth steps) counter
  pub holds_are : o.holds ≡ holds_after holds (put_out_by holds (judged lanes depth steps) counter)
  pub log : TellsLog (logged holds (judged lanes depth steps) counter) o.log.lines
  pub lines : o.log.lines ≡ log_lines holds (judged lanes depth steps) counter
  pub peaks : o.peaks.items ≡ peaks_of lanes (judged lanes depth steps)
  pub number : o.number ≡ next_number (judged lanes depth steps)
  pub greatest : o.greatest ≡ greatest_cycle (live (judged lanes depth steps))
  pub reached : o.reached ≡ greatest_cycle (up_to counter (live (judged lanes depth steps)))
  pub small : o.greatest < 2 ^ 60
  pub next : all_held_from o.next o.lanes ≡ true
  pub output_room : vec_len o.put_out + length (held_events o.lanes) ≤ vec_capacity o.put_out
  pub log_room : length (held_events o.lanes) ≤ o.log.room
  pub heads : o.heads ≡ record { items = []; room = most_lanes }
  pub kept : o.kept ≡ record { items = []; room = most_lanes }
  pub collided : o.collided ≡ record { items = []; room = most_lanes }
  pub busy : o.busy ≡ record { items = []; room = most_lanes }

-- so it is for some steps
abbrev pub IsPlayedTo : Outputs → ℕ → Type 0
IsPlayedTo o counter = (holds : List ℕ) × (lanes : ℕ) × (depth : ℕ) × (steps : List LaneStep) × IsPlayed o holds lanes depth steps counter

-- there is room for one event more, and for its line in the log
pub record HasRoom (o : Outputs) : Type 0 where
  pub output : vec_len o.put_out + length (held_events o.lanes) + 1 ≤ vec_capacity o.put_out
  pub line : length (held_events o.lanes) + 1 ≤ o.log.room
