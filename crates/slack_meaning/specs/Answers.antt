-- What a request does to the bounds.
use Rattle.std.specs.Prelude.{ℕ, ◌+◌, ◌-◌, ◌^◌, max, nat_le, nat_lt, List, [], ◌∷◌, length, Bool, true}
use Rattle.std.specs.Prelude.{false, not, ◌&&◌, ◌||◌, if◌then◌else◌, Option, Some, None, bytes_eq, ℤ, pos, ⊤}
use Rattle.limits.specs.Limits.{lead_time}
use Rattle.rtio_types.specs.declared.event.Event.{Event}
use Rattle.rtio_types.specs.Time.{reading, whole_cycles, cycle_of_stamp, counter_reaching}
use Rattle.kern_syntax.specs.Tree.{Bytes}
use Rattle.slack_meaning.specs.declared.verdict.OpenKind.TheVariants as K
use Rattle.slack_meaning.specs.declared.verdict.Stopped.TheVariants as W
use Rattle.slack_meaning.specs.Spans.{Span}
use Rattle.slack_meaning.specs.Actions.{SpanEvent, SpanRecording, State, decided}
use Rattle.slack_meaning.specs.Actions.{Action, normal, early, give, leave_open, ◌>>◌}

-- a request is answered, and the limit rises by its cost
abbrev pub counted : State → ℕ → State
counted s limit = record s { limit = limit + s.cost; requests = s.requests + 1 }

-- a request that is answered at once
abbrev pub answered : Action ⊤
answered s = normal tt (counted s s.limit)

-- the output at its least stamp
abbrev pub earliest : SpanEvent → Event
earliest e = record { channel = e.channel; address = e.address; value = e.value; stamp = e.stamp.least }

-- how far the limit may have got when an output is answered: fewer outputs than fill a lane don't wait, and another one
-- waits until the cycle before its own at most
abbrev pub limit_at : State → SpanEvent → ℕ
limit_at s e =
    if nat_lt s.outs s.depth then s.limit else max s.limit (reading (cycle_of_stamp e.stamp.greatest - 1))

-- an output, by whether the limit may reach its cycle
abbrev pub submit_if : Bool → SpanEvent → Action ⊤
submit_if true e s = early (decided (W.TooLate s.outs (earliest e) s.limit)) s
submit_if false e s = normal tt (record (counted s (limit_at s e)) { outs = s.outs + 1 })

-- an output
abbrev pub submit : SpanEvent → Action ⊤
submit e s = submit_if (nat_le (cycle_of_stamp e.stamp.least) (whole_cycles s.limit)) e s

-- a wait until a moment, which the counter reads at a whole cycle
abbrev pub await : ℤ → Action ⊤
await moment s =
    normal tt
    (record (counted s (max s.limit (reading (counter_reaching moment)))) {
      least = max s.least (reading (counter_reaching moment));
    })

-- the lead over a reading, by whether it may reach too far
abbrev pub lead_if : Bool → Action Span
lead_if true s = leave_open K.Far s
lead_if false s =
    normal (record { least = pos (s.least + lead_time); greatest = pos (s.limit + lead_time) }) (counted s s.limit)

-- a reading, and the lead over it
abbrev pub read_lead : Action Span
read_lead s = lead_if (nat_lt (2 ^ 62) (s.limit + lead_time)) s

-- the name was saved in this run
abbrev pub is_known : List (Bytes × Option SpanRecording) → Bytes → Bool
is_known [] name = false
is_known (entry ∷ rest) name = bytes_eq name entry.0 || is_known rest name

-- the recording of a name that was saved in this run and not erased since
abbrev pub at_hand : List (Bytes × Option SpanRecording) → Bytes → Option SpanRecording
at_hand [] name = None
at_hand (entry ∷ rest) name = if bytes_eq name entry.0 then entry.1 else at_hand rest name

-- the names after one was saved or erased; a known one keeps its place
abbrev pub with_recording : List (Bytes × Option SpanRecording) → Bytes → Option SpanRecording
    → List (Bytes × Option SpanRecording)
with_recording [] name new = (name, new) ∷ []
with_recording (entry ∷ rest) name new =
    if bytes_eq name entry.0 then (entry.0, new) ∷ rest else entry ∷ with_recording rest name new

-- the state after a request that saves a recording, or erases one
abbrev pub remembering : State → Bytes → Option SpanRecording → State
remembering s name new = record (counted s s.limit) { saved = with_recording s.saved name new }

-- a save, by whether 1,000 other names were saved before
abbrev pub save_if : Bool → Bytes → SpanRecording → Action ⊤
save_if true name recording s = leave_open K.Names s
save_if false name recording s = normal tt (remembering s name (Some recording))

-- a save
abbrev pub save : Bytes → SpanRecording → Action ⊤
save name recording s = save_if (nat_le 1000 (length s.saved) && not (is_known s.saved name)) name recording s

-- an erase, by what is at hand
abbrev pub erase_of : Option SpanRecording → Bytes → Action ⊤
erase_of None name s = leave_open K.Kept s
erase_of (Some recording) name s = normal tt (remembering s name None)

-- an erase
abbrev pub erase : Bytes → Action ⊤
erase name s = erase_of (at_hand s.saved name) name s

-- a fetch, by what is at hand
abbrev pub fetch_of : Option SpanRecording → Action SpanRecording
fetch_of None = leave_open K.Kept
fetch_of (Some recording) = answered >> give recording

-- a fetch
abbrev pub fetch : Bytes → Action SpanRecording
fetch name s = fetch_of (at_hand s.saved name) s
