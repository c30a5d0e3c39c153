-- What the timed calls do in a run without a core.
use Rattle.std.specs.Prelude.{ℕ, List, [], ◌∷◌, ◌++◌, ℤ, pos, Bool, true, false, ◌&&◌, Option, Some, None, ⊤}
use Rattle.rtio_types.specs.Time.{later}
use Rattle.rtio_types.specs.Integers.{low_bits}
use Rattle.kern_syntax.specs.Tree.{Bytes}
use Rattle.kern_calls.specs.declared.calls.Operation.{Operation}
use Rattle.kern_calls.specs.declared.calls.Operation.TheVariants as P
use Rattle.slack_meaning.specs.declared.verdict.OpenKind.{OpenKind}
use Rattle.slack_meaning.specs.declared.verdict.OpenKind.TheVariants as K
use Rattle.slack_meaning.specs.Spans.{Span, exactly, is_number, span_sum, span_max}
use Rattle.slack_meaning.specs.Actions.{SpanEvent, Action, normal, give, skip, leave_open, take_unit, cursor_now}
use Rattle.slack_meaning.specs.Actions.{set_cursor, as_number, within_near, within_reach, ◌>>=◌, ◌>>◌}
use Rattle.slack_meaning.specs.Answers.{submit, await, read_lead, erase, fetch}

-- a sum of moments, by whether both are numbers
abbrev pub moved_if : Bool → Span → Span → Action Span
moved_if true a b = give (exactly (later a.least b.least))
moved_if false a b = within_near (span_sum a b)

-- a moment moved on by a time: numbers wrap, and a span is moved end by end
abbrev pub moved : Span → Span → Action Span
moved a b = moved_if (is_number a && is_number b) a b

-- moves the cursor on
abbrev pub delay : Span → Action ⊤
delay d = do
  t ← cursor_now
  end ← moved t d
  set_cursor end

-- the output at the cursor
abbrev pub event_at : Span → (channel address : ℕ) → ℤ → SpanEvent
event_at t channel address data_word =
    record { channel = channel; address = address; value = low_bits 32 data_word; stamp = t }

-- the list with one more output
abbrev pub with_event : SpanEvent → Option (List SpanEvent) → Option (List SpanEvent)
with_event event None = None
with_event event (Some events) = Some (events ++ event ∷ [])

-- adds an output to the collected list
abbrev pub append_event : SpanEvent → Action ⊤
append_event event s = normal tt (record s { collected = with_event event s.collected })

-- submits an output, or collects it in a record block
abbrev pub submit_or_collect : Option (List SpanEvent) → SpanEvent → Action ⊤
submit_or_collect None event = take_unit >> submit event
submit_or_collect (Some events) event = take_unit >> append_event event

-- an output at the cursor
abbrev pub output : (channel address : ℕ) → ℤ → Action ⊤
output channel address data_word s = submit_or_collect s.collected (event_at s.cursor channel address data_word) s

-- an input's sensitivity for a while: set, the wait, cleared; the cursor at the end
abbrev pub gate : (channel : ℕ) → ℤ → Span → Action Span
gate channel sensitivity d = do
  output channel 2 sensitivity
  delay d
  output channel 2 (pos 0)
  cursor_now

-- submits an event of a recording, moved by a time
abbrev pub play_event : SpanEvent → Span → Action ⊤
play_event event t = do
  stamp ← moved event.stamp t
  take_unit
  submit (record event { stamp = stamp })

-- submits the events of a recording, moved by the cursor
abbrev pub play_events : List SpanEvent → Span → Action ⊤
play_events [] t = skip
play_events (event ∷ rest) t = do
  play_event event t
  play_events rest t

-- fetches a recording and plays it: its events, and then its length
abbrev pub play : Bytes → Action ⊤
play name = do
  take_unit
  recording ← fetch name
  t ← cursor_now
  play_events recording.events t
  delay recording.length

-- a pulse: on, the wait, off
abbrev pub pulse_for : (channel : ℕ) → Span → Action ⊤
pulse_for channel d = do
  output channel 0 (pos 1)
  delay d
  output channel 0 (pos 0)

-- reads the counter and moves the cursor to its lead, where it is behind
abbrev pub move_to_real_time : Action ⊤
move_to_real_time = do
  take_unit
  lead ← read_lead
  t ← cursor_now
  end ← within_reach (span_max t lead)
  set_cursor end

-- resets the core and sets the cursor to the lead over its reading
abbrev pub reset_core : Action ⊤
reset_core = do
  take_unit
  lead ← read_lead
  set_cursor lead

-- a part without a value, where a value is wanted
abbrev pub no_value : Action ⊤ → Action Span
no_value action = action >> give (exactly (pos 0))

-- the first of a call's values; a typed call has it
abbrev pub first_of_list : List Span → Span
first_of_list [] = exactly (pos 0)
first_of_list (a ∷ rest) = a

-- the second of a call's values; a typed call that takes two has it
abbrev pub second_of_list : List Span → Span
second_of_list [] = exactly (pos 0)
second_of_list (a ∷ rest) = first_of_list rest

-- a raw output, whose address and data are numbers
abbrev pub write_raw : (channel : ℕ) → Span → Span → Action ⊤
write_raw channel address data_word = do
  a ← as_number address
  d ← as_number data_word
  output channel (low_bits 8 a) d

-- a request that can't be answered here
abbrev pub ask_unknown : OpenKind → Action Span
ask_unknown why = take_unit >> leave_open why

-- a request for edges, which can't be answered here
abbrev pub ask_edge : Span → Action Span
ask_edge up_to = do
  moment ← as_number up_to
  ask_unknown K.Edge

-- a wait
abbrev pub wait_until : Span → Action ⊤
wait_until moment = do
  t ← as_number moment
  take_unit
  await t

-- a playback by a handle, which can't be answered here
abbrev pub play_handle : Span → Action ⊤
play_handle handle = do
  h ← as_number handle
  take_unit
  leave_open K.Kept

-- what a method does with its values and its text
abbrev pub perform : Operation → List Span → Bytes → Action Span
perform (P.On c) spans text = no_value (output c 0 (pos 1))
perform (P.Off c) spans text = no_value (output c 0 (pos 0))
perform (P.Pulse c) spans text = no_value (pulse_for c (first_of_list spans))
perform (P.Write c) spans text = no_value (write_raw c (first_of_list spans) (second_of_list spans))
perform (P.GateRising c) spans text = gate c (pos 1) (first_of_list spans)
perform (P.GateFalling c) spans text = gate c (pos 2) (first_of_list spans)
perform (P.GateBoth c) spans text = gate c (pos 3) (first_of_list spans)
perform (P.Timestamp c) spans text = ask_edge (first_of_list spans)
perform (P.Count c) spans text = ask_edge (first_of_list spans)
perform P.Counter spans text = ask_unknown K.Reading
perform P.BreakRealtime spans text = no_value move_to_real_time
perform P.Reset spans text = no_value reset_core
perform P.WaitUntil spans text = no_value (wait_until (first_of_list spans))
perform P.Playback spans text = no_value (play text)
perform P.PlaybackHandle spans text = no_value (play_handle (first_of_list spans))
perform P.GetHandle spans text = ask_unknown K.Handle
perform P.Erase spans text = no_value (take_unit >> erase text)
