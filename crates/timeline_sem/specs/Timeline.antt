-- What the timed calls do.
use Rattle.std.specs.Prelude.{ℕ, zero, suc, List, [], ◌∷◌, ◌++◌, ℤ, pos, ◌+ℤ◌, Option, Some, None, ⊤}
use Rattle.std.specs.Int.{w32, int_wrap, int_max}
use Rattle.limits.specs.Limits.{lead_time}
use Rattle.rtio_types.specs.declared.event.Event.{Event}
use Rattle.rtio_types.specs.declared.request.Request.TheVariants as Q
use Rattle.rtio_types.specs.declared.request.Reply.{Reply}
use Rattle.rtio_types.specs.declared.request.Reply.TheVariants as R
use Rattle.rtio_types.specs.declared.request.Request.{Request}
use Rattle.kern_syntax.specs.Tree.{Bytes}
use Rattle.kern_calls.specs.declared.calls.Operation.{Operation}
use Rattle.kern_calls.specs.declared.calls.Operation.TheVariants as P
use Rattle.timeline_sem.specs.Actions.{Action, normal, budget, give, skip, stop, take_unit}
use Rattle.timeline_sem.specs.Actions.{request, cursor_now, set_cursor, ◌>>=◌, ◌>>◌}
use Rattle.rtio_types.specs.Integers.{low_bits}
use Rattle.rtio_types.specs.Replies.{number_in}
use Rattle.rtio_types.specs.Time.{later, shifted}

-- moves the cursor on
abbrev pub delay : ℤ → Action ⊤
delay d = do
  t ← cursor_now
  set_cursor (later t d)

-- the output at the cursor
abbrev pub event_at : ℤ → (channel address : ℕ) → ℤ → Event
event_at t channel address data_word =
    record { channel = channel; address = address; value = low_bits 32 data_word; stamp = t }

-- makes a request that gives no value
abbrev pub tell : Request → Action ⊤
tell q = do
  reply ← request q
  skip

-- makes a request and gives the number of its reply
abbrev pub inquire : Request → Action ℤ
inquire q = do
  reply ← request q
  give (number_in reply)

-- the list with one more output
abbrev pub with_event : Event → Option (List Event) → Option (List Event)
with_event event None = None
with_event event (Some events) = Some (events ++ event ∷ [])

-- adds an output to the collected list
abbrev pub append_event : Event → Action ⊤
append_event event s = normal tt (record s { collected = with_event event s.collected })

-- submits an output, or collects it in a record block
abbrev pub submit_or_collect : Option (List Event) → Event → Action ⊤
submit_or_collect None event = tell (Q.Out event)
submit_or_collect (Some events) event = take_unit >> append_event event

-- an output at the cursor
abbrev pub output : (channel address : ℕ) → ℤ → Action ⊤
output channel address data_word s = submit_or_collect s.collected (event_at s.cursor channel address data_word) s

-- an input's sensitivity for a while: set, the wait, cleared; the cursor at the end
abbrev pub gate : (channel : ℕ) → ℤ → ℤ → Action ℤ
gate channel sensitivity d = do
  output channel 2 sensitivity
  delay d
  output channel 2 (pos 0)
  cursor_now

-- ends where there was no edge, and else goes on
abbrev pub on_edge : ℤ → (ℤ → Action ℤ) → Reply → Action ℤ
on_edge n again R.NoEdge = give n
on_edge n again _ = again (int_wrap w32 (n +ℤ pos 1))

-- asks for edges until there is none, and gives their number; each request takes one of the units left
abbrev pub count_edges : (units : ℕ) → Request → ℤ → Action ℤ
count_edges zero q n = stop budget
count_edges (suc left) q n = do
  reply ← request q
  on_edge n (count_edges left q) reply

-- the number of edges
abbrev pub count_all_edges : Request → Action ℤ
count_all_edges q s = count_edges s.units q (pos 0) s

-- submits the events of a recording, moved by the cursor
abbrev pub play_events : List Event → ℤ → Action ⊤
play_events [] t = skip
play_events (event ∷ rest) t = do
  tell (Q.Out (shifted event t))
  play_events rest t

-- plays what a reply brings: its events, and then its length
abbrev pub play_reply : Reply → Action ⊤
play_reply (R.Trace recording) = do
  t ← cursor_now
  play_events recording.events t
  delay recording.length
play_reply _ = skip

-- fetches a recording and plays it
abbrev pub play : Request → Action ⊤
play q = do
  reply ← request q
  play_reply reply

-- the lead that the cursor gets over a reading
abbrev pub with_lead : ℤ → ℤ
with_lead reading = later reading (pos lead_time)

-- the first of a call's numbers; a typed call has it
abbrev pub first_of_list : List ℤ → ℤ
first_of_list [] = pos 0
first_of_list (a ∷ rest) = a

-- the second of a call's numbers; a typed call that takes two has it
abbrev pub second_of_list : List ℤ → ℤ
second_of_list [] = pos 0
second_of_list (a ∷ rest) = first_of_list rest

-- a pulse: on, the wait, off
abbrev pub pulse_for : (channel : ℕ) → ℤ → Action ⊤
pulse_for channel d = do
  output channel 0 (pos 1)
  delay d
  output channel 0 (pos 0)

-- reads the counter and moves the cursor to its lead, where it is behind
abbrev pub move_to_real_time : Action ⊤
move_to_real_time = do
  reading ← inquire Q.Counter
  t ← cursor_now
  set_cursor (int_max t (with_lead reading))

-- resets the core and sets the cursor to the lead over its reading
abbrev pub reset_core : Action ⊤
reset_core = do
  reading ← inquire Q.Reset
  set_cursor (with_lead reading)

-- a part without a value, where a number is wanted
abbrev pub no_value : Action ⊤ → Action ℤ
no_value action = action >> give (pos 0)

-- what a method does with its numbers and its text
abbrev pub perform : Operation → List ℤ → Bytes → Action ℤ
perform (P.On c) numbers text = no_value (output c 0 (pos 1))
perform (P.Off c) numbers text = no_value (output c 0 (pos 0))
perform (P.Pulse c) numbers text = no_value (pulse_for c (first_of_list numbers))
perform (P.Write c) numbers text = no_value (output c (low_bits 8 (first_of_list numbers)) (second_of_list numbers))
perform (P.GateRising c) numbers text = gate c (pos 1) (first_of_list numbers)
perform (P.GateFalling c) numbers text = gate c (pos 2) (first_of_list numbers)
perform (P.GateBoth c) numbers text = gate c (pos 3) (first_of_list numbers)
perform (P.Timestamp c) numbers text = inquire (Q.Edge c (first_of_list numbers))
perform (P.Count c) numbers text = count_all_edges (Q.Edge c (first_of_list numbers))
perform P.Counter numbers text = inquire Q.Counter
perform P.BreakRealtime numbers text = no_value move_to_real_time
perform P.Reset numbers text = no_value reset_core
perform P.WaitUntil numbers text = no_value (tell (Q.Wait (first_of_list numbers)))
perform P.Playback numbers text = no_value (play (Q.Fetch text))
perform P.PlaybackHandle numbers text = no_value (play (Q.FetchHandle (first_of_list numbers)))
perform P.GetHandle numbers text = inquire (Q.Handle text)
perform P.Erase numbers text = no_value (tell (Q.Erase text))
