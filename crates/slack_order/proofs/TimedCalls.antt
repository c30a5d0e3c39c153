-- The timed calls follow those of the other run.
use Rattle.std.proofs.Common.{ℕ, List, [], ◌∷◌, Option, Some, None, refl}
use Rattle.std.specs.Prelude.{ℤ, pos, ⊤}
use Rattle.std.proofs.lemmas.List.Elements.{AllZip-push}
use Rattle.rtio_types.specs.Integers.{low_bits}
use Rattle.kern_syntax.specs.Tree.{Bytes}
use Rattle.kern_calls.specs.declared.calls.Operation.{Operation}
use Rattle.kern_calls.specs.declared.calls.Operation.TheVariants as P
use Rattle.slack_meaning.specs.declared.verdict.OpenKind.{OpenKind}
use Rattle.slack_meaning.specs.declared.verdict.OpenKind.TheVariants as K
use Rattle.slack_meaning.specs.declared.span.Span.{Span}
use Rattle.slack_meaning.specs.declared.span.SpanEvent.{SpanEvent}
use Rattle.slack_meaning.specs.Actions.{Action}
use Rattle.slack_meaning.specs.Timeline.{delay, event_at, with_event, append_event, submit_or_collect, output, gate, play_event, play_events, play, pulse_for, move_to_real_time, reset_core, no_value, first_of_list, second_of_list, write_raw, ask_unknown, ask_edge, wait_until, play_handle, perform}
use Rattle.slack_order.proofs.Inside.{IsInside, inside-exactly, max-inside}
use Rattle.slack_order.proofs.Standing.{AreInside, IsEventInside, AreEventsInside, IsThere, normally}
use Rattle.slack_order.proofs.Following.{Follows, FollowsPart, follows_bind, follows_then, follows_same, follows_give, follows_skip, follows_open, follows_unit, follows_cursor, follows_set, follows_number, follows_reach, with-collected}
use Rattle.slack_order.proofs.Values.{follows_moved}
use Rattle.slack_order.proofs.Answering.{follows_submit, follows_await, follows_lead, follows_erase, follows_fetch}

pub follows_delay : {u v : Span} → IsInside u v → FollowsPart (delay u) (delay v)
follows_delay h =
    follows_bind follows_cursor (λ s t k. follows_bind (follows_moved k h) (λ u v l. follows_set l))

collected-inside : (e f : SpanEvent) (c d : Option (List SpanEvent)) → IsEventInside e f → IsThere AreEventsInside c d → IsThere AreEventsInside (with_event e c) (with_event f d)
collected-inside e f None None h k = tt
collected-inside e f (Some es) (Some fs) h k = AllZip-push IsEventInside es fs e f k h
collected-inside e f None (Some fs) h k = absurd k
collected-inside e f (Some es) None h k = absurd k

follows_append : (e f : SpanEvent) → IsEventInside e f → FollowsPart (append_event e) (append_event f)
follows_append e f h =
    record { from = λ a b inside. normally tt (with-collected a b (with_event e a.collected) (with_event f b.collected) inside (collected-inside e f a.collected b.collected h inside.collected)) }

follows_either : (c d : Option (List SpanEvent)) (e f : SpanEvent) → IsThere AreEventsInside c d → IsEventInside e f → FollowsPart (submit_or_collect c e) (submit_or_collect d f)
follows_either None None e f k h = follows_then follows_unit (follows_submit e f h)
follows_either (Some es) (Some fs) e f k h = follows_then follows_unit (follows_append e f h)
follows_either None (Some fs) e f k h = absurd k
follows_either (Some es) None e f k h = absurd k

pub follows_output : (channel address : ℕ) (d : ℤ) → FollowsPart (output channel address d) (output channel address d)
follows_output channel address d =
    record { from = λ a b inside. (follows_either a.collected b.collected (event_at a.cursor channel address d) (event_at b.cursor channel address d) inside.collected (record { channel = refl; address = refl; value = refl; stamp = inside.cursor })).from a b inside }

follows_gate : (channel : ℕ) (sensitivity : ℤ) {u v : Span} → IsInside u v → Follows IsInside (gate channel sensitivity u) (gate channel sensitivity v)
follows_gate channel sensitivity h =
    follows_then (follows_output channel 2 sensitivity)
    (follows_then (follows_delay h) (follows_then (follows_output channel 2 (pos 0)) follows_cursor))

follows_pulse : (channel : ℕ) {u v : Span} → IsInside u v → FollowsPart (pulse_for channel u) (pulse_for channel v)
follows_pulse channel h =
    follows_then (follows_output channel 0 (pos 1)) (follows_then (follows_delay h) (follows_output channel 0 (pos 0)))

-- the events of a recording
follows_play_event : (e f : SpanEvent) {u v : Span} → IsEventInside e f → IsInside u v → FollowsPart (play_event e u) (play_event f v)
follows_play_event e f h k =
    follows_bind (follows_moved h.stamp k)
    (λ s t l. follows_then follows_unit
    (follows_submit (record e { stamp = s }) (record f { stamp = t }) (record { channel = h.channel; address = h.address; value = h.value; stamp = l })))

follows_play_events : (es fs : List SpanEvent) {u v : Span} → AreEventsInside es fs → IsInside u v → FollowsPart (play_events es u) (play_events fs v)
follows_play_events [] [] h k = follows_skip
follows_play_events (e ∷ es) (f ∷ fs) h k = follows_then (follows_play_event e f h.0 k) (follows_play_events es fs h.1 k)
follows_play_events [] (f ∷ fs) h k = absurd h
follows_play_events (e ∷ es) [] h k = absurd h

follows_play : (name : Bytes) → FollowsPart (play name) (play name)
follows_play name =
    follows_then follows_unit
    (follows_bind (follows_fetch name)
    (λ r t h. follows_bind follows_cursor
    (λ u v k. follows_then (follows_play_events r.events t.events h.events k) (follows_delay h.length))))

-- a reading moves the cursor
follows_move : FollowsPart move_to_real_time move_to_real_time
follows_move =
    follows_then follows_unit
    (follows_bind follows_lead
    (λ l m h. follows_bind follows_cursor
    (λ u v k. follows_bind (follows_reach (max-inside u l v m k h)) (λ s t n. follows_set n))))

follows_reset : FollowsPart reset_core reset_core
follows_reset = follows_then follows_unit (follows_bind follows_lead (λ l m h. follows_set h))

-- a part without a value
pub follows_no_value : {m n : Action ⊤} → FollowsPart m n → Follows IsInside (no_value m) (no_value n)
follows_no_value h = follows_then h (follows_give (inside-exactly (pos 0)))

follows_raw : (channel : ℕ) {u v s t : Span} → IsInside u v → IsInside s t → FollowsPart (write_raw channel u s) (write_raw channel v t)
follows_raw channel h k =
    follows_same (follows_number h) (λ a. follows_same (follows_number k) (λ d. follows_output channel (low_bits 8 a) d))

-- requests that can't be answered here
follows_unknown : (why : OpenKind) → Follows IsInside (ask_unknown why) (ask_unknown why)
follows_unknown why = follows_then follows_unit (follows_open _ why)

follows_edge : {u v : Span} → IsInside u v → Follows IsInside (ask_edge u) (ask_edge v)
follows_edge h = follows_same (follows_number h) (λ moment. follows_unknown K.Edge)

follows_handle : {u v : Span} → IsInside u v → FollowsPart (play_handle u) (play_handle v)
follows_handle h = follows_same (follows_number h) (λ handle. follows_then follows_unit (follows_open _ K.Kept))

follows_wait : {u v : Span} → IsInside u v → FollowsPart (wait_until u) (wait_until v)
follows_wait h = follows_same (follows_number h) (λ moment. follows_then follows_unit (follows_await moment))

pub first-inside : (us vs : List Span) → AreInside us vs → IsInside (first_of_list us) (first_of_list vs)
first-inside [] [] h = inside-exactly (pos 0)
first-inside (u ∷ us) (v ∷ vs) h = h.0
first-inside [] (v ∷ vs) h = absurd h
first-inside (u ∷ us) [] h = absurd h

second-inside : (us vs : List Span) → AreInside us vs → IsInside (second_of_list us) (second_of_list vs)
second-inside [] [] h = inside-exactly (pos 0)
second-inside (u ∷ us) (v ∷ vs) h = first-inside us vs h.1
second-inside [] (v ∷ vs) h = absurd h
second-inside (u ∷ us) [] h = absurd h

pub follows_perform : (op : Operation) (us vs : List Span) (text : Bytes) → AreInside us vs → Follows IsInside (perform op us text) (perform op vs text)
follows_perform (P.On c) us vs text h = follows_no_value (follows_output c 0 (pos 1))
follows_perform (P.Off c) us vs text h = follows_no_value (follows_output c 0 (pos 0))
follows_perform (P.Pulse c) us vs text h = follows_no_value (follows_pulse c (first-inside us vs h))
follows_perform (P.Write c) us vs text h = follows_no_value (follows_raw c (first-inside us vs h) (second-inside us vs h))
follows_perform (P.GateRising c) us vs text h = follows_gate c (pos 1) (first-inside us vs h)
follows_perform (P.GateFalling c) us vs text h = follows_gate c (pos 2) (first-inside us vs h)
follows_perform (P.GateBoth c) us vs text h = follows_gate c (pos 3) (first-inside us vs h)
follows_perform (P.Timestamp c) us vs text h = follows_edge (first-inside us vs h)
follows_perform (P.Count c) us vs text h = follows_edge (first-inside us vs h)
follows_perform P.Counter us vs text h = follows_unknown K.Reading
follows_perform P.BreakRealtime us vs text h = follows_no_value follows_move
follows_perform P.Reset us vs text h = follows_no_value follows_reset
follows_perform P.WaitUntil us vs text h = follows_no_value (follows_wait (first-inside us vs h))
follows_perform P.Playback us vs text h = follows_no_value (follows_play text)
follows_perform P.PlaybackHandle us vs text h = follows_no_value (follows_handle (first-inside us vs h))
follows_perform P.GetHandle us vs text h = follows_unknown K.Handle
follows_perform P.Erase us vs text h = follows_no_value (follows_then follows_unit (follows_erase text))
