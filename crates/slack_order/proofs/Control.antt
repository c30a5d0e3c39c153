-- Loops, record blocks, handlers and the ends of functions follow those of the other run.
use Rattle.std.proofs.Common.{◌≡◌, ℕ, zero, suc, Bool, true, false, List, [], Option, Some, None, subst}
use Rattle.std.specs.Prelude.{ℤ, pos, ◌+ℤ◌, ⊤, unwrap_or}
use Rattle.std.specs.Int.{int_gap}
use Rattle.rtio_types.specs.declared.outcome.Exc.{Exc}
use Rattle.rtio_types.specs.Integers.{is_true}
use Rattle.kern_syntax.specs.Tree.{Bytes}
use Rattle.slack_meaning.specs.declared.span.Span.{Span}
use Rattle.slack_meaning.specs.Spans.{exactly}
use Rattle.slack_meaning.specs.declared.span.SpanEvent.{SpanEvent}
use Rattle.slack_meaning.specs.Actions.{SpanRecording, Held, number, State, Completion, Action, take_unit_of}
use Rattle.slack_meaning.specs.Statements.{when, either, after_turn, turn, while_turns, while_loop, for_turns, turns_between, leave_recording, save_after, end_recording, recorded, after_try, attempt}
use Rattle.slack_meaning.specs.Programs.{leave_function}
use Rattle.slack_order.proofs.Inside.{IsInside, inside-exactly}
use Rattle.slack_order.proofs.Standing.{AreEventsInside, IsRecordingInside, IsThere, AreNamesInside, LiesInside, by_break, by_continue, by_return, by_raising, by_budget, Meets, stopped, normally, alike}
use Rattle.slack_order.proofs.Following.{Follows, FollowsPart, Any, follows_bind, follows_then, follows_same, follows_skip, follows_stop, follows_unit, follows_number, with-units, with-cursor, with-values, with-collected}
use Rattle.slack_order.proofs.Values.{follows_write}
use Rattle.slack_order.proofs.Answering.{follows_save}

follows_when : (p : Bool) {m n : Action ⊤} → FollowsPart m n → FollowsPart (when p m) (when p n)
follows_when true h = h
follows_when false h = follows_skip

pub follows_either : (p : Bool) {m n k l : Action ⊤} → FollowsPart m n → FollowsPart k l → FollowsPart (either p m k) (either p n l)
follows_either true h k = h
follows_either false h k = k

-- after a turn of a loop
meets-turn : {c d : Completion ⊤} {again more : Action ⊤} → Meets Any c d → FollowsPart again more → Meets Any (after_turn c again) (after_turn d more)
meets-turn (stopped verdict b) k = stopped verdict b
meets-turn (normally h inside) k = k.from _ _ inside
meets-turn (alike by_continue inside) k = k.from _ _ inside
meets-turn (alike by_break inside) k = normally tt inside
meets-turn (alike (by_return h) inside) k = alike (by_return h) inside
meets-turn (alike (by_raising x) inside) k = alike (by_raising x) inside
meets-turn (alike by_budget inside) k = alike by_budget inside

follows_turn : {body bodies again more : Action ⊤} → FollowsPart body bodies → FollowsPart again more → FollowsPart (turn body again) (turn bodies more)
follows_turn h k =
    follows_then follows_unit (record { from = λ a b inside. meets-turn (h.from a b inside) k })

follows_while_turns : (n : ℕ) {condition conditions : Action Span} {body bodies : Action ⊤} → Follows IsInside condition conditions → FollowsPart body bodies → FollowsPart (while_turns n condition body) (while_turns n conditions bodies)
follows_while_turns zero h k =
    follows_bind h (λ u v l. follows_same (follows_number l) (λ n. follows_when (is_true n) (follows_stop by_budget)))
follows_while_turns (suc left) h k =
    follows_bind h
    (λ u v l. follows_same (follows_number l)
    (λ n. follows_when (is_true n) (follows_turn k (follows_while_turns left h k))))

pub follows_while : {condition conditions : Action Span} {body bodies : Action ⊤} → Follows IsInside condition conditions → FollowsPart body bodies → FollowsPart (while_loop condition body) (while_loop conditions bodies)
follows_while {condition} {conditions} {body} {bodies} h k =
    record { from = λ a b inside. subst (λ n. Meets Any (while_turns a.units condition body a) (while_turns n conditions bodies b)) inside.units ((follows_while_turns a.units h k).from a b inside) }

follows_for_turns : (n : ℕ) (x : Bytes) (from : ℤ) {body bodies : Action ⊤} → FollowsPart body bodies → FollowsPart (for_turns n x from body) (for_turns n x from bodies)
follows_for_turns zero x from h = follows_skip
follows_for_turns (suc left) x from h =
    follows_turn (follows_then (follows_write x (number (exactly from)) (number (exactly from)) (inside-exactly from)) h) (follows_for_turns left x (from +ℤ pos 1) h)

pub follows_between : (x : Bytes) {u v s t : Span} {body bodies : Action ⊤} → IsInside u v → IsInside s t → FollowsPart body bodies → FollowsPart (turns_between x u s body) (turns_between x v t bodies)
follows_between x h k l =
    follows_same (follows_number h)
    (λ from. follows_same (follows_number k) (λ to. follows_for_turns (int_gap from to) x from l))

-- a record block
left-inside : (a b a' b' : State) → LiesInside a b → LiesInside a' b' → LiesInside (leave_recording a a') (leave_recording b b')
left-inside a b a' b' h k =
    with-collected (record a' { cursor = a.cursor }) (record b' { cursor = b.cursor }) a.collected b.collected
    (with-cursor a' b' a.cursor b.cursor k h.cursor) h.collected

events-inside : (c d : Option (List SpanEvent)) → IsThere AreEventsInside c d → AreEventsInside (unwrap_or c []) (unwrap_or d [])
events-inside None None h = tt
events-inside (Some es) (Some fs) h = h
events-inside None (Some fs) h = absurd h
events-inside (Some es) None h = absurd h

meets-save : (name : Bytes) {r t : SpanRecording} (a b a' b' : State) → IsRecordingInside r t → LiesInside a b → LiesInside a' b' → (m n : ℕ) → m ≡ n → Meets Any (save_after name r a (take_unit_of m a')) (save_after name t b (take_unit_of n b'))
meets-save name a b a' b' k h h' zero zero same = alike by_budget (left-inside a b a' b' h h')
meets-save name {r} {t} a b a' b' k h h' (suc m) (suc n) same =
    (follows_save name r t k).from (leave_recording a (record a' { units = m })) (leave_recording b (record b' { units = n }))
    (left-inside a b (record a' { units = m }) (record b' { units = n }) h (with-units a' b' m n h' cc))
meets-save name a b a' b' k h h' zero (suc n) same = absurd cc
meets-save name a b a' b' k h h' (suc m) zero same = absurd cc

meets-recording : (name : Bytes) (a b : State) {c d : Completion ⊤} → LiesInside a b → Meets Any c d → Meets Any (end_recording name a c) (end_recording name b d)
meets-recording name a b h (stopped verdict b') = stopped verdict (leave_recording b b')
meets-recording name a b h (normally {a = a'} {b = b'} k inside) =
    meets-save name a b a' b' (record { events = events-inside a'.collected b'.collected inside.collected; length = inside.cursor }) h inside a'.units b'.units inside.units
meets-recording name a b h (alike {a = a'} {b = b'} ends inside) = alike ends (left-inside a b a' b' h inside)

pub follows_recorded : (name : Bytes) {body bodies : Action ⊤} → FollowsPart body bodies → FollowsPart (recorded name body) (recorded name bodies)
follows_recorded name h =
    record {
      from = λ a b inside. meets-recording name a b inside (h.from (record a { cursor = exactly (pos 0); collected = Some [] }) (record b { cursor = exactly (pos 0); collected = Some [] })
          (with-collected (record a { cursor = exactly (pos 0) }) (record b { cursor = exactly (pos 0) }) (Some []) (Some [])
          (with-cursor a b (exactly (pos 0)) (exactly (pos 0)) inside (inside-exactly (pos 0))) tt));
    }

-- a body with handlers
meets-try : {c d : Completion ⊤} {handle handles : Exc → Action ⊤} → Meets Any c d → ((x : Exc) → FollowsPart (handle x) (handles x)) → Meets Any (after_try c handle) (after_try d handles)
meets-try (stopped verdict b) k = stopped verdict b
meets-try (normally h inside) k = normally h inside
meets-try (alike (by_raising x) inside) k = (k x).from _ _ inside
meets-try (alike by_break inside) k = alike by_break inside
meets-try (alike by_continue inside) k = alike by_continue inside
meets-try (alike (by_return h) inside) k = alike (by_return h) inside
meets-try (alike by_budget inside) k = alike by_budget inside

pub follows_attempt : {body bodies : Action ⊤} {handle handles : Exc → Action ⊤} → FollowsPart body bodies → ((x : Exc) → FollowsPart (handle x) (handles x)) → FollowsPart (attempt body handle) (attempt bodies handles)
follows_attempt h k = record { from = λ a b inside. meets-try (h.from a b inside) k }

-- the end of a function
pub meets-left : (xs ys : List (Bytes × Held)) {c d : Completion ⊤} → AreNamesInside xs ys → Meets Any c d → Meets IsInside (leave_function xs c) (leave_function ys d)
meets-left xs ys h (stopped verdict b) = stopped verdict (record b { values = ys })
meets-left xs ys h (normally {a = a} {b = b} k inside) = normally (inside-exactly (pos 0)) (with-values a b xs ys inside h)
meets-left xs ys h (alike {a = a} {b = b} (by_return k) inside) = normally k (with-values a b xs ys inside h)
meets-left xs ys h (alike {a = a} {b = b} by_break inside) = alike by_break (with-values a b xs ys inside h)
meets-left xs ys h (alike {a = a} {b = b} by_continue inside) = alike by_continue (with-values a b xs ys inside h)
meets-left xs ys h (alike {a = a} {b = b} (by_raising x) inside) = alike (by_raising x) (with-values a b xs ys inside h)
meets-left xs ys h (alike {a = a} {b = b} by_budget inside) = alike by_budget (with-values a b xs ys inside h)
