-- The timed calls follow those of the run without a core.
use Rattle.std.proofs.Common.{◌≡◌, ℕ, zero, suc, List, [], ◌∷◌, Option, Some, None, refl, sym, subst, arith}
use Rattle.std.specs.Prelude.{ℤ, pos, ⊤}
use Rattle.rtio_types.specs.declared.event.Event.{Event}
use Rattle.rtio_types.specs.declared.request.Request.{Request}
use Rattle.rtio_types.specs.declared.request.Request.TheVariants as Q
use Rattle.rtio_types.specs.declared.request.Reply.{Reply}
use Rattle.rtio_types.specs.declared.request.Reply.TheVariants as R
use Rattle.rtio_types.specs.Recordings.{Recorded}
use Rattle.rtio_types.specs.Time.{shifted}
use Rattle.kern_syntax.specs.Tree.{Bytes}
use Rattle.timeline_sem.specs.Actions.{State, budget, Completion, normal, early, Action, go_on, give, take_unit, ask, ◌>>=◌}
use Rattle.timeline_sem.specs.Laws.{final}
use Rattle.timeline_sem.specs.Timeline.{delay, event_at, tell, with_event, append_event, submit_or_collect, output, gate, play_events, play_reply, play, pulse_for}
use Rattle.timeline_sem.proofs.Keeps.{Kept, keeps_bind, keeps_give, keeps_append, keeps_output, keeps_play_reply}
use Rattle.timeline_sem.proofs.KeepsWhole.{AskedGrow, asked_grow}
use Rattle.slack_meaning.specs.declared.verdict.OpenKind.{OpenKind}
use Rattle.slack_meaning.specs.declared.verdict.Stopped.TheVariants as W
use Rattle.slack_meaning.specs.declared.span.Span.{Span}
use Rattle.slack_meaning.specs.declared.span.SpanEvent.{SpanEvent}
use Rattle.slack_meaning.specs.Actions.{SpanRecording}
use Rattle.slack_meaning.specs.Actions as S
use Rattle.slack_meaning.specs.Timeline as L
use Rattle.slack_law.proofs.Standing.{Any, IsWithin, IsEventWithin, AreEventsWithin, IsRecordingWithin, IsCollectedWithin, Agree, Session, Stands, by_budget, Meets, stopped, normally, alike, only}
use Rattle.slack_law.proofs.Following.{Grows, Follows, FollowsPart, after, safe, follows_after, follows_then}
use Rattle.slack_law.proofs.Asking.{Answers, follows_ask}
use Rattle.slack_law.proofs.AnsweringMore.{answers-out, answers-fetch}
use Rattle.slack_law.proofs.Within.{zip-push}
use Rattle.slack_law.proofs.Steps.{with-collected, with_number, follows_skip, follows_unit, follows_cursor, follows_set, follows_moved}

asked-same : {A C : Type 0} (f : A → C) (c : Completion A) → (final (go_on c (λ x. give (f x)))).asked ≡ (final c).asked
asked-same f (normal x s) = refl
asked-same f (early r s) = refl

with-event : (e : Event) (f : SpanEvent) (c : Option (List Event)) (d : Option (List SpanEvent)) → IsEventWithin e f → IsCollectedWithin c d → IsCollectedWithin (with_event e c) (L.with_event f d)
with-event e f None None h k = tt
with-event e f (Some es) (Some fs) h k = zip-push IsEventWithin es fs e f k h
with-event e f None (Some fs) h k = absurd k
with-event e f (Some es) None h k = absurd k

-- a unit, a request and what goes on from its reply
pub asked-then : {C : Type 0} (q : Request) (f : Reply → Action C) (c : Completion ⊤) → go_on c (λ x s. go_on (ask q s) f) ≡ go_on (go_on c (λ x. ask q)) f
asked-then q f (normal x s) = refl
asked-then q f (early r s) = refl

-- what a fetched recording does
abbrev played : SpanRecording → S.Action ⊤
played f = after S.cursor_now (λ u. after (L.play_events f.events u) (λ y. L.delay f.length))

module _ {session : Session} where
  -- what is the same part follows the same
  pub follows_like : {A B : Type 0} {good : A → B → Type 0} {m k : Action A} {n : S.Action B} → ((s : State) → m s ≡ k s) → Follows session good m n → Follows session good k n
  follows_like {good} {n} same f = record {
    grows = record { from = λ s. subst (λ c. Kept AskedGrow AskedGrow s c) (same s) (f.grows.from s) };
    from = λ s a st. subst (λ c. Agree (final c).asked session.world → Meets session good c (n a)) (same s) (f.from s a st);
  }

  meets-map : {A B C : Type 0} {good : A → B → Type 0} {better : C → B → Type 0} {c : Completion A} {d : S.Completion B} (f : A → C)
      → ((x : A) (y : B) → good x y → better (f x) y) → Meets session good c d
      → Meets session better (go_on c (λ x. give (f x))) d
  meets-map f k (stopped verdict a) = stopped verdict a
  meets-map f k (normally h st) = normally (k _ _ h) st
  meets-map f k (alike ends st) = alike ends st
  meets-map f k (only ends safe) = only ends safe

  -- a value made of a part's value
  pub follows_map : {A B C : Type 0} {good : A → B → Type 0} {better : C → B → Type 0} (f : A → C) {m : Action A} {n : S.Action B} → ((x : A) (y : B) → good x y → better (f x) y) → Follows session good m n → Follows session better (m >>= (λ x. give (f x))) n
  follows_map f {m} k h = record {
    grows = keeps_bind AskedGrow AskedGrow asked_grow h.grows (λ x. keeps_give AskedGrow AskedGrow asked_grow (f x));
    from = λ s a st agree. meets-map f k (h.from s a st (subst (λ qs. Agree qs session.world) (asked-same f (m s)) agree));
  }

  -- a unit and a request without a value
  pub follows_tell : (q : Request) {n : S.Action ⊤} → Answers session.config session.chair q Any n → FollowsPart session (tell q) (after S.take_unit (λ y. n))
  follows_tell q answers =
      follows_map {good = Any} (λ r. tt) (λ x y h. tt) (follows_then follows_unit (follows_ask q answers))

  -- where it can't go on after a unit
  pub follows_unknown : {A B : Type 0} {good : A → B → Type 0} {m : Action A} (why : OpenKind) → Grows m → ((s : State) → s.units ≡ 0 → m s ≡ early budget s) → Follows session {B = B} good m (after S.take_unit (λ y. S.leave_open why))
  follows_unknown {good} {m} why grows none = record { grows = grows; from = λ s a st agree. by s a st a.units refl }
    where
      by : (s : State) (a : S.State) (st : Stands session s a) (n : ℕ) → a.units ≡ n → Meets session good (m s) (S.go_on (S.take_unit_of n a) (λ y. S.leave_open why))
      by s a st zero is =
          let le = st.units in
          subst (λ c. Meets session good c (S.go_on (S.take_unit_of zero a) (λ y. S.leave_open why))) (sym (none s (omega (arith, le, is)))) (only by_budget (safe st))
      by s a st (suc n) is = stopped (W.Unknown a.requests why) (record a { units = n })

  pub follows_delay : {d : ℤ} {span : Span} → IsWithin d span → FollowsPart session (delay d) (L.delay span)
  follows_delay h = with_number follows_cursor (λ t u k. follows_moved k h (λ end w. follows_set w))

  follows_append : (e : Event) (f : SpanEvent) → IsEventWithin e f → FollowsPart session (append_event e) (L.append_event f)
  follows_append e f h = record {
    grows = keeps_append AskedGrow AskedGrow asked_grow e;
    from = λ s a st agree. normally tt (with-collected st (with-event e f s.collected a.collected h st.collected));
  }

  follows_submit : (c : Option (List Event)) (d : Option (List SpanEvent)) (e : Event) (f : SpanEvent) → IsCollectedWithin c d → IsEventWithin e f → FollowsPart session (submit_or_collect c e) (L.submit_or_collect d f)
  follows_submit None None e f k h = follows_tell (Q.Out e) (answers-out session.config session.ranges session.chair e f h)
  follows_submit (Some es) (Some fs) e f k h = follows_then follows_unit (follows_append e f h)
  follows_submit None (Some fs) e f k h = absurd k
  follows_submit (Some es) None e f k h = absurd k

  pub follows_output : (channel address : ℕ) (d : ℤ) → FollowsPart session (output channel address d) (L.output channel address d)
  follows_output channel address d = record {
    grows = keeps_output AskedGrow AskedGrow asked_grow channel address d;
    from = λ s a st. (follows_submit s.collected a.collected (event_at s.cursor channel address d) (L.event_at a.cursor channel address d) st.collected (record { channel = refl; address = refl; value = refl; stamp = st.cursor })).from s a st;
  }

  pub follows_gate : (channel : ℕ) (sensitivity : ℤ) {d : ℤ} {span : Span} → IsWithin d span → Follows session IsWithin (gate channel sensitivity d) (L.gate channel sensitivity span)
  follows_gate channel sensitivity h =
      follows_then (follows_output channel 2 sensitivity)
      (follows_then (follows_delay h) (follows_then (follows_output channel 2 (pos 0)) follows_cursor))

  pub follows_pulse : (channel : ℕ) {d : ℤ} {span : Span} → IsWithin d span → FollowsPart session (pulse_for channel d) (L.pulse_for channel span)
  follows_pulse channel h =
      follows_then (follows_output channel 0 (pos 1)) (follows_then (follows_delay h) (follows_output channel 0 (pos 0)))

  -- an event of a recording
  follows_play_event : (e : Event) (f : SpanEvent) {t : ℤ} {u : Span} → IsEventWithin e f → IsWithin t u → FollowsPart session (tell (Q.Out (shifted e t))) (L.play_event f u)
  follows_play_event e f {t} h k =
      follows_moved h.stamp k
      (λ stamp w. follows_tell (Q.Out (shifted e t)) (answers-out session.config session.ranges session.chair (shifted e t) (record f { stamp = stamp }) (record { channel = h.channel; address = h.address; value = h.value; stamp = w })))

  follows_play_events : (es : List Event) (fs : List SpanEvent) {t : ℤ} {u : Span} → AreEventsWithin es fs → IsWithin t u → FollowsPart session (play_events es t) (L.play_events fs u)
  follows_play_events [] [] h k = follows_skip
  follows_play_events (e ∷ es) (f ∷ fs) h k = follows_then (follows_play_event e f h.0 k) (follows_play_events es fs h.1 k)
  follows_play_events [] (f ∷ fs) h k = absurd h
  follows_play_events (e ∷ es) [] h k = absurd h

  plays : (r : Recorded) (f : SpanRecording) → IsRecordingWithin r f → FollowsPart session (play_reply (R.Trace r)) (played f)
  plays r f h =
      with_number follows_cursor (λ t u k. follows_then (follows_play_events r.events f.events h.events k) (follows_delay h.length))

  pub follows_play : (name : Bytes) → FollowsPart session (play (Q.Fetch name)) (L.play name)
  follows_play name =
      follows_like (λ s. asked-then (Q.Fetch name) play_reply (take_unit s))
      (follows_then follows_unit
      (follows_after (follows_ask (Q.Fetch name) (answers-fetch session.config session.ranges session.chair name))
      (keeps_play_reply AskedGrow AskedGrow asked_grow)
      (λ reply f h. subst (λ r. FollowsPart session (play_reply r) (played f)) (sym h.1) (plays h.0 f h.2))))
