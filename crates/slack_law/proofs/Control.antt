-- Loops, record blocks, handlers and the ends of functions follow those of the run without a core.
use Rattle.std.proofs.Common.{ℕ, zero, suc, ◌≤◌, Bool, true, false, List, [], Option, Some, None, sym, arith, append-nil}
use Rattle.std.specs.Prelude.{ℤ, pos, ◌+ℤ◌, ⊤, unwrap_or}
use Rattle.rtio_types.specs.declared.event.Event.{Event}
use Rattle.rtio_types.specs.declared.outcome.Exc.{Exc}
use Rattle.rtio_types.specs.declared.request.Request.TheVariants as Q
use Rattle.rtio_types.specs.declared.request.Value.{Value}
use Rattle.rtio_types.specs.declared.request.Value.TheVariants as W
use Rattle.rtio_types.specs.Integers.{is_true}
use Rattle.rtio_types.specs.Recordings.{Recorded}
use Rattle.kern_syntax.specs.Tree.{Bytes}
use Rattle.timeline_sem.specs.Actions.{State, break, continue, return, raised, budget, unanswered, Completion, normal, early, Action, take_unit_of}
use Rattle.timeline_sem.specs.Laws.{final}
use Rattle.timeline_sem.specs.Statements.{when, either, after_turn, turn, while_turns, while_loop, for_turns, leave_recording, save_after, end_recording, recorded, after_try, attempt}
use Rattle.timeline_sem.specs.Programs.{leave_function}
use Rattle.timeline_sem.proofs.KeepsWhole.{AskedGrow, asked_grow, kept_final, keeps_after_turn, keeps_while, keeps_end_recording, keeps_recorded, keeps_attempt}
use Rattle.slack_meaning.specs.declared.span.Span.{Span}
use Rattle.slack_meaning.specs.declared.span.SpanEvent.{SpanEvent}
use Rattle.slack_meaning.specs.Spans.{exactly}
use Rattle.slack_meaning.specs.Actions.{SpanRecording, Held}
use Rattle.slack_meaning.specs.Actions as S
use Rattle.slack_meaning.specs.Statements as C
use Rattle.slack_meaning.specs.Programs as G
use Rattle.slack_law.proofs.Standing.{Any, IsWithin, AreEventsWithin, IsRecordingWithin, AreNamesWithin, IsCollectedWithin, Agree, Session, Stands, by_budget, by_silence, by_break, by_continue, by_return, by_raising, Meets, stopped, normally, alike, only}
use Rattle.slack_law.proofs.Following.{Grows, grown, agree-grown, Follows, FollowsPart, safe, follows_then}
use Rattle.slack_law.proofs.Asking.{follows_ask}
use Rattle.slack_law.proofs.AnsweringMore.{answers-save}
use Rattle.slack_law.proofs.Within.{within-exactly}
use Rattle.slack_law.proofs.Steps.{with-cursor, with-values, with-units, with-collected, with_number, follows_skip, follows_budget, follows_unit, follows_number}
use Rattle.slack_law.proofs.TimedCalls.{follows_map}
use Rattle.slack_law.proofs.Values.{follows_write}

same-asked : (s : State) → AskedGrow s s
same-asked s = ([], sym (append-nil s.asked))

-- what a part asks is among what is asked with what comes after it: of a turn of a loop, of a record block, of a body
asked-turn : (c : Completion ⊤) (again : Action ⊤) → Grows again → AskedGrow (final c) (final (after_turn c again))
asked-turn (normal x s) again k = grown again k s
asked-turn (early break s) again k = same-asked s
asked-turn (early continue s) again k = grown again k s
asked-turn (early (return v) s) again k = same-asked s
asked-turn (early (raised x) s) again k = same-asked s
asked-turn (early budget s) again k = same-asked s
asked-turn (early unanswered s) again k = same-asked s

asked-recording : (name : Bytes) (s : State) (c : Completion ⊤) → AskedGrow (final c) (final (end_recording name s c))
asked-recording name s (normal x s') =
    kept_final AskedGrow s' (end_recording name s (normal x s')) (keeps_end_recording AskedGrow AskedGrow asked_grow s' name s (normal x s') (same-asked s'))
asked-recording name s (early r s') = same-asked s'

asked-try : (c : Completion ⊤) (handle : Exc → Action ⊤) → ((x : Exc) → Grows (handle x)) → AskedGrow (final c) (final (after_try c handle))
asked-try (normal x s) handle k = same-asked s
asked-try (early (raised x) s) handle k = grown (handle x) (k x) s
asked-try (early break s) handle k = same-asked s
asked-try (early continue s) handle k = same-asked s
asked-try (early (return v) s) handle k = same-asked s
asked-try (early budget s) handle k = same-asked s
asked-try (early unanswered s) handle k = same-asked s

abbrev Met : Session → Completion ⊤ → S.Completion ⊤ → Type 0
Met session c d = Meets session {A = ⊤} {B = ⊤} Any c d

recording-within : (c : Option (List Event)) (d : Option (List SpanEvent)) → IsCollectedWithin c d → AreEventsWithin (unwrap_or c []) (unwrap_or d [])
recording-within None None h = tt
recording-within (Some es) (Some fs) h = h
recording-within None (Some fs) h = absurd h
recording-within (Some es) None h = absurd h

module _ {session : Session} where
  follows_when : (b : Bool) {m : Action ⊤} {n : S.Action ⊤} → FollowsPart session m n → FollowsPart session (when b m) (C.when b n)
  follows_when true f = f
  follows_when false f = follows_skip

  pub follows_either : (b : Bool) {m k : Action ⊤} {n l : S.Action ⊤} → FollowsPart session m n → FollowsPart session k l → FollowsPart session (either b m k) (C.either b n l)
  follows_either true f g = f
  follows_either false f g = g

  -- after a turn of a loop
  meets-turn : {c : Completion ⊤} {d : S.Completion ⊤} {again : Action ⊤} {more : S.Action ⊤} → Met session c d → FollowsPart session again more → Agree (final (after_turn c again)).asked session.world → Met session (after_turn c again) (C.after_turn d more)
  meets-turn (stopped verdict a) f agree = stopped verdict a
  meets-turn (normally h st) f agree = f.from _ _ st agree
  meets-turn (alike by_continue st) f agree = f.from _ _ st agree
  meets-turn (alike by_break st) f agree = normally tt st
  meets-turn (alike (by_return h) st) f agree = alike (by_return h) st
  meets-turn (alike (by_raising x) st) f agree = alike (by_raising x) st
  meets-turn (only by_budget safe) f agree = only by_budget safe
  meets-turn (only by_silence safe) f agree = only by_silence safe

  follows_turn : {body again : Action ⊤} {bodies more : S.Action ⊤} → FollowsPart session body bodies → FollowsPart session again more → FollowsPart session (turn body again) (C.turn bodies more)
  follows_turn {body} {again} f g =
      follows_then follows_unit
      (record {
        grows = record { from = λ s. keeps_after_turn AskedGrow AskedGrow asked_grow s (body s) again (f.grows.from s) g.grows };
        from = λ s a st agree. meets-turn (f.from s a st (agree-grown (final (body s)) (final (after_turn (body s) again)) session.world (asked-turn (body s) again g.grows) agree)) g agree;
      })

  -- turns of a `while`: the kernel may have fewer units left
  follows_while_turns : (m n : ℕ) {condition : Action ℤ} {conditions : S.Action Span} {body : Action ⊤} {bodies : S.Action ⊤} → m ≤ n → Follows session IsWithin condition conditions → FollowsPart session body bodies → FollowsPart session (while_turns m condition body) (C.while_turns n conditions bodies)
  follows_while_turns zero zero le f g =
      with_number f (λ x y h. follows_number _ h (follows_when (is_true x) follows_budget))
  follows_while_turns zero (suc n) le f g =
      with_number f (λ x y h. follows_number _ h (follows_when (is_true x) follows_budget))
  follows_while_turns (suc m) zero le f g = absurd (omega (arith, le))
  follows_while_turns (suc m) (suc n) le f g =
      with_number f
      (λ x y h. follows_number _ h
      (follows_when (is_true x) (follows_turn g (follows_while_turns m n (omega (arith, le)) f g))))

  pub follows_while : {condition : Action ℤ} {conditions : S.Action Span} {body : Action ⊤} {bodies : S.Action ⊤} → Follows session IsWithin condition conditions → FollowsPart session body bodies → FollowsPart session (while_loop condition body) (C.while_loop conditions bodies)
  follows_while {condition} {body} f g = record {
    grows = keeps_while AskedGrow AskedGrow asked_grow condition body f.grows g.grows;
    from = λ s a st. (follows_while_turns s.units a.units st.units f g).from s a st;
  }

  pub follows_for_turns : (n : ℕ) (x : Bytes) (from : ℤ) {body : Action ⊤} {bodies : S.Action ⊤} → FollowsPart session body bodies → FollowsPart session (for_turns n x from body) (C.for_turns n x from bodies)
  follows_for_turns zero x from f = follows_skip
  follows_for_turns (suc n) x from f =
      follows_turn (follows_then (follows_write x (W.Int from) (S.number (exactly from)) (within-exactly from)) f) (follows_for_turns n x (from +ℤ pos 1) f)

  -- a record block
  left-stands : (s s' : State) (a a' : S.State) → Stands session s a → Stands session s' a' → Stands session (leave_recording s s') (C.leave_recording a a')
  left-stands s s' a a' st st' = with-collected (with-cursor st' st.cursor) st.collected

  meets-save : (name : Bytes) (t : Recorded) (f : SpanRecording) (s s' : State) (a a' : S.State) → IsRecordingWithin t f → Stands session s a → Stands session s' a' → (m n : ℕ) → m ≤ n → Agree (final (save_after (Q.Save name t) s (take_unit_of m s'))).asked session.world → Met session (save_after (Q.Save name t) s (take_unit_of m s')) (C.save_after name f a (S.take_unit_of n a'))
  meets-save name t f s s' a a' within st st' zero n le agree = only by_budget (safe st')
  meets-save name t f s s' a a' within st st' (suc m) zero le agree = absurd (omega (arith, le))
  meets-save name t f s s' a a' within st st' (suc m) (suc n) le agree =
      (follows_map {good = Any} {better = Any} (λ r. tt) (λ x y h. tt) (follows_ask (Q.Save name t) (answers-save session.config session.ranges session.chair name t f within))).from
      (leave_recording s (record s' { units = m }))
      (C.leave_recording a (record a' { units = n }))
      (left-stands s (record s' { units = m }) a (record a' { units = n }) st (with-units st' (omega (arith, le))))
      agree

  meets-recording : (name : Bytes) (s : State) (a : S.State) {c : Completion ⊤} {d : S.Completion ⊤} → Stands session s a → Met session c d → Agree (final (end_recording name s c)).asked session.world → Met session (end_recording name s c) (C.end_recording name a d)
  meets-recording name s a st (stopped verdict a') agree = stopped verdict (C.leave_recording a a')
  meets-recording name s a st (normally {s = s'} {a = a'} h st') agree =
      meets-save name (record { events = unwrap_or s'.collected []; length = s'.cursor }) (C.recording_in a') s s' a a' (record { events = recording-within s'.collected a'.collected st'.collected; length = st'.cursor }) st st' s'.units a'.units st'.units agree
  meets-recording name s a st (alike {s = s'} {a = a'} ends st') agree = alike ends (left-stands s s' a a' st st')
  meets-recording name s a st (only ends safe) agree = only ends safe

  pub follows_recorded : (name : Bytes) {body : Action ⊤} {bodies : S.Action ⊤} → FollowsPart session body bodies → FollowsPart session (recorded name body) (C.recorded name bodies)
  follows_recorded name {body} f = record {
    grows = keeps_recorded AskedGrow AskedGrow asked_grow name body f.grows;
    from = λ s a st agree.
        let begins : State = record s { cursor = pos 0; collected = Some [] } in
        let begun : S.State = record a { cursor = exactly (pos 0); collected = Some [] } in
        meets-recording name s a st
        (f.from begins begun (with-collected (with-cursor st (within-exactly (pos 0))) tt)
        (agree-grown (final (body begins)) (final (end_recording name s (body begins))) session.world (asked-recording name s (body begins)) agree))
        agree;
  }

  -- a body with handlers
  meets-try : {c : Completion ⊤} {d : S.Completion ⊤} {handle : Exc → Action ⊤} {handles : Exc → S.Action ⊤} → Met session c d → ((x : Exc) → FollowsPart session (handle x) (handles x)) → Agree (final (after_try c handle)).asked session.world → Met session (after_try c handle) (C.after_try d handles)
  meets-try (stopped verdict a) f agree = stopped verdict a
  meets-try (normally h st) f agree = normally h st
  meets-try (alike (by_raising x) st) f agree = (f x).from _ _ st agree
  meets-try (alike by_break st) f agree = alike by_break st
  meets-try (alike by_continue st) f agree = alike by_continue st
  meets-try (alike (by_return h) st) f agree = alike (by_return h) st
  meets-try (only by_budget safe) f agree = only by_budget safe
  meets-try (only by_silence safe) f agree = only by_silence safe

  pub follows_attempt : {body : Action ⊤} {bodies : S.Action ⊤} {handle : Exc → Action ⊤} {handles : Exc → S.Action ⊤} → FollowsPart session body bodies → ((x : Exc) → FollowsPart session (handle x) (handles x)) → FollowsPart session (attempt body handle) (C.attempt bodies handles)
  follows_attempt {body} {handle} f g = record {
    grows = keeps_attempt AskedGrow AskedGrow asked_grow body handle f.grows (λ x. (g x).grows);
    from = λ s a st agree. meets-try (f.from s a st (agree-grown (final (body s)) (final (after_try (body s) handle)) session.world (asked-try (body s) handle (λ x. (g x).grows)) agree)) g agree;
  }

  -- the end of a function
  pub meets-left : (vs : List (Bytes × Value)) (ws : List (Bytes × Held)) {c : Completion ⊤} {d : S.Completion ⊤} → AreNamesWithin vs ws → Met session c d → Meets session IsWithin (leave_function vs c) (G.leave_function ws d)
  meets-left vs ws n (stopped verdict a) = stopped verdict (record a { values = ws })
  meets-left vs ws n (normally h st) = normally (within-exactly (pos 0)) (with-values st n)
  meets-left vs ws n (alike (by_return h) st) = normally h (with-values st n)
  meets-left vs ws n (alike by_break st) = alike by_break (with-values st n)
  meets-left vs ws n (alike by_continue st) = alike by_continue (with-values st n)
  meets-left vs ws n (alike (by_raising x) st) = alike (by_raising x) (with-values st n)
  meets-left vs ws n (only by_budget safe) = only by_budget safe
  meets-left vs ws n (only by_silence safe) = only by_silence safe
