-- The methods of the language follow those of the run without a core.
use Rattle.std.proofs.Common.{◌≡◌, ℕ, List, [], ◌∷◌, refl, ap}
use Rattle.std.specs.Prelude.{ℤ, pos, ⊤}
use Rattle.rtio_types.specs.declared.request.Request.{Request}
use Rattle.rtio_types.specs.declared.request.Request.TheVariants as Q
use Rattle.rtio_types.specs.Integers.{low_bits}
use Rattle.rtio_types.specs.Replies.{number_in}
use Rattle.kern_syntax.specs.Tree.{Bytes}
use Rattle.kern_calls.specs.declared.calls.Operation.{Operation}
use Rattle.kern_calls.specs.declared.calls.Operation.TheVariants as P
use Rattle.timeline_sem.specs.Actions.{Completion, normal, early, Action, go_on, give, take_unit_of, take_unit, ask, ◌>>=◌}
use Rattle.timeline_sem.specs.Timeline.{tell, inquire, output, count_edges, count_all_edges, play_reply, play, with_lead, first_of_list, second_of_list, move_to_real_time, reset_core, no_value, perform}
use Rattle.timeline_sem.proofs.Keeps.{keeps_inquire, keeps_play, keeps_count}
use Rattle.timeline_sem.proofs.KeepsWhole.{AskedGrow, asked_grow}
use Rattle.slack_meaning.specs.declared.verdict.OpenKind.{OpenKind}
use Rattle.slack_meaning.specs.declared.verdict.OpenKind.TheVariants as K
use Rattle.slack_meaning.specs.declared.span.Span.{Span}
use Rattle.slack_meaning.specs.Spans.{exactly, span_max}
use Rattle.slack_meaning.specs.Actions as S
use Rattle.slack_meaning.specs.Answers.{read_lead}
use Rattle.slack_meaning.specs.Timeline as L
use Rattle.slack_law.proofs.Standing.{IsWithin, AreWithin, Session}
use Rattle.slack_law.proofs.Following.{Follows, FollowsPart, IsTotal, after, follows_bind, follows_then}
use Rattle.slack_law.proofs.Asking.{Answers, follows_ask}
use Rattle.slack_law.proofs.Answering.{answers-counter, answers-reset}
use Rattle.slack_law.proofs.AnsweringMore.{answers-wait, answers-erase}
use Rattle.slack_law.proofs.Within.{within-exactly, max-within}
use Rattle.slack_law.proofs.Steps.{with_number, follows_give, follows_cursor, follows_set, follows_unit, follows_number, follows_reach}
use Rattle.slack_law.proofs.TimedCalls.{follows_like, follows_map, follows_tell, follows_unknown, follows_output, follows_gate, follows_pulse, follows_play}

-- the lead over a reading lies within a span
abbrev IsLead : ℤ → Span → Type 0
IsLead reading span = IsWithin (with_lead reading) span

lead-total : IsTotal IsLead
lead-total reading = (exactly (with_lead reading), within-exactly (with_lead reading))

-- a reading, and what goes on from it
reading-then : {C : Type 0} (q : Request) (f : ℤ → Action C) (c : Completion ⊤) → go_on c (λ x s. go_on (go_on (ask q s) (λ reply. give (number_in reply))) f) ≡ go_on (go_on (go_on c (λ x. ask q)) (λ reply. give (number_in reply))) f
reading-then q f (normal x s) = refl
reading-then q f (early r s) = refl

pub first-within : (xs : List ℤ) (ys : List Span) → AreWithin xs ys → IsWithin (first_of_list xs) (L.first_of_list ys)
first-within [] [] h = within-exactly (pos 0)
first-within (x ∷ xs) (y ∷ ys) h = h.0
first-within [] (y ∷ ys) h = absurd h
first-within (x ∷ xs) [] h = absurd h

second-within : (xs : List ℤ) (ys : List Span) → AreWithin xs ys → IsWithin (second_of_list xs) (L.second_of_list ys)
second-within [] [] h = within-exactly (pos 0)
second-within (x ∷ xs) (y ∷ ys) h = first-within xs ys h.1
second-within [] (y ∷ ys) h = absurd h
second-within (x ∷ xs) [] h = absurd h

module _ {session : Session} where
  -- a reading, as the lead over it
  follows_lead : (q : Request) → Answers session.config session.chair q (λ reply span. IsLead (number_in reply) span) read_lead → Follows session IsLead (ask q >>= (λ reply. give (number_in reply))) read_lead
  follows_lead q answers =
      follows_map {good = λ reply span. IsLead (number_in reply) span} number_in (λ x y h. h) (follows_ask q answers)

  follows_read : (q : Request) → Answers session.config session.chair q (λ reply span. IsLead (number_in reply) span) read_lead
      → {f : ℤ → Action ⊤} {g : Span → S.Action ⊤}
      → ((reading : ℤ) (lead : Span) → IsLead reading lead → FollowsPart session (f reading) (g lead))
      → FollowsPart session (inquire q >>= f) (after S.take_unit (λ y. after read_lead g))
  follows_read q answers {f} k =
      follows_like (λ s. reading-then q f (take_unit s))
      (follows_then follows_unit (follows_bind lead-total (follows_lead q answers) k))

  follows_move : FollowsPart session move_to_real_time L.move_to_real_time
  follows_move =
      follows_read Q.Counter (answers-counter session.config session.ranges session.chair)
      (λ reading lead h. with_number {g = λ u. after (S.within_reach (span_max u lead)) S.set_cursor} follows_cursor
      (λ t u k. follows_reach S.set_cursor (follows_set (max-within t (with_lead reading) u lead k h))))

  follows_reset : FollowsPart session reset_core L.reset_core
  follows_reset =
      follows_read Q.Reset (answers-reset session.config session.ranges session.chair)
      (λ reading lead h. follows_set h)

  -- a part without a value
  pub follows_no_value : {m : Action ⊤} {n : S.Action ⊤} → FollowsPart session m n → Follows session IsWithin (no_value m) (L.no_value n)
  follows_no_value f = follows_then f (follows_give (within-exactly (pos 0)))

  -- requests that can't be answered without a core
  follows_inquire : (q : Request) (why : OpenKind) → Follows session IsWithin (inquire q) (L.ask_unknown why)
  follows_inquire q why =
      follows_unknown why (keeps_inquire AskedGrow AskedGrow asked_grow q)
      (λ s is. ap (λ n. go_on (go_on (take_unit_of n s) (λ x. ask q)) (λ reply. give (number_in reply))) is)

  follows_edge : (q : Request) {n : ℤ} {span : Span} → IsWithin n span → Follows session IsWithin (inquire q) (L.ask_edge span)
  follows_edge q h = follows_number _ h (follows_inquire q K.Edge)

  follows_count : (q : Request) {n : ℤ} {span : Span} → IsWithin n span → Follows session IsWithin (count_all_edges q) (L.ask_edge span)
  follows_count q h =
      follows_number _ h
      (follows_unknown K.Edge (keeps_count AskedGrow AskedGrow asked_grow q) (λ s is. ap (λ k. count_edges k q (pos 0) s) is))

  follows_play_handle : {n : ℤ} {span : Span} → IsWithin n span → FollowsPart session (play (Q.FetchHandle n)) (L.play_handle span)
  follows_play_handle {n} h =
      follows_number _ h
      (follows_unknown K.Kept (keeps_play AskedGrow AskedGrow asked_grow (Q.FetchHandle n))
      (λ s is. ap (λ k. go_on (go_on (take_unit_of k s) (λ x. ask (Q.FetchHandle n))) play_reply) is))

  follows_wait : {n : ℤ} {span : Span} → IsWithin n span → FollowsPart session (tell (Q.Wait n)) (L.wait_until span)
  follows_wait {n} h = follows_number _ h (follows_tell (Q.Wait n) (answers-wait session.config session.ranges session.chair n))

  follows_write_raw : (c : ℕ) {x y : ℤ} {a b : Span} → IsWithin x a → IsWithin y b → FollowsPart session (output c (low_bits 8 x) y) (L.write_raw c a b)
  follows_write_raw c {x} {y} h k = follows_number _ h (follows_number _ k (follows_output c (low_bits 8 x) y))

  pub follows_perform : (op : Operation) (xs : List ℤ) (ys : List Span) (text : Bytes) → AreWithin xs ys → Follows session IsWithin (perform op xs text) (L.perform op ys text)
  follows_perform (P.On c) xs ys text h = follows_no_value (follows_output c 0 (pos 1))
  follows_perform (P.Off c) xs ys text h = follows_no_value (follows_output c 0 (pos 0))
  follows_perform (P.Pulse c) xs ys text h = follows_no_value (follows_pulse c (first-within xs ys h))
  follows_perform (P.Write c) xs ys text h = follows_no_value (follows_write_raw c (first-within xs ys h) (second-within xs ys h))
  follows_perform (P.GateRising c) xs ys text h = follows_gate c (pos 1) (first-within xs ys h)
  follows_perform (P.GateFalling c) xs ys text h = follows_gate c (pos 2) (first-within xs ys h)
  follows_perform (P.GateBoth c) xs ys text h = follows_gate c (pos 3) (first-within xs ys h)
  follows_perform (P.Timestamp c) xs ys text h = follows_edge (Q.Edge c (first_of_list xs)) (first-within xs ys h)
  follows_perform (P.Count c) xs ys text h = follows_count (Q.Edge c (first_of_list xs)) (first-within xs ys h)
  follows_perform P.Counter xs ys text h = follows_inquire Q.Counter K.Reading
  follows_perform P.BreakRealtime xs ys text h = follows_no_value follows_move
  follows_perform P.Reset xs ys text h = follows_no_value follows_reset
  follows_perform P.WaitUntil xs ys text h = follows_no_value (follows_wait (first-within xs ys h))
  follows_perform P.Playback xs ys text h = follows_no_value (follows_play text)
  follows_perform P.PlaybackHandle xs ys text h = follows_no_value (follows_play_handle (first-within xs ys h))
  follows_perform P.GetHandle xs ys text h = follows_inquire (Q.Handle text) K.Handle
  follows_perform P.Erase xs ys text h =
      follows_no_value (follows_tell (Q.Erase text) (answers-erase session.config session.ranges session.chair text))
