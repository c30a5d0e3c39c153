-- What small parts of the meaning do from values of the names' types: they leave such values, and give what is told of them.
use Rattle.std.proofs.Common.{◌≡◌, ℕ, zero, suc, List, [], ◌∷◌, ◌++◌, Option, Some, None, refl, sym, ◌∙◌, arith}
use Rattle.std.specs.Prelude.{Bool, true, false, ℤ, pos, ⊤, FitsSigned}
use Rattle.std.specs.Int.{w32}
use Rattle.std.proofs.lemmas.Int.{SFits-int_wrap}
use Rattle.std.proofs.lemmas.Bool.{false≢true}
use Rattle.rtio_types.specs.declared.event.Event.{Event}
use Rattle.rtio_types.specs.declared.outcome.Exc.{Exc}
use Rattle.rtio_types.specs.declared.request.Request.{Request}
use Rattle.rtio_types.specs.declared.request.Request.TheVariants as Q
use Rattle.rtio_types.specs.declared.request.Reply.{Reply}
use Rattle.rtio_types.specs.declared.request.Reply.TheVariants as Y
use Rattle.rtio_types.specs.Replies.{raised_by}
use Rattle.kern_syntax.specs.Tree.{Bytes}
use Rattle.kern_calls.specs.declared.calls.Operation.{Operation}
use Rattle.kern_calls.specs.declared.calls.Operation.TheVariants as P
use Rattle.kern_calls.specs.Calls.{operation_result}
use Rattle.kern_calls.specs.Types.{Names}
use Rattle.kern_judgement.specs.Fitting.{Standing}
use Rattle.timeline_sem.specs.Actions.{State, Reason, break, continue, return, raised, budget, unanswered, Completion, normal, early, Action, go_on, give, skip, stop, take_unit_of, take_unit, next_reply_of, raise_if, ask, request, cursor_now, set_cursor, ◌>>=◌, ◌>>◌}
use Rattle.timeline_sem.specs.Timeline.{delay, tell, inquire, append_event, submit_or_collect, output, gate, on_edge, count_edges, count_all_edges, play_events, play_reply, play, pulse_for, move_to_real_time, reset_core, no_value, perform, event_at}
use Rattle.typed_runs.specs.Values.{HaveValues, IsResultOf}
use Rattle.typed_runs.specs.Ends.{EndsTyped, MayEndBy}

-- nothing is asked
abbrev pub Anything : {A : Type 0} → A → Type 0
Anything a = Unit {0}

module _ (names : Names) (here : Standing) where
  -- from values of the names' types a part ends with such values, and gives what has this property
  pub record RunsTyped {A : Type 0} (P : A → Type 0) (action : Action A) : Type 0 where
    pub from : (s : State) → HaveValues names s.values → EndsTyped names here P (action s)

  pub typed_go_on : {A B : Type 0} {P : A → Type 0} (Q : B → Type 0) (c : Completion A) (f : A → Action B) → EndsTyped names here P c
      → ((a : A) → P a → RunsTyped Q (f a)) → EndsTyped names here Q (go_on c f)
  typed_go_on Q (normal a s) f r k = (k a r.0).from s r.1
  typed_go_on Q (early reason s) f r k = r

  -- one part and then another that takes its value
  pub typed_bind : {A B : Type 0} {P : A → Type 0} {Q : B → Type 0} {m : Action A} {f : A → Action B} → RunsTyped P m
      → ((a : A) → P a → RunsTyped Q (f a)) → RunsTyped Q (m >>= f)
  typed_bind {Q} {m} {f} km kf = record { from = λ s h. typed_go_on Q (m s) f (km.from s h) kf }

  -- one part and then another
  pub typed_then : {A B : Type 0} {P : A → Type 0} {Q : B → Type 0} {m : Action A} {n : Action B} → RunsTyped P m → RunsTyped Q n
      → RunsTyped Q (m >> n)
  typed_then {Q} {m} {n} km kn = record { from = λ s h. typed_go_on Q (m s) (λ a. n) (km.from s h) (λ a p. kn) }

  weakened : {A : Type 0} {P Q : A → Type 0} (c : Completion A) → ((a : A) → P a → Q a) → EndsTyped names here P c
      → EndsTyped names here Q c
  weakened (normal a s) k r = (k a r.0, r.1)
  weakened (early reason s) k r = r

  -- what is given has each property that follows
  pub typed_weaken : {A : Type 0} {P Q : A → Type 0} {m : Action A} → ((a : A) → P a → Q a) → RunsTyped P m → RunsTyped Q m
  typed_weaken {m} k r = record { from = λ s h. weakened (m s) k (r.from s h) }

  pub typed_give : {A : Type 0} {P : A → Type 0} (a : A) → P a → RunsTyped P (give a)
  typed_give a p = record { from = λ s h. (p, h) }

  pub typed_skip : RunsTyped Anything skip
  typed_skip = record { from = λ s h. (tt, h) }

  -- an early end for a reason for which there may be one
  pub typed_stop : {A : Type 0} {P : A → Type 0} (reason : Reason) → MayEndBy here reason → RunsTyped P (stop {A = A} reason)
  typed_stop reason r = record { from = λ s h. (r, h) }

  pub typed_cursor_now : RunsTyped Anything cursor_now
  typed_cursor_now = record { from = λ s h. (tt, h) }

  pub typed_set_cursor : (t : ℤ) → RunsTyped Anything (set_cursor t)
  typed_set_cursor t = record { from = λ s h. (tt, h) }

  taken : (n : ℕ) (s : State) → HaveValues names s.values → EndsTyped names here Anything (take_unit_of n s)
  taken zero s h = (tt, h)
  taken (suc n) s h = (tt, h)

  pub typed_take_unit : RunsTyped Anything take_unit
  typed_take_unit = record { from = λ s h. taken s.units s h }

  replied : (replies : List Reply) (s : State) → HaveValues names s.values → EndsTyped names here Anything (next_reply_of replies s)
  replied [] s h = (tt, h)
  replied (reply ∷ rest) s h = (tt, h)

  typed_raise_if : (x : Option Exc) (reply : Reply) → RunsTyped Anything (raise_if x reply)
  typed_raise_if None reply = typed_give reply tt
  typed_raise_if (Some x) reply = typed_stop (raised x) tt

  pub typed_ask : (q : Request) → RunsTyped Anything (ask q)
  typed_ask q =
      record {
        from = λ s h. typed_go_on Anything (next_reply_of s.replies (record s { asked = s.asked ++ q ∷ [] }))
            (λ reply. raise_if (raised_by reply) reply) (replied s.replies (record s { asked = s.asked ++ q ∷ [] }) h)
            (λ reply p. typed_raise_if (raised_by reply) reply);
      }

  pub typed_request : (q : Request) → RunsTyped Anything (request q)
  typed_request q = typed_then typed_take_unit (typed_ask q)

  pub typed_tell : (q : Request) → RunsTyped Anything (tell q)
  typed_tell q = typed_bind (typed_request q) (λ r p. typed_skip)

  pub typed_inquire : (q : Request) → RunsTyped Anything (inquire q)
  typed_inquire q = typed_bind (typed_request q) (λ r p. typed_give _ tt)

  pub typed_delay : (d : ℤ) → RunsTyped Anything (delay d)
  typed_delay d = typed_bind typed_cursor_now (λ t p. typed_set_cursor _)

  pub typed_append : (event : Event) → RunsTyped Anything (append_event event)
  typed_append event = record { from = λ s h. (tt, h) }

  typed_submit : (c : Option (List Event)) (event : Event) → RunsTyped Anything (submit_or_collect c event)
  typed_submit None event = typed_tell (Q.Out event)
  typed_submit (Some events) event = typed_then typed_take_unit (typed_append event)

  pub typed_output : (channel address : ℕ) (d : ℤ) → RunsTyped Anything (output channel address d)
  typed_output channel address d =
      record { from = λ s h. (typed_submit s.collected (event_at s.cursor channel address d)).from s h }

  pub typed_gate : (channel : ℕ) (sensitivity d : ℤ) → RunsTyped Anything (gate channel sensitivity d)
  typed_gate channel sensitivity d =
      typed_then (typed_output channel 2 sensitivity)
      (typed_then (typed_delay d) (typed_then (typed_output channel 2 (pos 0)) typed_cursor_now))

  -- a number of edges has 32 bits
  abbrev Has32Bits : ℤ → Type 0
  Has32Bits n = FitsSigned w32 n

  typed_on_edge : (n : ℤ) (again : ℤ → Action ℤ) → Has32Bits n → ((m : ℤ) → Has32Bits m → RunsTyped Has32Bits (again m))
      → (reply : Reply) → RunsTyped Has32Bits (on_edge n again reply)
  typed_on_edge n again fits k Y.NoEdge = typed_give n fits
  typed_on_edge n again fits k _ = k _ (SFits-int_wrap w32 _)

  typed_count_edges : (units : ℕ) (q : Request) (n : ℤ) → Has32Bits n → RunsTyped Has32Bits (count_edges units q n)
  typed_count_edges zero q n fits = typed_stop budget tt
  typed_count_edges (suc left) q n fits =
      typed_bind (typed_request q) (λ reply p. typed_on_edge n (count_edges left q) fits (typed_count_edges left q) reply)

  none_fits : Has32Bits (pos 0)
  none_fits = grind arith

  pub typed_count : (q : Request) → RunsTyped Has32Bits (count_all_edges q)
  typed_count q = record { from = λ s h. (typed_count_edges s.units q (pos 0) none_fits).from s h }

  typed_play_events : (events : List Event) (t : ℤ) → RunsTyped Anything (play_events events t)
  typed_play_events [] t = typed_skip
  typed_play_events (event ∷ rest) t = typed_then (typed_tell _) (typed_play_events rest t)

  typed_play_reply : (reply : Reply) → RunsTyped Anything (play_reply reply)
  typed_play_reply (Y.Trace recording) =
      typed_bind typed_cursor_now (λ t p. typed_then (typed_play_events recording.events t) (typed_delay recording.length))
  typed_play_reply _ = typed_skip

  pub typed_play : (q : Request) → RunsTyped Anything (play q)
  typed_play q = typed_bind (typed_request q) (λ reply p. typed_play_reply reply)

  -- a part without a value gives 0
  pub typed_no_value : {P : ⊤ → Type 0} {action : Action ⊤} → RunsTyped P action → RunsTyped (IsResultOf None) (no_value action)
  typed_no_value k = typed_then k (typed_give (pos 0) refl)

  typed_move : RunsTyped Anything move_to_real_time
  typed_move = typed_bind (typed_inquire Q.Counter) (λ x p. typed_bind typed_cursor_now (λ t o. typed_set_cursor _))

  typed_reset : RunsTyped Anything reset_core
  typed_reset = typed_bind (typed_inquire Q.Reset) (λ x p. typed_set_cursor _)

  typed_pulse : (channel : ℕ) (d : ℤ) → RunsTyped Anything (pulse_for channel d)
  typed_pulse channel d =
      typed_then (typed_output channel 0 (pos 1)) (typed_then (typed_delay d) (typed_output channel 0 (pos 0)))

  -- a method gives what it says: a count has 32 bits
  pub typed_perform : (op : Operation) (numbers : List ℤ) (text : Bytes)
      → RunsTyped (IsResultOf (operation_result op)) (perform op numbers text)
  typed_perform (P.On c) numbers text = typed_no_value (typed_output c 0 (pos 1))
  typed_perform (P.Off c) numbers text = typed_no_value (typed_output c 0 (pos 0))
  typed_perform (P.Pulse c) numbers text = typed_no_value (typed_pulse c _)
  typed_perform (P.Write c) numbers text = typed_no_value (typed_output c _ _)
  typed_perform (P.GateRising c) numbers text = typed_gate c (pos 1) _
  typed_perform (P.GateFalling c) numbers text = typed_gate c (pos 2) _
  typed_perform (P.GateBoth c) numbers text = typed_gate c (pos 3) _
  typed_perform (P.Timestamp c) numbers text = typed_inquire _
  typed_perform (P.Count c) numbers text = typed_count _
  typed_perform P.Counter numbers text = typed_inquire Q.Counter
  typed_perform P.BreakRealtime numbers text = typed_no_value typed_move
  typed_perform P.Reset numbers text = typed_no_value typed_reset
  typed_perform P.WaitUntil numbers text = typed_no_value (typed_tell _)
  typed_perform P.Playback numbers text = typed_no_value (typed_play _)
  typed_perform P.PlaybackHandle numbers text = typed_no_value (typed_play _)
  typed_perform P.GetHandle numbers text = typed_inquire _
  typed_perform P.Erase numbers text = typed_no_value (typed_tell _)

module _ (names : Names) (inner here : Standing) (no_loop : inner.in_loop ≡ false) (no_return : inner.may_return ≡ false) where
  closed : {b : Bool} → b ≡ false → b ≡ true → ⊥
  closed off on = false≢true (sym off ∙ on)

  ends_outward : {A : Type 0} (P : A → Type 0) (c : Completion A) → EndsTyped names inner P c → EndsTyped names here P c
  ends_outward P (normal a s) r = r
  ends_outward P (early break s) r = absurd (closed no_loop r.0)
  ends_outward P (early continue s) r = absurd (closed no_loop r.0)
  ends_outward P (early (return v) s) r = absurd (closed no_return r.0.0)
  ends_outward P (early (raised x) s) r = r
  ends_outward P (early budget s) r = r
  ends_outward P (early unanswered s) r = r

  -- a part that leaves neither a loop nor the function may stand anywhere
  pub typed_outward : {A : Type 0} {P : A → Type 0} {m : Action A} → RunsTyped names inner P m → RunsTyped names here P m
  typed_outward {P} {m} r = record { from = λ s h. ends_outward P (m s) (r.from s h) }
