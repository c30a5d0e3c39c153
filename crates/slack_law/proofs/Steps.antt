-- The small steps of a kernel follow those of the run without a core.
use Rattle.std.proofs.Common.{◌≡◌, ℕ, zero, suc, ◌≤◌, Bool, true, false, List, Option, refl, sym, ap, subst, ◌∙◌, arith}
use Rattle.std.specs.Prelude.{ℤ, ◌+ℤ◌, ⊤, ◌&&◌, ◌||◌}
use Rattle.rtio_types.specs.declared.event.Event.{Event}
use Rattle.rtio_types.specs.declared.request.Value.{Value}
use Rattle.rtio_types.specs.Time.{later}
use Rattle.kern_syntax.specs.Tree.{Bytes}
use Rattle.timeline_sem.specs.Actions.{State, Reason, break, continue, return, raised, budget, Action, give, skip, stop, take_unit_of, take_unit, cursor_now, set_cursor, ◌>>=◌}
use Rattle.timeline_sem.specs.Laws.{final}
use Rattle.timeline_sem.proofs.Keeps.{keeps_give, keeps_stop, keeps_skip, keeps_take_unit, keeps_cursor_now, keeps_set_cursor}
use Rattle.timeline_sem.proofs.KeepsWhole.{AskedGrow, asked_grow}
use Rattle.slack_meaning.specs.declared.verdict.OpenKind.{OpenKind}
use Rattle.slack_meaning.specs.declared.verdict.OpenKind.TheVariants as K
use Rattle.slack_meaning.specs.declared.verdict.Stopped.TheVariants as W
use Rattle.slack_meaning.specs.declared.span.Span.{Span}
use Rattle.slack_meaning.specs.declared.span.SpanEvent.{SpanEvent}
use Rattle.slack_meaning.specs.Spans.{exactly, is_number, is_near, span_sum}
use Rattle.slack_meaning.specs.Actions.{Held}
use Rattle.slack_meaning.specs.Actions as S
use Rattle.slack_meaning.specs.Timeline.{moved_if, moved}
use Rattle.slack_meaning.proofs.Spans.{both}
use Rattle.slack_law.proofs.Standing.{Any, IsWithin, IsCollectedWithin, AreNamesWithin, Agree, Session, Stands, by_budget, EndsAlike, by_break, by_continue, by_return, by_raising, Meets, stopped, normally, alike, only}
use Rattle.slack_law.proofs.Following.{Grows, Follows, FollowsPart, after, safe, follows_bind}
use Rattle.slack_law.proofs.Within.{within-exactly, number-within, sum-within, near-fits}

module _ {session : Session} where
  pub with-cursor : {s : State} {a : S.State} {t : ℤ} {span : Span} → Stands session s a → IsWithin t span → Stands session (record s { cursor = t }) (record a { cursor = span })
  with-cursor st h = record {
    past = st.past;
    left = st.left;
    whole = st.whole;
    asked = st.asked;
    replies = st.replies;
    in_time = st.in_time;
    bounded = st.bounded;
    values = st.values;
    cursor = h;
    units = st.units;
    collected = st.collected;
  }

  pub with-values : {s : State} {a : S.State} {v : List (Bytes × Value)} {w : List (Bytes × Held)} → Stands session s a → AreNamesWithin v w → Stands session (record s { values = v }) (record a { values = w })
  with-values st h = record {
    past = st.past;
    left = st.left;
    whole = st.whole;
    asked = st.asked;
    replies = st.replies;
    in_time = st.in_time;
    bounded = st.bounded;
    values = h;
    cursor = st.cursor;
    units = st.units;
    collected = st.collected;
  }

  pub with-units : {s : State} {a : S.State} {m n : ℕ} → Stands session s a → m ≤ n → Stands session (record s { units = m }) (record a { units = n })
  with-units st h = record {
    past = st.past;
    left = st.left;
    whole = st.whole;
    asked = st.asked;
    replies = st.replies;
    in_time = st.in_time;
    bounded = st.bounded;
    values = st.values;
    cursor = st.cursor;
    units = h;
    collected = st.collected;
  }

  pub with-collected : {s : State} {a : S.State} {c : Option (List Event)} {d : Option (List SpanEvent)} → Stands session s a → IsCollectedWithin c d → Stands session (record s { collected = c }) (record a { collected = d })
  with-collected st h = record {
    past = st.past;
    left = st.left;
    whole = st.whole;
    asked = st.asked;
    replies = st.replies;
    in_time = st.in_time;
    bounded = st.bounded;
    values = st.values;
    cursor = st.cursor;
    units = st.units;
    collected = h;
  }

  pub follows_give : {A B : Type 0} {good : A → B → Type 0} {x : A} {y : B} → good x y → Follows session good (give x) (S.give y)
  follows_give {x} h =
      record { grows = keeps_give AskedGrow AskedGrow asked_grow x; from = λ s a st agree. normally h st }

  pub follows_skip : FollowsPart session skip S.skip
  follows_skip = record { grows = keeps_skip AskedGrow AskedGrow asked_grow; from = λ s a st agree. normally tt st }

  pub follows_stop : {A B : Type 0} {good : A → B → Type 0} {r : Reason} {t : S.Reason} → EndsAlike r t → Follows session {A = A} {B = B} good (stop r) (S.stop t)
  follows_stop by_break = record {
    grows = keeps_stop AskedGrow AskedGrow asked_grow break asked_grow.same;
    from = λ s a st agree. alike by_break st;
  }
  follows_stop by_continue = record {
    grows = keeps_stop AskedGrow AskedGrow asked_grow continue asked_grow.same;
    from = λ s a st agree. alike by_continue st;
  }
  follows_stop (by_return {n} h) = record {
    grows = keeps_stop AskedGrow AskedGrow asked_grow (return n) asked_grow.same;
    from = λ s a st agree. alike (by_return h) st;
  }
  follows_stop (by_raising x) = record {
    grows = keeps_stop AskedGrow AskedGrow asked_grow (raised x) asked_grow.same;
    from = λ s a st agree. alike (by_raising x) st;
  }

  -- where the kernel has no units left
  pub follows_budget : {A B : Type 0} {good : A → B → Type 0} {n : S.Action B} → Follows session {A = A} good (stop budget) n
  follows_budget = record {
    grows = keeps_stop AskedGrow AskedGrow asked_grow budget asked_grow.same;
    from = λ s a st agree. only by_budget (safe st);
  }

  -- where the run without a core can't go on
  pub follows_open : {A B : Type 0} {good : A → B → Type 0} {m : Action A} (why : OpenKind) → Grows m → Follows session {B = B} good m (S.leave_open why)
  follows_open why grows =
      record { grows = grows; from = λ s a st agree. stopped (W.Unknown a.requests why) a }

  unit-taken : (s : State) (a : S.State) (m n : ℕ) → Stands session s a → m ≤ n → Meets session {A = ⊤} {B = ⊤} Any (take_unit_of m s) (S.take_unit_of n a)
  unit-taken s a zero n st le = only by_budget (safe st)
  unit-taken s a (suc m) zero st le = absurd (omega (arith, le))
  unit-taken s a (suc m) (suc n) st le = normally tt (with-units st (omega (arith, le)))

  pub follows_unit : FollowsPart session take_unit S.take_unit
  follows_unit = record {
    grows = keeps_take_unit AskedGrow AskedGrow asked_grow;
    from = λ s a st agree. unit-taken s a s.units a.units st st.units;
  }

  pub follows_cursor : Follows session IsWithin cursor_now S.cursor_now
  follows_cursor = record {
    grows = keeps_cursor_now AskedGrow AskedGrow asked_grow;
    from = λ s a st agree. normally st.cursor st;
  }

  pub follows_set : {t : ℤ} {span : Span} → IsWithin t span → FollowsPart session (set_cursor t) (S.set_cursor span)
  follows_set {t} h = record {
    grows = keeps_set_cursor AskedGrow AskedGrow asked_grow t;
    from = λ s a st agree. normally tt (with-cursor st h);
  }

  -- a part whose value is a number
  pub with_number : {C D : Type 0} {better : C → D → Type 0} {m : Action ℤ} {n : S.Action Span} {f : ℤ → Action C} {g : Span → S.Action D}
      → Follows session IsWithin m n → ((x : ℤ) (u : Span) → IsWithin x u → Follows session better (f x) (g u))
      → Follows session better (m >>= f) (after n g)
  with_number h k = follows_bind (λ x. (exactly x, within-exactly x)) h k

  -- what isn't done on a core: where a number is wanted
  pub follows_number : {A B : Type 0} {good : A → B → Type 0} {n : ℤ} {span : Span} {m : Action A} (g : ℤ → S.Action B)
      → IsWithin n span → Follows session good m (g n) → Follows session good m (after (S.as_number span) g)
  follows_number {good} {n} {span} {m} g h f = record { grows = f.grows; from = by (is_number span) refl }
    where
      by : (b : Bool) → is_number span ≡ b → (s : State) (a : S.State) → Stands session s a → Agree (final (m s)).asked session.world → Meets session good (m s) (S.go_on (S.number_if b span a) g)
      by true is s a st agree = subst (λ k. Meets session good (m s) (g k a)) (sym (number-within n span is h)) (f.from s a st agree)
      by false isnt s a st agree = stopped (W.Unknown a.requests K.Span) a

  -- and where a span may not reach too far
  pub follows_span : {A B : Type 0} {good : A → B → Type 0} (test : Bool) {span : Span} {m : Action A} (g : Span → S.Action B)
      → Grows m → (test ≡ true → Follows session good m (g span)) → Follows session good m (after (S.span_if test span) g)
  follows_span {good} test {span} {m} g grows f = record { grows = grows; from = by test refl }
    where
      by : (b : Bool) → test ≡ b → (s : State) (a : S.State) → Stands session s a → Agree (final (m s)).asked session.world → Meets session good (m s) (S.go_on (S.span_if b span a) g)
      by true near s a st agree = (f near).from s a st agree
      by false far s a st agree = stopped (W.Unknown a.requests K.Far) a

  pub follows_reach : {A B : Type 0} {good : A → B → Type 0} {span : Span} {m : Action A} (g : Span → S.Action B)
      → Follows session good m (g span) → Follows session good m (after (S.within_reach span) g)
  follows_reach {span} g f = follows_span (is_number span || is_near span) g f.grows (λ near. f)

  -- a sum of moments
  pub follows_moved : {A B : Type 0} {good : A → B → Type 0} {x y : ℤ} {a b : Span} {m : Action A} {g : Span → S.Action B}
      → IsWithin x a → IsWithin y b → ((end : Span) → IsWithin (later x y) end → Follows session good m (g end))
      → Follows session good m (after (moved a b) g)
  follows_moved {good} {x} {y} {a} {b} {m} {g} h k f = by (is_number a && is_number b) refl
    where
      grows : Grows m
      grows = (f (exactly (later x y)) (within-exactly (later x y))).grows

      by : (p : Bool) → (is_number a && is_number b) ≡ p → Follows session good m (after (moved_if p a b) g)
      by true is =
          let parts = both (is_number a) (is_number b) is in
          let same : later a.least b.least ≡ later x y = ap (λ t. later t b.least) (number-within x a parts.0 h) ∙ ap (λ t. later x t) (number-within y b parts.1 k) in
          let within : IsWithin (later x y) (exactly (later a.least b.least)) = subst (λ t. IsWithin (later x y) (exactly t)) (sym same) (within-exactly (later x y)) in
          let inner = f (exactly (later a.least b.least)) within in
          record { grows = grows; from = inner.from }
      by false isnt = follows_span (is_near (span_sum a b)) g grows (λ near.
          let sum = sum-within x y a b h k in
          let same : later x y ≡ x +ℤ y = near-fits (x +ℤ y) (span_sum a b) near sum in
          f (span_sum a b) (subst (λ t. IsWithin t (span_sum a b)) (sym same) sum))
