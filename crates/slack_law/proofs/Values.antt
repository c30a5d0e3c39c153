-- Names, elements and operators follow those of the run without a core.
use Rattle.std.proofs.Common.{◌≡◌, ℕ, zero, suc, Bool, true, false, List, [], ◌∷◌, map, Option, Some, None, refl, sym, ap, subst}
use Rattle.std.specs.Prelude.{ℤ, pos, negsuc, ◌+ℤ◌, ◌-ℤ◌, ◌&&◌, bytes_eq, slice_get, slice_set, unsigned_abs, option_map, if◌then◌else◌}
use Rattle.std.specs.Int.{int_wrap}
use Rattle.rtio_types.specs.declared.outcome.Exc.{Exc}
use Rattle.rtio_types.specs.declared.outcome.Exc.TheVariants.{IndexError, ZeroDivisionError}
use Rattle.rtio_types.specs.declared.request.Value.{Value}
use Rattle.rtio_types.specs.declared.request.Value.TheVariants as W
use Rattle.kern_syntax.specs.declared.expression.BinaryOperator.{BinaryOperator}
use Rattle.kern_syntax.specs.declared.expression.BinaryOperator.TheVariants as O
use Rattle.kern_syntax.specs.Tree.{Bytes}
use Rattle.kern_calls.specs.declared.types.ValueType.{ValueType}
use Rattle.kern_calls.specs.declared.types.ValueType.TheVariants as V
use Rattle.kern_calls.specs.Types.{width_of, bits_of}
use Rattle.timeline_sem.specs.Actions.{State, Action, give, ◌>>=◌}
use Rattle.timeline_sem.specs.Laws.{final}
use Rattle.timeline_sem.specs.Numbers.{exact_result}
use Rattle.timeline_sem.specs.Expressions.{value_of, with_value, number_in_value, list_in_value, read, write as write_name, or_raise, place_in, with_item, read_element, write_element, operate}
use Rattle.timeline_sem.proofs.Keeps.{keeps_give, keeps_read, keeps_write, keeps_operate}
use Rattle.timeline_sem.proofs.KeepsWhole.{AskedGrow, asked_grow}
use Rattle.slack_meaning.specs.declared.verdict.OpenKind.TheVariants as K
use Rattle.slack_meaning.specs.declared.verdict.Stopped.TheVariants as Z
use Rattle.slack_meaning.specs.declared.span.Span.{Span}
use Rattle.slack_meaning.specs.Spans.{exactly, is_number, is_near, span_sum, span_less}
use Rattle.slack_meaning.specs.Actions.{Held}
use Rattle.slack_meaning.specs.Actions as S
use Rattle.slack_meaning.specs.Expressions as E
use Rattle.slack_meaning.proofs.Spans.{both}
use Rattle.slack_law.proofs.Standing.{IsWithin, AreWithin, IsValueWithin, AreNamesWithin, Agree, Session, Stands, by_raising, Meets, stopped, normally}
use Rattle.slack_law.proofs.Following.{Follows, FollowsPart, IsTotal, after, follows_bind}
use Rattle.slack_law.proofs.Within.{within-exactly, number-within, sum-within, less-within, near-fits}
use Rattle.slack_law.proofs.Steps.{with-values, follows_give, follows_stop, follows_open, follows_number}

-- what a name holds
held-within : (xs : List (Bytes × Value)) (ys : List (Bytes × Held)) (x : Bytes) → AreNamesWithin xs ys → IsValueWithin (value_of xs x) (E.held_by ys x)
held-within [] [] x h = within-exactly (pos 0)
held-within (e ∷ xs) (f ∷ ys) x h = by (bytes_eq e.0 x) (bytes_eq f.0 x) (ap (λ n. bytes_eq n x) h.0.name) (held-within xs ys x h.1)
  where
    by : (b c : Bool) → b ≡ c → IsValueWithin (value_of xs x) (E.held_by ys x) → IsValueWithin (if b then e.1 else value_of xs x) (if c then f.1 else E.held_by ys x)
    by true true is rest = h.0.value
    by false false is rest = rest
    by true false is rest = absurd (cc)
    by false true is rest = absurd (cc)
held-within [] (f ∷ ys) x h = absurd h
held-within (e ∷ xs) [] x h = absurd h

new-within : (xs : List (Bytes × Value)) (ys : List (Bytes × Held)) (x : Bytes) (v : Value) (w : Held) → AreNamesWithin xs ys → IsValueWithin v w → AreNamesWithin (with_value xs x v) (E.with_held ys x w)
new-within [] [] x v w h new = tt
new-within (e ∷ xs) (f ∷ ys) x v w h new = by (bytes_eq e.0 x) (bytes_eq f.0 x) (ap (λ n. bytes_eq n x) h.0.name) (new-within xs ys x v w h.1 new)
  where
    by : (b c : Bool) → b ≡ c → AreNamesWithin (with_value xs x v) (E.with_held ys x w) → AreNamesWithin (if b then (e.0, v) ∷ xs else e ∷ with_value xs x v) (if c then (f.0, w) ∷ ys else f ∷ E.with_held ys x w)
    by true true is rest = (record { name = h.0.name; value = new }, h.1)
    by false false is rest = (h.0, rest)
    by true false is rest = absurd (cc)
    by false true is rest = absurd (cc)
new-within [] (f ∷ ys) x v w h new = absurd h
new-within (e ∷ xs) [] x v w h new = absurd h

pub span-in : (v : Value) (w : Held) → IsValueWithin v w → IsWithin (number_in_value v) (E.span_in w)
span-in (W.Int n) (S.number span) h = h
span-in (W.List ns) (S.list spans) h = within-exactly (pos 0)
span-in (W.Int n) (S.list spans) h = absurd h
span-in (W.List ns) (S.number span) h = absurd h

pub spans-in : (v : Value) (w : Held) → IsValueWithin v w → AreWithin (list_in_value v) (E.spans_in w)
spans-in (W.Int n) (S.number span) h = tt
spans-in (W.List ns) (S.list spans) h = h
spans-in (W.Int n) (S.list spans) h = absurd h
spans-in (W.List ns) (S.number span) h = absurd h

-- both are there, or neither
abbrev IsThere : {A B : Type 0} → (A → B → Type 0) → Option A → Option B → Type 0
IsThere good None None = Unit {0}
IsThere good (Some x) (Some y) = good x y
IsThere good _ _ = ⊥

got-within : (xs : List ℤ) (ys : List Span) (i : ℕ) → AreWithin xs ys → IsThere IsWithin (slice_get xs i) (slice_get ys i)
got-within [] [] i h = tt
got-within (x ∷ xs) (y ∷ ys) zero h = h.0
got-within (x ∷ xs) (y ∷ ys) (suc i) h = got-within xs ys i h.1
got-within [] (y ∷ ys) i h = absurd h
got-within (x ∷ xs) [] i h = absurd h

set-within : (xs : List ℤ) (ys : List Span) (i : ℕ) (x : ℤ) (y : Span) → AreWithin xs ys → IsWithin x y → AreWithin (slice_set xs i x) (slice_set ys i y)
set-within [] [] i x y h new = tt
set-within (a ∷ xs) (b ∷ ys) zero x y h new = (new, h.1)
set-within (a ∷ xs) (b ∷ ys) (suc i) x y h new = (h.0, set-within xs ys i x y h.1 new)
set-within [] (b ∷ ys) i x y h new = absurd h
set-within (a ∷ xs) [] i x y h new = absurd h

place-within : (xs : List ℤ) (ys : List Span) (i : ℤ) → AreWithin xs ys → IsThere IsWithin (place_in xs i) (E.place_in ys i)
place-within xs ys (pos i) h = got-within xs ys i h
place-within xs ys (negsuc i) h = tt

item-within : (xs : List ℤ) (ys : List Span) (i x : ℤ) (y : Span) → AreWithin xs ys → IsWithin x y → IsThere AreWithin (with_item xs i x) (E.with_item ys i y)
item-within xs ys i x y h new = by (place_in xs i) (E.place_in ys i) (place-within xs ys i h)
  where
    by : (o : Option ℤ) (p : Option Span) → IsThere IsWithin o p → IsThere AreWithin (option_map (λ old. slice_set xs (unsigned_abs i) x) o) (option_map (λ old. slice_set ys (unsigned_abs i) y) p)
    by None None k = tt
    by (Some a) (Some b) k = set-within xs ys (unsigned_abs i) x y h new
    by None (Some b) k = absurd k
    by (Some a) None k = absurd k

-- a list of numbers lies within them
pub each-exactly : (xs : List ℤ) → AreWithin xs (map exactly xs)
each-exactly [] = tt
each-exactly (x ∷ xs) = (within-exactly x, each-exactly xs)

-- each value of a name lies within one that is held, each list within a list of spans
pub held-total : IsTotal IsValueWithin
held-total (W.Int n) = (S.number (exactly n), within-exactly n)
held-total (W.List ns) = (S.list (map exactly ns), each-exactly ns)

module _ {session : Session} where
  pub follows_read : (x : Bytes) → Follows session IsValueWithin (read x) (E.read x)
  follows_read x = record {
    grows = keeps_read AskedGrow AskedGrow asked_grow x;
    from = λ s a st agree. normally (held-within s.values a.values x st.values) st;
  }

  pub follows_write : (x : Bytes) (v : Value) (w : Held) → IsValueWithin v w → FollowsPart session (write_name x v) (E.write x w)
  follows_write x v w h = record {
    grows = keeps_write AskedGrow AskedGrow asked_grow x v;
    from = λ s a st agree. normally tt (with-values st (new-within s.values a.values x v w st.values h));
  }

  -- a part whose value is what a name holds
  pub with_held_value : {C D : Type 0} {better : C → D → Type 0} {m : Action Value} {n : S.Action Held} {f : Value → Action C} {g : Held → S.Action D}
      → Follows session IsValueWithin m n → ((v : Value) (w : Held) → IsValueWithin v w → Follows session better (f v) (g w))
      → Follows session better (m >>= f) (after n g)
  with_held_value h k = follows_bind held-total h k

  -- one whose value is a list
  pub with_numbers : {C D : Type 0} {better : C → D → Type 0} {m : Action (List ℤ)} {n : S.Action (List Span)} {f : List ℤ → Action C} {g : List Span → S.Action D}
      → Follows session AreWithin m n → ((xs : List ℤ) (ys : List Span) → AreWithin xs ys → Follows session better (f xs) (g ys))
      → Follows session better (m >>= f) (after n g)
  with_numbers h k = follows_bind (λ xs. (map exactly xs, each-exactly xs)) h k

  follows_there : {A B : Type 0} {good : A → B → Type 0} (o : Option A) (p : Option B) (x : Exc) → IsThere good o p → Follows session good (or_raise o x) (E.or_raise p x)
  follows_there None None x h = follows_stop (by_raising x)
  follows_there (Some a) (Some b) x h = follows_give h
  follows_there None (Some b) x h = absurd h
  follows_there (Some a) None x h = absurd h

  pub follows_read_element : (x : Bytes) {i : ℤ} {span : Span} → IsWithin i span → Follows session IsWithin (read_element x i) (E.read_element x span)
  follows_read_element x {i} h =
      follows_number _ h
      (with_held_value (follows_read x)
      (λ v w k. follows_there (place_in (list_in_value v) i) (E.place_in (E.spans_in w) i) IndexError (place-within (list_in_value v) (E.spans_in w) i (spans-in v w k))))

  pub follows_write_element : (x : Bytes) {i n : ℤ} {span new : Span} → IsWithin i span → IsWithin n new → FollowsPart session (write_element x i n) (E.write_element x span new)
  follows_write_element x {i} {n} {span} {new} h k =
      follows_number _ h
      (with_held_value (follows_read x)
      (λ v w l. with_numbers (follows_there (with_item (list_in_value v) i n) (E.with_item (E.spans_in w) i new) IndexError (item-within (list_in_value v) (E.spans_in w) i n new (spans-in v w l) k))
      (λ items spans j. follows_write x (W.List items) (S.list spans) j)))

  -- the same option on both sides
  follows_same : (o : Option ℤ) (w : ℤ → ℤ) → Follows session IsWithin (or_raise o ZeroDivisionError >>= (λ exact. give (w exact))) (after (E.or_raise o ZeroDivisionError) (λ exact. S.give (exactly (w exact))))
  follows_same None w = follows_stop (by_raising ZeroDivisionError)
  follows_same (Some e) w = follows_give (within-exactly (w e))

  -- a span at the end of a part
  follows_reached : {n : ℤ} {span : Span} → (is_near span ≡ true → IsWithin n span) → Follows session IsWithin (give n) (S.within_near span)
  follows_reached {n} {span} h = record { grows = keeps_give AskedGrow AskedGrow asked_grow n; from = by (is_near span) refl }
    where
      by : (b : Bool) → is_near span ≡ b → (s : State) (a : S.State) → Stands session s a → Agree (final (give n s)).asked session.world → Meets session IsWithin (give n s) (S.span_if b span a)
      by true near s a st agree = normally (h near) st
      by false far s a st agree = stopped (Z.Unknown a.requests K.Far) a

  follows_sum : (x y : ℤ) (a b : Span) → IsWithin x a → IsWithin y b → Follows session IsWithin (operate O.Add V.Int64 x y) (S.within_near (span_sum a b))
  follows_sum x y a b h k =
      let sum = sum-within x y a b h k in
      follows_reached (λ near. subst (λ t. IsWithin t (span_sum a b)) (sym (near-fits (x +ℤ y) (span_sum a b) near sum)) sum)

  follows_less : (x y : ℤ) (a b : Span) → IsWithin x a → IsWithin y b → Follows session IsWithin (operate O.Subtract V.Int64 x y) (E.less a b)
  follows_less x y a b h k =
      let part = less-within x y a h in
      follows_number _ k
      (follows_reached (λ near. subst (λ t. IsWithin t (span_less a y)) (sym (near-fits (x -ℤ y) (span_less a y) near part)) part))

  follows_spans : (op : BinaryOperator) (t : ValueType) (x y : ℤ) (a b : Span) → IsWithin x a → IsWithin y b → Follows session IsWithin (operate op t x y) (E.operate_spans op t a b)
  follows_spans O.Add V.Int64 x y a b h k = follows_sum x y a b h k
  follows_spans O.Subtract V.Int64 x y a b h k = follows_less x y a b h k
  follows_spans O.Add t x y a b h k = follows_open K.Span (keeps_operate AskedGrow AskedGrow asked_grow O.Add t x y)
  follows_spans O.Subtract t x y a b h k = follows_open K.Span (keeps_operate AskedGrow AskedGrow asked_grow O.Subtract t x y)
  follows_spans op t x y a b h k = follows_open K.Span (keeps_operate AskedGrow AskedGrow asked_grow op t x y)

  pub follows_operate : (op : BinaryOperator) (t : ValueType) {x y : ℤ} {a b : Span} → IsWithin x a → IsWithin y b → Follows session IsWithin (operate op t x y) (E.operate op t a b)
  follows_operate op t {x} {y} {a} {b} h k = by (is_number a && is_number b) refl
    where
      by : (p : Bool) → (is_number a && is_number b) ≡ p → Follows session IsWithin (operate op t x y) (E.operate_if p op t a b)
      by true is =
          let parts = both (is_number a) (is_number b) is in
          let inner = follows_same (exact_result op (bits_of t) x y) (λ exact. int_wrap (width_of t) exact) in
          subst (λ m. Follows session IsWithin (operate op t x y) (E.operate_numbers op t m b.least)) (sym (number-within x a parts.0 h))
          (subst (λ n. Follows session IsWithin (operate op t x y) (E.operate_numbers op t x n)) (sym (number-within y b parts.1 k)) inner)
      by false isnt = follows_spans op t x y a b h k
