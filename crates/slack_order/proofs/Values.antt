-- Names, elements, operators and moments follow those of the other run.
use Rattle.std.proofs.Common.{◌≡◌, ℕ, zero, suc, Bool, true, false, List, [], ◌∷◌, length, Option, Some, None, refl, sym, ap, subst}
use Rattle.std.specs.Prelude.{ℤ, pos, negsuc, ◌&&◌, bytes_eq, slice_get, slice_set, unsigned_abs, option_map, if◌then◌else◌}
use Rattle.std.specs.List.{list_all}
use Rattle.std.specs.Int.{w64, int_wrap}
use Rattle.rtio_types.specs.declared.outcome.Exc.{Exc}
use Rattle.rtio_types.specs.declared.outcome.Exc.TheVariants.{IndexError, ZeroDivisionError}
use Rattle.kern_syntax.specs.declared.expression.BinaryOperator.{BinaryOperator}
use Rattle.kern_syntax.specs.declared.expression.BinaryOperator.TheVariants as O
use Rattle.kern_syntax.specs.Tree.{Bytes}
use Rattle.kern_calls.specs.declared.types.ValueType.{ValueType}
use Rattle.kern_calls.specs.declared.types.ValueType.TheVariants as V
use Rattle.kern_calls.specs.Types.{width_of, bits_of}
use Rattle.timeline_sem.specs.Numbers.{exact_result}
use Rattle.slack_meaning.specs.declared.span.Span.{Span}
use Rattle.slack_meaning.specs.Spans.{exactly, is_number, is_near, span_sum, span_less}
use Rattle.slack_meaning.specs.Actions.{Held, number, list, give, number_if, span_if, within_near, ◌>>=◌}
use Rattle.slack_meaning.specs.Expressions.{held_by, with_held, span_in, spans_in, are_numbers, read, write as write_name, or_raise, place_in, with_item, read_element, write_element, less, operate_spans, operate_numbers, operate_if, operate}
use Rattle.slack_meaning.specs.Timeline.{moved_if, moved}
use Rattle.slack_meaning.proofs.Spans.{both}
use Rattle.slack_order.proofs.Inside.{IsInside, inside-exactly, number-inside, sum-inside, less-inside, wrapped-inside, and-true}
use Rattle.slack_order.proofs.Standing.{AreInside, IsHeldInside, IsThere, AreNamesInside, by_raising, normally}
use Rattle.slack_order.proofs.Following.{Follows, FollowsPart, follows_bind, follows_same, follows_give, follows_stop, follows_open, with-values, follows_number, follows_near}

-- what a name holds
held-inside : (xs ys : List (Bytes × Held)) (x : Bytes) → AreNamesInside xs ys → IsHeldInside (held_by xs x) (held_by ys x)
held-inside [] [] x h = inside-exactly (pos 0)
held-inside (e ∷ xs) (f ∷ ys) x h = by (bytes_eq e.0 x) (bytes_eq f.0 x) (ap (λ n. bytes_eq n x) h.0.name) (held-inside xs ys x h.1)
  where
    by : (b c : Bool) → b ≡ c → IsHeldInside (held_by xs x) (held_by ys x) → IsHeldInside (if b then e.1 else held_by xs x) (if c then f.1 else held_by ys x)
    by true true is rest = h.0.has
    by false false is rest = rest
    by true false is rest = absurd (cc)
    by false true is rest = absurd (cc)
held-inside [] (f ∷ ys) x h = absurd h
held-inside (e ∷ xs) [] x h = absurd h

new-inside : (xs ys : List (Bytes × Held)) (x : Bytes) (v w : Held) → AreNamesInside xs ys → IsHeldInside v w → AreNamesInside (with_held xs x v) (with_held ys x w)
new-inside [] [] x v w h new = tt
new-inside (e ∷ xs) (f ∷ ys) x v w h new = by (bytes_eq e.0 x) (bytes_eq f.0 x) (ap (λ n. bytes_eq n x) h.0.name) (new-inside xs ys x v w h.1 new)
  where
    by : (b c : Bool) → b ≡ c → AreNamesInside (with_held xs x v) (with_held ys x w) → AreNamesInside (if b then (e.0, v) ∷ xs else e ∷ with_held xs x v) (if c then (f.0, w) ∷ ys else f ∷ with_held ys x w)
    by true true is rest = (record { name = h.0.name; has = new }, h.1)
    by false false is rest = (h.0, rest)
    by true false is rest = absurd (cc)
    by false true is rest = absurd (cc)
new-inside [] (f ∷ ys) x v w h new = absurd h
new-inside (e ∷ xs) [] x v w h new = absurd h

pub span-in : (v w : Held) → IsHeldInside v w → IsInside (span_in v) (span_in w)
span-in (number u) (number v) h = h
span-in (list us) (list vs) h = inside-exactly (pos 0)
span-in (number u) (list vs) h = absurd h
span-in (list us) (number v) h = absurd h

pub spans-in : (v w : Held) → IsHeldInside v w → AreInside (spans_in v) (spans_in w)
spans-in (number u) (number v) h = tt
spans-in (list us) (list vs) h = h
spans-in (number u) (list vs) h = absurd h
spans-in (list us) (number v) h = absurd h

-- lists that go together are as long
pub same-length : (us vs : List Span) → AreInside us vs → length us ≡ length vs
same-length [] [] h = refl
same-length (u ∷ us) (v ∷ vs) h = ap suc (same-length us vs h.1)
same-length [] (v ∷ vs) h = absurd h
same-length (u ∷ us) [] h = absurd h

-- where the other run has numbers alone
all-numbers : (us vs : List Span) → AreInside us vs → list_all is_number vs ≡ true → list_all is_number us ≡ true
all-numbers [] [] h is = refl
all-numbers (u ∷ us) (v ∷ vs) h is =
    let parts = both (is_number v) (list_all is_number vs) is in
    and-true (is_number u) (list_all is_number us) (number-inside u v h.0 parts.0) (all-numbers us vs h.1 parts.1)
all-numbers [] (v ∷ vs) h is = absurd h
all-numbers (u ∷ us) [] h is = absurd h

pub numbers-inside : (v w : Held) → IsHeldInside v w → are_numbers w ≡ true → are_numbers v ≡ true
numbers-inside (number u) (number v) h is = number-inside u v h is
numbers-inside (list us) (list vs) h is = all-numbers us vs h is
numbers-inside (number u) (list vs) h is = absurd h
numbers-inside (list us) (number v) h is = absurd h

got-inside : (us vs : List Span) (i : ℕ) → AreInside us vs → IsThere IsInside (slice_get us i) (slice_get vs i)
got-inside [] [] i h = tt
got-inside (u ∷ us) (v ∷ vs) zero h = h.0
got-inside (u ∷ us) (v ∷ vs) (suc i) h = got-inside us vs i h.1
got-inside [] (v ∷ vs) i h = absurd h
got-inside (u ∷ us) [] i h = absurd h

set-inside : (us vs : List Span) (i : ℕ) (u v : Span) → AreInside us vs → IsInside u v → AreInside (slice_set us i u) (slice_set vs i v)
set-inside [] [] i u v h new = tt
set-inside (a ∷ us) (b ∷ vs) zero u v h new = (new, h.1)
set-inside (a ∷ us) (b ∷ vs) (suc i) u v h new = (h.0, set-inside us vs i u v h.1 new)
set-inside [] (b ∷ vs) i u v h new = absurd h
set-inside (a ∷ us) [] i u v h new = absurd h

place-inside : (us vs : List Span) (i : ℤ) → AreInside us vs → IsThere IsInside (place_in us i) (place_in vs i)
place-inside us vs (pos i) h = got-inside us vs i h
place-inside us vs (negsuc i) h = tt

item-inside : (us vs : List Span) (i : ℤ) (u v : Span) → AreInside us vs → IsInside u v → IsThere AreInside (with_item us i u) (with_item vs i v)
item-inside us vs i u v h new = by (place_in us i) (place_in vs i) (place-inside us vs i h)
  where
    by : (o p : Option Span) → IsThere IsInside o p → IsThere AreInside (option_map (λ old. slice_set us (unsigned_abs i) u) o) (option_map (λ old. slice_set vs (unsigned_abs i) v) p)
    by None None k = tt
    by (Some a) (Some b) k = set-inside us vs (unsigned_abs i) u v h new
    by None (Some b) k = absurd k
    by (Some a) None k = absurd k

pub follows_read : (x : Bytes) → Follows IsHeldInside (read x) (read x)
follows_read x =
    record { from = λ a b inside. normally (held-inside a.values b.values x inside.values) inside }

pub follows_write : (x : Bytes) (v w : Held) → IsHeldInside v w → FollowsPart (write_name x v) (write_name x w)
follows_write x v w h =
    record { from = λ a b inside. normally tt (with-values a b (with_held a.values x v) (with_held b.values x w) inside (new-inside a.values b.values x v w inside.values h)) }

follows_there : {A : Type 0} {good : A → A → Type 0} (o p : Option A) (x : Exc) → IsThere good o p → Follows good (or_raise o x) (or_raise p x)
follows_there None None x h = follows_stop (by_raising x)
follows_there (Some a) (Some b) x h = follows_give h
follows_there None (Some b) x h = absurd h
follows_there (Some a) None x h = absurd h

pub follows_read_element : (x : Bytes) {u v : Span} → IsInside u v → Follows IsInside (read_element x u) (read_element x v)
follows_read_element x h =
    follows_same (follows_number h)
    (λ place. follows_bind (follows_read x)
    (λ v w k. follows_there (place_in (spans_in v) place) (place_in (spans_in w) place) IndexError (place-inside (spans_in v) (spans_in w) place (spans-in v w k))))

pub follows_write_element : (x : Bytes) {u v a b : Span} → IsInside u v → IsInside a b → FollowsPart (write_element x u a) (write_element x v b)
follows_write_element x {u} {v} {a} {b} h new =
    follows_same (follows_number h)
    (λ place. follows_bind (follows_read x)
    (λ v w k. follows_bind (follows_there (with_item (spans_in v) place a) (with_item (spans_in w) place b) IndexError (item-inside (spans_in v) (spans_in w) place a b (spans-in v w k) new))
    (λ us vs l. follows_write x (list us) (list vs) l)))

-- where this run adds numbers and the other spans
follows_wrapped : (u v : Span) → IsInside u v → (p : Bool) → is_near v ≡ p → Follows IsInside (give (exactly (int_wrap w64 u.least))) (span_if p v)
follows_wrapped u v h true near = follows_give (wrapped-inside u v h near)
follows_wrapped u v h false far = follows_open (give (exactly (int_wrap w64 u.least))) _

-- a moment moved on by a time
pub follows_moved : {a b c d : Span} → IsInside a c → IsInside b d → Follows IsInside (moved a b) (moved c d)
follows_moved {a} {b} {c} {d} h k = by (is_number c && is_number d) refl
  where
    apart : (p : Bool) → Follows IsInside (moved_if p a b) (within_near (span_sum c d))
    apart true = follows_wrapped (span_sum a b) (span_sum c d) (sum-inside a b c d h k) (is_near (span_sum c d)) refl
    apart false = follows_near (sum-inside a b c d h k)

    by : (p : Bool) → (is_number c && is_number d) ≡ p → Follows IsInside (moved a b) (moved_if p c d)
    by true is =
        let parts = both (is_number c) (is_number d) is in
        let here = and-true (is_number a) (is_number b) (number-inside a c h parts.0) (number-inside b d k parts.1) in
        subst (λ q. Follows IsInside (moved_if q a b) (moved_if true c d)) (sym here)
        (subst (λ n. Follows IsInside (moved_if true a b) (give (exactly (int_wrap w64 n)))) same (follows_give (inside-exactly (int_wrap w64 (span_sum a b).least))))
      where
        same : (span_sum a b).least ≡ (span_sum c d).least
        same = (sum-inside a b c d h k).least
    by false isnt = apart (is_number a && is_number b)

-- an operator on the same numbers
there-same : {A : Type 0} (o : Option A) → IsThere ◌≡◌ o o
there-same None = tt
there-same (Some a) = refl

follows_result : (op : BinaryOperator) (t : ValueType) (m n : ℤ) → Follows IsInside (operate_numbers op t m n) (operate_numbers op t m n)
follows_result op t m n =
    follows_same (follows_there (exact_result op (bits_of t) m n) (exact_result op (bits_of t) m n) ZeroDivisionError (there-same (exact_result op (bits_of t) m n)))
    (λ exact. follows_give (inside-exactly (int_wrap (width_of t) exact)))

-- a sum where the other run has a span
follows_sum : {a b c d : Span} → IsInside a c → IsInside b d → (p : Bool) → Follows IsInside (operate_if p O.Add V.Int64 a b) (within_near (span_sum c d))
follows_sum {a} {b} {c} {d} h k true = follows_wrapped (span_sum a b) (span_sum c d) (sum-inside a b c d h k) (is_near (span_sum c d)) refl
follows_sum h k false = follows_near (sum-inside _ _ _ _ h k)

-- a difference where it has one
follows_less : {a b c d : Span} → IsInside a c → IsInside b d → (p : Bool) → Follows IsInside (operate_if p O.Subtract V.Int64 a b) (less c d)
follows_less {a} {b} {c} {d} h k true = by (is_number d) refl
  where
    inside : IsInside (span_less a b.least) (span_less c d.least)
    inside = subst (λ n. IsInside (span_less a b.least) (span_less c n)) k.least (less-inside a c b.least h)

    by : (q : Bool) → is_number d ≡ q → Follows IsInside (operate_if true O.Subtract V.Int64 a b) (number_if q d >>= (λ n. within_near (span_less c n)))
    by true is = follows_wrapped (span_less a b.least) (span_less c d.least) inside (is_near (span_less c d.least)) refl
    by false isnt = record { from = λ s u lies. (follows_open (operate_if true O.Subtract V.Int64 a b) _).from s u lies }
follows_less {a} {b} {c} {d} h k false = follows_same (follows_number k) (λ n. follows_near (less-inside a c n h))

follows_spans : (op : BinaryOperator) (t : ValueType) {a b c d : Span} → IsInside a c → IsInside b d → (p : Bool) → Follows IsInside (operate_if p op t a b) (operate_spans op t c d)
follows_spans O.Add V.Int64 h k p = follows_sum h k p
follows_spans O.Subtract V.Int64 h k p = follows_less h k p
follows_spans O.Add t {a} {b} h k p = follows_open (operate_if p O.Add t a b) _
follows_spans O.Subtract t {a} {b} h k p = follows_open (operate_if p O.Subtract t a b) _
follows_spans op t {a} {b} h k p = follows_open (operate_if p op t a b) _

pub follows_operate : (op : BinaryOperator) (t : ValueType) {a b c d : Span} → IsInside a c → IsInside b d → Follows IsInside (operate op t a b) (operate op t c d)
follows_operate op t {a} {b} {c} {d} h k = by (is_number c && is_number d) refl
  where
    by : (p : Bool) → (is_number c && is_number d) ≡ p → Follows IsInside (operate op t a b) (operate_if p op t c d)
    by true is =
        let parts = both (is_number c) (is_number d) is in
        let here = and-true (is_number a) (is_number b) (number-inside a c h parts.0) (number-inside b d k parts.1) in
        subst (λ q. Follows IsInside (operate_if q op t a b) (operate_if true op t c d)) (sym here)
        (subst (λ m. Follows IsInside (operate_numbers op t a.least b.least) (operate_numbers op t m d.least)) h.least
        (subst (λ n. Follows IsInside (operate_numbers op t a.least b.least) (operate_numbers op t a.least n)) k.least
        (follows_result op t a.least b.least)))
    by false isnt = follows_spans op t h k (is_number a && is_number b)
