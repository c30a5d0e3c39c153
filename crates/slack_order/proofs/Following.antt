-- A part of a kernel follows the same part of the other run: the calculus.
use Rattle.std.proofs.Common.{◌≡◌, ℕ, zero, suc, Bool, true, false, List, Option, refl, sym, subst}
use Rattle.std.specs.Prelude.{⊤, ◌||◌}
use Rattle.kern_syntax.specs.Tree.{Bytes}
use Rattle.slack_meaning.specs.declared.verdict.OpenKind.{OpenKind}
use Rattle.slack_meaning.specs.declared.verdict.Stopped.TheVariants as W
use Rattle.slack_meaning.specs.declared.span.Span.{Span}
use Rattle.slack_meaning.specs.Spans.{is_number, is_near}
use Rattle.slack_meaning.specs.declared.span.SpanEvent.{SpanEvent}
use Rattle.slack_meaning.specs.Actions.{Held, State, Reason, Completion, Action, go_on, ◌>>=◌, ◌>>◌, give, skip, stop, leave_open, take_unit_of, take_unit, cursor_now, set_cursor, number_if, as_number, span_if, within_near, within_reach}
use Rattle.slack_order.proofs.Inside.{IsInside, number-inside, near-inside, reach-inside}
use Rattle.slack_order.proofs.Standing.{AreNamesInside, IsThere, AreEventsInside, LiesInside, EndsAlike, by_budget, Meets, stopped, normally, alike}

-- from each state inside one of the other run, the ends meet
pub record Follows {A : Type 0} (good : A → A → Type 0) (m n : Action A) : Type 0 where
  pub from : (a b : State) → LiesInside a b → Meets good (m a) (n b)

-- where there is nothing to say of a value
abbrev pub Any : ⊤ → ⊤ → Type 0
Any x y = Unit {0}

-- so does a part without a value
abbrev pub FollowsPart : Action ⊤ → Action ⊤ → Type 0
FollowsPart m n = Follows Any m n

pub meets_go_on : {A B : Type 0} {good : A → A → Type 0} {better : B → B → Type 0} {c d : Completion A} {f g : A → Action B}
    → Meets good c d → ((x y : A) → good x y → Follows better (f x) (g y)) → Meets better (go_on c f) (go_on d g)
meets_go_on (stopped verdict b) k = stopped verdict b
meets_go_on (normally h inside) k = (k _ _ h).from _ _ inside
meets_go_on (alike ends inside) k = alike ends inside

-- one part and then another
pub follows_bind : {A B : Type 0} {good : A → A → Type 0} {better : B → B → Type 0} {m n : Action A} {f g : A → Action B}
    → Follows good m n → ((x y : A) → good x y → Follows better (f x) (g y)) → Follows better (m >>= f) (n >>= g)
follows_bind h k = record { from = λ a b inside. meets_go_on (h.from a b inside) k }

pub follows_then : {A B : Type 0} {good : A → A → Type 0} {better : B → B → Type 0} {m n : Action A} {k l : Action B}
    → Follows good m n → Follows better k l → Follows better (m >> k) (n >> l)
follows_then h k = record { from = λ a b inside. meets_go_on (h.from a b inside) (λ x y same. k) }

-- where both have the same value
pub follows_same : {A B : Type 0} {better : B → B → Type 0} {m n : Action A} {f g : A → Action B}
    → Follows ◌≡◌ m n → ((x : A) → Follows better (f x) (g x)) → Follows better (m >>= f) (n >>= g)
follows_same {better} {f} {g} h k =
    follows_bind h (λ x y same. subst (λ z. Follows better (f x) (g z)) same (k x))

pub follows_give : {A : Type 0} {good : A → A → Type 0} {x y : A} → good x y → Follows good (give x) (give y)
follows_give h = record { from = λ a b inside. normally h inside }

pub follows_skip : FollowsPart skip skip
follows_skip = record { from = λ a b inside. normally tt inside }

pub follows_stop : {A : Type 0} {good : A → A → Type 0} {r s : Reason} → EndsAlike r s → Follows good (stop r) (stop s)
follows_stop h = record { from = λ a b inside. alike h inside }

-- where the other run can't go on
pub follows_open : {A : Type 0} {good : A → A → Type 0} (m : Action A) (why : OpenKind) → Follows good m (leave_open why)
follows_open m why = record { from = λ a b inside. stopped (W.Unknown b.requests why) b }

pub with-units : (a b : State) (m n : ℕ) → LiesInside a b → m ≡ n → LiesInside (record a { units = m }) (record b { units = n })
with-units a b m n h same =
    record { values = h.values; cursor = h.cursor; units = same; collected = h.collected; bounds = h.bounds }

pub with-cursor : (a b : State) (u v : Span) → LiesInside a b → IsInside u v → LiesInside (record a { cursor = u }) (record b { cursor = v })
with-cursor a b u v h new =
    record { values = h.values; cursor = new; units = h.units; collected = h.collected; bounds = h.bounds }

pub with-values : (a b : State) (xs ys : List (Bytes × Held)) → LiesInside a b → AreNamesInside xs ys → LiesInside (record a { values = xs }) (record b { values = ys })
with-values a b xs ys h new =
    record { values = new; cursor = h.cursor; units = h.units; collected = h.collected; bounds = h.bounds }

pub with-collected : (a b : State) (c d : Option (List SpanEvent)) → LiesInside a b → IsThere AreEventsInside c d → LiesInside (record a { collected = c }) (record b { collected = d })
with-collected a b c d h new =
    record { values = h.values; cursor = h.cursor; units = h.units; collected = new; bounds = h.bounds }

pub follows_unit : FollowsPart take_unit take_unit
follows_unit = record { from = λ a b inside. by a b inside a.units b.units inside.units }
  where
    by : (a b : State) → LiesInside a b → (m n : ℕ) → m ≡ n → Meets Any (take_unit_of m a) (take_unit_of n b)
    by a b inside zero zero same = alike by_budget inside
    by a b inside (suc m) (suc n) same = normally tt (with-units a b m n inside cc)
    by a b inside zero (suc n) same = absurd cc
    by a b inside (suc m) zero same = absurd cc

pub follows_cursor : Follows IsInside cursor_now cursor_now
follows_cursor = record { from = λ a b inside. normally inside.cursor inside }

pub follows_set : {u v : Span} → IsInside u v → FollowsPart (set_cursor u) (set_cursor v)
follows_set {u} {v} h = record { from = λ a b inside. normally tt (with-cursor a b u v inside h) }

-- where a number is wanted
pub follows_number : {u v : Span} → IsInside u v → Follows ◌≡◌ (as_number u) (as_number v)
follows_number {u} {v} h = by (is_number v) refl
  where
    by : (p : Bool) → is_number v ≡ p → Follows ◌≡◌ (as_number u) (number_if p v)
    by true is = subst (λ q. Follows ◌≡◌ (number_if q u) (give v.least)) (sym (number-inside u v h is)) (follows_give h.least)
    by false isnt = follows_open (as_number u) _

-- where a span may not reach too far
follows_if : (p q : Bool) {u v : Span} → (q ≡ true → p ≡ true) → IsInside u v → Follows IsInside (span_if p u) (span_if q v)
follows_if p false {u} near h = follows_open (span_if p u) _
follows_if true true near h = follows_give h
follows_if false true near h = absurd (let far : false ≡ true = near refl in cc)

pub follows_near : {u v : Span} → IsInside u v → Follows IsInside (within_near u) (within_near v)
follows_near {u} {v} h = follows_if (is_near u) (is_near v) (near-inside u v h) h

pub follows_reach : {u v : Span} → IsInside u v → Follows IsInside (within_reach u) (within_reach v)
follows_reach {u} {v} h = follows_if (is_number u || is_near u) (is_number v || is_near v) (reach-inside u v h) h
