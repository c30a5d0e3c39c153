-- What one step more does to the live events, and one cycle more to the outputs.
use Rattle.std.proofs.Common.{◌≡◌, ℕ, ◌+◌, ◌<◌, ◌≤◌, Bool, true, false, List, [], ◌∷◌, ◌++◌, refl, ap, ◌∙◌, arith, cond}
use Rattle.std.specs.Prelude.{filter, nat_le, nat_lt, ◌==◌, ◌||◌}
use Rattle.std.specs.List.{list_any}
use Rattle.std.proofs.lemmas.Bool.Decides.{nat_tests}
use Rattle.rtio_types.specs.declared.event.Event.{Event}
use Rattle.rtio_types.specs.Time.{cycle_of}
use Rattle.sed_lanes.specs.Verdict.{Verdict, Underflow, Lane, Sequence, Undecided}
use Rattle.sed_lanes.specs.Judged.{Judged, Submitted, Cleared}
use Rattle.output_merge.specs.Live.{live, clears}
use Rattle.output_merge.specs.Outputs.{up_to}

-- a submitted event clears nothing
pub any-clears-submitted : (cycle : ℕ) (rest : List Judged) (number at : ℕ) (e : Event) (v : Verdict) → list_any (clears cycle) (rest ++ Submitted number at e v ∷ []) ≡ list_any (clears cycle) rest
any-clears-submitted cycle [] number at e v = refl
any-clears-submitted cycle (j ∷ rest) number at e v = ap (λ b. clears cycle j || b) (any-clears-submitted cycle rest number at e v)

-- an accepted event is live
pub live-accepted : (judged : List Judged) (number at : ℕ) (e : Event) (k : ℕ) → live (judged ++ Submitted number at e (Lane k) ∷ []) ≡ live judged ++ (number, e) ∷ []
live-accepted [] number at e k = refl
live-accepted (Submitted m at' e' (Lane j) ∷ rest) number at e k =
    rw (any-clears-submitted (cycle_of e') rest number at e (Lane k), live-accepted rest number at e k)
    (elim (list_any (clears (cycle_of e')) rest) as (λ b. cond b (live rest ++ (number, e) ∷ []) ((m, e') ∷ live rest ++ (number, e) ∷ []) ≡ cond b (live rest) ((m, e') ∷ live rest) ++ (number, e) ∷ []) [ true ↦ refl | false ↦ refl ])
live-accepted (Submitted m at' e' Underflow ∷ rest) number at e k = live-accepted rest number at e k
live-accepted (Submitted m at' e' Sequence ∷ rest) number at e k = live-accepted rest number at e k
live-accepted (Submitted m at' e' Undecided ∷ rest) number at e k = live-accepted rest number at e k
live-accepted (Cleared at' ∷ rest) number at e k = live-accepted rest number at e k

pub any-clears-cleared : (cycle : ℕ) (rest : List Judged) (at : ℕ) → list_any (clears cycle) (rest ++ Cleared at ∷ []) ≡ (list_any (clears cycle) rest || nat_lt at cycle)
any-clears-cleared cycle [] at = elim (nat_lt at cycle) as (λ b. (b || false) ≡ b) [ true ↦ refl | false ↦ refl ]
any-clears-cleared cycle (j ∷ rest) at =
    ap (λ b. clears cycle j || b) (any-clears-cleared cycle rest at)
    ∙ elim (clears cycle j) as (λ b. (b || (list_any (clears cycle) rest || nat_lt at cycle)) ≡ ((b || list_any (clears cycle) rest) || nat_lt at cycle)) [ true ↦ refl | false ↦ refl ]

-- after a clearing the events up to its counter are live
pub live-cleared : (judged : List Judged) (at : ℕ) → live (judged ++ Cleared at ∷ []) ≡ up_to at (live judged)
live-cleared [] at = refl
live-cleared (Submitted m at' e' (Lane j) ∷ rest) at = rw (any-clears-cleared (cycle_of e') rest at, live-cleared rest at) (grind (arith, nat_tests))
live-cleared (Submitted m at' e' Underflow ∷ rest) at = live-cleared rest at
live-cleared (Submitted m at' e' Sequence ∷ rest) at = live-cleared rest at
live-cleared (Submitted m at' e' Undecided ∷ rest) at = live-cleared rest at
live-cleared (Cleared at' ∷ rest) at = live-cleared rest at

-- each of the events is of this cycle or a later one
abbrev pub AreFrom : ℕ → List (ℕ × Event) → Type 0
AreFrom cycle [] = Unit {0}
AreFrom cycle (p ∷ rest) = (cycle ≤ cycle_of p.1) × AreFrom cycle rest

-- the events stand in the order of their cycles
abbrev pub AreByCycle : List (ℕ × Event) → Type 0
AreByCycle [] = Unit {0}
AreByCycle (p ∷ rest) = AreFrom (cycle_of p.1) rest × AreByCycle rest

within-at : {X : Type 0} (inner outer : X → Bool) (x : X) (xs : List X) (i o : Bool) → inner x ≡ i → outer x ≡ o → (i ≡ true → o ≡ true) → filter inner (filter outer xs) ≡ filter inner xs → filter inner (cond o (x ∷ filter outer xs) (filter outer xs)) ≡ cond i (x ∷ filter inner xs) (filter inner xs)
within-at inner outer x xs true true is_inner is_outer implies ih = rw is_inner (ap (λ ys. x ∷ ys) ih)
within-at inner outer x xs true false is_inner is_outer implies ih = let both : false ≡ true = implies refl in absurd (cc)
within-at inner outer x xs false true is_inner is_outer implies ih = rw is_inner ih
within-at inner outer x xs false false is_inner is_outer implies ih = ih

-- a wider filter before a narrower one changes nothing
pub filter-within : {X : Type 0} (inner outer : X → Bool) (xs : List X) → ((x : X) → inner x ≡ true → outer x ≡ true) → filter inner (filter outer xs) ≡ filter inner xs
filter-within inner outer [] implies = refl
filter-within inner outer (x ∷ xs) implies = within-at inner outer x xs (inner x) (outer x) refl refl (implies x) (filter-within inner outer xs implies)

pub none-up_to : (cycle from : ℕ) (events : List (ℕ × Event)) → cycle < from → AreFrom from events → up_to cycle events ≡ []
none-up_to cycle from [] lt h = refl
none-up_to cycle from (p ∷ rest) lt h =
    let no : nat_le (cycle_of p.1) cycle ≡ false = grind (arith, nat_tests, lt, h.0) in
    rw no (none-up_to cycle from rest lt h.1)

abbrev pub of_cycle : ℕ → List (ℕ × Event) → List (ℕ × Event)
of_cycle cycle events = filter (λ p. cycle_of p.1 == cycle) events

-- one cycle more adds the events of that cycle behind the others
pub up_to-next : (cycle : ℕ) (events : List (ℕ × Event)) → AreByCycle events → up_to (cycle + 1) events ≡ up_to cycle events ++ of_cycle (cycle + 1) events
up_to-next cycle [] h = refl
up_to-next cycle (p ∷ rest) h =
    let ih : up_to (cycle + 1) rest ≡ up_to cycle rest ++ of_cycle (cycle + 1) rest = up_to-next cycle rest h.1 in
    let none : cycle < cycle_of p.1 → up_to cycle rest ≡ [] = λ lt. none-up_to cycle (cycle_of p.1) rest lt h.0 in
    grind (arith, nat_tests, ih, none)
