-- Which keepers are busy: one cycle more, and only those up to a cycle.
use Rattle.std.proofs.Common.{◌≡◌, ℕ, ◌+◌, ◌<◌, Bool, true, false, List, [], ◌∷◌, ◌++◌, refl, ap, ◌∙◌, sym, cond, arith, append-nil, append_assoc}
use Rattle.std.specs.Prelude.{filter, nat_le, nat_lt, not, ◌==◌, ◌&&◌, ◌||◌}
use Rattle.std.proofs.lemmas.Bool.{eqb-true}
use Rattle.std.proofs.lemmas.Bool.Decides.{nat_tests}
use Rattle.std.proofs.lemmas.List.Elements.{filter-append}
use Rattle.std.proofs.lemmas.List.Folds.{list_any-append}
use Rattle.rtio_types.specs.declared.event.Event.{Event}
use Rattle.rtio_types.specs.Time.{cycle_of}
use Rattle.output_merge.specs.Busy.{busy_behind, is_busy, keeps_busy, put_out_behind}
use Rattle.output_merge.specs.Merge.{are_of_cycle}
use Rattle.output_merge.specs.Outputs.{up_to}
use Rattle.output_merge.proofs.Histories.{AreByCycle, AreFrom, filter-within, none-up_to, of_cycle, up_to-next}

-- more keepers stand behind those that were put out of the others
pub put_out-append : (holds : List ℕ) (out xs ys : List (ℕ × Event)) → put_out_behind holds out (xs ++ ys) ≡ put_out_behind holds out xs ++ put_out_behind holds (out ++ put_out_behind holds out xs) ys
put_out-append holds out [] ys = ap (λ (ps : List (ℕ × Event)). put_out_behind holds ps ys) (sym (append-nil out))
put_out-append holds out (p ∷ xs) ys = at (is_busy holds out p) refl (put_out-append holds out xs ys) (put_out-append holds (out ++ p ∷ []) xs ys)
  where
    at : (b : Bool) → is_busy holds out p ≡ b → put_out_behind holds out (xs ++ ys) ≡ put_out_behind holds out xs ++ put_out_behind holds (out ++ put_out_behind holds out xs) ys → put_out_behind holds (out ++ p ∷ []) (xs ++ ys) ≡ put_out_behind holds (out ++ p ∷ []) xs ++ put_out_behind holds ((out ++ p ∷ []) ++ put_out_behind holds (out ++ p ∷ []) xs) ys → put_out_behind holds out (p ∷ xs ++ ys) ≡ put_out_behind holds out (p ∷ xs) ++ put_out_behind holds (out ++ put_out_behind holds out (p ∷ xs)) ys
    at true is busy free = rw is busy
    at false is busy free =
        rw is (ap (λ (ps : List (ℕ × Event)). p ∷ ps)
        (free ∙ ap (λ (ps : List (ℕ × Event)). put_out_behind holds (out ++ p ∷ []) xs ++ put_out_behind holds ps ys) (append_assoc out (p ∷ []) (put_out_behind holds (out ++ p ∷ []) xs))))

pub busy-append : (holds : List ℕ) (out xs ys : List (ℕ × Event)) → busy_behind holds out (xs ++ ys) ≡ busy_behind holds out xs ++ busy_behind holds (out ++ put_out_behind holds out xs) ys
busy-append holds out [] ys = ap (λ (ps : List (ℕ × Event)). busy_behind holds ps ys) (sym (append-nil out))
busy-append holds out (p ∷ xs) ys = at (is_busy holds out p) refl (busy-append holds out xs ys) (busy-append holds (out ++ p ∷ []) xs ys)
  where
    at : (b : Bool) → is_busy holds out p ≡ b → busy_behind holds out (xs ++ ys) ≡ busy_behind holds out xs ++ busy_behind holds (out ++ put_out_behind holds out xs) ys → busy_behind holds (out ++ p ∷ []) (xs ++ ys) ≡ busy_behind holds (out ++ p ∷ []) xs ++ busy_behind holds ((out ++ p ∷ []) ++ put_out_behind holds (out ++ p ∷ []) xs) ys → busy_behind holds out (p ∷ xs ++ ys) ≡ busy_behind holds out (p ∷ xs) ++ busy_behind holds (out ++ put_out_behind holds out (p ∷ xs)) ys
    at true is busy free = rw is (ap (λ (ps : List (ℕ × Event)). p ∷ ps) busy)
    at false is busy free =
        rw is (free ∙ ap (λ (ps : List (ℕ × Event)). busy_behind holds (out ++ p ∷ []) xs ++ busy_behind holds ps ys) (append_assoc out (p ∷ []) (put_out_behind holds (out ++ p ∷ []) xs)))

left-true : (a b : Bool) → (a && b) ≡ true → a ≡ true
left-true true b h = refl
left-true false b h = absurd (cc)

right-true : (a b : Bool) → (a && b) ≡ true → b ≡ true
right-true true b h = h
right-true false b h = absurd (cc)

-- events of one cycle keep no channel busy for one another
none-busy : (holds : List ℕ) (cycle : ℕ) (qs : List (ℕ × Event)) (p : ℕ × Event) → are_of_cycle cycle qs ≡ true → cycle_of p.1 ≡ cycle → is_busy holds qs p ≡ false
none-busy holds cycle [] p all is = refl
none-busy holds cycle (q ∷ qs) p all is =
    let here : cycle_of q.1 ≡ cycle = eqb-true (cycle_of q.1) cycle (left-true (cycle_of q.1 == cycle) _ all) in
    let no : nat_lt (cycle_of q.1) (cycle_of p.1) ≡ false = grind (arith, nat_tests, here, is) in
    let ih : is_busy holds qs p ≡ false = none-busy holds cycle qs p (right-true (cycle_of q.1 == cycle) _ all) is in
    rw (no, ih) (both-false (q.1.channel == p.1.channel))
  where
    both-false : (b : Bool) → ((b && false) || false) ≡ false
    both-false true = refl
    both-false false = refl

busy-same : (holds : List ℕ) (cycle : ℕ) (out qs : List (ℕ × Event)) (p : ℕ × Event) → are_of_cycle cycle qs ≡ true → cycle_of p.1 ≡ cycle → is_busy holds (out ++ qs) p ≡ is_busy holds out p
busy-same holds cycle out qs p all is =
    list_any-append (λ q. keeps_busy holds q p) out qs ∙ ap (λ b. is_busy holds out p || b) (none-busy holds cycle qs p all is)
    ∙ elim (is_busy holds out p) as (λ b. (b || false) ≡ b) [ true ↦ refl | false ↦ refl ]

all-push : (cycle : ℕ) (qs : List (ℕ × Event)) (p : ℕ × Event) → are_of_cycle cycle qs ≡ true → cycle_of p.1 ≡ cycle → are_of_cycle cycle (qs ++ p ∷ []) ≡ true
all-push cycle [] p all is = let here : (cycle_of p.1 == cycle) ≡ true = grind (arith, nat_tests, is) in rw here refl
all-push cycle (q ∷ qs) p all is =
    rw (left-true (cycle_of q.1 == cycle) _ all, all-push cycle qs p (right-true (cycle_of q.1 == cycle) _ all) is) refl

cycle-from : (holds : List ℕ) (cycle : ℕ) (out qs xs : List (ℕ × Event)) → are_of_cycle cycle qs ≡ true → are_of_cycle cycle xs ≡ true → put_out_behind holds (out ++ qs) xs ≡ filter (λ p. not (is_busy holds out p)) xs
cycle-from holds cycle out qs [] before all = refl
cycle-from holds cycle out qs (p ∷ xs) before all =
    let is : cycle_of p.1 ≡ cycle = eqb-true (cycle_of p.1) cycle (left-true (cycle_of p.1 == cycle) _ all) in
    let rest : are_of_cycle cycle xs ≡ true = right-true (cycle_of p.1 == cycle) _ all in
    rw (busy-same holds cycle out qs p before is, append_assoc out qs (p ∷ []), cycle-from holds cycle out qs xs before rest, cycle-from holds cycle out (qs ++ p ∷ []) xs (all-push cycle qs p before is) rest)
    (by-busy (is_busy holds out p) (filter (λ p. not (is_busy holds out p)) xs))
  where
    by-busy : (b : Bool) (ps : List (ℕ × Event)) → cond b ps (p ∷ ps) ≡ cond (not b) (p ∷ ps) ps
    by-busy true ps = refl
    by-busy false ps = refl

cycle-busy-from : (holds : List ℕ) (cycle : ℕ) (out qs xs : List (ℕ × Event)) → are_of_cycle cycle qs ≡ true → are_of_cycle cycle xs ≡ true → busy_behind holds (out ++ qs) xs ≡ filter (λ p. is_busy holds out p) xs
cycle-busy-from holds cycle out qs [] before all = refl
cycle-busy-from holds cycle out qs (p ∷ xs) before all =
    let is : cycle_of p.1 ≡ cycle = eqb-true (cycle_of p.1) cycle (left-true (cycle_of p.1 == cycle) _ all) in
    let rest : are_of_cycle cycle xs ≡ true = right-true (cycle_of p.1 == cycle) _ all in
    rw (busy-same holds cycle out qs p before is, append_assoc out qs (p ∷ []), cycle-busy-from holds cycle out qs xs before rest, cycle-busy-from holds cycle out (qs ++ p ∷ []) xs (all-push cycle qs p before is) rest) refl

-- of the keepers of one cycle those are put out that aren't busy behind what was put out before
pub put_out-cycle : (holds : List ℕ) (cycle : ℕ) (out xs : List (ℕ × Event)) → are_of_cycle cycle xs ≡ true → put_out_behind holds out xs ≡ filter (λ p. not (is_busy holds out p)) xs
put_out-cycle holds cycle out xs all = ap (λ (ps : List (ℕ × Event)). put_out_behind holds ps xs) (sym (append-nil out)) ∙ cycle-from holds cycle out [] xs refl all

pub busy-cycle : (holds : List ℕ) (cycle : ℕ) (out xs : List (ℕ × Event)) → are_of_cycle cycle xs ≡ true → busy_behind holds out xs ≡ filter (λ p. is_busy holds out p) xs
busy-cycle holds cycle out xs all = ap (λ (ps : List (ℕ × Event)). busy_behind holds ps xs) (sym (append-nil out)) ∙ cycle-busy-from holds cycle out [] xs refl all

-- keepers of a cycle or later ones put out none of an earlier one
from-put_out : (holds : List ℕ) (from : ℕ) (out xs : List (ℕ × Event)) → AreFrom from xs → AreFrom from (put_out_behind holds out xs)
from-put_out holds from out [] h = tt
from-put_out holds from out (p ∷ xs) h = at (is_busy holds out p) (from-put_out holds from out xs h.1) (from-put_out holds from (out ++ p ∷ []) xs h.1)
  where
    at : (b : Bool) → AreFrom from (put_out_behind holds out xs) → AreFrom from (put_out_behind holds (out ++ p ∷ []) xs) → AreFrom from (cond b (put_out_behind holds out xs) (p ∷ put_out_behind holds (out ++ p ∷ []) xs))
    at true busy free = busy
    at false busy free = (h.0, free)

from-busy : (holds : List ℕ) (from : ℕ) (out xs : List (ℕ × Event)) → AreFrom from xs → AreFrom from (busy_behind holds out xs)
from-busy holds from out [] h = tt
from-busy holds from out (p ∷ xs) h = at (is_busy holds out p) (from-busy holds from out xs h.1) (from-busy holds from (out ++ p ∷ []) xs h.1)
  where
    at : (b : Bool) → AreFrom from (busy_behind holds out xs) → AreFrom from (busy_behind holds (out ++ p ∷ []) xs) → AreFrom from (cond b (p ∷ busy_behind holds out xs) (busy_behind holds (out ++ p ∷ []) xs))
    at true busy free = (h.0, busy)
    at false busy free = free

-- by rising cycle they stay so
pub by-cycle-put_out : (holds : List ℕ) (out xs : List (ℕ × Event)) → AreByCycle xs → AreByCycle (put_out_behind holds out xs)
by-cycle-put_out holds out [] h = tt
by-cycle-put_out holds out (p ∷ xs) h = at (is_busy holds out p) (by-cycle-put_out holds out xs h.1) (by-cycle-put_out holds (out ++ p ∷ []) xs h.1)
  where
    at : (b : Bool) → AreByCycle (put_out_behind holds out xs) → AreByCycle (put_out_behind holds (out ++ p ∷ []) xs) → AreByCycle (cond b (put_out_behind holds out xs) (p ∷ put_out_behind holds (out ++ p ∷ []) xs))
    at true busy free = busy
    at false busy free = (from-put_out holds (cycle_of p.1) (out ++ p ∷ []) xs h.0, free)

-- what is put out up to a cycle is settled by the keepers up to it
pub up_to-put_out : (holds : List ℕ) (cycle : ℕ) (out xs : List (ℕ × Event)) → AreByCycle xs → up_to cycle (put_out_behind holds out xs) ≡ put_out_behind holds out (up_to cycle xs)
up_to-put_out holds cycle out [] h = refl
up_to-put_out holds cycle out (p ∷ xs) h = at (nat_le (cycle_of p.1) cycle) refl (is_busy holds out p) refl (up_to-put_out holds cycle out xs h.1) (up_to-put_out holds cycle (out ++ p ∷ []) xs h.1)
  where
    at : (w : Bool) → nat_le (cycle_of p.1) cycle ≡ w → (b : Bool) → is_busy holds out p ≡ b → up_to cycle (put_out_behind holds out xs) ≡ put_out_behind holds out (up_to cycle xs) → up_to cycle (put_out_behind holds (out ++ p ∷ []) xs) ≡ put_out_behind holds (out ++ p ∷ []) (up_to cycle xs) → up_to cycle (put_out_behind holds out (p ∷ xs)) ≡ put_out_behind holds out (up_to cycle (p ∷ xs))
    at true within true held busy free = rw (within, held) busy
    at true within false open_ busy free = rw (within, open_, within) (ap (λ (ps : List (ℕ × Event)). p ∷ ps) free)
    at false later b is busy free =
        let lt : cycle < cycle_of p.1 = grind (arith, nat_tests, later) in
        let all : AreFrom (cycle_of p.1) (p ∷ xs) = (omega arith, h.0) in
        none-up_to cycle (cycle_of p.1) (put_out_behind holds out (p ∷ xs)) lt (from-put_out holds (cycle_of p.1) out (p ∷ xs) all)
        ∙ sym (ap (put_out_behind holds out) (none-up_to cycle (cycle_of p.1) (p ∷ xs) lt all))

pub up_to-busy : (holds : List ℕ) (cycle : ℕ) (out xs : List (ℕ × Event)) → AreByCycle xs → up_to cycle (busy_behind holds out xs) ≡ busy_behind holds out (up_to cycle xs)
up_to-busy holds cycle out [] h = refl
up_to-busy holds cycle out (p ∷ xs) h = at (nat_le (cycle_of p.1) cycle) refl (is_busy holds out p) refl (up_to-busy holds cycle out xs h.1) (up_to-busy holds cycle (out ++ p ∷ []) xs h.1)
  where
    at : (w : Bool) → nat_le (cycle_of p.1) cycle ≡ w → (b : Bool) → is_busy holds out p ≡ b → up_to cycle (busy_behind holds out xs) ≡ busy_behind holds out (up_to cycle xs) → up_to cycle (busy_behind holds (out ++ p ∷ []) xs) ≡ busy_behind holds (out ++ p ∷ []) (up_to cycle xs) → up_to cycle (busy_behind holds out (p ∷ xs)) ≡ busy_behind holds out (up_to cycle (p ∷ xs))
    at true within true held busy free = rw (within, held, within) (ap (λ (ps : List (ℕ × Event)). p ∷ ps) busy)
    at true within false open_ busy free = rw (within, open_) free
    at false later b is busy free =
        let lt : cycle < cycle_of p.1 = grind (arith, nat_tests, later) in
        let all : AreFrom (cycle_of p.1) (p ∷ xs) = (omega arith, h.0) in
        none-up_to cycle (cycle_of p.1) (busy_behind holds out (p ∷ xs)) lt (from-busy holds (cycle_of p.1) out (p ∷ xs) all)
        ∙ sym (ap (busy_behind holds out) (none-up_to cycle (cycle_of p.1) (p ∷ xs) lt all))

-- events up to a cycle are of no later one
none-of_next : (cycle : ℕ) (events : List (ℕ × Event)) → of_cycle (cycle + 1) (up_to cycle events) ≡ []
none-of_next cycle [] = refl
none-of_next cycle (p ∷ rest) = at (nat_le (cycle_of p.1) cycle) refl (none-of_next cycle rest)
  where
    at : (w : Bool) → nat_le (cycle_of p.1) cycle ≡ w → of_cycle (cycle + 1) (up_to cycle rest) ≡ [] → of_cycle (cycle + 1) (up_to cycle (p ∷ rest)) ≡ []
    at true within ih = let no : (cycle_of p.1 == cycle + 1) ≡ false = grind (arith, nat_tests, within) in rw (within, no) ih
    at false later ih = rw later ih

-- a filter behind another filter's filter
filter-again : {X : Type 0} (outer inner : X → Bool) (xs : List X) → filter outer (filter inner (filter outer xs)) ≡ filter inner (filter outer xs)
filter-again outer inner [] = refl
filter-again outer inner (x ∷ xs) = at (outer x) refl (inner x) refl (filter-again outer inner xs)
  where
    at : (o : Bool) → outer x ≡ o → (i : Bool) → inner x ≡ i → filter outer (filter inner (filter outer xs)) ≡ filter inner (filter outer xs) → filter outer (filter inner (filter outer (x ∷ xs))) ≡ filter inner (filter outer (x ∷ xs))
    at true out true passes ih = rw (out, passes, out) (ap (λ ys. x ∷ ys) ih)
    at true out false fails ih = rw (out, fails) ih
    at false out i is ih = rw out ih

all-of_cycle : (cycle : ℕ) (events : List (ℕ × Event)) → are_of_cycle cycle (of_cycle cycle events) ≡ true
all-of_cycle cycle [] = refl
all-of_cycle cycle (p ∷ rest) = at (cycle_of p.1 == cycle) refl (all-of_cycle cycle rest)
  where
    at : (b : Bool) → (cycle_of p.1 == cycle) ≡ b → are_of_cycle cycle (of_cycle cycle rest) ≡ true → are_of_cycle cycle (of_cycle cycle (p ∷ rest)) ≡ true
    at true is ih = rw (is, is) ih
    at false is ih = rw is ih

-- of the keepers of the next cycle those are put out that aren't busy behind what was put out up to this one
pub put_out-of_next : (holds : List ℕ) (cycle : ℕ) (xs : List (ℕ × Event)) → AreByCycle xs → of_cycle (cycle + 1) (put_out_behind holds [] xs) ≡ filter (λ p. not (is_busy holds (up_to cycle (put_out_behind holds [] xs)) p)) (of_cycle (cycle + 1) xs)
put_out-of_next holds cycle xs h =
    let out : List (ℕ × Event) = put_out_behind holds [] (up_to cycle xs) in
    let next : List (ℕ × Event) = of_cycle (cycle + 1) xs in
    let free : List (ℕ × Event) = filter (λ p. not (is_busy holds out p)) next in
    sym (filter-within (λ p. cycle_of p.1 == cycle + 1) (λ p. nat_le (cycle_of p.1) (cycle + 1)) (put_out_behind holds [] xs)
    (λ p is. let same : cycle_of p.1 ≡ cycle + 1 = eqb-true (cycle_of p.1) (cycle + 1) is in grind (arith, nat_tests, same)))
    ∙ ap (of_cycle (cycle + 1)) (up_to-put_out holds (cycle + 1) [] xs h ∙ ap (put_out_behind holds []) (up_to-next cycle xs h)
    ∙ put_out-append holds [] (up_to cycle xs) next
    ∙ ap (λ (ps : List (ℕ × Event)). out ++ ps) (put_out-cycle holds (cycle + 1) out next (all-of_cycle (cycle + 1) xs)))
    ∙ filter-append (λ p. cycle_of p.1 == cycle + 1) out free
    ∙ ap (λ (ps : List (ℕ × Event)). ps ++ of_cycle (cycle + 1) free) (ap (of_cycle (cycle + 1)) (sym (up_to-put_out holds cycle [] xs h)) ∙ none-of_next cycle (put_out_behind holds [] xs))
    ∙ filter-again (λ p. cycle_of p.1 == cycle + 1) (λ p. not (is_busy holds out p)) xs
    ∙ ap (λ (ps : List (ℕ × Event)). filter (λ p. not (is_busy holds ps p)) next) (sym (up_to-put_out holds cycle [] xs h))

-- and the others are busy
pub busy-of_next : (holds : List ℕ) (cycle : ℕ) (xs : List (ℕ × Event)) → AreByCycle xs → of_cycle (cycle + 1) (busy_behind holds [] xs) ≡ filter (λ p. is_busy holds (up_to cycle (put_out_behind holds [] xs)) p) (of_cycle (cycle + 1) xs)
busy-of_next holds cycle xs h =
    let out : List (ℕ × Event) = put_out_behind holds [] (up_to cycle xs) in
    let next : List (ℕ × Event) = of_cycle (cycle + 1) xs in
    let held : List (ℕ × Event) = filter (λ p. is_busy holds out p) next in
    sym (filter-within (λ p. cycle_of p.1 == cycle + 1) (λ p. nat_le (cycle_of p.1) (cycle + 1)) (busy_behind holds [] xs)
    (λ p is. let same : cycle_of p.1 ≡ cycle + 1 = eqb-true (cycle_of p.1) (cycle + 1) is in grind (arith, nat_tests, same)))
    ∙ ap (of_cycle (cycle + 1)) (up_to-busy holds (cycle + 1) [] xs h ∙ ap (busy_behind holds []) (up_to-next cycle xs h)
    ∙ busy-append holds [] (up_to cycle xs) next
    ∙ ap (λ (ps : List (ℕ × Event)). busy_behind holds [] (up_to cycle xs) ++ ps) (busy-cycle holds (cycle + 1) out next (all-of_cycle (cycle + 1) xs)))
    ∙ filter-append (λ p. cycle_of p.1 == cycle + 1) (busy_behind holds [] (up_to cycle xs)) held
    ∙ ap (λ (ps : List (ℕ × Event)). ps ++ of_cycle (cycle + 1) held) (ap (of_cycle (cycle + 1)) (sym (up_to-busy holds cycle [] xs h)) ∙ none-of_next cycle (busy_behind holds [] xs))
    ∙ filter-again (λ p. cycle_of p.1 == cycle + 1) (λ p. is_busy holds out p) xs
    ∙ ap (λ (ps : List (ℕ × Event)). filter (λ p. is_busy holds ps p) next) (sym (up_to-put_out holds cycle [] xs h))
