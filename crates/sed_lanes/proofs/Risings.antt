-- The events of a lane, which rise.
use Rattle.std.proofs.Common.{◌≡◌, ℕ, ◌<◌, ◌≤◌, Bool, true, false, List, [], ◌∷◌, ◌++◌, refl, arith, cond}
use Rattle.std.specs.Prelude.{filter, not, ◌==◌, nat_lt, nat_le, ◌&&◌, Option, Some, None}
use Rattle.std.specs.List.{list_all}
use Rattle.std.proofs.lemmas.Bool.Decides.{nat_tests}
use Rattle.rtio_types.specs.declared.event.Event.{Event}
use Rattle.rtio_types.specs.Time.{cycle_of}
use Rattle.sed_lanes.specs.Lanes.{is_later}
use Rattle.sed_lanes.specs.Rows.{are_rising, are_up_to}

both : (a b : Bool) → (a && b) ≡ true → (a ≡ true) × (b ≡ true)
both true b h = (refl, h)
both false b h = absurd (cc)

join : (a b : Bool) → a ≡ true → b ≡ true → (a && b) ≡ true
join a b h k = rw (h, k) refl

-- of events later than a cycle none is of it
pub none-later : (cycle : ℕ) (held : List (ℕ × Event)) → list_all (λ p. nat_lt cycle (cycle_of p.1)) held ≡ true → (filter (λ p. cycle_of p.1 == cycle) held ≡ []) × (filter (λ p. not (cycle_of p.1 == cycle)) held ≡ held)
none-later cycle [] all = (refl, refl)
none-later cycle (p ∷ rest) all =
    let parts = both (nat_lt cycle (cycle_of p.1)) (list_all (λ q. nat_lt cycle (cycle_of q.1)) rest) all in
    let ih = none-later cycle rest parts.1 in
    let other : (cycle_of p.1 == cycle) ≡ false = grind (arith, nat_tests, parts.0) in
    (rw other ih.0, rw (other, ih.1) refl)

pub later-than : (cycle : ℕ) (p : ℕ × Event) (rest : List (ℕ × Event)) → cycle ≤ cycle_of p.1 → list_all (λ q. nat_lt (cycle_of p.1) (cycle_of q.1)) rest ≡ true → list_all (λ q. nat_lt cycle (cycle_of q.1)) rest ≡ true
later-than cycle p [] le all = refl
later-than cycle p (q ∷ rest) le all =
    let parts = both (nat_lt (cycle_of p.1) (cycle_of q.1)) (list_all (λ q. nat_lt (cycle_of p.1) (cycle_of q.1)) rest) all in
    let ih = later-than cycle p rest le parts.1 in
    let here : nat_lt cycle (cycle_of q.1) ≡ true = grind (arith, nat_tests, parts.0, le) in
    join _ _ here ih

-- the first event of rising ones is the only one of its cycle
pub first-of-cycle : (cycle : ℕ) (p : ℕ × Event) (rest : List (ℕ × Event)) → are_rising (p ∷ rest) ≡ true → cycle_of p.1 ≡ cycle → (filter (λ q. cycle_of q.1 == cycle) (p ∷ rest) ≡ p ∷ []) × (filter (λ q. not (cycle_of q.1 == cycle)) (p ∷ rest) ≡ rest)
first-of-cycle cycle p rest rise is =
    let parts = both (list_all (λ q. nat_lt (cycle_of p.1) (cycle_of q.1)) rest) (are_rising rest) rise in
    let le : cycle ≤ cycle_of p.1 = omega (arith, is) in
    let none = none-later cycle rest (later-than cycle p rest le parts.0) in
    let same : (cycle_of p.1 == cycle) ≡ true = grind (arith, nat_tests, is) in
    (rw (same, none.0) refl, rw (same, none.1) refl)

-- where the first event of rising ones is later than a cycle, none is of it
pub first-later : (cycle : ℕ) (p : ℕ × Event) (rest : List (ℕ × Event)) → are_rising (p ∷ rest) ≡ true → cycle < cycle_of p.1 → (filter (λ q. cycle_of q.1 == cycle) (p ∷ rest) ≡ []) × (filter (λ q. not (cycle_of q.1 == cycle)) (p ∷ rest) ≡ p ∷ rest)
first-later cycle p rest rise lt =
    let parts = both (list_all (λ q. nat_lt (cycle_of p.1) (cycle_of q.1)) rest) (are_rising rest) rise in
    let le : cycle ≤ cycle_of p.1 = omega (arith, lt) in
    let here : nat_lt cycle (cycle_of p.1) ≡ true = grind (arith, nat_tests, lt) in
    none-later cycle (p ∷ rest) (join _ _ here (later-than cycle p rest le parts.0))

pub all-filter : (keep test : ℕ × Event → Bool) (held : List (ℕ × Event)) → list_all test held ≡ true → list_all test (filter keep held) ≡ true
all-filter keep test [] all = refl
all-filter keep test (p ∷ rest) all =
    let parts = both (test p) (list_all test rest) all in
    all-filter-at (keep p) parts.0 (all-filter keep test rest parts.1)
  where
    all-filter-at : (b : Bool) → test p ≡ true → list_all test (filter keep rest) ≡ true → list_all test (cond b (p ∷ filter keep rest) (filter keep rest)) ≡ true
    all-filter-at true passes ih = rw passes ih
    all-filter-at false passes ih = ih

-- what a filter leaves of rising events rises
pub rising-filter : (keep : ℕ × Event → Bool) (held : List (ℕ × Event)) → are_rising held ≡ true → are_rising (filter keep held) ≡ true
rising-filter keep [] rise = refl
rising-filter keep (p ∷ rest) rise =
    let parts = both (list_all (λ q. nat_lt (cycle_of p.1) (cycle_of q.1)) rest) (are_rising rest) rise in
    rising-filter-at (keep p) (all-filter keep _ rest parts.0) (rising-filter keep rest parts.1)
  where
    rising-filter-at : (b : Bool) → list_all (λ q. nat_lt (cycle_of p.1) (cycle_of q.1)) (filter keep rest) ≡ true → are_rising (filter keep rest) ≡ true → are_rising (cond b (p ∷ filter keep rest) (filter keep rest)) ≡ true
    rising-filter-at true later ih = rw later ih
    rising-filter-at false later ih = ih

-- what a filter leaves is up to the last cycle
pub up-to-filter : (keep : ℕ × Event → Bool) (last : Option ℕ) (held : List (ℕ × Event)) → are_up_to last held ≡ true → are_up_to last (filter keep held) ≡ true
up-to-filter keep None [] h = refl
up-to-filter keep None (p ∷ rest) h = absurd (cc)
up-to-filter keep (Some last) held h = all-filter keep _ held h

all-append : (test : ℕ × Event → Bool) (xs ys : List (ℕ × Event)) → list_all test xs ≡ true → list_all test ys ≡ true → list_all test (xs ++ ys) ≡ true
all-append test [] ys h k = k
all-append test (x ∷ xs) ys h k =
    let parts = both (test x) (list_all test xs) h in
    rw parts.0 (all-append test xs ys parts.1 k)

pub below-later : (last : Option ℕ) (held : List (ℕ × Event)) (p : ℕ × Event) → are_up_to last held ≡ true → is_later last (cycle_of p.1) ≡ true → list_all (λ q. nat_lt (cycle_of q.1) (cycle_of p.1)) held ≡ true
below-later None [] p up later = refl
below-later None (q ∷ rest) p up later = absurd (cc)
below-later (Some last) [] p up later = refl
below-later (Some last) (q ∷ rest) p up later =
    let parts = both (nat_le (cycle_of q.1) last) (list_all (λ q. nat_le (cycle_of q.1) last) rest) up in
    let ih = below-later (Some last) rest p parts.1 later in
    let here : nat_lt (cycle_of q.1) (cycle_of p.1) ≡ true = grind (arith, nat_tests, parts.0, later) in
    join _ _ here ih

rising-push-at : (held : List (ℕ × Event)) (p : ℕ × Event) → are_rising held ≡ true → list_all (λ q. nat_lt (cycle_of q.1) (cycle_of p.1)) held ≡ true → are_rising (held ++ p ∷ []) ≡ true
rising-push-at [] p rise below = refl
rising-push-at (q ∷ rest) p rise below =
    let parts = both (list_all (λ r. nat_lt (cycle_of q.1) (cycle_of r.1)) rest) (are_rising rest) rise in
    let less = both (nat_lt (cycle_of q.1) (cycle_of p.1)) (list_all (λ r. nat_lt (cycle_of r.1) (cycle_of p.1)) rest) below in
    let all : list_all (λ r. nat_lt (cycle_of q.1) (cycle_of r.1)) (rest ++ p ∷ []) ≡ true =
    all-append (λ r. nat_lt (cycle_of q.1) (cycle_of r.1)) rest (p ∷ []) parts.0 (rw less.0 refl) in
    join _ _ all (rising-push-at rest p parts.1 less.1)

-- rising events go on rising with one that is later than the last cycle
pub rising-push : (last : Option ℕ) (held : List (ℕ × Event)) (p : ℕ × Event) → are_rising held ≡ true → are_up_to last held ≡ true → is_later last (cycle_of p.1) ≡ true → are_rising (held ++ p ∷ []) ≡ true
rising-push last held p rise up later = rising-push-at held p rise (below-later last held p up later)

below-is-up : (held : List (ℕ × Event)) (p : ℕ × Event) → list_all (λ q. nat_lt (cycle_of q.1) (cycle_of p.1)) held ≡ true → list_all (λ q. nat_le (cycle_of q.1) (cycle_of p.1)) (held ++ p ∷ []) ≡ true
below-is-up [] p below = let same : nat_le (cycle_of p.1) (cycle_of p.1) ≡ true = grind (arith, nat_tests) in rw same refl
below-is-up (q ∷ rest) p below =
    let less = both (nat_lt (cycle_of q.1) (cycle_of p.1)) (list_all (λ r. nat_lt (cycle_of r.1) (cycle_of p.1)) rest) below in
    let here : nat_le (cycle_of q.1) (cycle_of p.1) ≡ true = grind (arith, nat_tests, less.0) in
    join _ _ here (below-is-up rest p less.1)

-- they are all up to its cycle
pub up-to-push : (last : Option ℕ) (held : List (ℕ × Event)) (p : ℕ × Event) → are_up_to last held ≡ true → is_later last (cycle_of p.1) ≡ true → are_up_to (Some (cycle_of p.1)) (held ++ p ∷ []) ≡ true
up-to-push last held p up later = below-is-up held p (below-later last held p up later)
