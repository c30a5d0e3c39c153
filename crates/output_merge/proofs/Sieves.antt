-- What a sieve knows of the channels is what the events that were put out make of them.
use Rattle.std.proofs.Common.{inl, inr, ◌≡◌, ◌≢◌, ℕ, zero, suc, ◌+◌, ◌-◌, ◌<◌, ◌≤◌, ◌⊎◌, Bool, true, false, List, [], ◌∷◌, ◌++◌, drop, get_or, length, map, set, take, refl, ap, ◌∙◌, sym, arith, cond, append_assoc, add-one}
use Rattle.std.specs.Prelude.{Some, filter, max, nat_lt, not, ◌==◌, ◌&&◌, ◌||◌}
use Rattle.std.specs.List.{list_all, range_with_len, remove, slice_get}
use Rattle.std.proofs.lemmas.Bool.{and_parts, cases_lt, eq-eqb, eqb-true, le-ltb, lt-ltb, ltb-false, ltb-true}
use Rattle.std.proofs.lemmas.Bool.Decides.{nat_tests}
use Rattle.std.proofs.lemmas.List.{get_or_past, length-take-le, set_past}
use Rattle.std.proofs.lemmas.List.Edits.{remove-append_right}
use Rattle.std.proofs.lemmas.List.FromFn.{get_or-map-range_with_len, length-map-range_with_len}
use Rattle.std.proofs.lemmas.Option.{slice_get_within}
use Rattle.rtio_types.specs.declared.event.Event.{Event}
use Rattle.rtio_types.specs.Time.{cycle_of}
use Rattle.sed_lanes.proofs.Histories.{map-set_at}
use Rattle.output_merge.specs.Busy.{hold_of, is_busy}
use Rattle.output_merge.specs.Merge.{are_of_cycle}
use Rattle.output_merge.specs.Sieve.{are_before, free_from, held_by, holds_after, is_held}
use Rattle.output_merge.proofs.Placing.{drop-item}
use Rattle.output_merge.proofs.Summing.{take-item}

-- one event more on the channel
free-own : (holds : List ℕ) (channel : ℕ) (out : List (ℕ × Event)) (p : ℕ × Event) → (p.1.channel == channel) ≡ true → free_from holds channel (out ++ p ∷ []) ≡ max (free_from holds channel out) (cycle_of p.1 + hold_of holds channel)
free-own holds channel [] p own = rw own (omega arith)
free-own holds channel (q ∷ out) p own = at (q.1.channel == channel) (free-own holds channel out p own)
  where
    at : (b : Bool) → free_from holds channel (out ++ p ∷ []) ≡ max (free_from holds channel out) (cycle_of p.1 + hold_of holds channel) → cond b (max (cycle_of q.1 + hold_of holds channel) (free_from holds channel (out ++ p ∷ []))) (free_from holds channel (out ++ p ∷ [])) ≡ max (cond b (max (cycle_of q.1 + hold_of holds channel) (free_from holds channel out)) (free_from holds channel out)) (cycle_of p.1 + hold_of holds channel)
    at true ih = omega (arith, ih)
    at false ih = ih

-- one on another channel
free-other : (holds : List ℕ) (channel : ℕ) (out : List (ℕ × Event)) (p : ℕ × Event) → (p.1.channel == channel) ≡ false → free_from holds channel (out ++ p ∷ []) ≡ free_from holds channel out
free-other holds channel [] p other = rw other refl
free-other holds channel (q ∷ out) p other =
    ap (λ (n : ℕ). cond (q.1.channel == channel) (max (cycle_of q.1 + hold_of holds channel) n) n) (free-other holds channel out p other)

map-above : (f g : ℕ → ℕ) (a n i : ℕ) → a + n ≤ i → ((j : ℕ) → i ≢ j → g j ≡ f j) → map g (range_with_len a n) ≡ map f (range_with_len a n)
map-above f g a zero i le same = refl
map-above f g a (suc n) i le same =
    let differ : i ≢ a = omega (arith, le) in
    let above : a + 1 + n ≤ i = omega (arith, le) in
    ap (λ (x : ℕ). x ∷ map g (range_with_len (a + 1) n)) (same a differ) ∙ ap (λ (ys : List ℕ). f a ∷ ys) (map-above f g (a + 1) n i above same)

-- an event that is put out keeps its own channel busy, and no other
pub hold-next : (holds : List ℕ) (out : List (ℕ × Event)) (p : ℕ × Event) → held_by (holds_after holds out) p.1 ≡ holds_after holds (out ++ p ∷ [])
hold-next holds out p = ap (λ (free : List ℕ). record { holds = holds; free_from = free }) (sym (next (cases_lt p.1.channel 32)))
  where
    other : (i : ℕ) → p.1.channel ≢ i → free_from holds i (out ++ p ∷ []) ≡ free_from holds i out
    other i differ = free-other holds i out p (grind (arith, nat_tests, differ))

    next : (p.1.channel < 32) ⊎ (32 ≤ p.1.channel) → map (λ i. free_from holds i (out ++ p ∷ [])) (range_with_len 0 32) ≡ set (map (λ i. free_from holds i out) (range_with_len 0 32)) p.1.channel (max (get_or (map (λ i. free_from holds i out) (range_with_len 0 32)) p.1.channel 0) (cycle_of p.1 + hold_of holds p.1.channel))
    next (inl lt) =
        let was : get_or (map (λ i. free_from holds i out) (range_with_len 0 32)) p.1.channel 0 ≡ free_from holds p.1.channel out =
        get_or-map-range_with_len (λ i. free_from holds i out) 0 32 p.1.channel p.1.channel 0 lt (omega arith) in
        map-set_at (λ i. free_from holds i out) (λ i. free_from holds i (out ++ p ∷ [])) 0 32 p.1.channel p.1.channel (omega arith) lt other
        ∙ ap (λ (n : ℕ). set (map (λ i. free_from holds i out) (range_with_len 0 32)) p.1.channel n)
        (free-own holds p.1.channel out p (eq-eqb p.1.channel p.1.channel refl) ∙ ap (λ (n : ℕ). max n (cycle_of p.1 + hold_of holds p.1.channel)) (sym was))
    next (inr past) =
        let long : length (map (λ i. free_from holds i out) (range_with_len 0 32)) ≡ 32 = length-map-range_with_len (λ i. free_from holds i out) 0 32 in
        map-above (λ i. free_from holds i out) (λ i. free_from holds i (out ++ p ∷ [])) 0 32 p.1.channel (omega (arith, past)) other
        ∙ sym (set_past (map (λ i. free_from holds i out) (range_with_len 0 32)) p.1.channel _ (omega (arith, long, past)))

or-true : (b : Bool) → (b || true) ≡ true
or-true true = refl
or-true false = refl

or-false : (b : Bool) → (b || false) ≡ b
or-false true = refl
or-false false = refl

reach : (c q h from : ℕ) (r : Bool) → q < c → nat_lt c from ≡ r → nat_lt c (max (q + h) from) ≡ ((nat_lt q c && nat_lt (c - q) h) || r)
reach c q h from true before is =
    let far : c < from = ltb-true c from is in
    lt-ltb c (max (q + h) from) (omega (arith, far)) ∙ sym (or-true (nat_lt q c && nat_lt (c - q) h))
reach c q h from false before is =
    by-order (cases_lt c (q + h)) ∙ ap (λ b. b && nat_lt (c - q) h) (sym (lt-ltb q c before)) ∙ sym (or-false (nat_lt q c && nat_lt (c - q) h))
  where
    by-order : (c < q + h) ⊎ (q + h ≤ c) → nat_lt c (max (q + h) from) ≡ nat_lt (c - q) h
    by-order (inl lt) = lt-ltb c (max (q + h) from) (omega (arith, lt)) ∙ sym (lt-ltb (c - q) h (omega (arith, lt, before)))
    by-order (inr le) = le-ltb c (max (q + h) from) (omega (arith, le, ltb-false c from is)) ∙ sym (le-ltb (c - q) h (omega (arith, le, before)))

-- a channel is busy where an event that was put out keeps it so
free-busy : (holds : List ℕ) (out : List (ℕ × Event)) (p : ℕ × Event) → are_before (cycle_of p.1) out ≡ true → nat_lt (cycle_of p.1) (free_from holds p.1.channel out) ≡ is_busy holds out p
free-busy holds [] p before = le-ltb (cycle_of p.1) 0 (omega arith)
free-busy holds (q ∷ out) p before =
    at (q.1.channel == p.1.channel) (ltb-true (cycle_of q.1) (cycle_of p.1) (and_parts (nat_lt (cycle_of q.1) (cycle_of p.1)) (are_before (cycle_of p.1) out) before).0)
    (free-busy holds out p (and_parts (nat_lt (cycle_of q.1) (cycle_of p.1)) (are_before (cycle_of p.1) out) before).1)
  where
    at : (b : Bool) → cycle_of q.1 < cycle_of p.1 → nat_lt (cycle_of p.1) (free_from holds p.1.channel out) ≡ is_busy holds out p → nat_lt (cycle_of p.1) (cond b (max (cycle_of q.1 + hold_of holds p.1.channel) (free_from holds p.1.channel out)) (free_from holds p.1.channel out)) ≡ ((b && (nat_lt (cycle_of q.1) (cycle_of p.1) && nat_lt (cycle_of p.1 - cycle_of q.1) (hold_of holds p.1.channel))) || is_busy holds out p)
    at true lt ih = reach (cycle_of p.1) (cycle_of q.1) (hold_of holds p.1.channel) (free_from holds p.1.channel out) (is_busy holds out p) lt ih
    at false lt ih = ih

-- a channel without a hold is never busy
none-held : (holds : List ℕ) (out : List (ℕ × Event)) (p : ℕ × Event) → hold_of holds p.1.channel ≡ 0 → is_busy holds out p ≡ false
none-held holds [] p none = refl
none-held holds (q ∷ out) p none =
    let no : nat_lt (cycle_of p.1 - cycle_of q.1) 0 ≡ false = le-ltb (cycle_of p.1 - cycle_of q.1) 0 (omega arith) in
    rw (none, no, none-held holds out p none) (both (q.1.channel == p.1.channel) (nat_lt (cycle_of q.1) (cycle_of p.1)))
  where
    both : (a b : Bool) → ((a && (b && false)) || false) ≡ false
    both true true = refl
    both true false = refl
    both false b = refl

-- what the sieve asks of its channels is what the events that were put out say
pub held-busy : (holds : List ℕ) (out : List (ℕ × Event)) (p : ℕ × Event) (cycle : ℕ) → length holds ≡ 32 → are_before cycle out ≡ true → cycle_of p.1 ≡ cycle → is_held (holds_after holds out).free_from cycle p.1 ≡ is_busy holds out p
held-busy holds out p cycle long before is = by-place (cases_lt p.1.channel 32)
  where
    by-place : (p.1.channel < 32) ⊎ (32 ≤ p.1.channel) → nat_lt cycle (get_or (map (λ i. free_from holds i out) (range_with_len 0 32)) p.1.channel 0) ≡ is_busy holds out p
    by-place (inl lt) =
        ap (nat_lt cycle) (get_or-map-range_with_len (λ i. free_from holds i out) 0 32 p.1.channel p.1.channel 0 lt (omega arith))
        ∙ ap (λ (n : ℕ). nat_lt n (free_from holds p.1.channel out)) (sym is)
        ∙ free-busy holds out p (ap (λ (n : ℕ). are_before n out) is ∙ before)
    by-place (inr past) =
        let places : length (map (λ i. free_from holds i out) (range_with_len 0 32)) ≡ 32 = length-map-range_with_len (λ i. free_from holds i out) 0 32 in
        ap (nat_lt cycle) (get_or_past (map (λ i. free_from holds i out) (range_with_len 0 32)) p.1.channel 0 (omega (arith, places, past)))
        ∙ le-ltb cycle 0 (omega arith) ∙ sym (none-held holds out p (get_or_past holds p.1.channel 0 (omega (arith, long, past))))

filter-same : {X : Type 0} (test one other : X → Bool) (xs : List X) → list_all test xs ≡ true → ((x : X) → test x ≡ true → one x ≡ other x) → filter one xs ≡ filter other xs
filter-same test one other [] all same = refl
filter-same test one other (x ∷ xs) all same =
    let parts = and_parts (test x) (list_all test xs) all in
    ap (λ b. cond b (x ∷ filter one xs) (filter one xs)) (same x parts.0)
    ∙ ap (λ ys. cond (other x) (x ∷ ys) ys) (filter-same test one other xs parts.1 same)

pub sieve-busy : (holds : List ℕ) (out events : List (ℕ × Event)) (cycle : ℕ) → length holds ≡ 32 → are_before cycle out ≡ true → are_of_cycle cycle events ≡ true → filter (λ p. is_held (holds_after holds out).free_from cycle p.1) events ≡ filter (λ p. is_busy holds out p) events
sieve-busy holds out events cycle long before all =
    filter-same (λ p. cycle_of p.1 == cycle) (λ p. is_held (holds_after holds out).free_from cycle p.1) (λ p. is_busy holds out p) events all
    (λ p is. held-busy holds out p cycle long before (eqb-true (cycle_of p.1) cycle is))

pub sieve-free : (holds : List ℕ) (out events : List (ℕ × Event)) (cycle : ℕ) → length holds ≡ 32 → are_before cycle out ≡ true → are_of_cycle cycle events ≡ true → filter (λ p. not (is_held (holds_after holds out).free_from cycle p.1)) events ≡ filter (λ p. not (is_busy holds out p)) events
sieve-free holds out events cycle long before all =
    filter-same (λ p. cycle_of p.1 == cycle) (λ p. not (is_held (holds_after holds out).free_from cycle p.1)) (λ p. not (is_busy holds out p)) events all
    (λ p is. ap not (held-busy holds out p cycle long before (eqb-true (cycle_of p.1) cycle is)))

-- the last of the first events, and those behind it that stay
pub item-in : (items back : List (ℕ × Event)) (i : ℕ) (p : ℕ × Event) → i < length items → slice_get (take (suc i) items ++ back) i ≡ Some p → slice_get items i ≡ Some p
item-in [] back i p lt is = absurd (omega (arith, lt))
item-in (x ∷ items) back zero p lt is = is
item-in (x ∷ items) back (suc i) p lt is = item-in items back i p (omega (arith, lt)) is

pub item-there : (items back now : List (ℕ × Event)) (i : ℕ) (p : ℕ × Event) → i < length items → now ≡ take (i + 1) items ++ back → slice_get now i ≡ Some p → slice_get items i ≡ Some p
item-there items back now i p lt is there =
    item-in items back i p lt (ap (λ (n : ℕ). slice_get (take n items ++ back) i) (sym (add-one i)) ∙ ap (λ (ps : List (ℕ × Event)). slice_get ps i) (sym is) ∙ there)

-- it stays, as it isn't busy
pub kept-more : (free : ℕ × Event → Bool) (items now : List (ℕ × Event)) (i : ℕ) (p : ℕ × Event) → slice_get items i ≡ Some p → free p ≡ true → now ≡ take (i + 1) items ++ filter free (drop (i + 1) items) → now ≡ take i items ++ filter free (drop i items)
kept-more free items now i p there passes is =
    is ∙ ap (λ (ps : List (ℕ × Event)). ps ++ filter free (drop (i + 1) items)) (take-item items i p there)
    ∙ append_assoc (take i items) (p ∷ []) (filter free (drop (i + 1) items))
    ∙ ap (λ b. take i items ++ cond b (p ∷ filter free (drop (i + 1) items)) (filter free (drop (i + 1) items))) (sym passes)
    ∙ ap (λ (ps : List (ℕ × Event)). take i items ++ filter free ps) (sym (drop-item items i p there))

-- or it is taken out, as it is
pub kept-less : (free : ℕ × Event → Bool) (items now : List (ℕ × Event)) (i : ℕ) (p : ℕ × Event) → slice_get items i ≡ Some p → free p ≡ false → now ≡ take (i + 1) items ++ filter free (drop (i + 1) items) → remove now i ≡ take i items ++ filter free (drop i items)
kept-less free items now i p there fails is =
    let lt : i < length items = slice_get_within items i p there in
    let short : length (take i items) ≡ i = length-take-le i items (omega (arith, lt)) in
    let rest : List (ℕ × Event) = filter free (drop (i + 1) items) in
    let zero_more : i - i ≡ 0 = omega arith in
    ap (λ (ps : List (ℕ × Event)). remove ps i)
    (is ∙ ap (λ (ps : List (ℕ × Event)). ps ++ rest) (take-item items i p there) ∙ append_assoc (take i items) (p ∷ []) rest)
    ∙ remove-append_right (take i items) (p ∷ rest) i i short (omega arith)
    ∙ ap (λ (n : ℕ). take i items ++ remove (p ∷ rest) n) zero_more
    ∙ ap (λ b. take i items ++ cond b (p ∷ rest) rest) (sym fails)
    ∙ ap (λ (ps : List (ℕ × Event)). take i items ++ filter free ps) (sym (drop-item items i p there))
