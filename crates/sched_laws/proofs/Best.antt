-- The priority of the best run is at least that of each among which it was chosen.
use Rattle.std.proofs.Common.{◌≡◌, ℕ, Bool, true, false, List, [], ◌∷◌, cond, filter, fold, refl, ap, arith}
use Rattle.std.specs.Prelude.{ℤ, ◌≤ℤ◌, int_lt, Option, Some, None, option_map, ◌||◌}
use Rattle.std.specs.List.{AllByRecursion, list_any}
use Rattle.std.specs.declared.cmp.Ordering.{Ordering}
use Rattle.std.specs.declared.cmp.Ordering.TheVariants.{Less, Equal, Greater}
use Rattle.std.specs.Ordering.{nat_cmp, ordering_then, is_lt}
use Rattle.std.proofs.lemmas.Int.{ints}
use Rattle.std.proofs.lemmas.List.Elements.{recursion_from_All, filter_passes}
use Rattle.exp_runs.specs.declared.run.Run.{Run}
use Rattle.exp_runs.specs.Keys.{key_cmp, greater, greatest, best, run_of}
use Rattle.sched_state.specs.Boards.{AreNumbered}
use Rattle.sched_state.proofs.Chosen.{IfFound, of-greatest}
use Rattle.sched_laws.proofs.Lookups.{all-both, all-filter, all-found}

less-at : (x y : ℤ) (rest : Ordering) (lt gt : Bool) → int_lt x y ≡ lt → int_lt y x ≡ gt
    → is_lt (ordering_then (cond lt Less (cond gt Greater Equal)) rest) ≡ true → x ≤ℤ y
less-at x y rest true gt a b h = grind (arith, ints)
less-at x y rest false true a b h = absurd (cc)
less-at x y rest false false a b h = grind (arith, ints)

more-at : (x y : ℤ) (rest : Ordering) (lt gt : Bool) → int_lt x y ≡ lt → int_lt y x ≡ gt
    → is_lt (ordering_then (cond lt Less (cond gt Greater Equal)) rest) ≡ false → y ≤ℤ x
more-at x y rest true gt a b h = absurd (cc)
more-at x y rest false true a b h = grind (arith, ints)
more-at x y rest false false a b h = grind (arith, ints)

less : (a b : Run) → is_lt (key_cmp a b) ≡ true → a.priority ≤ℤ b.priority
less a b h =
    less-at a.priority b.priority (ordering_then (nat_cmp b.due a.due) (nat_cmp b.rid a.rid)) (int_lt a.priority b.priority)
    (int_lt b.priority a.priority) refl refl h

more : (a b : Run) → is_lt (key_cmp a b) ≡ false → b.priority ≤ℤ a.priority
more a b h =
    more-at a.priority b.priority (ordering_then (nat_cmp b.due a.due) (nat_cmp b.rid a.rid)) (int_lt a.priority b.priority)
    (int_lt b.priority a.priority) refl refl h

-- the run that was found has at least this priority
abbrev AtLeast : ℤ → Option Run → Type 0
AtLeast n None = ⊥
AtLeast n (Some run) = n ≤ℤ run.priority

trans : (a b c : ℤ) → a ≤ℤ b → b ≤ℤ c → a ≤ℤ c
trans a b c h k = omega (arith, ints)

least-at : (n : ℤ) (x r : Run) (b : Bool) → is_lt (key_cmp x r) ≡ b → n ≤ℤ x.priority → AtLeast n (Some (cond b r x))
least-at n x r true e h = trans n x.priority r.priority h (less x r e)
least-at n x r false e h = h

keeps : (n : ℤ) (so_far : Option Run) (r : Run) → AtLeast n so_far → AtLeast n (greater so_far r)
keeps n None r h = absurd h
keeps n (Some x) r h = least-at n x r (is_lt (key_cmp x r)) refl h

keeps-all : (n : ℤ) (runs : List Run) (so_far : Option Run) → AtLeast n so_far → AtLeast n (fold greater so_far runs)
keeps-all n [] so_far h = h
keeps-all n (r ∷ runs) so_far h = keeps-all n runs (greater so_far r) (keeps n so_far r h)

same : (n : ℤ) → n ≤ℤ n
same n = omega (arith, ints)

own-at : (x r : Run) (b : Bool) → is_lt (key_cmp x r) ≡ b → AtLeast r.priority (Some (cond b r x))
own-at x r true e = same r.priority
own-at x r false e = more x r e

own : (so_far : Option Run) (r : Run) → AtLeast r.priority (greater so_far r)
own None r = same r.priority
own (Some x) r = own-at x r (is_lt (key_cmp x r)) refl

bounds : (runs : List Run) (so_far : Option Run) → AllByRecursion (λ (r : Run). AtLeast r.priority (fold greater so_far runs)) runs
bounds [] so_far = tt
bounds (r ∷ runs) so_far = (keeps-all r.priority runs (greater so_far r) (own so_far r), bounds runs (greater so_far r))

-- one that passes the narrower test is among those that pass the wider
among-at : (Q : Run → Type 0) (test other : Run → Bool) (r : Run) (runs : List Run) (b c : Bool) → ((x : Run) → other x ≡ true → test x ≡ true) → other r ≡ b
    → test r ≡ c
    → (AllByRecursion Q (filter test runs) → list_any other runs ≡ true → (x : Run) × (other x ≡ true) × Q x)
    → AllByRecursion Q (cond c (r ∷ filter test runs) (filter test runs)) → (b || list_any other runs) ≡ true → (x : Run) × (other x ≡ true) × Q x
among-at Q test other r runs true true wide e k rest all h = (r, e, all.0)
among-at Q test other r runs true false wide e k rest all h = absurd (cc (wide r e))
among-at Q test other r runs false true wide e k rest all h = rest all.1 h
among-at Q test other r runs false false wide e k rest all h = rest all h

among : (Q : Run → Type 0) (test other : Run → Bool) (runs : List Run) → ((x : Run) → other x ≡ true → test x ≡ true) → AllByRecursion Q (filter test runs)
    → list_any other runs ≡ true → (x : Run) × (other x ≡ true) × Q x
among Q test other [] wide all h = absurd (cc)
among Q test other (r ∷ runs) wide all h = among-at Q test other r runs (other r) (test r) wide refl refl (among Q test other runs wide) all h

abbrev pub IsBest : (Run → Bool) → List Run → Run → Type 0
IsBest test runs run = (best test runs ≡ Some run.rid) × (run_of runs run.rid ≡ Some run) × (test run ≡ true)

best-at : (test other : Run → Bool) (runs : List Run) (found : Option Run) (r : Run) → greatest (filter test runs) ≡ found
    → IfFound (λ (x : Run). (test x ≡ true) × (run_of runs x.rid ≡ Some x)) found → AtLeast r.priority found
    → (b : Run) × IsBest test runs b × (r.priority ≤ℤ b.priority)
best-at test other runs None r e own least = absurd least
best-at test other runs (Some b) r e own least = (b, (ap (option_map (λ (x : Run). x.rid)) e, own.1, own.0), least)

-- where a run passes, there is a best one, of at least its priority
pub best-over : (test other : Run → Bool) (runs : List Run) → AreNumbered runs → ((x : Run) → other x ≡ true → test x ≡ true) → list_any other runs ≡ true
    → (r : Run) × (other r ≡ true) × ((b : Run) × IsBest test runs b × (r.priority ≤ℤ b.priority))
best-over test other runs numbered wide h =
    let P : Run → Type 0 = λ x. test x ≡ true in
    let F : Run → Type 0 = λ x. run_of runs x.rid ≡ Some x in
    let G : Run → Type 0 = λ x. P x × F x in
    let Q : Run → Type 0 = λ x. AtLeast x.priority (greatest (filter test runs)) in
    let passing : AllByRecursion P (filter test runs) = recursion_from_All P (filter test runs) (filter_passes test runs) in
    let there : AllByRecursion F (filter test runs) = all-filter F test runs (all-found runs numbered) in
    let one = among Q test other runs wide (bounds (filter test runs) None) h in (
      one.0,
      one.1,
      best-at test other runs (greatest (filter test runs)) one.0 refl
          (of-greatest G (filter test runs) None tt (all-both P F (filter test runs) passing there)) one.2,
    )

-- the best run is that one
pub best-found : (test : Run → Bool) (runs : List Run) (rid : ℕ) (run b : Run) → best test runs ≡ Some rid → run_of runs rid ≡ Some run → IsBest test runs b
    → run ≡ b
best-found test runs rid run b e there is = let number : rid ≡ b.rid = cc in cc (ap (run_of runs) number, there, is.1)
