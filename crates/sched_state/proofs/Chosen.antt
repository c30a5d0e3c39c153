-- What is known of the best run.
use Rattle.std.proofs.Common.{◌≡◌, ℕ, Bool, true, false, List, [], ◌∷◌, cond, filter, fold, sym, ◌∙◌, ap}
use Rattle.std.specs.Prelude.{Option, Some, None, option_map}
use Rattle.std.specs.List.{AllByRecursion, Contains}
use Rattle.std.specs.Ordering.{is_lt}
use Rattle.std.proofs.lemmas.List.Elements.{recursion_from_All, All-filter, All-contains_itself, filter_passes}
use Rattle.exp_runs.specs.declared.run.Run.{Run}
use Rattle.exp_runs.specs.Keys.{key_cmp, greater, greatest, best, run_of}
use Rattle.sched_state.specs.Boards.{AreNumbered}
use Rattle.sched_state.proofs.Numbered.{found-at}

abbrev pub IfFound : (Run → Type 0) → Option Run → Type 0
IfFound P None = Unit {0}
IfFound P (Some run) = P run

greater-at : (P : Run → Type 0) (b : Bool) (x y : Run) → P x → P y → P (cond b y x)
greater-at P true x y p q = q
greater-at P false x y p q = p

greater-keeps : (P : Run → Type 0) (so_far : Option Run) (run : Run) → IfFound P so_far → P run → IfFound P (greater so_far run)
greater-keeps P None run p q = q
greater-keeps P (Some x) run p q = greater-at P (is_lt (key_cmp x run)) x run p q

-- what holds of each holds of the greatest
pub of-greatest : (P : Run → Type 0) (runs : List Run) (so_far : Option Run) → IfFound P so_far → AllByRecursion P runs → IfFound P (fold greater so_far runs)
of-greatest P [] so_far p all = p
of-greatest P (run ∷ runs) so_far p all = of-greatest P runs (greater so_far run) (greater-keeps P so_far run p all.0) all.1

two : (P Q : Run → Type 0) (runs : List Run) → AllByRecursion P runs → AllByRecursion Q runs → AllByRecursion (λ r. P r × Q r) runs
two P Q [] a b = tt
two P Q (r ∷ runs) a b = ((a.0, b.0), two P Q runs a.1 b.1)

-- the best run is one of the runs, and passes the test
pub best-is : (test : Run → Bool) (runs : List Run) (found : Option Run) → IfFound (λ r. (test r ≡ true) × Contains runs r) found → AreNumbered runs → (rid : ℕ) → option_map (λ (r : Run). r.rid) found ≡ Some rid
    → (run : Run) × (run_of runs rid ≡ Some run) × (test run ≡ true)
best-is test runs None there numbered rid e = absurd (cc)
best-is test runs (Some run) there numbered rid e =
    let number : run.rid ≡ rid = cc in
    (run, ap (run_of runs) (sym number) ∙ found-at 0 runs there.1.0 run numbered there.1.1 there.1.2, there.0)

pub best-chosen : (test : Run → Bool) (runs : List Run) → AreNumbered runs → (rid : ℕ) → best test runs ≡ Some rid → (run : Run) × (run_of runs rid ≡ Some run) × (test run ≡ true)
best-chosen test runs numbered rid e =
    let P : Run → Type 0 = λ r. test r ≡ true in
    let Q : Run → Type 0 = λ r. Contains runs r in
    let passing : AllByRecursion P (filter test runs) = recursion_from_All P (filter test runs) (filter_passes test runs) in
    let there : AllByRecursion Q (filter test runs) = recursion_from_All Q (filter test runs) (All-filter test Q runs (All-contains_itself runs)) in
    best-is test runs (greatest (filter test runs)) (of-greatest (λ r. P r × Q r) (filter test runs) None tt (two P Q (filter test runs) passing there)) numbered rid e
