-- Runs by their numbers, after one of them changed or another was added.
use Rattle.std.proofs.Common.{◌≡◌, ◌≢◌, ℕ, ◌+◌, ◌<◌, ◌≤◌, Bool, true, false, List, [], ◌∷◌, ◌++◌, cond, filter, length, refl, sym, ◌∙◌, ap, arith, subst, inl, inr}
use Rattle.std.specs.Prelude.{Option, Some, None, option_map, find, ◌==◌, ◌⊎◌}
use Rattle.std.specs.List.{AllByRecursion}
use Rattle.std.proofs.lemmas.Bool.{eq-eqb, eqb-true}
use Rattle.std.proofs.lemmas.Bool.Decides.{eqb_tells}
use Rattle.exp_runs.specs.declared.run.Run.{Run}
use Rattle.exp_runs.specs.Keys.{is_of, run_of}
use Rattle.exp_runs.specs.Table.{changed}
use Rattle.sched_state.specs.State.{found_passes, passes, top_of}
use Rattle.sched_state.specs.Boards.{AreNumberedFrom, AreNumbered}
pub use Rattle.sched_state.proofs.Moved.{at_number, found-changed, found-number}

-- what holds of each item
pub all-weaker : {X : Type 0} (P Q : X → Type 0) → ((x : X) → P x → Q x) → (xs : List X) → AllByRecursion P xs → AllByRecursion Q xs
all-weaker P Q f [] all = tt
all-weaker P Q f (x ∷ xs) all = (f x all.0, all-weaker P Q f xs all.1)

pub all-both : {X : Type 0} (P Q : X → Type 0) (xs : List X) → AllByRecursion P xs → AllByRecursion Q xs → AllByRecursion (λ x. P x × Q x) xs
all-both P Q [] a b = tt
all-both P Q (x ∷ xs) a b = ((a.0, b.0), all-both P Q xs a.1 b.1)

pub all-push : {X : Type 0} (P : X → Type 0) (xs : List X) (x : X) → AllByRecursion P xs → P x → AllByRecursion P (xs ++ x ∷ [])
all-push P [] x all p = (p, tt)
all-push P (y ∷ ys) x all p = (all.0, all-push P ys x all.1 p)

all-cond : {X : Type 0} (P : X → Type 0) (b : Bool) (x : X) (xs : List X) → P x → AllByRecursion P xs → AllByRecursion P (cond b (x ∷ xs) xs)
all-cond P true x xs p all = (p, all)
all-cond P false x xs p all = all

pub all-filter : {X : Type 0} (P : X → Type 0) (t : X → Bool) (xs : List X) → AllByRecursion P xs → AllByRecursion P (filter t xs)
all-filter P t [] all = tt
all-filter P t (x ∷ xs) all = all-cond P (t x) x (filter t xs) all.0 (all-filter P t xs all.1)

-- a change of the one and of the others
changed-at : (P Q : Run → Type 0) (f : Run → Run) (rid : ℕ) (r : Run) → ((r : Run) → P r → r.rid ≢ rid → Q r) → ((r : Run) → P r → r.rid ≡ rid → Q (f r)) → P r
    → ((r.rid == rid) ≡ true) × (r.rid ≡ rid) ⊎ ((r.rid == rid) ≡ false) × (r.rid ≢ rid) → Q (at_number f rid r)
changed-at P Q f rid r others here p (inl e) = rw e.0 (here r p e.1)
changed-at P Q f rid r others here p (inr e) = rw e.0 (others r p e.1)

pub all-changed : (P Q : Run → Type 0) (f : Run → Run) (rid : ℕ) (runs : List Run) → ((r : Run) → P r → r.rid ≢ rid → Q r)
    → ((r : Run) → P r → r.rid ≡ rid → Q (f r)) → AllByRecursion P runs → AllByRecursion Q (changed f rid runs)
all-changed P Q f rid [] others here all = tt
all-changed P Q f rid (r ∷ runs) others here all =
    (changed-at P Q f rid r others here all.0 (eqb_tells r.rid rid), all-changed P Q f rid runs others here all.1)

-- the run that is found has what holds of each run
pub found-has : (P : Run → Type 0) (runs : List Run) (x : ℕ) (run : Run) → AllByRecursion P runs → run_of runs x ≡ Some run → P run
found-has P [] x run all e = absurd (cc)
found-has P (r ∷ runs) x run all e = at (found-has P runs x run all.1) (r.rid == x) e
  where
    at : (run_of runs x ≡ Some run → P run) → (b : Bool) → cond b (Some r) (run_of runs x) ≡ Some run → P run
    at ih true h = let same : r ≡ run = cc in subst P same all.0
    at ih false h = ih h

all-above : (from : ℕ) (runs : List Run) → AreNumberedFrom from runs → AllByRecursion (λ (r : Run). from ≤ r.rid) runs
all-above from [] all = tt
all-above from (r ∷ runs) all = (
  omega (arith, all.0),
  all-weaker (λ (x : Run). from + 1 ≤ x.rid) (λ (x : Run). from ≤ x.rid) (λ x h. omega (arith, h)) runs
      (all-above (from + 1) runs all.1),
)

passed : (r run : Run) (runs : List Run) → r.rid ≢ run.rid → run_of runs run.rid ≡ Some run
    → ((r.rid == run.rid) ≡ true) × (r.rid ≡ run.rid) ⊎ ((r.rid == run.rid) ≡ false) × (r.rid ≢ run.rid) → run_of (r ∷ runs) run.rid ≡ Some run
passed r run runs other e (inl h) = absurd (other h.1)
passed r run runs other e (inr h) = ap (λ b. cond b (Some r) (run_of runs run.rid)) h.0 ∙ e

all-found-from : (from : ℕ) (runs : List Run) → AreNumberedFrom from runs → AllByRecursion (λ (r : Run). run_of runs r.rid ≡ Some r) runs
all-found-from from [] all = tt
all-found-from from (r ∷ runs) all =
    let P : Run → Type 0 = λ x. (from + 1 ≤ x.rid) × (run_of runs x.rid ≡ Some x) in
    let rest : AllByRecursion P runs =
    all-both (λ (x : Run). from + 1 ≤ x.rid) (λ (x : Run). run_of runs x.rid ≡ Some x) runs (all-above (from + 1) runs all.1)
    (all-found-from (from + 1) runs all.1) in (
      ap (λ b. cond b (Some r) (run_of runs r.rid)) (eq-eqb r.rid r.rid refl),
      all-weaker P (λ (x : Run). run_of (r ∷ runs) x.rid ≡ Some x) (λ x h. passed r x runs (λ e. omega (arith, e, h.0, all.0)) h.1 (eqb_tells r.rid x.rid)) runs
          rest,
    )

-- each run is found by its number
pub all-found : (runs : List Run) → AreNumbered runs → AllByRecursion (λ (r : Run). run_of runs r.rid ≡ Some r) runs
all-found runs all = all-found-from 0 runs all

-- a number below the count has a run
pub found-below : (from : ℕ) (runs : List Run) (x : ℕ) → AreNumberedFrom from runs → from ≤ x → x < from + length runs
    → (run : Run) × (run_of runs x ≡ Some run)
found-below from [] x all h k = absurd (omega (arith, h, k))
found-below from (r ∷ runs) x all h k = at (found-below (from + 1) runs x all.1) (eqb_tells r.rid x)
  where
    at : (from + 1 ≤ x → x < from + 1 + length runs → (run : Run) × (run_of runs x ≡ Some run))
        → ((r.rid == x) ≡ true) × (r.rid ≡ x) ⊎ ((r.rid == x) ≡ false) × (r.rid ≢ x) → (run : Run) × (run_of (r ∷ runs) x ≡ Some run)
    at ih (inl e) = (r, ap (λ b. cond b (Some r) (run_of runs x)) e.0)
    at ih (inr e) =
        let here : r.rid ≡ from = all.0 in
        let more : from ≢ x = λ same. e.1 (here ∙ same) in
        let rest : (run : Run) × (run_of runs x ≡ Some run) = ih (omega (arith, h, more)) (omega (arith, k)) in
        (rest.0, ap (λ b. cond b (Some r) (run_of runs x)) e.0 ∙ rest.1)

-- the pipeline of a run stays
found-map : (test : Run → Bool) (g : Run → Run) → ((r : Run) → test (g r) ≡ test r) → (found : Option Run)
    → found_passes test (option_map g found) ≡ found_passes test found
found-map test g same None = refl
found-map test g same (Some r) = same r

of-kept : (f : Run → Run) → ((r : Run) → (f r).pipeline ≡ r.pipeline) → (pipeline : ℕ) (b : Bool) (r : Run) → is_of pipeline (cond b (f r) r) ≡ is_of pipeline r
of-kept f keeps pipeline true r = ap (λ (p : ℕ). p == pipeline) (keeps r)
of-kept f keeps pipeline false r = refl

pub passes-changed : (f : Run → Run) → ((r : Run) → (f r).rid ≡ r.rid) → ((r : Run) → (f r).pipeline ≡ r.pipeline) → (rid pipeline x : ℕ) (runs : List Run)
    → passes (is_of pipeline) (changed f rid runs) x ≡ passes (is_of pipeline) runs x
passes-changed f keeps stays rid pipeline x runs =
    ap (found_passes (is_of pipeline)) (found-changed f keeps rid x runs)
    ∙ found-map (is_of pipeline) (at_number f rid) (λ r. of-kept f stays pipeline (r.rid == rid) r) (run_of runs x)

-- a run that is added is found last
pub found-pushed : (from : ℕ) (runs : List Run) (new : Run) (x : ℕ) → AreNumberedFrom from runs → from ≤ x → x < from + length runs
    → run_of (runs ++ new ∷ []) x ≡ run_of runs x
found-pushed from [] new x all h k = absurd (omega (arith, h, k))
found-pushed from (r ∷ runs) new x all h k = at (found-pushed (from + 1) runs new x all.1) (eqb_tells r.rid x)
  where
    at : (from + 1 ≤ x → x < from + 1 + length runs → run_of (runs ++ new ∷ []) x ≡ run_of runs x)
        → ((r.rid == x) ≡ true) × (r.rid ≡ x) ⊎ ((r.rid == x) ≡ false) × (r.rid ≢ x) → run_of ((r ∷ runs) ++ new ∷ []) x ≡ run_of (r ∷ runs) x
    at ih (inl e) = ap (λ b. cond b (Some r) (run_of (runs ++ new ∷ []) x)) e.0 ∙ sym (ap (λ b. cond b (Some r) (run_of runs x)) e.0)
    at ih (inr e) =
        let here : r.rid ≡ from = all.0 in
        let more : from ≢ x = λ same. e.1 (here ∙ same) in
        ap (λ b. cond b (Some r) (run_of (runs ++ new ∷ []) x)) e.0 ∙ ih (omega (arith, h, more)) (omega (arith, k)) ∙ sym
        (ap (λ b. cond b (Some r) (run_of runs x)) e.0)

-- the top of a stack, where the runs on it pass alike
find-same : (p q : ℕ → Bool) (bound : ℕ) (stack : List ℕ) → ((x : ℕ) → x < bound → p x ≡ q x) → AllByRecursion (λ x. x < bound) stack
    → find p stack ≡ find q stack
find-same p q bound [] same all = refl
find-same p q bound (x ∷ stack) same all =
    ap (λ b. cond b (Some x) (find p stack)) (same x all.0) ∙ ap (λ (found : Option ℕ). cond (q x) (Some x) found) (find-same p q bound stack same all.1)

pub top-same : (old new : List Run) (bound pipeline : ℕ) (stack : List ℕ)
    → ((x : ℕ) → x < bound → passes (is_of pipeline) new x ≡ passes (is_of pipeline) old x) → AllByRecursion (λ x. x < bound) stack
    → top_of new stack pipeline ≡ top_of old stack pipeline
top-same old new bound pipeline stack same all = find-same (passes (is_of pipeline) new) (passes (is_of pipeline) old) bound stack same all
