-- One run is changed, and each has a number of its own.
use Rattle.std.proofs.Common.{◌≡◌, ℕ, ◌+◌, ◌<◌, Bool, true, false, cond, List, [], ◌∷◌, refl, sym, ◌∙◌, ap, arith}
use Rattle.std.specs.Prelude.{Option, Some, None, option_map, ◌==◌}
use Rattle.std.proofs.lemmas.Bool.{eqb-true, eq-eqb}
use Rattle.exp_runs.specs.declared.run.Run.{Run}
use Rattle.exp_runs.specs.Keys.{run_of}
use Rattle.exp_runs.specs.Table.{changed}
use Rattle.sched_state.specs.Boards.{AreNumberedFrom}

-- the run with a number, changed if it is the one
abbrev pub at_number : (Run → Run) → ℕ → Run → Run
at_number f rid run = cond (run.rid == rid) (f run) run

number-kept : (f : Run → Run) → ((r : Run) → (f r).rid ≡ r.rid) → (b : Bool) (r : Run) → (cond b (f r) r).rid ≡ r.rid
number-kept f keeps true r = keeps r
number-kept f keeps false r = refl

found-step : (g : Run → Run) (r : Run) (b : Bool) (xs ys : Option Run) → xs ≡ option_map g ys → cond b (Some (g r)) xs ≡ option_map g (cond b (Some r) ys)
found-step g r true xs ys e = refl
found-step g r false xs ys e = e

pub found-changed : (f : Run → Run) → ((r : Run) → (f r).rid ≡ r.rid) → (rid x : ℕ) (runs : List Run)
    → run_of (changed f rid runs) x ≡ option_map (at_number f rid) (run_of runs x)
found-changed f keeps rid x [] = refl
found-changed f keeps rid x (r ∷ runs) =
    ap (λ (n : ℕ). cond (n == x) (Some (at_number f rid r)) (run_of (changed f rid runs) x)) (number-kept f keeps (r.rid == rid) r)
    ∙ found-step (at_number f rid) r (r.rid == x) (run_of (changed f rid runs) x) (run_of runs x) (found-changed f keeps rid x runs)

-- the run that is found has the number
pub found-number : (runs : List Run) (x : ℕ) (run : Run) → run_of runs x ≡ Some run → run.rid ≡ x
found-number [] x run e = absurd (cc)
found-number (r ∷ runs) x run e = at (found-number runs x run) (r.rid == x) refl e
  where
    at : (run_of runs x ≡ Some run → run.rid ≡ x) → (b : Bool) → (r.rid == x) ≡ b → cond b (Some r) (run_of runs x) ≡ Some run → run.rid ≡ x
    at ih true t h = let same : r ≡ run = cc in ap (λ (y : Run). y.rid) (sym same) ∙ eqb-true r.rid x t
    at ih false t h = ih h

-- the run itself, changed
pub found-moved : (f : Run → Run) → ((r : Run) → (f r).rid ≡ r.rid) → (rid : ℕ) (runs : List Run) (run : Run) → run_of runs rid ≡ Some run
    → run_of (changed f rid runs) rid ≡ Some (f run)
found-moved f keeps rid runs run e =
    found-changed f keeps rid rid runs ∙ ap (option_map (at_number f rid)) e
    ∙ ap (λ b. Some (cond b (f run) run)) (eq-eqb run.rid rid (found-number runs rid run e))

-- no run has a number before the first
none-before : (from : ℕ) (runs : List Run) (rid : ℕ) → AreNumberedFrom from runs → rid < from → run_of runs rid ≡ None
none-before from [] rid all h = refl
none-before from (r ∷ runs) rid all h = at (none-before (from + 1) runs rid all.1 (omega (arith, h))) (r.rid == rid) refl
  where
    at : run_of runs rid ≡ None → (b : Bool) → (r.rid == rid) ≡ b → cond b (Some r) (run_of runs rid) ≡ None
    at ih true e = absurd (omega (arith, eqb-true r.rid rid e, all.0, h))
    at ih false e = ih

-- two changes that change the run alike are one
pub alike : (f g : Run → Run) (rid from : ℕ) (runs : List Run) → AreNumberedFrom from runs → ((r : Run) → run_of runs rid ≡ Some r → f r ≡ g r)
    → changed f rid runs ≡ changed g rid runs
alike f g rid from [] all same = refl
alike f g rid from (r ∷ runs) all same = at (alike f g rid (from + 1) runs all.1) (r.rid == rid) refl
  where
    at : (((x : Run) → run_of runs rid ≡ Some x → f x ≡ g x) → changed f rid runs ≡ changed g rid runs) → (b : Bool) → (r.rid == rid) ≡ b
        → cond b (f r) r ∷ changed f rid runs ≡ cond b (g r) r ∷ changed g rid runs
    at ih true e =
        let number : r.rid ≡ rid = eqb-true r.rid rid e in
        let none : run_of runs rid ≡ None = none-before (from + 1) runs rid all.1 (omega (arith, number, all.0)) in
        let rest : changed f rid runs ≡ changed g rid runs = ih (λ x found. absurd (cc (found, none))) in
        ap (λ x. x ∷ changed f rid runs) (same r (ap (λ b. cond b (Some r) (run_of runs rid)) e)) ∙ ap (λ xs. g r ∷ xs) rest
    at ih false e = ap (λ xs. r ∷ xs) (ih (λ x found. same x (ap (λ b. cond b (Some r) (run_of runs rid)) e ∙ found)))
