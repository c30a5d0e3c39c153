-- Runs stand by their numbers in every history.
use Rattle.std.proofs.Common.{◌≡◌, ◌≢◌, ℕ, zero, suc, ◌+◌, ◌<◌, ◌≤◌, Bool, true, false, List, [], ◌∷◌, ◌++◌, cond, length, refl, sym, ◌∙◌, ap, arith, inl, inr}
use Rattle.std.specs.Prelude.{Some, None, ◌==◌, ◌⊎◌, slice_index_or}
use Rattle.std.proofs.lemmas.Bool.{eq-eqb}
use Rattle.std.proofs.lemmas.Bool.Decides.{eqb_tells}
use Rattle.exp_runs.specs.declared.run.Run.{Run}
use Rattle.exp_runs.specs.Keys.{run_of}
use Rattle.exp_runs.specs.Table.{changed}
use Rattle.sched_state.specs.Boards.{AreNumberedFrom}

kept-at : (change : Run → Run) → ((r : Run) → (change r).rid ≡ r.rid) → (b : Bool) (r : Run) → (cond b (change r) r).rid ≡ r.rid
kept-at change same true r = same r
kept-at change same false r = refl

-- a change that keeps the numbers
pub changed-numbered : (change : Run → Run) → ((r : Run) → (change r).rid ≡ r.rid) → (rid from : ℕ) (runs : List Run) → AreNumberedFrom from runs → AreNumberedFrom from (changed change rid runs)
changed-numbered change same rid from [] all = tt
changed-numbered change same rid from (r ∷ runs) all = (kept-at change same (r.rid == rid) r ∙ all.0, changed-numbered change same rid (from + 1) runs all.1)

-- a run more, with the next number
pub pushed-numbered : (from : ℕ) (runs : List Run) (run : Run) → AreNumberedFrom from runs → run.rid ≡ from + length runs → AreNumberedFrom from (runs ++ run ∷ [])
pushed-numbered from [] run all e = (omega (arith, e), tt)
pushed-numbered from (r ∷ runs) run all e = (all.0, pushed-numbered (from + 1) runs run all.1 (omega (arith, e)))

skipped : (r : Run) (runs : List Run) (rid : ℕ) → r.rid ≢ rid → ((r.rid == rid) ≡ true) × (r.rid ≡ rid) ⊎ ((r.rid == rid) ≡ false) × (r.rid ≢ rid) → run_of (r ∷ runs) rid ≡ run_of runs rid
skipped r runs rid other (inl e) = absurd (other e.1)
skipped r runs rid other (inr e) = ap (λ b. cond b (Some r) (run_of runs rid)) e.0

-- no run has a number past the last
pub none-past : (from : ℕ) (runs : List Run) (rid : ℕ) → AreNumberedFrom from runs → from + length runs ≤ rid → run_of runs rid ≡ None
none-past from [] rid all h = refl
none-past from (r ∷ runs) rid all h =
    let here : r.rid ≡ from = all.0 in
    let other : r.rid ≢ rid = λ e. omega (arith, e, here, h) in
    skipped r runs rid other (eqb_tells r.rid rid) ∙ none-past (from + 1) runs rid all.1 (omega (arith, h))

-- the run at a place has its number
pub number-at : (from : ℕ) (runs : List Run) (i : ℕ) (run : Run) → AreNumberedFrom from runs → i < length runs → slice_index_or runs i run ≡ run → run.rid ≡ from + i
number-at from [] i run all h e = absurd (omega (arith, h))
number-at from (r ∷ runs) zero run all h e = let same : r ≡ run = e in let here : r.rid ≡ from = all.0 in let rid : run.rid ≡ r.rid = ap (λ (x : Run). x.rid) (sym same) in omega (arith, here, rid)
number-at from (r ∷ runs) (suc i) run all h e = let rest : run.rid ≡ from + 1 + i = number-at (from + 1) runs i run all.1 (omega (arith, h)) e in omega (arith, rest)

-- and it is found by it
pub found-at : (from : ℕ) (runs : List Run) (i : ℕ) (run : Run) → AreNumberedFrom from runs → i < length runs → slice_index_or runs i run ≡ run → run_of runs run.rid ≡ Some run
found-at from [] i run all h e = absurd (omega (arith, h))
found-at from (r ∷ runs) zero run all h e =
    let same : r ≡ run = e in
    let here : (r.rid == run.rid) ≡ true = eq-eqb r.rid run.rid (ap (λ (x : Run). x.rid) same) in
    ap (λ b. cond b (Some r) (run_of runs run.rid)) here ∙ ap Some same
found-at from (r ∷ runs) (suc i) run all h e =
    let within : i < length runs = omega (arith, h) in
    let number : run.rid ≡ from + 1 + i = number-at (from + 1) runs i run all.1 within e in
    let here : r.rid ≡ from = all.0 in
    let other : r.rid ≢ run.rid = λ same. omega (arith, same, here, number) in
    skipped r runs run.rid other (eqb_tells r.rid run.rid) ∙ found-at (from + 1) runs i run all.1 within e
