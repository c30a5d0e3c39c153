-- No run is of a pipeline that there isn't.
use Rattle.std.proofs.Common.{◌≡◌, ℕ, ◌<◌, ◌≤◌, true, false, List, [], ◌∷◌, ◌++◌, cond, filter, map, refl, sym, ap, subst, arith, inl, inr, ◌∙◌}
use Rattle.std.specs.Prelude.{None, Result, Ok, Err, OnOk, OnErr, ◌&&◌, ◌==◌, ◌⊎◌}
use Rattle.std.proofs.lemmas.Bool.Decides.{eqb_tells}
use Rattle.exp_runs.specs.declared.run.Run.{Run}
use Rattle.exp_runs.specs.declared.queue.Wanted.{Wanted}
use Rattle.exp_runs.specs.declared.queue.Wanted.TheVariants.{ToPrepare, ToRun, ToAnalyze}
use Rattle.exp_runs.specs.Keys.{best, is_due, is_of}
use Rattle.exp_runs.specs.Statuses.{is_prepared, is_run_done}
use Rattle.exp_runs.specs.Queues.{wants}
use Rattle.exp_runs.specs.Inside.{ArePlaced}
use Rattle.exp_runs.proofs.Places.{KeepsKeys}

pub placed-added : (n : ℕ) (runs : List Run) (run : Run) → ArePlaced n runs → run.pipeline < n → ArePlaced n (runs ++ run ∷ [])
placed-added n [] run placed below = (below, tt)
placed-added n (other ∷ runs) run placed below = (placed.0, placed-added n runs run placed.1 below)

pub placed-changed : (f : Run → Run) (kept : KeepsKeys f) (n : ℕ) (runs : List Run) → ArePlaced n runs → ArePlaced n (map f runs)
placed-changed f kept n [] placed = tt
placed-changed f kept n (run ∷ runs) placed =
    let P : ℕ → Type 0 = λ p. p < n in
    (subst P (sym (kept.pipelines run)) placed.0, placed-changed f kept n runs placed.1)

-- a run of another pipeline
of-another : (run : Run) (pipeline : ℕ) → run.pipeline < pipeline → ((run.pipeline == pipeline) ≡ true) × (run.pipeline ≡ pipeline) ⊎ ((run.pipeline == pipeline) ≡ false) × ((run.pipeline ≡ pipeline) → ⊥) → is_of pipeline run ≡ false
of-another run pipeline below (inl e) = let same = e.1 in absurd (omega (arith, same, below))
of-another run pipeline below (inr e) = e.0

-- isn't what this one looks for
not-wanted : (run : Run) (pipeline : ℕ) (wanted : Wanted) → is_of pipeline run ≡ false → wants pipeline wanted run ≡ false
not-wanted run pipeline (ToPrepare clock) e = ap (λ b. b && is_due clock run) e
not-wanted run pipeline ToRun e = ap (λ b. b && is_prepared run.status) e
not-wanted run pipeline ToAnalyze e = ap (λ b. b && is_run_done run.status) e

none-found : (n pipeline : ℕ) (wanted : Wanted) (runs : List Run) → ArePlaced n runs → n ≤ pipeline → filter (wants pipeline wanted) runs ≡ []
none-found n pipeline wanted [] placed beyond = refl
none-found n pipeline wanted (run ∷ runs) placed beyond =
    let here = placed.0 in
    let below : run.pipeline < pipeline = omega (arith, here, beyond) in
    let no : wants pipeline wanted run ≡ false = not-wanted run pipeline wanted (of-another run pipeline below (eqb_tells run.pipeline pipeline)) in
    ap (λ b. cond b (run ∷ filter (wants pipeline wanted) runs) (filter (wants pipeline wanted) runs)) no ∙ none-found n pipeline wanted runs placed.1 beyond

-- so there is no best run of a pipeline that there isn't
pub none-best : (n pipeline : ℕ) (wanted : Wanted) (runs : List Run) → ArePlaced n runs → n ≤ pipeline → best (wants pipeline wanted) runs ≡ None
none-best n pipeline wanted runs placed beyond = rw (none-found n pipeline wanted runs placed beyond) refl

-- after a run was added, or wasn't for want of memory
pub placed-after : (X : Type 0) (r : Result (Unit {0}) Run) (n : ℕ) (old new : List Run) (run : Run) → ArePlaced n old → run.pipeline < n → OnOk r (new ≡ old ++ run ∷ []) → OnErr r ((new ≡ old) × X) → ArePlaced n new
placed-after X (Ok u) n old new run placed below pushed kept = let P : List Run → Type 0 = λ runs. ArePlaced n runs in subst P (sym pushed) (placed-added n old run placed below)
placed-after X (Err e) n old new run placed below pushed kept = let P : List Run → Type 0 = λ runs. ArePlaced n runs in subst P (sym kept.0) placed
