-- A run keeps what it was submitted with.
use Rattle.std.proofs.Common.{◌≡◌, ℕ, Bool, true, false, List, [], ◌∷◌, ◌++◌, cond, length, refl, ◌∙◌, ap, arith}
use Rattle.std.specs.Prelude.{Some, option_map, ◌==◌}
use Rattle.exp_runs.specs.declared.run.Run.{Run}
use Rattle.exp_runs.specs.Keys.{run_of}
use Rattle.exp_runs.specs.Table.{changed}
use Rattle.exp_model.specs.declared.arrival.Submission.{Submission}
use Rattle.sched_state.specs.Arrivals.{new_run}
use Rattle.sched_state.specs.Boards.{AreNumbered}
use Rattle.sched_state.proofs.Numbered.{changed-numbered, pushed-numbered}
use Rattle.sched_laws.proofs.Lookups.{at_number, found-changed, found-pushed}
use Rattle.sched_laws.proofs.Taking.{found-within}
use Rattle.sched_laws.proofs.Through.{IsStable, KeepsKey}

-- the run is as it was submitted
abbrev IsAsSubmitted : Run → Run → Type 0
IsAsSubmitted run now =
    (now.experiment ≡ run.experiment) × (now.pipeline ≡ run.pipeline) × (now.due ≡ run.due) × (now.priority ≡ run.priority) × (now.flush ≡ run.flush)

-- each run of the old list is in the new one, so
abbrev pub StayIn : List Run → List Run → Type 0
StayIn old new =
    (x : ℕ) (run : Run) → run_of old x ≡ Some run
    → (now : Run) × (run_of new x ≡ Some now) × (now.experiment ≡ run.experiment) × (now.pipeline ≡ run.pipeline) × (now.due ≡ run.due)
    × (now.priority ≡ run.priority) × (now.flush ≡ run.flush)

abbrev pub Stays : List Run → List Run → Type 0
Stays old new = AreNumbered new × StayIn old new

same-at : (f : Run → Run) → KeepsKey f → (b : Bool) (r : Run) → IsAsSubmitted r (cond b (f r) r)
same-at f keeps true r = ((keeps r).1, (keeps r).2, (keeps r).3, (keeps r).4, (keeps r).5)
same-at f keeps false r = (refl, refl, refl, refl, refl)

change-stays : (old : List Run) (f : Run → Run) → KeepsKey f → (rid : ℕ) (runs : List Run) → Stays old runs → Stays old (changed f rid runs)
change-stays old f keeps rid runs was = (
  changed-numbered f (λ r. (keeps r).0) rid 0 runs was.0,
  λ x run there.
      let before = was.1 x run there in
      let same = same-at f keeps (before.0.rid == rid) before.0 in (
        at_number f rid before.0,
        found-changed f (λ r. (keeps r).0) rid x runs ∙ ap (option_map (at_number f rid)) before.1,
        same.0 ∙ before.2,
        same.1 ∙ before.3,
        same.2 ∙ before.4,
        same.3 ∙ before.5,
        same.4 ∙ before.6,
      ),
)

push-stays : (old : List Run) (asked : Submission) (runs : List Run) → Stays old runs → Stays old (runs ++ new_run (length runs) asked ∷ [])
push-stays old asked runs was = (
  pushed-numbered 0 runs (new_run (length runs) asked) was.0 (omega arith),
  λ x run there.
      let before = was.1 x run there in
      let new : Run = new_run (length runs) asked in
      let last : run_of (runs ++ new ∷ []) x ≡ run_of runs x =
      found-pushed 0 runs new x was.0 (omega arith) (omega (arith, found-within runs x before.0 was.0 before.1)) in
      (before.0, last ∙ before.1, before.2, before.3, before.4, before.5, before.6),
)

pub stays-stable : (old : List Run) → IsStable (Stays old)
stays-stable old = record { change = change-stays old; push = push-stays old }

pub stays-here : (runs : List Run) → AreNumbered runs → Stays runs runs
stays-here runs numbered = (numbered, λ x run there. (run, there, refl, refl, refl, refl, refl))
