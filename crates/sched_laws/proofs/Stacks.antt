-- Priorities on stacks, and where runs stand, after a change of one run or of a stack.
use Rattle.std.proofs.Common.{◌≡◌, ℕ, ◌<◌, Bool, true, false, List, [], ◌∷◌, ◌++◌, cond, filter, length, refl, sym, ◌∙◌, ap, arith, subst}
use Rattle.std.specs.Prelude.{ℤ, ◌<ℤ◌, Option, Some, None, option_map, ◌==◌}
use Rattle.std.specs.List.{AllByRecursion}
use Rattle.exp_runs.specs.declared.run.Run.{Run}
use Rattle.exp_runs.specs.declared.run.Status.{Status}
use Rattle.exp_runs.specs.declared.run.Status.TheVariants as status
use Rattle.exp_runs.specs.Keys.{run_of}
use Rattle.exp_runs.specs.Table.{changed}
use Rattle.sched_state.specs.declared.entry.JobName.{JobName}
use Rattle.sched_state.specs.Boards.{AreNumbered}
use Rattle.sched_laws.specs.Sound.{IsBelow, IsStack, StandsIn}
use Rattle.sched_laws.proofs.Lookups.{all-weaker, all-filter, at_number, found-changed, found-pushed}

-- the runs that are found by these numbers keep their pipelines and priorities
abbrev pub KeptBelow : ℕ → List Run → List Run → Type 0
KeptBelow bound old new =
    (x : ℕ) (now : Run) → x < bound → run_of new x ≡ Some now → (was : Run) × (run_of old x ≡ Some was) × (now.pipeline ≡ was.pipeline)
    × (now.priority ≡ was.priority)

kept-at : (f : Run → Run) → ((r : Run) → (f r).pipeline ≡ r.pipeline) → ((r : Run) → (f r).priority ≡ r.priority) → (b : Bool) (r : Run)
    → ((cond b (f r) r).pipeline ≡ r.pipeline) × ((cond b (f r) r).priority ≡ r.priority)
kept-at f stays same true r = (stays r, same r)
kept-at f stays same false r = (refl, refl)

kept-found : (f : Run → Run) (rid : ℕ) → ((r : Run) → (f r).pipeline ≡ r.pipeline) → ((r : Run) → (f r).priority ≡ r.priority)
    → (found : Option Run) (now : Run) → option_map (at_number f rid) found ≡ Some now
    → (was : Run) × (found ≡ Some was) × (now.pipeline ≡ was.pipeline) × (now.priority ≡ was.priority)
kept-found f rid stays same None now e = absurd (cc)
kept-found f rid stays same (Some was) now e =
    let is : at_number f rid was ≡ now = cc in
    let kept = kept-at f stays same (was.rid == rid) was in
    (was, refl, ap (λ (r : Run). r.pipeline) (sym is) ∙ kept.0, ap (λ (r : Run). r.priority) (sym is) ∙ kept.1)

pub kept-changed : (f : Run → Run) → ((r : Run) → (f r).rid ≡ r.rid) → ((r : Run) → (f r).pipeline ≡ r.pipeline) → ((r : Run) → (f r).priority ≡ r.priority)
    → (rid bound : ℕ) (runs : List Run) → KeptBelow bound runs (changed f rid runs)
kept-changed f keeps stays same rid bound runs x now h e = kept-found f rid stays same (run_of runs x) now (sym (found-changed f keeps rid x runs) ∙ e)

pub kept-pushed : (runs : List Run) (new : Run) → AreNumbered runs → KeptBelow (length runs) runs (runs ++ new ∷ [])
kept-pushed runs new numbered x now h e = (now, sym (found-pushed 0 runs new x numbered (omega arith) (omega (arith, h))) ∙ e, refl, refl)

below-kept : (bound : ℕ) (old new : List Run) → KeptBelow bound old new → (rid : ℕ) → rid < bound → (low : ℕ) → (low < bound) × IsBelow old rid low
    → IsBelow new rid low
below-kept bound old new kept rid h low w upper lower e k p =
    let up = kept rid upper h e in
    let down = kept low lower w.0 k in
    let was : down.0.priority <ℤ up.0.priority = w.1 up.0 down.0 up.1 down.1 (sym down.2 ∙ p ∙ up.2) in
    let P : ℤ → Type 0 = λ n. n <ℤ upper.priority in
    let Q : ℤ → Type 0 = λ n. down.0.priority <ℤ n in
    subst P (sym down.3) (subst Q (sym up.3) was)

both-all : (P : ℕ → Type 0) (bound : ℕ) (xs : List ℕ) → AllByRecursion (λ x. x < bound) xs → AllByRecursion P xs → AllByRecursion (λ x. (x < bound) × P x) xs
both-all P bound [] a b = tt
both-all P bound (x ∷ xs) a b = ((a.0, b.0), both-all P bound xs a.1 b.1)

-- priorities on the stacks stay
pub stack-kept : (bound : ℕ) (old new : List Run) → KeptBelow bound old new → (stack : List ℕ) → AllByRecursion (λ x. x < bound) stack → IsStack old stack
    → IsStack new stack
stack-kept bound old new kept [] all was = tt
stack-kept bound old new kept (rid ∷ rest) all was = (
  all-weaker (λ low. (low < bound) × IsBelow old rid low) (IsBelow new rid) (below-kept bound old new kept rid all.0) rest
      (both-all (IsBelow old rid) bound rest all.1 was.0),
  stack-kept bound old new kept rest all.1 was.1,
)

stack-cond : (runs : List Run) (b : Bool) (x : ℕ) (rest : List ℕ) → AllByRecursion (IsBelow runs x) rest → IsStack runs rest
    → IsStack runs (cond b (x ∷ rest) rest)
stack-cond runs true x rest all was = (all, was)
stack-cond runs false x rest all was = was

pub stack-filter : (runs : List Run) (t : ℕ → Bool) (stack : List ℕ) → IsStack runs stack → IsStack runs (filter t stack)
stack-filter runs t [] was = tt
stack-filter runs t (x ∷ stack) was = stack-cond runs (t x) x (filter t stack) (all-filter (IsBelow runs x) t stack was.0) (stack-filter runs t stack was.1)

-- where a run stands, by what it says of jobs and stacks
stands-top : (steps ahead rid pos : ℕ) (jobs : List JobName) (on : Bool) (top new : Option ℕ) (is : Status)
    → (is ≡ status.Running → top ≡ Some rid → new ≡ Some rid) → StandsIn steps ahead rid pos jobs on top is → StandsIn steps ahead rid pos jobs on new is
stands-top steps ahead rid pos jobs on top new status.Pending k h = h
stands-top steps ahead rid pos jobs on top new status.Preparing k h = h
stands-top steps ahead rid pos jobs on top new status.Prepared k h = h
stands-top steps ahead rid pos jobs on top new status.Running k h = (k refl h.0, h.1)
stands-top steps ahead rid pos jobs on top new status.Paused k h = h
stands-top steps ahead rid pos jobs on top new status.RunDone k h = h
stands-top steps ahead rid pos jobs on top new status.Analyzing k h = h
stands-top steps ahead rid pos jobs on top new status.Done k h = h
stands-top steps ahead rid pos jobs on top new status.Failed k h = h
stands-top steps ahead rid pos jobs on top new status.Terminated k h = h
stands-top steps ahead rid pos jobs on top new status.Deleted k h = h

pub stands-moved : (steps ahead rid pos : ℕ) (old new : List JobName) (on now : Bool) (top found : Option ℕ) (is : Status) → new ≡ old → now ≡ on
    → (is ≡ status.Running → top ≡ Some rid → found ≡ Some rid) → StandsIn steps ahead rid pos old on top is → StandsIn steps ahead rid pos new now found is
stands-moved steps ahead rid pos old new on now top found is jobs stack k h =
    let P : List JobName → Type 0 = λ js. StandsIn steps ahead rid pos js now found is in
    let Q : Bool → Type 0 = λ b. StandsIn steps ahead rid pos old b found is in
    subst P (sym jobs) (subst Q (sym stack) (stands-top steps ahead rid pos old on top found is k h))
