-- How many jobs are left after an entry.
use Rattle.std.proofs.Common.{◌≡◌, ◌≢◌, ℕ, ◌+◌, ◌<◌, ◌≤◌, Bool, true, false, List, [], ◌∷◌, ◌++◌, cond, length, refl, sym, ◌∙◌, ap, arith, inl, inr}
use Rattle.std.specs.Prelude.{Some, IsTrue, ◌==◌, ◌⊎◌, nat_le}
use Rattle.std.specs.List.{sum_by}
use Rattle.std.proofs.lemmas.Bool.{leb-true}
use Rattle.std.proofs.lemmas.Bool.Decides.{eqb_tells, nat_tests}
use Rattle.std.proofs.lemmas.List.{length-append, length-map}
use Rattle.std.proofs.lemmas.List.Sums.{sum_by-cons, sum_by_push}
use Rattle.std.proofs.lemmas.Option.{slice_get_past}
use Rattle.exp_runs.specs.declared.run.Run.{Run}
use Rattle.exp_runs.specs.declared.run.Status.TheVariants as status
use Rattle.exp_runs.specs.Keys.{run_of}
use Rattle.exp_runs.specs.Table.{changed, with_fields, with_status}
use Rattle.exp_model.specs.declared.session.Session.{Session}
use Rattle.exp_model.specs.declared.session.Experiment.{Experiment}
use Rattle.exp_model.specs.declared.arrival.Submission.{Submission}
use Rattle.exp_model.specs.Sessions.{is_session}
use Rattle.sched_state.specs.State.{SchedState}
use Rattle.sched_state.specs.Arrivals.{new_run}
use Rattle.sched_state.specs.Boards.{AreNumberedFrom, AreNumbered}
use Rattle.sched_state.specs.Reports.{run_steps, steps_in}
use Rattle.sched_state.proofs.Numbered.{changed-numbered, pushed-numbered}
use Rattle.sched_laws.specs.Left.{left_of}
use Rattle.sched_laws.proofs.Arriving.{experiment-there, run-stage}
use Rattle.sched_laws.proofs.Moving.{IsSteady}

-- a run has 16 steps at most
pub few-steps : (session : Session) (run : Run) → IsTrue (is_session session) → length (run_steps session run) ≤ 16
few-steps session run ok = at (nat_le (length session.experiments) run.experiment) refl
  where
    at : (b : Bool) → nat_le (length session.experiments) run.experiment ≡ b → length (run_steps session run) ≤ 16
    at true h =
        let past : length session.experiments ≤ run.experiment = leb-true (length session.experiments) run.experiment h in
        let none : length (run_steps session run) ≡ 0 =
        ap (λ e. length (steps_in (λ (x : Experiment). x.run) e)) (slice_get_past session.experiments run.experiment past) in
        omega (arith, none)
    at false h =
        let within : run.experiment < length session.experiments = grind (arith, nat_tests) in
        let e = experiment-there session run.experiment ok within in
        let same : length (run_steps session run) ≡ length e.0.run = ap (λ x. length (steps_in (λ (y : Experiment). y.run) x)) e.1 in
        let few : length e.0.run ≤ 16 = (run-stage _ e.0 e.2).1 in
        omega (arith, same, few)

-- the sum over the runs after one of them changed
none-changed-at : (f : Run → Run) (rid from : ℕ) (r : Run) (runs : List Run) → r.rid ≡ from → rid < from → changed f rid runs ≡ runs
    → ((r.rid == rid) ≡ true) × (r.rid ≡ rid) ⊎ ((r.rid == rid) ≡ false) × (r.rid ≢ rid)
    → changed f rid (r ∷ runs) ≡ r ∷ runs
none-changed-at f rid from r runs here h rest (inl e) = absurd (omega (arith, e.1, here, h))
none-changed-at f rid from r runs here h rest (inr e) = ap (λ b. cond b (f r) r ∷ changed f rid runs) e.0 ∙ ap (λ rs. r ∷ rs) rest

none-changed : (f : Run → Run) (rid from : ℕ) (runs : List Run) → AreNumberedFrom from runs → rid < from → changed f rid runs ≡ runs
none-changed f rid from [] all h = refl
none-changed f rid from (r ∷ runs) all h =
    none-changed-at f rid from r runs all.0 h (none-changed f rid (from + 1) runs all.1 (omega (arith, h))) (eqb_tells r.rid rid)

pub found-at : (r run : Run) (runs : List Run) (rid : ℕ) (b : Bool) → (r.rid == rid) ≡ b → run_of (r ∷ runs) rid ≡ Some run
    → cond b (Some r) (run_of runs rid) ≡ Some run
found-at r run runs rid b e h = sym (ap (λ c. cond c (Some r) (run_of runs rid)) e) ∙ h

sum-changed : (w : Run → ℕ) (f : Run → Run) (rid less from : ℕ) (run : Run) (runs : List Run) → AreNumberedFrom from runs → run_of runs rid ≡ Some run
    → w (f run) + less ≤ w run
    → sum_by w (changed f rid runs) + less ≤ sum_by w runs
sum-changed w f rid less from run [] all there h = absurd (cc)
sum-changed w f rid less from run (r ∷ runs) all there h = at (sum-changed w f rid less (from + 1) run runs all.1) (eqb_tells r.rid rid)
  where
    at : (run_of runs rid ≡ Some run → w (f run) + less ≤ w run → sum_by w (changed f rid runs) + less ≤ sum_by w runs)
        → ((r.rid == rid) ≡ true) × (r.rid ≡ rid) ⊎ ((r.rid == rid) ≡ false) × (r.rid ≢ rid) → sum_by w (changed f rid (r ∷ runs)) + less ≤ sum_by w (r ∷ runs)
    at ih (inl e) =
        let same : r ≡ run = cc (found-at r run runs rid true e.0 there) in
        let here : r.rid ≡ from = all.0 in
        let rest : changed f rid runs ≡ runs = none-changed f rid (from + 1) runs all.1 (omega (arith, e.1, here)) in
        let now : changed f rid (r ∷ runs) ≡ f run ∷ runs =
        ap (λ b. cond b (f r) r ∷ changed f rid runs) e.0 ∙ ap (λ rs. f r ∷ rs) rest ∙ ap (λ x. f x ∷ runs) same in
        let a : sum_by w (changed f rid (r ∷ runs)) ≡ w (f run) + sum_by w runs = ap (sum_by w) now ∙ sum_by-cons w (f run) runs in
        let b : sum_by w (r ∷ runs) ≡ w run + sum_by w runs = sum_by-cons w r runs ∙ ap (λ x. w x + sum_by w runs) same in
        omega (arith, a, b, h)
    at ih (inr e) =
        let rest : sum_by w (changed f rid runs) + less ≤ sum_by w runs = ih (found-at r run runs rid false e.0 there) h in
        let now : changed f rid (r ∷ runs) ≡ r ∷ changed f rid runs = ap (λ b. cond b (f r) r ∷ changed f rid runs) e.0 in
        let a : sum_by w (changed f rid (r ∷ runs)) ≡ w r + sum_by w (changed f rid runs) = ap (sum_by w) now ∙ sum_by-cons w r (changed f rid runs) in
        let b : sum_by w (r ∷ runs) ≡ w r + sum_by w runs = sum_by-cons w r runs in
        omega (arith, a, b, rest)

at-cond : (b : Bool) (x less y : ℕ) → x + less ≤ y → cond b x 0 + cond b less 0 ≤ cond b y 0
at-cond true x less y h = h
at-cond false x less y h = omega arith

-- the jobs that are left of the runs that pass a test, and the room for further runs
abbrev pub weight : Session → (ℕ → Bool) → Run → ℕ
weight session t r = cond (t r.rid) (left_of session r) 0

abbrev pub total : Session → (ℕ → Bool) → (ℕ → ℕ) → List Run → ℕ
total session t room runs = sum_by (weight session t) runs + room (length runs)

-- a run that comes takes its part of the room
abbrev pub HasRoom : (ℕ → Bool) → (ℕ → ℕ) → ℕ → Type 0
HasRoom t room bound = (k : ℕ) → bound ≤ k → k < 64 → room (k + 1) + cond (t k) 18 0 ≤ room k

-- the total is less than a number by what was used
abbrev pub Uses : Session → (ℕ → Bool) → (ℕ → ℕ) → ℕ → ℕ → ℕ → List Run → Type 0
Uses session t room bound used n runs = AreNumbered runs × (bound ≤ length runs) × (length runs ≤ 64 → total session t room runs + used ≤ n)

module _ (session : Session) (t : ℕ → Bool) (room : ℕ → ℕ) (bound n : ℕ) (ok : IsTrue (is_session session)) (free : HasRoom t room bound) where
  abbrev At : ℕ → List Run → Type 0
  At used runs = Uses session t room bound used n runs

  -- a run changes, and has less to do
  pub change : (f : Run → Run) (rid used less : ℕ) (run : Run) (runs : List Run) → ((r : Run) → (f r).rid ≡ r.rid) → run_of runs rid ≡ Some run
      → left_of session (f run) + less ≤ left_of session run
      → At used runs → At (used + cond (t run.rid) less 0) (changed f rid runs)
  change f rid used less run runs keeps there h was =
      let w : Run → ℕ = weight session t in
      let count : length (changed f rid runs) ≡ length runs = length-map runs (λ (r : Run). cond (r.rid == rid) (f r) r) in
      let rooms : room (length (changed f rid runs)) ≡ room (length runs) = ap room count in
      let own : w (f run) ≡ cond (t run.rid) (left_of session (f run)) 0 = ap (λ x. cond (t x) (left_of session (f run)) 0) (keeps run) in
      let falls : w (f run) + cond (t run.rid) less 0 ≤ w run =
      let one = at-cond (t run.rid) (left_of session (f run)) less (left_of session run) h in omega (arith, one, own) in
      let sums : sum_by w (changed f rid runs) + cond (t run.rid) less 0 ≤ sum_by w runs =
      sum-changed w f rid (cond (t run.rid) less 0) 0 run runs was.0 there falls in (
        changed-numbered f keeps rid 0 runs was.0,
        omega (arith, count, was.1),
        λ k. let before = was.2 (omega (arith, count, k)) in omega
            (arith, sums, before, rooms),
      )

  -- or as much as before
  pub same : (f : Run → Run) (rid used : ℕ) (run : Run) (runs : List Run) → ((r : Run) → (f r).rid ≡ r.rid) → run_of runs rid ≡ Some run
      → left_of session (f run) ≤ left_of session run → At used runs → At used (changed f rid runs)
  same f rid used run runs keeps there h was =
      let now = change f rid used 0 run runs keeps there (omega (arith, h)) was in
      (now.0, now.1, λ k. let le = now.2 k in omega (arith, le))

  push : (asked : Submission) (used : ℕ) (runs : List Run) → At used runs → At used (runs ++ new_run (length runs) asked ∷ [])
  push asked used runs was =
      let w : Run → ℕ = weight session t in
      let new : Run = new_run (length runs) asked in
      let count : length (runs ++ new ∷ []) ≡ length runs + 1 = length-append runs (new ∷ []) in
      let rooms : room (length (runs ++ new ∷ [])) ≡ room (length runs + 1) = ap room count in
      let sums : sum_by w (runs ++ new ∷ []) ≡ sum_by w runs + w new = sum_by_push w runs new in
      let steps : length (run_steps session new) ≤ 16 = few-steps session new ok in
      let most : w new + cond (t (length runs)) 0 0 ≤ cond (t (length runs)) 18 0 =
      at-cond (t (length runs)) (left_of session new) 0 18 (omega (arith, steps)) in (
        pushed-numbered 0 runs new was.0 (omega arith),
        omega (arith, count, was.1),
        λ k.
            let before = was.2 (omega (arith, count, k)) in
            let part = free (length runs) was.1 (omega (arith, count, k)) in
            omega (arith, sums, most, rooms, before, part),
      )

  pub steady : (used : ℕ) → IsSteady (λ (state : SchedState). At used state.runs)
  steady used = record {
    orders = λ a d rid run state there was. same (with_fields run.pos a d) rid used run state.runs (λ r. refl) there (omega arith) was;
    delete = λ rid run state there was. same (with_status status.Deleted) rid used run state.runs (λ r. refl) there (omega arith) was;
    moves = λ clock arrivals state was. was;
    kept = record { push = λ asked state was. push asked used state.runs was; store = λ datasets state was. was };
  }
