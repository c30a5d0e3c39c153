-- What a test of a status says, and what goes with being on a stack.
use Rattle.std.proofs.Common.{◌≡◌, ℕ, ◌<◌, ◌+◌, Bool, true, false, List, [], ◌∷◌, ◌++◌, refl, sym, ◌∙◌, ap, subst, inl, inr}
use Rattle.std.specs.Prelude.{Option, ◌⊎◌}
use Rattle.exp_runs.specs.declared.run.Status.{Status}
use Rattle.exp_runs.specs.declared.run.Status.TheVariants as status
use Rattle.exp_runs.specs.Statuses.{is_pending, is_preparing, is_prepared, is_running, is_run_done, is_analyzing, is_started, is_ended}
use Rattle.sched_state.specs.declared.entry.JobName.{JobName}
use Rattle.sched_state.specs.declared.entry.JobName.TheVariants.{Prepare, Step, Analyze}
use Rattle.sched_laws.specs.Sound.{HasStep, StandsIn}
use Rattle.sched_laws.proofs.Flying.{none-there, only-one}

pub when-pending : (is : Status) → is_pending is ≡ true → is ≡ status.Pending
when-pending status.Pending h = refl
when-pending status.Preparing h = absurd (cc)
when-pending status.Prepared h = absurd (cc)
when-pending status.Running h = absurd (cc)
when-pending status.Paused h = absurd (cc)
when-pending status.RunDone h = absurd (cc)
when-pending status.Analyzing h = absurd (cc)
when-pending status.Done h = absurd (cc)
when-pending status.Failed h = absurd (cc)
when-pending status.Terminated h = absurd (cc)
when-pending status.Deleted h = absurd (cc)

pub when-prepared : (is : Status) → is_prepared is ≡ true → is ≡ status.Prepared
when-prepared status.Pending h = absurd (cc)
when-prepared status.Preparing h = absurd (cc)
when-prepared status.Prepared h = refl
when-prepared status.Running h = absurd (cc)
when-prepared status.Paused h = absurd (cc)
when-prepared status.RunDone h = absurd (cc)
when-prepared status.Analyzing h = absurd (cc)
when-prepared status.Done h = absurd (cc)
when-prepared status.Failed h = absurd (cc)
when-prepared status.Terminated h = absurd (cc)
when-prepared status.Deleted h = absurd (cc)

pub when-running : (is : Status) → is_running is ≡ true → is ≡ status.Running
when-running status.Pending h = absurd (cc)
when-running status.Preparing h = absurd (cc)
when-running status.Prepared h = absurd (cc)
when-running status.Running h = refl
when-running status.Paused h = absurd (cc)
when-running status.RunDone h = absurd (cc)
when-running status.Analyzing h = absurd (cc)
when-running status.Done h = absurd (cc)
when-running status.Failed h = absurd (cc)
when-running status.Terminated h = absurd (cc)
when-running status.Deleted h = absurd (cc)

pub when-done : (is : Status) → is_run_done is ≡ true → is ≡ status.RunDone
when-done status.Pending h = absurd (cc)
when-done status.Preparing h = absurd (cc)
when-done status.Prepared h = absurd (cc)
when-done status.Running h = absurd (cc)
when-done status.Paused h = absurd (cc)
when-done status.RunDone h = refl
when-done status.Analyzing h = absurd (cc)
when-done status.Done h = absurd (cc)
when-done status.Failed h = absurd (cc)
when-done status.Terminated h = absurd (cc)
when-done status.Deleted h = absurd (cc)

-- a run on a stack that isn't running is paused
pub when-on : (steps ahead rid pos : ℕ) (jobs : List JobName) (top : Option ℕ) (is : Status) → is_running is ≡ false
    → StandsIn steps ahead rid pos jobs true top is → is ≡ status.Paused
when-on steps ahead rid pos jobs top status.Pending no_run h = absurd (cc (h.1))
when-on steps ahead rid pos jobs top status.Preparing no_run h = absurd (cc (h.1))
when-on steps ahead rid pos jobs top status.Prepared no_run h = absurd (cc (h.1))
when-on steps ahead rid pos jobs top status.Running no_run h = absurd (cc)
when-on steps ahead rid pos jobs top status.Paused no_run h = refl
when-on steps ahead rid pos jobs top status.RunDone no_run h = absurd (cc (h.1))
when-on steps ahead rid pos jobs top status.Analyzing no_run h = absurd (cc (h.1))
when-on steps ahead rid pos jobs top status.Done no_run h = absurd (cc (h.1))
when-on steps ahead rid pos jobs top status.Failed no_run h = absurd (cc (h.1))
when-on steps ahead rid pos jobs top status.Terminated no_run h = absurd (cc (h.1))
when-on steps ahead rid pos jobs top status.Deleted no_run h = absurd (cc (h.1))

-- a run with this job in flight
no-prepares : (steps ahead rid pos : ℕ) (jobs front back : List JobName) (x : ℕ) → jobs ≡ front ++ Prepare x ∷ back
    → ((jobs ≡ []) × (pos < steps)) ⊎ HasStep steps ahead rid pos jobs → ⊥
no-prepares steps ahead rid pos jobs front back x e (inl h) = none-there front back (Prepare x) (sym h.0 ∙ e)
no-prepares steps ahead rid pos jobs front back x e (inr h) =
    let is : Step rid h.0 ≡ Prepare x = only-one front back (Step rid h.0) (Prepare x) (sym h.1 ∙ e) in cc

pub when-prepares : (steps ahead rid pos : ℕ) (jobs front back : List JobName) (on : Bool) (top : Option ℕ) (x : ℕ) (is : Status)
    → jobs ≡ front ++ Prepare x ∷ back → StandsIn steps ahead rid pos jobs on top is → is ≡ status.Preparing
when-prepares steps ahead rid pos jobs front back on top x status.Pending e h = absurd (none-there front back (Prepare x) (sym h.0 ∙ e))
when-prepares steps ahead rid pos jobs front back on top x status.Preparing e h = refl
when-prepares steps ahead rid pos jobs front back on top x status.Prepared e h = absurd (none-there front back (Prepare x) (sym h.0 ∙ e))
when-prepares steps ahead rid pos jobs front back on top x status.Running e h = absurd (no-prepares steps ahead rid pos jobs front back x e h.1)
when-prepares steps ahead rid pos jobs front back on top x status.Paused e h = absurd (none-there front back (Prepare x) (sym h.0 ∙ e))
when-prepares steps ahead rid pos jobs front back on top x status.RunDone e h = absurd (none-there front back (Prepare x) (sym h.0 ∙ e))
when-prepares steps ahead rid pos jobs front back on top x status.Analyzing e h =
    let is : Analyze rid ≡ Prepare x = only-one front back (Analyze rid) (Prepare x) (sym h.0 ∙ e) in absurd (cc)
when-prepares steps ahead rid pos jobs front back on top x status.Done e h = absurd (none-there front back (Prepare x) (sym h.0 ∙ e))
when-prepares steps ahead rid pos jobs front back on top x status.Failed e h = absurd (none-there front back (Prepare x) (sym h.0 ∙ e))
when-prepares steps ahead rid pos jobs front back on top x status.Terminated e h = absurd (none-there front back (Prepare x) (sym h.0 ∙ e))
when-prepares steps ahead rid pos jobs front back on top x status.Deleted e h = absurd (none-there front back (Prepare x) (sym h.0 ∙ e))

-- a run with this job in flight
no-analyzes : (steps ahead rid pos : ℕ) (jobs front back : List JobName) (x : ℕ) → jobs ≡ front ++ Analyze x ∷ back
    → ((jobs ≡ []) × (pos < steps)) ⊎ HasStep steps ahead rid pos jobs → ⊥
no-analyzes steps ahead rid pos jobs front back x e (inl h) = none-there front back (Analyze x) (sym h.0 ∙ e)
no-analyzes steps ahead rid pos jobs front back x e (inr h) =
    let is : Step rid h.0 ≡ Analyze x = only-one front back (Step rid h.0) (Analyze x) (sym h.1 ∙ e) in cc

pub when-analyzes : (steps ahead rid pos : ℕ) (jobs front back : List JobName) (on : Bool) (top : Option ℕ) (x : ℕ) (is : Status)
    → jobs ≡ front ++ Analyze x ∷ back → StandsIn steps ahead rid pos jobs on top is → is ≡ status.Analyzing
when-analyzes steps ahead rid pos jobs front back on top x status.Pending e h = absurd (none-there front back (Analyze x) (sym h.0 ∙ e))
when-analyzes steps ahead rid pos jobs front back on top x status.Preparing e h =
    let is : Prepare rid ≡ Analyze x = only-one front back (Prepare rid) (Analyze x) (sym h.0 ∙ e) in absurd (cc)
when-analyzes steps ahead rid pos jobs front back on top x status.Prepared e h = absurd (none-there front back (Analyze x) (sym h.0 ∙ e))
when-analyzes steps ahead rid pos jobs front back on top x status.Running e h = absurd (no-analyzes steps ahead rid pos jobs front back x e h.1)
when-analyzes steps ahead rid pos jobs front back on top x status.Paused e h = absurd (none-there front back (Analyze x) (sym h.0 ∙ e))
when-analyzes steps ahead rid pos jobs front back on top x status.RunDone e h = absurd (none-there front back (Analyze x) (sym h.0 ∙ e))
when-analyzes steps ahead rid pos jobs front back on top x status.Analyzing e h = refl
when-analyzes steps ahead rid pos jobs front back on top x status.Done e h = absurd (none-there front back (Analyze x) (sym h.0 ∙ e))
when-analyzes steps ahead rid pos jobs front back on top x status.Failed e h = absurd (none-there front back (Analyze x) (sym h.0 ∙ e))
when-analyzes steps ahead rid pos jobs front back on top x status.Terminated e h = absurd (none-there front back (Analyze x) (sym h.0 ∙ e))
when-analyzes steps ahead rid pos jobs front back on top x status.Deleted e h = absurd (none-there front back (Analyze x) (sym h.0 ∙ e))

-- a run with this job in flight
pub when-steps : (steps ahead rid pos : ℕ) (jobs front back : List JobName) (on : Bool) (top : Option ℕ) (x place : ℕ) (is : Status)
    → jobs ≡ front ++ Step x place ∷ back → StandsIn steps ahead rid pos jobs on top is → is ≡ status.Running
when-steps steps ahead rid pos jobs front back on top x place status.Pending e h = absurd (none-there front back (Step x place) (sym h.0 ∙ e))
when-steps steps ahead rid pos jobs front back on top x place status.Preparing e h =
    let is : Prepare rid ≡ Step x place = only-one front back (Prepare rid) (Step x place) (sym h.0 ∙ e) in absurd (cc)
when-steps steps ahead rid pos jobs front back on top x place status.Prepared e h = absurd (none-there front back (Step x place) (sym h.0 ∙ e))
when-steps steps ahead rid pos jobs front back on top x place status.Running e h = refl
when-steps steps ahead rid pos jobs front back on top x place status.Paused e h = absurd (none-there front back (Step x place) (sym h.0 ∙ e))
when-steps steps ahead rid pos jobs front back on top x place status.RunDone e h = absurd (none-there front back (Step x place) (sym h.0 ∙ e))
when-steps steps ahead rid pos jobs front back on top x place status.Analyzing e h =
    let is : Analyze rid ≡ Step x place = only-one front back (Analyze rid) (Step x place) (sym h.0 ∙ e) in absurd (cc)
when-steps steps ahead rid pos jobs front back on top x place status.Done e h = absurd (none-there front back (Step x place) (sym h.0 ∙ e))
when-steps steps ahead rid pos jobs front back on top x place status.Failed e h = absurd (none-there front back (Step x place) (sym h.0 ∙ e))
when-steps steps ahead rid pos jobs front back on top x place status.Terminated e h = absurd (none-there front back (Step x place) (sym h.0 ∙ e))
when-steps steps ahead rid pos jobs front back on top x place status.Deleted e h = absurd (none-there front back (Step x place) (sym h.0 ∙ e))

-- of a run that has this step in flight, it is the only one
pub has-step : (steps ahead rid pos x place : ℕ) (jobs front back : List JobName) → jobs ≡ front ++ Step x place ∷ back
    → ((jobs ≡ []) × (pos < steps)) ⊎ HasStep steps ahead rid pos jobs
    → (jobs ≡ Step rid place ∷ []) × (place < steps) × (pos ≡ place + ahead)
has-step steps ahead rid pos x place jobs front back e (inl h) = absurd (none-there front back (Step x place) (sym h.0 ∙ e))
has-step steps ahead rid pos x place jobs front back e (inr h) =
    let is : Step rid h.0 ≡ Step x place = only-one front back (Step rid h.0) (Step x place) (sym h.1 ∙ e) in
    let at : h.0 ≡ place = cc in
    (h.1 ∙ ap (λ p. Step rid p ∷ []) at, subst (λ (p : ℕ). p < steps) at h.2, subst (λ (p : ℕ). pos ≡ p + ahead) at h.3)

-- a run without a job in flight is neither being prepared nor analyzed
pub when-idle : (steps ahead rid pos : ℕ) (on : Bool) (top : Option ℕ) (is : Status) → StandsIn steps ahead rid pos [] on top is
    → (is_preparing is ≡ false) × (is_analyzing is ≡ false)
when-idle steps ahead rid pos on top status.Pending h = (refl, refl)
when-idle steps ahead rid pos on top status.Preparing h = absurd (cc (h.0))
when-idle steps ahead rid pos on top status.Prepared h = (refl, refl)
when-idle steps ahead rid pos on top status.Running h = (refl, refl)
when-idle steps ahead rid pos on top status.Paused h = (refl, refl)
when-idle steps ahead rid pos on top status.RunDone h = (refl, refl)
when-idle steps ahead rid pos on top status.Analyzing h = absurd (cc (h.0))
when-idle steps ahead rid pos on top status.Done h = (refl, refl)
when-idle steps ahead rid pos on top status.Failed h = (refl, refl)
when-idle steps ahead rid pos on top status.Terminated h = (refl, refl)
when-idle steps ahead rid pos on top status.Deleted h = (refl, refl)

-- what has started and has no job in flight is of one of four kinds
pub when-started : (is : Status) → is_preparing is ≡ false → is_analyzing is ≡ false → is_started is ≡ true
    → ((is ≡ status.Prepared) ⊎ (is ≡ status.Running)) ⊎ ((is ≡ status.Paused) ⊎ (is ≡ status.RunDone))
when-started status.Pending a b h = absurd (cc)
when-started status.Preparing a b h = absurd (cc)
when-started status.Prepared a b h = inl (inl refl)
when-started status.Running a b h = inl (inr refl)
when-started status.Paused a b h = inr (inl refl)
when-started status.RunDone a b h = inr (inr refl)
when-started status.Analyzing a b h = absurd (cc)
when-started status.Done a b h = absurd (cc)
when-started status.Failed a b h = absurd (cc)
when-started status.Terminated a b h = absurd (cc)
when-started status.Deleted a b h = absurd (cc)

-- and what hasn't ended waits or has started
pub when-lives : (is : Status) → is_ended is ≡ false → (is ≡ status.Pending) ⊎ (is_started is ≡ true)
when-lives status.Pending h = inl refl
when-lives status.Preparing h = inr refl
when-lives status.Prepared h = inr refl
when-lives status.Running h = inr refl
when-lives status.Paused h = inr refl
when-lives status.RunDone h = inr refl
when-lives status.Analyzing h = inr refl
when-lives status.Done h = absurd (cc)
when-lives status.Failed h = absurd (cc)
when-lives status.Terminated h = absurd (cc)
when-lives status.Deleted h = absurd (cc)
