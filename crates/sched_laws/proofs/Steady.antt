-- Soundness through a change of one run, with what is in flight and on the stacks.
use Rattle.std.proofs.Common.{◌≡◌, ◌≢◌, ℕ, ◌<◌, Bool, false, List, [], cond, length, refl, sym, ◌∙◌, ap, subst}
use Rattle.std.specs.Prelude.{Option, Some, not, ◌==◌}
use Rattle.std.specs.List.{AllByRecursion}
use Rattle.std.proofs.lemmas.List.{length-map}
use Rattle.exp_runs.specs.declared.run.Run.{Run}
use Rattle.exp_runs.specs.declared.run.Status.{Status}
use Rattle.exp_runs.specs.declared.run.Status.TheVariants as status
use Rattle.exp_runs.specs.Keys.{is_of, run_of}
use Rattle.exp_runs.specs.Table.{changed}
use Rattle.exp_model.specs.declared.session.Session.{Session}
use Rattle.sched_state.specs.declared.entry.Flight.{Flight}
use Rattle.sched_state.specs.declared.entry.JobName.{JobName}
use Rattle.sched_state.specs.State.{SchedState, rid_of, passes, top_of}
use Rattle.sched_state.specs.Reports.{run_steps}
use Rattle.sched_state.proofs.Numbered.{changed-numbered}
use Rattle.sched_laws.specs.Sound.{IsRunOf, IsSoundBy, IsStack, Stands, StandsIn, jobs_of, is_on}
use Rattle.sched_laws.proofs.Lookups.{all-both, all-changed, all-filter, all-found, passes-changed, top-same}
use Rattle.sched_laws.proofs.Flying.{without, off-own, off-other, top-without}
use Rattle.sched_laws.proofs.Stacks.{kept-changed, stack-kept, stack-filter, stands-moved}

-- a run with another position, other orders and another status
abbrev pub remade : (Run → ℕ) → (Run → Bool) → (Run → Bool) → (Run → Status) → Run → Run
remade p t d s run = record run { pos = p run; terminate = t run; doomed = d run; status = s run }

abbrev pub AreBelow : ℕ → List Flight → Type 0
AreBelow bound flying = AllByRecursion (λ (flight : Flight). rid_of flight.job < bound) flying

-- where a run stands among these jobs and stacks
abbrev pub StandsThere : Session → (ℕ → ℕ) → List Run → List Flight → List ℕ → Run → ℕ → Status → Type 0
StandsThere session now runs flying stack run pos is =
    StandsIn (length (run_steps session run)) (now run.rid) run.rid pos (jobs_of flying run.rid) (is_on stack run.rid) (top_of runs stack run.pipeline) is

pub one-changes : (session : Session) (ahead now : ℕ → ℕ) (state : SchedState) (p : Run → ℕ) (t d : Run → Bool) (s : Run → Status) (rid : ℕ)
    (flying : List Flight) (stack : List ℕ)
    → IsSoundBy session ahead state → AreBelow (length state.runs) flying → AllByRecursion (λ x. x < length state.runs) stack → IsStack state.runs stack
    → ((r : Run) → run_of state.runs r.rid ≡ Some r → r.rid ≢ rid → Stands session ahead state r
    → StandsThere session now state.runs flying stack r r.pos r.status)
    → ((r : Run) → run_of state.runs r.rid ≡ Some r → r.rid ≡ rid → Stands session ahead state r → StandsThere session now state.runs flying stack r (p r)
    (s r))
    → IsSoundBy session now (record state { runs = changed (remade p t d s) rid state.runs; flying = flying; stack = stack })
one-changes session ahead now state p t d s rid flying stack was known stacked rising others here =
    let f : Run → Run = remade p t d s in
    let new : List Run = changed f rid state.runs in
    let count : length new ≡ length state.runs = length-map state.runs (λ (r : Run). cond (r.rid == rid) (f r) r) in
    let top : (q : ℕ) → top_of new stack q ≡ top_of state.runs stack q =
    λ q. top-same state.runs new (length state.runs) q stack (λ x h. passes-changed f (λ r. refl) (λ r. refl) rid q x state.runs) stacked in
    let P : Run → Type 0 = λ r. (run_of state.runs r.rid ≡ Some r) × Stands session ahead state r in
    let Q : Run → Type 0 = λ r. StandsThere session now new flying stack r r.pos r.status in
    let F : ℕ → Type 0 = λ n. AreBelow n flying in
    let G : ℕ → Type 0 = λ n. AllByRecursion (λ x. x < n) stack in
    record {
      numbered = changed-numbered f (λ r. refl) rid 0 state.runs was.numbered;
      fit = all-changed (IsRunOf session) (IsRunOf session) f rid state.runs (λ r h o. h) (λ r h e. h) was.fit;
      stands =
          all-changed P Q f rid state.runs
          (λ r h o. stands-moved (length (run_steps session r)) (now r.rid) r.rid r.pos (jobs_of flying r.rid) (jobs_of flying r.rid) (is_on stack r.rid)
          (is_on stack r.rid) (top_of state.runs stack r.pipeline) (top_of new stack r.pipeline) r.status refl refl (λ running e. top r.pipeline ∙ e)
          (others r h.0 o h.1))
          (λ r h e. stands-moved (length (run_steps session r)) (now r.rid) r.rid (p r) (jobs_of flying r.rid) (jobs_of flying r.rid) (is_on stack r.rid)
          (is_on stack r.rid) (top_of state.runs stack r.pipeline) (top_of new stack r.pipeline) (s r) refl refl (λ running k. top r.pipeline ∙ k)
          (here r h.0 e h.1))
          (all-both (λ (r : Run). run_of state.runs r.rid ≡ Some r) (Stands session ahead state) state.runs (all-found state.runs was.numbered) was.stands);
      known = subst F (sym count) known;
      stacked = subst G (sym count) stacked;
      rising =
          stack-kept (length state.runs) state.runs new (kept-changed f (λ r. refl) (λ r. refl) (λ r. refl) rid (length state.runs) state.runs) stack stacked
          rising;
      later = was.later;
    }

-- others stand as they stood
pub others-stand : (session : Session) (ahead now : ℕ → ℕ) (state : SchedState) (flying : List Flight) (stack : List ℕ) (r : Run)
    → now r.rid ≡ ahead r.rid → jobs_of flying r.rid ≡ jobs_of state.flying r.rid → is_on stack r.rid ≡ is_on state.stack r.rid
    → (r.status ≡ status.Running → top_of state.runs state.stack r.pipeline ≡ Some r.rid → top_of state.runs stack r.pipeline ≡ Some r.rid)
    → Stands session ahead state r → StandsThere session now state.runs flying stack r r.pos r.status
others-stand session ahead now state flying stack r far jobs on top was =
    let P : ℕ → Type 0 =
    λ n. StandsIn (length (run_steps session r)) n r.rid r.pos (jobs_of flying r.rid) (is_on stack r.rid) (top_of state.runs stack r.pipeline) r.status in
    subst P (sym far)
    (stands-moved (length (run_steps session r)) (ahead r.rid) r.rid r.pos (jobs_of state.flying r.rid) (jobs_of flying r.rid) (is_on state.stack r.rid)
    (is_on stack r.rid) (top_of state.runs state.stack r.pipeline) (top_of state.runs stack r.pipeline) r.status jobs on top was)

-- a run leaves its stack, and has no job any more
pub off-stacks : (session : Session) (ahead now : ℕ → ℕ) (state : SchedState) (is : Status) (rid : ℕ) (flying : List Flight)
    → ((steps ahead rid pos : ℕ) (jobs : List JobName) (on : Bool) (top : Option ℕ) → jobs ≡ [] → on ≡ false → StandsIn steps ahead rid pos jobs on top is)
    → IsSoundBy session ahead state → AreBelow (length state.runs) flying
    → ((x : ℕ) → x ≢ rid → (now x ≡ ahead x) × (jobs_of flying x ≡ jobs_of state.flying x))
    → ((r : Run) → run_of state.runs r.rid ≡ Some r → r.rid ≡ rid → Stands session ahead state r → jobs_of flying r.rid ≡ [])
    → IsSoundBy session now (record state {
      runs = changed (λ (r : Run). record r { status = is }) rid state.runs;
      flying = flying;
      stack = without rid
          state.stack;
    })
off-stacks session ahead now state is rid flying plain was known others none =
    let bound : AllByRecursion (λ x. x < length state.runs) (without rid state.stack) =
    all-filter (λ x. x < length state.runs) (λ other. not (other == rid)) state.stack was.stacked in
    one-changes session ahead now state (λ r. r.pos) (λ r. r.terminate) (λ r. r.doomed) (λ r. is) rid flying (without rid state.stack) was known bound
    (stack-filter state.runs (λ other. not (other == rid)) state.stack was.rising)
    (λ r there other stood.
    let same = others r.rid other in
    others-stand session ahead now state flying (without rid state.stack) r same.0 same.1 (off-other rid r.rid state.stack other)
    (λ running e. top-without (passes (is_of r.pipeline) state.runs) rid r.rid state.stack other e) stood)
    (λ r there e stood.
    let off : is_on (without rid state.stack) r.rid ≡ false = ap (is_on (without rid state.stack)) e ∙ off-own rid state.stack in
    plain (length (run_steps session r)) (now r.rid) r.rid r.pos (jobs_of flying r.rid) (is_on (without rid state.stack) r.rid)
    (top_of state.runs (without rid state.stack) r.pipeline) (none r there e stood) off)
