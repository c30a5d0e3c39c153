-- Reports of a job in flight: it is the chair's own, and nothing but want of memory refuses its report.
use Rattle.std.proofs.Common.{◌≡◌, ℕ, List, refl, sym, ap, subst, ◌∙◌}
use Rattle.std.specs.Prelude.{Option, Some, None}
use Rattle.exp_runs.specs.declared.run.Run.{Run}
use Rattle.exp_runs.specs.Keys.{run_of}
use Rattle.exp_model.specs.declared.session.Session.{Session}
use Rattle.sched_state.specs.declared.entry.JobName.{JobName}
use Rattle.sched_state.specs.State.{SchedState, rid_of}
use Rattle.sched_laws.specs.Workers.{RunStands}
use Rattle.sched_laws.proofs.Flights.{one-chair}
use Rattle.sched_laws.proofs.Standing.{flying-stand}
use Rattle.sched_core.specs.declared.answer.Why.{Why}
use Rattle.sched_core.specs.declared.answer.Why.TheVariants as why
use Rattle.sched_core.specs.Calls.{HasJob, IsWhy, KitFits, TookIt}
use Rattle.sched_core.specs.Scheds.{IsSched, SchedValue, sched_state, source_of_run}
use Rattle.lab_kits.specs.declared.kit.Kit.{Kit}
use Rattle.lab_kits.specs.Kits.{IsKitOf, KitCall, KitText, kit_source}
use Rattle.stage_work.specs.Jobs.{Flies, HasKit}

-- of a run no other chair has a job in flight
pub took-own : (sched : SchedValue) (who : ℕ) (job : JobName) → IsSched sched → Flies who job sched → TookIt (sched_state sched) who job
took-own sched who job is flies = λ chair other.
    (one-chair sched.session sched.history who chair job job is.session is.lawful flies other refl).0

-- its run is there
pub run-there : (sched : SchedValue) (job : JobName) → IsSched sched → HasJob (sched_state sched) job
    → (run : Run) × (run_of (sched_state sched).runs (rid_of job) ≡ Some run) × RunStands sched.session (sched_state sched) job run
run-there sched job is has = flying-stand sched.session sched.history has.0 job is.session is.lawful has.1

-- the kit is one for the run that has the number
pub kit-fits : (sched : SchedValue) (rid : ℕ) (kit : Kit) → HasKit sched rid kit → KitFits kit_source KitText KitCall sched rid kit
kit-fits sched rid kit has = λ run found same.
    let both : Some has.0 ≡ Some run = sym has.1 ∙ found in
    let is : has.0 ≡ run = cc in
    let K : Run → Type 0 = λ r. IsKitOf sched.session r kit in
    subst K is has.2

-- a kit that comes with the report is of the run's source
abbrev IsSourceOf : Session → Run → Option ℕ → Type 0
IsSourceOf session run None = Unit {0}
IsSourceOf session run (Some source) = source_of_run session run ≡ Some source

only-memory : (session : Session) (state : SchedState) (job : JobName) (run : Run) (source : Option ℕ) (w : Why) → HasJob state job
    → run_of state.runs (rid_of job) ≡ Some run → IsSourceOf session run source → IsWhy session state job source w → w ≡ why.Memory
only-memory session state job run None why.NoRun has found own is = let clash = sym is ∙ found in absurd (cc)
only-memory session state job run (Some source) why.NoRun has found own is = let clash = sym is ∙ found in absurd (cc)
only-memory session state job run None (why.WrongStatus status) has found own is = absurd (is.1 has)
only-memory session state job run (Some source) (why.WrongStatus status) has found own is = absurd (is.1 has)
only-memory session state job run None (why.Foreign number) has found own is = absurd is
only-memory session state job run (Some source) (why.Foreign number) has found own is =
    let both : Some is.1 ≡ Some run = sym is.2 ∙ found in
    let it : is.1 ≡ run = cc in
    let its : Some number ≡ Some source = sym is.3 ∙ (ap (source_of_run session) it ∙ own) in
    let equal : number ≡ source = cc in
    absurd (is.4 equal)
only-memory session state job run None why.Memory has found own is = refl
only-memory session state job run (Some source) why.Memory has found own is = refl

-- so a report is refused for want of memory, with a kit of the run or without one
pub memory-with-kit : (sched : SchedValue) (job : JobName) (kit : Kit) (w : Why) → HasJob (sched_state sched) job → HasKit sched (rid_of job) kit
    → IsWhy sched.session (sched_state sched) job (Some (kit_source kit)) w → w ≡ why.Memory
memory-with-kit sched job kit w flies has is =
    only-memory sched.session (sched_state sched) job has.0 (Some (kit_source kit)) w flies has.1 has.2.same is

pub memory-alone : (sched : SchedValue) (job : JobName) (w : Why) → HasJob (sched_state sched) job → IsSched sched
    → IsWhy sched.session (sched_state sched) job None w → w ≡ why.Memory
memory-alone sched job w flies known is =
    let run = run-there sched job known flies in
    only-memory sched.session (sched_state sched) job run.0 None w flies run.1 tt is

-- a run that is there is found
pub not-there : (found : Option Run) (runs others : List Run) (rid : ℕ) (run : Run) → found ≡ None → found ≡ run_of runs rid → runs ≡ others
    → run_of others rid ≡ Some run → ⊥
not-there found runs others rid run none is same there =
    let clash : None ≡ Some run = sym none ∙ (is ∙ (ap (λ (rs : List Run). run_of rs rid) same ∙ there)) in absurd (cc)
