-- The report of a step, and the kit of its run.
use Rattle.std.proofs.Common.{◌≡◌, ◌≢◌, ℕ, ◌+◌, ◌<◌, ◌≤◌, ◌^◌, Bool, true, false, List, cond, drop, length, sym, ◌∙◌, ap, arith, subst, inl, inr}
use Rattle.std.specs.Prelude.{ℤ, Option, Some, None, option_map, slice_set, ◌==◌, ◌⊎◌, IsTrue}
use Rattle.std.proofs.lemmas.Bool.Decides.{eqb_tells}
use Rattle.exp_runs.specs.declared.run.Run.{Run}
use Rattle.exp_runs.specs.declared.run.Status.{Status}
use Rattle.exp_runs.specs.declared.run.Status.TheVariants as status
use Rattle.exp_runs.specs.Keys.{run_of}
use Rattle.exp_model.specs.declared.session.Session.{Session}
use Rattle.exp_model.specs.declared.arrival.Arrival.{Arrival}
use Rattle.exp_model.specs.declared.step.HostStep.{HostStep}
use Rattle.exp_model.specs.Sessions.{is_session}
use Rattle.dataset_db.specs.Datasets.{Dataset}
use Rattle.sched_state.specs.declared.board.Board.{Board}
use Rattle.sched_state.specs.declared.entry.Flight.{Flight}
use Rattle.sched_state.specs.declared.entry.JobName.{JobName}
use Rattle.sched_state.specs.declared.entry.JobName.TheVariants.{Step}
use Rattle.sched_state.specs.declared.entry.KernelResult.{KernelResult}
use Rattle.sched_state.specs.declared.entry.SchedAct.TheVariants.{Stepped}
use Rattle.sched_state.specs.declared.entry.StepWord.{StepWord}
use Rattle.sched_state.specs.State.{SchedState, found_passes, passes}
use Rattle.sched_state.specs.Arrivals.{at_clock}
use Rattle.sched_state.specs.Boards.{AreNumbered, Becomes, state_of, state_with}
use Rattle.sched_state.specs.Lawful.{HasResult, IfHalted, IsFlying, MayCome, found_step, state_after, step_at}
use Rattle.sched_state.specs.Reports.{run_steps, step_effect}
use Rattle.sched_state.specs.Stepped.{CanMoveOn}
use Rattle.sched_laws.specs.Sound.{IsSound, jobs_of}
use Rattle.sched_laws.specs.Waits.{is_waiting, waits, waits_in}
use Rattle.sched_laws.proofs.Clocks.{clock-after}
use Rattle.sched_laws.proofs.Histories.{sound-after}
use Rattle.sched_laws.proofs.Stays.{StayIn}
use Rattle.sched_laws.proofs.Stepping.{flying-step, later-step}
use Rattle.sched_laws.proofs.Waiting.{FewerBut}
use Rattle.sched_core.specs.declared.sched.Sched.TheInside.{Inside}
use Rattle.sched_core.specs.Calls.{HasJob, found_pipeline, is_through}
use Rattle.sched_core.specs.Inside.{AreKits, IsSchedInside}
use Rattle.sched_core.specs.Scheds.{IsKitFor}
use Rattle.sched_core.proofs.Due.{got}
use Rattle.sched_core.proofs.Kits.{kits-got, kits-kept}

-- a run that has no step left doesn't wait for one
through-in : (jobs : List JobName) (is : Status) → is_through is ≡ true → waits_in jobs is ≡ true → ⊥
through-in jobs status.Pending t w = cc
through-in jobs status.Preparing t w = cc
through-in jobs status.Prepared t w = cc
through-in jobs status.Running t w = cc
through-in jobs status.Paused t w = cc
through-in jobs status.RunDone t w = cc
through-in jobs status.Analyzing t w = cc
through-in jobs status.Done t w = cc
through-in jobs status.Failed t w = cc
through-in jobs status.Terminated t w = cc
through-in jobs status.Deleted t w = cc

through-found : (flying : List Flight) (found : Option Run) → found_passes (λ (r : Run). is_through r.status) found ≡ true
    → found_passes (is_waiting flying) found ≡ true → ⊥
through-found flying None t w = cc
through-found flying (Some r) t w = through-in (jobs_of flying r.rid) r.status t w

module _ {P : Type 0} (source : P → ℕ) (stands_for : P → List ℕ → Type 0) (has_call : P → List ℕ → List ℤ → Type 0) where
  -- the kit of the run goes back into its place, unless the run has no step left
  pub kits-back : (session : Session) (old new : SchedState) (kits : List (Option P)) (rid : ℕ) (kit : P) (run : Run) (through : Bool)
      → StayIn old.runs new.runs → FewerBut rid old new → passes (λ (r : Run). is_through r.status) new.runs rid ≡ through
      → AreKits source stands_for has_call session old kits → rid < 64 → run_of old.runs rid ≡ Some run → IsKitFor source stands_for has_call session run kit
      → AreKits source stands_for has_call session new (cond through kits (slice_set kits rid (Some kit)))
  kits-back session old new kits rid kit run false stay fewer ends was within found is =
      kits-got source stands_for has_call session old new kits rid kit run stay fewer was within found is
  kits-back session old new kits rid kit run true stay fewer ends was within found is =
      kits-kept source stands_for has_call session old new kits stay (λ x h. at x h (eqb_tells x rid)) was
    where
      W : ℕ → Type 0
      W x = waits new x ≡ true

      at : (x : ℕ) → waits new x ≡ true → ((x == rid) ≡ true) × (x ≡ rid) ⊎ ((x == rid) ≡ false) × (x ≢ rid) → waits old x ≡ true
      at x h (inl e) = absurd (through-found new.flying (run_of new.runs rid) ends (subst W e.1 h))
      at x h (inr e) = fewer x e.1 h

  -- a copy of board and datasets stands where the scheduler does, and a step in flight may be reported on it
  pub record MayStep (a : Inside P) (board : Board) (datasets : List Dataset) (rid : ℕ) : Type 0 where
    pub begun : state_of a.session.arrivals datasets board ≡ state_after a.session a.entries.items
    pub numbered : AreNumbered board.runs.runs
    pub clock : board.clock ≤ 2 ^ 62 + length a.entries.items
    pub run : CanMoveOn rid (at_clock (board.clock + 1) (state_of a.session.arrivals datasets board))

  pub may-step : (a : Inside P) (board : Board) (datasets : List Dataset) (rid place : ℕ) → IsSchedInside source stands_for has_call a
      → Becomes (λ state. state) a.board board → datasets ≡ a.datasets
      → HasJob (state_after a.session a.entries.items) (Step rid place) → MayStep a board datasets rid
  may-step a board datasets rid place was copied same has =
      let state : SchedState = state_after a.session a.entries.items in
      let left : List Arrival = drop a.board.taken a.session.arrivals in
      let begun : state_of a.session.arrivals datasets board ≡ state =
      ap (λ (t : ℕ). state_with (drop t a.session.arrivals) datasets board) copied.taken
      ∙ ap (λ (ds : List Dataset). state_with left ds board) same ∙ copied.state left a.datasets ∙ was.state in
      let sound = sound-after a.session a.entries.items was.session was.lawful in
      let low = clock-after a.session a.entries.items was.session was.lawful in
      let shows : board.clock ≡ state.clock = ap (λ (s : SchedState). s.clock) begun in
      let later = later-step a.session has.0 rid place (state.clock + 1) state was.session sound has.1 in
      let N : SchedState → Type 0 = λ s. AreNumbered s.runs in
      let M : SchedState → Type 0 = λ s. CanMoveOn rid (at_clock (s.clock + 1) s) in
      record {
        begun = begun;
        numbered = subst N (sym begun) sound.numbered;
        clock = omega (arith, low, shows);
        run = subst M (sym begun) (later.0, later.1, omega (arith, later.2, later.3));
      }

-- the report of a step in flight may come, with the run's pipeline, a result that fits, and the clock and word that it has to have
pub step-may-come : (session : Session) (state : SchedState) (who rid place clock : ℕ) (run : Run) (ran : Option KernelResult) (word : StepWord)
    → IsTrue (is_session session) → IsSound session state → IsFlying state who (Step rid place)
    → run_of state.runs rid ≡ Some run → ((step : HostStep) → step_at session state rid place ≡ Some step → HasResult (Some step) ran)
    → clock ≡ state.clock + 1 → word ≡ (step_effect session rid place ran state).word
    → MayCome session state who (Stepped rid place run.pipeline clock ran word)
step-may-come session state who rid place clock run ran word ok sound flies found fits risen said =
    let at = flying-step session who rid place state ok sound flies in
    let step = got (run_steps session at.0) place at.4 in
    let here : step_at session state rid place ≡ Some step.0 = ap (found_step session place) at.1 ∙ step.1 in
    let H : Option HostStep → Type 0 = λ o. HasResult o ran in
    (flies, ap (option_map (λ (r : Run). r.pipeline)) found, subst H (sym here) (fits step.0 here), risen, said)

-- a halted scheduler takes it
pub stepped-may : (rid place pipeline clock : ℕ) (ran : Option KernelResult) (word : StepWord) (found : Option ℕ)
    → IfHalted found (Stepped rid place pipeline clock ran word)
stepped-may rid place pipeline clock ran word None = tt
stepped-may rid place pipeline clock ran word (Some by) = tt

-- it is the entry that a step's report has to have
pub step-entry : (session : Session) (state : SchedState) (rid place clock : ℕ) (run : Run) (ran : Option KernelResult) (word : StepWord)
    → run_of state.runs rid ≡ Some run → clock ≡ state.clock + 1 → word ≡ (step_effect session rid place ran state).word
    → Stepped rid place run.pipeline clock ran word
    ≡ Stepped rid place (found_pipeline (run_of state.runs rid)) (state.clock + 1) ran (step_effect session rid place ran state).word
step-entry session state rid place clock run ran word found risen said =
    ap (λ (p : ℕ). Stepped rid place p clock ran word) (sym (ap found_pipeline found))
    ∙ ap (λ (k : ℕ). Stepped rid place (found_pipeline (run_of state.runs rid)) k ran word) risen
    ∙ ap (λ (w : StepWord). Stepped rid place (found_pipeline (run_of state.runs rid)) (state.clock + 1) ran w) said
