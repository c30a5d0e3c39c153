-- With each report there is one job less, and no entry adds any.
use Rattle.std.proofs.Common.{◌≡◌, ℕ, ◌+◌, ◌-◌, ◌<◌, ◌≤◌, Bool, true, false, List, cond, length, refl, sym, ◌∙◌, ap, arith, subst}
use Rattle.std.specs.Prelude.{Option, Some, None, IsTrue, slice_get, nat_le}
use Rattle.exp_runs.specs.declared.run.Run.{Run}
use Rattle.exp_runs.specs.declared.run.Status.{Status}
use Rattle.exp_runs.specs.declared.run.Status.TheVariants as status
use Rattle.exp_runs.specs.Keys.{can_analyze, can_prepare, is_due, is_of, run_of}
use Rattle.exp_runs.specs.Statuses.{is_pending, is_run_done}
use Rattle.exp_runs.specs.Table.{changed, with_status}
use Rattle.exp_model.specs.declared.session.Session.{Session}
use Rattle.exp_model.specs.declared.session.Experiment.{Experiment}
use Rattle.exp_model.specs.declared.step.HostStep.{HostStep}
use Rattle.exp_model.specs.Sessions.{is_session}
use Rattle.sched_state.specs.declared.entry.JobName.{JobName}
use Rattle.sched_state.specs.declared.entry.JobName.TheVariants.{Prepare, Step, Analyze}
use Rattle.sched_state.specs.declared.entry.KernelResult.{KernelResult}
use Rattle.sched_state.specs.declared.entry.SchedAct.{SchedAct}
use Rattle.sched_state.specs.declared.entry.SchedAct.TheVariants as act
use Rattle.sched_state.specs.State.{SchedState, landed, passes, rid_of, with_run}
use Rattle.sched_state.specs.Arrivals.{at_clock}
use Rattle.sched_state.specs.Datasets.{Stage, stage}
use Rattle.sched_state.specs.Picks.{pick, taken}
use Rattle.sched_state.specs.Reports.{Effect, after_clock, after_stage, moved_on, run_effect, run_steps, settle, staged_run, status_then, step_effect, step_effect_of, steps_of}
use Rattle.sched_state.specs.Lawful.{IsFlying, MayCome, after_act}
use Rattle.sched_state.proofs.Openings.{first, second}
use Rattle.sched_state.proofs.Chosen.{best-chosen}
use Rattle.sched_laws.specs.Sound.{IsSound, Stands, jobs_of, not_ahead}
use Rattle.sched_laws.specs.Waits.{is_waiting, waits_in}
use Rattle.sched_laws.specs.Workers.{reported, status_for}
use Rattle.sched_laws.specs.Left.{left_in, left_of}
use Rattle.sched_laws.proofs.Left.{HasRoom, Uses, change, same, steady}
use Rattle.sched_laws.proofs.Lookups.{found-has, found-number}
use Rattle.sched_laws.proofs.Statuses.{when-done, when-pending}
use Rattle.sched_laws.proofs.Picked.{analyzes-by, picked, prepares-by, steps-by}
use Rattle.sched_laws.proofs.Taking.{found-test}
use Rattle.sched_laws.proofs.Arriving.{by-clock as sound-clock, clock-flying}
use Rattle.sched_laws.proofs.Moving.{by-clock, by-run-effect, settle-runs}
use Rattle.sched_laws.proofs.Reporting.{in-flight}
use Rattle.sched_laws.proofs.Stepping.{IsEnd, MayStand, by-run-effect as ends-so, one_ahead, running-at, stepped-run}
use Rattle.sched_laws.proofs.Standing.{stands-so}
use Rattle.sched_laws.proofs.Waiting.{due-there, due-waits}

-- a run that waits for a step has as much to do as one that does it
waits-left : (steps pos : ℕ) (jobs : List JobName) (is : Status) → waits_in jobs is ≡ true → steps - pos + 1 ≤ left_in steps pos is
waits-left steps pos jobs status.Pending h = absurd (cc)
waits-left steps pos jobs status.Preparing h = absurd (cc)
waits-left steps pos jobs status.Prepared h = omega arith
waits-left steps pos jobs status.Running h = omega arith
waits-left steps pos jobs status.Paused h = omega arith
waits-left steps pos jobs status.RunDone h = absurd (cc)
waits-left steps pos jobs status.Analyzing h = absurd (cc)
waits-left steps pos jobs status.Done h = absurd (cc)
waits-left steps pos jobs status.Failed h = absurd (cc)
waits-left steps pos jobs status.Terminated h = absurd (cc)
waits-left steps pos jobs status.Deleted h = absurd (cc)

-- nor has it more when its step is done
done-left : (session : Session) (run : Run) (steps pos : ℕ) (is : Status) → MayStand session run is
    → left_in steps pos (status_then is pos steps) ≤ steps - pos + 1
done-left session run steps pos status.Pending may = absurd may
done-left session run steps pos status.Preparing may = absurd may
done-left session run steps pos status.Prepared may = absurd may
done-left session run steps pos status.Running may = at (nat_le steps pos)
  where
    at : (b : Bool) → left_in steps pos (cond b status.RunDone status.Running) ≤ steps - pos + 1
    at true = omega arith
    at false = omega arith
done-left session run steps pos status.Paused may = omega arith
done-left session run steps pos status.RunDone may = absurd may
done-left session run steps pos status.Analyzing may = absurd may
done-left session run steps pos status.Done may = absurd may
done-left session run steps pos status.Failed may = omega arith
done-left session run steps pos status.Terminated may = omega arith
done-left session run steps pos status.Deleted may = omega arith

-- what a report uses up of the runs that pass a test
abbrev pub by_report : (ℕ → Bool) → Option JobName → ℕ
by_report t None = 0
by_report t (Some job) = cond (t (rid_of job)) 1 0

module _ (session : Session) (t : ℕ → Bool) (room : ℕ → ℕ) (bound n : ℕ) (ok : IsTrue (is_session session)) (free : HasRoom t room bound) where
  abbrev At : ℕ → List Run → Type 0
  At used runs = Uses session t room bound used n runs

  pub used-none : (used : ℕ) (runs : List Run) → At used runs → At (used + 0) runs
  used-none used runs was = (was.0, was.1, λ k. let le = was.2 k in omega (arith, le))

  fewer : (f : Run → Run) (rid used : ℕ) (run : Run) (runs : List Run) → ((r : Run) → (f r).rid ≡ r.rid) → run_of runs rid ≡ Some run
      → left_of session (f run) + 1 ≤ left_of session run → At used runs
      → At (used + cond (t rid) 1 0) (changed f rid runs)
  fewer f rid used run runs keeps there h was =
      let P : ℕ → Type 0 = λ x. At (used + cond (t x) 1 0) (changed f rid runs) in
      subst P (found-number runs rid run there) (change session t room bound n ok free f rid used 1 run runs keeps there h was)

  -- a job is taken
  by-took : (chair used : ℕ) (job : JobName) (state : SchedState) → IsSound session state → pick session state ≡ Some job → At used state.runs
      → At used (taken chair job state).runs
  by-took chair used (Prepare rid) state was e uses =
      let due = picked session state (Prepare rid) e in
      let chosen = best-chosen (can_prepare due.0 state.clock) state.runs was.numbered rid (prepares-by state due.0 rid due.1) in
      let r : Run = chosen.0 in
      let is : r.status ≡ status.Pending =
      when-pending r.status (first (is_pending r.status) (nat_le r.due state.clock) (second (is_of due.0 r) (is_due state.clock r) chosen.2)) in
      let left : left_of session r ≡ length (run_steps session r) + 2 = ap (left_in (length (run_steps session r)) r.pos) is in
      same session t room bound n ok free (with_status status.Preparing) rid used r state.runs (λ x. refl) chosen.1 (omega (arith, left)) uses
  by-took chair used (Step rid place) state was e uses =
      let due = picked session state (Step rid place) e in
      let found = due-there session state due.0.0 rid was (steps-by state due.0.0 rid due.0.1).1 in
      let r : Run = found.0 in
      let waiting : is_waiting state.flying r ≡ true =
      sym (found-test (is_waiting state.flying) state.runs rid r found.1) ∙ due-waits session state rid place was e in
      same session t room bound n ok free (with_status status.Running) rid used r state.runs (λ x. refl) found.1
      (waits-left (length (run_steps session r)) r.pos (jobs_of state.flying r.rid) r.status waiting) uses
  by-took chair used (Analyze rid) state was e uses =
      let due = picked session state (Analyze rid) e in
      let chosen = best-chosen (can_analyze due.0) state.runs was.numbered rid (analyzes-by state due.0 rid due.1) in
      let r : Run = chosen.0 in
      let is : r.status ≡ status.RunDone = when-done r.status (second (is_of due.0 r) (is_run_done r.status) chosen.2) in
      let left : left_of session r ≡ 1 = ap (left_in (length (run_steps session r)) r.pos) is in
      same session t room bound n ok free (with_status status.Analyzing) rid used r state.runs (λ x. refl) chosen.1 (omega (arith, left)) uses

  -- a stage is reported
  by-stage : (of_stage : Experiment → List HostStep) (next : Status) (rid used : ℕ) (run : Run) (state : SchedState) (found : Option Run) → found ≡ Some run
      → run_of state.runs rid ≡ Some run
      → left_in (length (run_steps session run)) run.pos next + 1 ≤ left_of session run → At used state.runs
      → At (used + cond (t rid) 1 0) (staged_run of_stage next session rid state found).runs
  by-stage of_stage next rid used run state None e there h uses = absurd (cc)
  by-stage of_stage next rid used run state (Some other) e there h uses = at other.doomed
    where
      done : Stage
      done = stage (steps_of of_stage session other) state.datasets

      fine : (b : Bool) → At (used + cond (t rid) 1 0) (changed (with_status (cond b next status.Failed)) rid state.runs)
      fine true = fewer (with_status next) rid used run state.runs (λ x. refl) there h uses
      fine false = fewer (with_status status.Failed) rid used run state.runs (λ x. refl) there (omega (arith, h)) uses

      at : (b : Bool) → At (used + cond (t rid) 1 0) (cond b (with_run (with_status status.Deleted) rid state) (after_stage next rid done state)).runs
      at true = fewer (with_status status.Deleted) rid used run state.runs (λ x. refl) there (omega (arith, h)) uses
      at false = fine done.fine

  -- what is left of the run of a job in flight
  of-flight : (chair : ℕ) (job : JobName) (state : SchedState) → IsSound session state → IsFlying state chair job
      → (run : Run) × (run_of state.runs (rid_of job) ≡ Some run) × (left_of session run ≡ left_in (length (run_steps session run)) run.pos (status_for job))
  of-flight chair job state was flies =
      let f = in-flight session not_ahead state chair job was flies in
      let so = stands-so session state job f.0 f.1 (found-has (Stands session not_ahead state) state.runs (rid_of job) f.0 was.stands f.1.0) in
      (f.0, f.1.0, ap (left_in (length (run_steps session f.0)) f.0.pos) so.0)

  -- a step is reported
  by-settling : (rid place used : ℕ) (run : Run) (end : Effect) → IsEnd session rid place run end → At used end.state.runs
      → At used (settle (status_then end.status run.pos (length (run_steps session run))) run.rid (landed run.rid end.state)).runs
  by-settling rid place used run end ends uses =
      let steps : ℕ = length (run_steps session run) in
      let next : Status = status_then end.status run.pos steps in
      let number : run.rid ≡ rid = found-number end.state.runs rid run ends.0.1 in
      let there : run_of end.state.runs run.rid ≡ Some run = ap (run_of end.state.runs) number ∙ ends.0.1 in
      let stood : Stands session (one_ahead rid) end.state run =
      found-has (Stands session (one_ahead rid) end.state) end.state.runs rid run ends.0.0.stands ends.0.1 in
      let is : run.status ≡ status.Running = (running-at session (one_ahead rid) end.state rid place run ends.0.2 number stood).0 in
      let left : left_of session run ≡ steps - run.pos + 1 = ap (left_in steps run.pos) is in
      let most : left_in steps run.pos next ≤ steps - run.pos + 1 = done-left session run steps run.pos end.status ends.1 in
      let P : List Run → Type 0 = λ runs. At used runs in
      subst P (sym (settle-runs next run.rid (landed run.rid end.state)))
      (same session t room bound n ok free (with_status next) run.rid used run end.state.runs (λ x. refl) there (omega (arith, most, left)) uses)

  by-step-of : (rid place used : ℕ) (result : Option KernelResult) (now : SchedState) (run : Run) (found : Option Run) → found ≡ Some run
      → IsEnd session rid place run (run_effect session run (slice_get (run_steps session run) place) result now) → At used now.runs
      → At used (step_effect_of session place result now found).state.runs
  by-step-of rid place used result now run None e ends uses = absurd (cc)
  by-step-of rid place used result now run (Some other) e ends uses =
      let is : run ≡ other = cc in
      let E : Run → Type 0 = λ r. IsEnd session rid place r (run_effect session r (slice_get (run_steps session r) place) result now) in
      by-settling rid place used other (run_effect session other (slice_get (run_steps session other) place) result now) (subst E is ends)
      (by-run-effect (λ (s : SchedState). At used s.runs) (steady session t room bound n ok free used).kept session other
      (slice_get (run_steps session other) place) result now uses)

  by-step : (chair rid place used : ℕ) (result : Option KernelResult) (state : SchedState) → IsSound session state → IsFlying state chair (Step rid place)
      → At used state.runs
      → At (used + cond (t rid) 1 0) (step_effect session rid place result state).state.runs
  by-step chair rid place used result state was flies uses =
      let later : SchedState = at_clock (state.clock + 1) state in
      let now : SchedState = after_clock rid state in
      let sound : IsSound session later = sound-clock session not_ahead (state.clock + 1) state ok was in
      let still : IsFlying later chair (Step rid place) = (flies.0, flies.1, clock-flying (state.clock + 1) state ∙ flies.2) in
      let f = in-flight session not_ahead later chair (Step rid place) sound still in
      let r : Run = f.0 in
      let number : r.rid ≡ rid = found-number later.runs rid r f.1.0 in
      let stood : Stands session not_ahead later r = found-has (Stands session not_ahead later) later.runs rid r sound.stands f.1.0 in
      let at = running-at session not_ahead later rid place r (f.1.1.0, f.1.1.1, ap (jobs_of later.flying) (sym number) ∙ f.1.1.2) number stood in
      let steps : ℕ = length (run_steps session r) in
      let before : left_of session r ≡ steps - r.pos + 1 = ap (left_in steps r.pos) at.0 in
      let after : left_of session (moved_on r) ≡ steps - (r.pos + 1) + 1 = ap (left_in steps (r.pos + 1)) at.0 in
      let within : place < steps = at.3 in
      let stands : r.pos ≡ place + 0 = at.4 in
      let come : At used later.runs = by-clock (λ (s : SchedState). At used s.runs) (steady session t room bound n ok free used) (state.clock + 1) state uses in
      let moved : At (used + cond (t rid) 1 0) now.runs =
      fewer moved_on rid used r later.runs (λ x. refl) f.1.0 (omega (arith, before, after, within, stands)) come in
      let left = stepped-run session chair rid place state ok was flies in
      by-step-of rid place (used + cond (t rid) 1 0) result now left.0 (run_of now.runs rid) left.1
      (ends-so session rid place left.0 (slice_get (run_steps session left.0) place) result now ok refl left.2) moved

  pub uses-act : (chair used : ℕ) (what : SchedAct) (state : SchedState) → IsSound session state → MayCome session state chair what → At used state.runs
      → At (used + by_report t (reported what)) (after_act session chair what state).runs
  uses-act chair used (act.Took job) state was may uses = used-none used (taken chair job state).runs (by-took chair used job state was may uses)
  uses-act chair used (act.Prepared rid) state was may uses =
      let f = of-flight chair (Prepare rid) state was may in
      by-stage (λ (e : Experiment). e.prepare) status.Prepared rid used f.0 (landed rid state) (run_of state.runs rid) f.1 f.1 (omega (arith, f.2)) uses
  uses-act chair used (act.Stepped rid place pipeline clock result word) state was may uses = by-step chair rid place used result state was may.0 uses
  uses-act chair used (act.Analyzed rid) state was may uses =
      let f = of-flight chair (Analyze rid) state was may in
      by-stage (λ (e : Experiment). e.analyze) status.Done rid used f.0 (landed rid state) (run_of state.runs rid) f.1 f.1 (omega (arith, f.2)) uses
  uses-act chair used (act.SourceRefused rid) state was may uses = at (passes (λ (run : Run). run.doomed) state.runs rid)
    where
      at : (b : Bool) → At (used + cond (t rid) 1 0) (changed (with_status (cond b status.Deleted status.Failed)) rid state.runs)
      at true =
          let f =
          of-flight chair (Prepare rid) state was may in fewer (with_status status.Deleted) rid used f.0 state.runs (λ x. refl) f.1 (omega (arith, f.2)) uses
      at false =
          let f =
          of-flight chair (Prepare rid) state was may in fewer (with_status status.Failed) rid used f.0 state.runs (λ x. refl) f.1 (omega (arith, f.2)) uses
  uses-act chair used (act.Jumped clock) state was may uses =
      used-none used (at_clock clock state).runs (by-clock (λ (s : SchedState). At used s.runs) (steady session t room bound n ok free used) clock state uses)
  uses-act chair used act.Halted state was may uses = used-none used state.runs uses
