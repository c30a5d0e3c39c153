-- A worker between two jobs, after a kernel that it ran and reported.
use Rattle.std.proofs.Common.{◌≡◌, ◌≢◌, ℕ, List, [], ◌∷◌, ◌++◌, refl, sym, ap, subst, ◌∙◌, append_assoc, append-nil, inl, inr}
use Rattle.std.specs.Prelude.{◌⊎◌, Option, Some, None, slice_get, slice_set}
use Rattle.std.proofs.lemmas.List.Sums.{fold-append}
use mathlib.Core.List.{IsPrefix}
use Rattle.desk_rule.specs.Histories.{Each, acts_of}
use Rattle.desk_rule.proofs.Prefixes.{acts_of-append}
use Rattle.desk_rule.proofs.Weights.{each_append}
use Rattle.rtio_core.specs.declared.data.Act.{Act}
use Rattle.rtio_core.specs.declared.data.Act.TheVariants.{End}
use Rattle.rtio_core.specs.declared.data.Config.{Config}
use Rattle.rtio_core.specs.declared.data.Entry.{Entry}
use Rattle.rtio_core.specs.declared.data.StartOf.{StartOf}
use Rattle.rtio_core.specs.Booked.{booked_acts as booked_core}
use Rattle.rtio_core.specs.Entries.{open_session}
use Rattle.exp_model.specs.declared.session.Session.{Session}
use Rattle.exp_model.specs.declared.step.HostStep.{HostStep}
use Rattle.sched_state.specs.declared.entry.JobName.TheVariants as name
use Rattle.sched_state.specs.declared.entry.KernelResult.{KernelResult}
use Rattle.sched_state.specs.declared.entry.SchedAct.{SchedAct}
use Rattle.sched_state.specs.declared.entry.SchedEntry.{SchedEntry}
use Rattle.sched_state.specs.Lawful.{state_after}
use Rattle.sched_core.specs.declared.answer.Job.TheVariants as job
use Rattle.sched_core.specs.Calls.{IsJobFor, entry_of}
use Rattle.stage_work.specs.DoesAs.{DoesAs}
use Rattle.core_session.specs.Sessions.{entry_of as core_entry_of}
use Rattle.lab_kits.specs.declared.kit.Kit.{Kit}
use Rattle.lab_kits.specs.Kits.{KitCall, KitText, kit_source, program_in}
use Rattle.stage_work.proofs.Beginning.{tied-further}
use Rattle.stage_work.proofs.Kerneled.{kernels-are-steps}
use Rattle.stage_work.proofs.Lasting.{ties-last}
use Rattle.stage_work.proofs.Tied.{ties-grow}
use Rattle.stage_work.specs.Judged.{IsJudged}
use Rattle.stage_work.specs.Steps.{IsKernelStep}
use Rattle.stage_work.specs.Ties.{AreTied, report_on, reports_of}
use Rattle.stage_work.proofs.Cores.{set-at}
use Rattle.stage_work.proofs.Scheds.{job-lasts}
use Rattle.stage_work.proofs.Done.{kernel-of}
use Rattle.stage_work.proofs.Steps.{one-report, others-none}
use Rattle.stage_work.specs.declared.tasks.StepTask.{StepTask}
use Rattle.stage_work.specs.Doing.{ChangesAt}
use Rattle.stage_work.specs.Starting.{IsStartFor}
use Rattle.stage_work.specs.Tasks.{IsStepIn, step_job}
use Rattle.desk_kernels.proofs.Seen.{booked-append, entries-booked}
use Rattle.desk_kernels.specs.Chairs.{CoreChair, KnowsItsOwn, core_entries}
use Rattle.desk_kernels.specs.Kernels.{IsKernelSession, KernelRun, RunsKernelAt, entries_until_end, session_entries}
use Rattle.worker_desks.specs.declared.desks.Desks.{Desks}
use Rattle.stage_work.specs.declared.tasks.Report.TheVariants as report
use Rattle.stage_work.specs.Reports.{step_told}
use Rattle.lab_workers.specs.Reports.{HasTold}
use Rattle.lab_workers.specs.Rounds.{ComesTo}
use Rattle.lab_workers.specs.Stepping.{DeskRuns}
use Rattle.lab_workers.specs.Workers.{AreDesksOf, IsAtRest, IsClosed, IsTiedAt, SchedChair, WorkerValue, sched_entries}
use Rattle.lab_workers.proofs.Entries.{core-further, sched-further}
use Rattle.lab_workers.proofs.Holdings.{follows-has, knows-put, sees-put}
use Rattle.lab_workers.proofs.Owing.{told-lands}
use Rattle.lab_workers.proofs.Resting.{each-get, each-set, halts-same, judged-later, tied-later}
use Rattle.lab_workers.proofs.Telling.{no-halt}

-- ---- a session at a core

-- no session is open behind its end
ended-none : (history : List Entry) (chair : ℕ) (before : List Entry) (k : KernelRun) → open_session (history ++ session_entries chair before k) ≡ None
ended-none history chair before k =
    let last : Entry = core_entry_of chair (End k.how k.cursor k.ended) in
    ap open_session (sym (append_assoc history (entries_until_end chair before k) (last ∷ [])))
    ∙ fold-append _ _ (history ++ entries_until_end chair before k) (last ∷ [])

-- what a chair of this number found and left
record Leaves (session : Session) (kit : Kit) (of : StartOf) (config : Config) (n : ℕ) (was now : CoreChair) (before : List Entry) (k : KernelRun) : Type 0 where
  found : IsPrefix was.seen (booked_core before)
  known : acts_of n (booked_core before) ≡ was.own
  seen : now.seen ≡ booked_core (before ++ session_entries n before k)
  own : now.own ≡ was.own ++ acts_of n (booked_core (session_entries n before k))
  is_session : IsKernelSession (program_in kit) kit.compiled.1 session.budget n of config before (before ++ session_entries n before k) k

leaves-of : (session : Session) (kit : Kit) (of : StartOf) (config : Config) (n : ℕ) (was now : CoreChair) (result : KernelResult) → was.number ≡ n
    → (r : RunsKernelAt (program_in kit) kit.compiled.1 session.budget of config was now result) → Leaves session kit of config n was now r.before r.k
leaves-of session kit of config n was now result number r =
    let L : ℕ → Type 0 = λ m. Leaves session kit of config m was now r.before r.k in
    subst L number (record { found = r.found; known = r.known; seen = r.seen; own = r.own; is_session = r.is_session })

module _ (session : Session) (kit : Kit) (of : StartOf) (config : Config) (n : ℕ) (was now : CoreChair) (before : List Entry) (k : KernelRun)
    (l : Leaves session kit of config n was now before k) where
  abbrev after : List Entry
  after = before ++ session_entries n before k

  seen-is : core_entries now.seen ≡ after
  seen-is = ap core_entries l.seen ∙ entries-booked after

  own-is : now.own ≡ acts_of n (booked_core after)
  own-is =
      l.own
      ∙ (ap (λ (acts : List Act). acts ++ acts_of n (booked_core (session_entries n before k))) (sym l.known)
      ∙ sym (ap (acts_of n) (booked-append before (session_entries n before k)) ∙ acts_of-append n (booked_core before) (booked_core (session_entries n before k))))

  closed-there : IsClosed n now
  closed-there rid opened =
      let none : Option (ℕ × ℕ) = None in
      let clash : none ≡ Some (n, rid) = sym (ap open_session seen-is ∙ ended-none before n before k) ∙ opened in
      absurd (cc)

  -- what was tied before
  tied-there : (pipeline : ℕ) (sched : List SchedEntry) (reports : List SchedAct)
      → AreTied session pipeline config n sched reports (core_entries was.seen) was.own
      → AreTied session pipeline config n sched reports after (acts_of n (booked_core before))
  tied-there pipeline sched reports tied =
      let more : List Entry = core_entries l.found.0 ++ session_entries n before k in
      let is : after ≡ core_entries was.seen ++ more =
      ap (λ (h : List Entry). h ++ session_entries n before k) (core-further was.seen before l.found)
      ∙ append_assoc (core_entries was.seen) (core_entries l.found.0) (session_entries n before k) in
      let S : List SchedEntry → Type 0 = λ h. AreTied session pipeline config n h reports (core_entries was.seen ++ more) was.own in
      let H : List Entry → Type 0 = λ h. AreTied session pipeline config n sched reports h was.own in
      let A : List Act → Type 0 = λ acts. AreTied session pipeline config n sched reports after acts in
      subst A (sym l.known)
      (subst H (sym is)
      (subst S (append-nil sched) (ties-last session pipeline config n sched [] reports (core_entries was.seen) more was.own tied)))

  -- with the session and its report
  tied-grown : (pipeline : ℕ) (sched : List SchedEntry) (reports : List SchedAct) (a : SchedAct)
      → AreTied session pipeline config n sched reports (core_entries was.seen) was.own
      → reports_of pipeline (a ∷ []) ≡ report_on k ∷ [] → IsKernelStep session config sched pipeline n after k
      → AreTied session pipeline config n sched (reports ++ a ∷ []) (core_entries now.seen) now.own
  tied-grown pipeline sched reports a tied one step =
      let H : List Entry → Type 0 = λ h. AreTied session pipeline config n sched (reports ++ a ∷ []) h now.own in
      let A : List Act → Type 0 = λ acts. AreTied session pipeline config n sched (reports ++ a ∷ []) after acts in
      subst H (sym seen-is)
      (subst A (sym own-is)
      (ties-grow session pipeline config n sched reports (a ∷ []) before after k (tied-there pipeline sched reports tied) refl one step))

-- ---- its report

module _ (desks : Desks) (these : AreDesksOf desks) (w : WorkerValue) (step : StepTask) (of : StartOf) (cores : List CoreChair)
    (result : KernelResult) (ran : ChangesAt step.pipeline (λ was now. DeskRuns desks w.number step.pipeline step.kit of was now result) w.cores cores)
    (e : SchedChair) (told : HasTold desks.session (report.Stepped step.rid step.pos step.kit (Some result)) w.sched e)
    (for-step : IsStartFor step.kit step.rid step.pos step.step (Some of))
    (does : DoesAs (program_in step.kit) step.kit.compiled.1)
    (is : IsStepIn desks.session (sched_entries w.sched.seen) step) where
  abbrev session : Session
  session = desks.session

  abbrev kit : Kit
  kit = step.kit

  abbrev pipeline : ℕ
  pipeline = step.pipeline

  abbrev act : SchedAct
  act = step_told session told.found step.rid step.pos (Some result)

  abbrev done : WorkerValue
  done = record { number = w.number; sched = e; cores = slice_set w.cores pipeline ran.new }

  left : Leaves session kit of ran.so.desk.fixed w.number ran.old ran.new ran.so.so.before ran.so.so.k
  left = leaves-of session kit of ran.so.desk.fixed w.number ran.old ran.new result ran.so.number_is ran.so.so

  job-there : IsStepIn session told.found step
  job-there =
      let J : List SchedEntry → Type 0 = λ h. IsStepIn session h step in
      subst J (sym (sched-further w.sched.seen told.found told.put.later))
      (job-lasts session (sched_entries w.sched.seen) (sched_entries told.put.later.0) (step_job step) is)

  -- the session is one of the step
  step-there : IsKernelStep session ran.so.desk.fixed (sched_entries e.seen) pipeline w.number (ran.so.so.before ++ session_entries w.number ran.so.so.before ran.so.so.k) ran.so.so.k
  step-there =
      let k = kernel-of kit step.rid step.pos step.step of for-step in
      let J : HostStep → Type 0 = λ s. IsJobFor kit_source KitText KitCall session (state_after session told.found) (job.Step step.rid step.pos pipeline s kit) in
      let O : StartOf → Type 0 = λ o.
      IsKernelSession (program_in kit) kit.compiled.1 session.budget w.number o ran.so.desk.fixed ran.so.so.before
      (ran.so.so.before ++ session_entries w.number ran.so.so.before ran.so.so.k) ran.so.so.k in
      let S : List SchedEntry → Type 0 = λ h.
      IsKernelStep session ran.so.desk.fixed h pipeline w.number (ran.so.so.before ++ session_entries w.number ran.so.so.before ran.so.so.k) ran.so.so.k in
      subst S (sym (sees-put session told.found (act ∷ []) w.sched e told.put))
      (kernels-are-steps session told.found (entry_of w.sched.number act ∷ []) step.rid step.pos pipeline w.number k.2 k.0 k.1 kit ran.so.desk.fixed
      ran.so.so.before (ran.so.so.before ++ session_entries w.number ran.so.so.before ran.so.so.k) ran.so.so.k
      (subst J k.3 job-there) k.4 does (subst O k.5 left.is_session))

  one : reports_of pipeline (act ∷ []) ≡ report_on ran.so.so.k ∷ []
  one =
      let k = kernel-of kit step.rid step.pos step.step of for-step in
      one-report session told.found step job-there result ran.so.so.k of left.is_session.of_is
      (ap (λ (o : StartOf). o.rid) k.5) (ap (λ (o : StartOf). o.pos) k.5) ran.so.so.told

  own-tied : IsTiedAt session w pipeline ran.old → IsTiedAt session done pipeline ran.new
  own-tied (config, config_is, tied) =
      let both : Some config ≡ Some ran.so.desk.fixed = sym config_is ∙ these.cores pipeline ran.so.desk ran.so.at in
      let one_config : config ≡ ran.so.desk.fixed = cc in
      let C : Config → Type 0 = λ c. AreTied session pipeline c w.number (sched_entries e.seen) w.sched.own (core_entries ran.old.seen) ran.old.own in
      let R : List SchedAct → Type 0 = λ own.
      AreTied session pipeline ran.so.desk.fixed w.number (sched_entries e.seen) own (core_entries ran.new.seen) ran.new.own in (
        ran.so.desk.fixed,
        these.cores pipeline ran.so.desk ran.so.at,
        subst R (sym told.put.own)
            (tied-grown session kit of ran.so.desk.fixed w.number ran.old ran.new ran.so.so.before ran.so.so.k left pipeline (sched_entries e.seen) w.sched.own act
            (subst C one_config
            (tied-later session pipeline config w.number w.sched.seen e.seen w.sched.own (core_entries ran.old.seen) ran.old.own
            (follows-has session told.found (act ∷ []) w.sched e told.put).seen tied))
            one
            step-there),
      )

  other-tied : (other : ℕ) (chair : CoreChair) → other ≢ pipeline → IsTiedAt session w other chair → IsTiedAt session done other chair
  other-tied other chair apart (config, config_is, tied) =
      let R : List SchedAct → Type 0 = λ own. AreTied session other config w.number (sched_entries e.seen) own (core_entries chair.seen) chair.own in (
        config,
        config_is,
        subst R (sym told.put.own)
            (tied-further session other config w.number (sched_entries e.seen) w.sched.own (act ∷ []) (core_entries chair.seen) chair.own
            (others-none session told.found step job-there (Some result) other apart)
            (tied-later session other config w.number w.sched.seen e.seen w.sched.own (core_entries chair.seen) chair.own
            (follows-has session told.found (act ∷ []) w.sched e told.put).seen tied)),
      )

  all-tied : ((other : ℕ) (chair : CoreChair) → slice_get w.cores other ≡ Some chair → IsTiedAt session w other chair)
      → (other : ℕ) (chair : CoreChair) → slice_get (slice_set w.cores pipeline ran.new) other ≡ Some chair → IsTiedAt session done other chair
  all-tied tied other chair at = which (set-at w.cores pipeline other ran.new chair at)
    where
      which : ((other ≡ pipeline) × (chair ≡ ran.new)) ⊎ ((other ≢ pipeline) × (slice_get w.cores other ≡ Some chair)) → IsTiedAt session done other chair
      which (inl here) =
          let P : ℕ → Type 0 = λ n. IsTiedAt session done n chair in
          let C : CoreChair → Type 0 = λ c. IsTiedAt session done pipeline c in
          subst P (sym here.0) (subst C (sym here.1) (own-tied (tied pipeline ran.old ran.found)))
      which (inr there) = other-tied other chair there.0 (tied other chair there.1)

  keeps-done : ComesTo session (name.Step step.rid step.pos ∷ []) (IsAtRest session) w done
  keeps-done = record {
    rest = λ r. record {
      sched_own = knows-put session told.found (act ∷ []) w.sched e told.put;
      core_own = each-set KnowsItsOwn w.cores pipeline ran.new r.core_own (ran.so.knows (each-get KnowsItsOwn w.cores pipeline ran.old r.core_own ran.found));
      closed =
          each-set (IsClosed w.number) w.cores pipeline ran.new r.closed
          (closed-there session kit of ran.so.desk.fixed w.number ran.old ran.new ran.so.so.before ran.so.so.k left);
      tied = all-tied r.tied;
      judged =
          (let J : List SchedAct → Type 0 = λ own. Each (IsJudged session (sched_entries e.seen)) own in
          subst J (sym told.put.own)
          (each_append (IsJudged session (sched_entries e.seen)) w.sched.own (act ∷ [])
          (judged-later session w.sched.seen e.seen w.sched.own (follows-has session told.found (act ∷ []) w.sched e told.put).seen r.judged)
          (told.judged, tt)));
      owes = told-lands session (report.Stepped step.rid step.pos kit (Some result)) w.sched e told r.owes;
    };
    halts_are = halts-same w.sched e (act ∷ []) told.put.own (no-halt session told.found (report.Stepped step.rid step.pos kit (Some result)));
  }

  pub keeps-kernel : ComesTo session (name.Step step.rid step.pos ∷ []) (IsAtRest session) w (record { number = w.number; sched = e; cores = cores })
  keeps-kernel =
      let K : List CoreChair → Type 0 = λ cs.
      ComesTo session (name.Step step.rid step.pos ∷ []) (IsAtRest session) w (record { number = w.number; sched = e; cores = cs }) in
      subst K (sym ran.leaves) keeps-done
