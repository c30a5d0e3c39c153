-- A job that a chair took last is in flight until the chair puts more, and what belongs to it lasts.
use Rattle.std.proofs.Common.{◌≡◌, ℕ, true, false, List, [], ◌∷◌, ◌++◌, refl, sym, ap, subst, ◌∙◌, append_assoc, eq-eqb}
use Rattle.std.specs.Prelude.{Bool, ◌==◌, Some, IsTrue, slice_get}
use Rattle.std.specs.List.{AllByRecursion}
use Rattle.std.proofs.lemmas.Bool.{false≢true}
use mathlib.Core.List.{IsPrefix}
use Rattle.desk_rule.specs.Histories.{act_if, acts_of}
use Rattle.exp_runs.specs.declared.run.Run.{Run}
use Rattle.exp_model.specs.declared.session.Experiment.{Experiment}
use Rattle.exp_model.specs.declared.session.Session.{Session}
use Rattle.exp_model.specs.declared.step.HostStep.{HostStep}
use Rattle.exp_model.specs.Sessions.{is_session}
use Rattle.sched_state.specs.declared.entry.JobName.{JobName}
use Rattle.sched_state.specs.declared.entry.SchedAct.{SchedAct}
use Rattle.sched_state.specs.declared.entry.SchedEntry.{SchedEntry}
use Rattle.sched_state.specs.Lawful.{HasResult, IsFlying, IsLawful, state_after}
use Rattle.sched_state.specs.Reports.{steps_in}
use Rattle.sched_laws.specs.Ladder.{takes}
use Rattle.sched_laws.specs.Workers.{Reports}
use Rattle.sched_laws.proofs.Ends.{stay}
use Rattle.sched_laws.proofs.Holding.{fly-until-reported}
use Rattle.sched_core.specs.Booked.{booked_acts}
use Rattle.sched_core.specs.Scheds.{IsKitIn}
use Rattle.lab_kits.specs.Kits.{KitCall, KitText, kit_source}
use Rattle.stage_work.proofs.Jobs.{judged-told}
use Rattle.stage_work.proofs.Lasting.{accepted-same, judgements-last}
use Rattle.stage_work.specs.Judged.{IsJudged, OfRun}
use Rattle.stage_work.specs.declared.tasks.Report.{Report}
use Rattle.stage_work.specs.declared.tasks.Report.TheVariants as report
use Rattle.stage_work.specs.Reports.{HasRanAt, IsRight, act_told}
use Rattle.lab_workers.specs.Turns.{HasTaken}
use Rattle.lab_workers.specs.Workers.{SchedChair, sched_entries}
use Rattle.lab_workers.proofs.Entries.{none-came, sched-further}

module _ {A : Type 0} where
  rest-of : (b : Bool) (a : A) (acts : List A) → act_if b a acts ≡ [] → (acts ≡ []) × (b ≡ false)
  rest-of true a acts e = absurd (cc)
  rest-of false a acts e = (e, refl)

-- a chair without acts reports nothing
none-reported : (who : ℕ) (job : JobName) (rest : List (ℕ × SchedAct)) → acts_of who rest ≡ []
    → AllByRecursion (λ (entry : SchedEntry). Reports who job entry → ⊥) (sched_entries rest)
none-reported who job [] none = tt
none-reported who job (e ∷ es) none =
    let split = rest-of (e.0 == who) e.1 (acts_of who es) none in
    (λ r. false≢true (sym split.1 ∙ eq-eqb e.0 who r.0), none-reported who job es split.0)

module _ (session : Session) (job : JobName) (chair : SchedChair) (taken : HasTaken session job chair) where
  -- what the chair finds
  module _ (found : List SchedEntry) (begins : IsPrefix chair.seen (booked_acts found)) (knows : acts_of chair.number (booked_acts found) ≡ chair.own) where
    pub found-is : found ≡ taken.last.0 ++ takes chair.number job ∷ sched_entries begins.0
    found-is =
        sched-further chair.seen found begins
        ∙ (ap (λ (h : List SchedEntry). h ++ sched_entries begins.0) taken.last.1
        ∙ append_assoc taken.last.0 (takes chair.number job ∷ []) (sched_entries begins.0))

    nothing : acts_of chair.number begins.0 ≡ []
    nothing = none-came chair.number chair.seen begins.0 (ap (acts_of chair.number) begins.1 ∙ (knows ∙ sym taken.knows))

    -- the job flies there
    pub flies-still : IsTrue (is_session session) → IsLawful session found → IsFlying (state_after session found) chair.number job
    flies-still ok lawful =
        (fly-until-reported session found chair.number job ok lawful).0
        (taken.last.0, sched_entries begins.0, found-is, none-reported chair.number job begins.0 nothing)

  -- it flies as far as the chair has seen
  pub flies-now : IsTrue (is_session session) → IsFlying (state_after session (sched_entries chair.seen)) chair.number job
  flies-now ok =
      (fly-until-reported session (sched_entries chair.seen) chair.number job ok taken.lawful).0
      (taken.last.0, [], taken.last.1, tt)

-- ---- what is said of a run lasts

of-run-lasts : (session : Session) (sched more : List SchedEntry) (rid : ℕ) (P : Run → Type 0)
    → ((run now : Run) → now.experiment ≡ run.experiment → P run → P now)
    → OfRun session sched rid P → OfRun session (sched ++ more) rid P
of-run-lasts session sched more rid P moves (run, found, p) =
    let later = stay session sched more rid run found in
    (later.0, later.1, moves run later.0 later.2 p)

ran-moves : (session : Session) (place : ℕ) (ran : _) (run now : Run) → now.experiment ≡ run.experiment → HasRanAt session place ran run → HasRanAt session place ran now
ran-moves session place ran run now same has =
    let T : ℕ → Type 0 = λ n.
    (step : HostStep) × (slice_get (steps_in (λ (e : Experiment). e.run) (slice_get session.experiments n)) place ≡ Some step) × HasResult (Some step) ran in
    subst T (sym same) has

pub right-lasts : (session : Session) (sched more : List SchedEntry) (told : Report) → IsRight session sched told → IsRight session (sched ++ more) told
right-lasts session sched more (report.Prepared rid kit) right =
    let K : ℕ → Type 0 = λ n. IsKitIn kit_source KitText KitCall session n kit in
    of-run-lasts session sched more rid _
    (λ run now same p. (subst K (sym same) p.0, accepted-same session run now (sym same) p.1)) right
right-lasts session sched more (report.Refused rid) right =
    of-run-lasts session sched more rid _ (λ run now same p accepted. p (accepted-same session now run same accepted)) right
right-lasts session sched more (report.Stepped rid place kit ran) right =
    let K : ℕ → Type 0 = λ n. IsKitIn kit_source KitText KitCall session n kit in
    of-run-lasts session sched more rid _
    (λ run now same p. (subst K (sym same) p.0, ran-moves session place ran run now same p.1)) right
right-lasts session sched more (report.Analyzed rid) right = tt

-- so it is right where the chair finds it
pub right-still : (session : Session) (told : Report) (chair : SchedChair) (found : List SchedEntry) → IsPrefix chair.seen (booked_acts found)
    → IsRight session (sched_entries chair.seen) told → IsRight session found told
right-still session told chair found begins right =
    let R : List SchedEntry → Type 0 = λ h. IsRight session h told in
    subst R (sym (sched-further chair.seen found begins)) (right-lasts session (sched_entries chair.seen) (sched_entries begins.0) told right)

-- a right report tells of a source what is true, also when more is put
pub right-judged : (session : Session) (found more : List SchedEntry) (told : Report) → IsRight session found told
    → IsJudged session (found ++ more) (act_told session found told)
right-judged session found more told right =
    judgements-last session found more (act_told session found told) (judged-told session found told right)
