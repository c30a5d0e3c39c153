-- A report, from the scheduler to the chair.
use Rattle.std.proofs.Common.{◌≡◌, ℕ, List, [], ◌∷◌, Result, Ok, Err, refl, sym, ap, subst, ◌∙◌}
use Rattle.std.specs.Prelude.{OnErr, OnOk, filter}
use mathlib.Core.List.{IsPrefix}
use Rattle.desk.specs.Seated.{Puts, holding, losing}
use Rattle.desk_rule.specs.Histories.{acts_of}
use Rattle.exp_model.specs.declared.session.Session.{Session}
use Rattle.sched_state.specs.declared.entry.JobName.{JobName}
use Rattle.sched_state.specs.declared.entry.SchedAct.{SchedAct}
use Rattle.sched_state.specs.declared.entry.SchedEntry.{SchedEntry}
use Rattle.sched_core.specs.Booked.{booked_acts}
use Rattle.sched_core.specs.Calls.{entry_of, with_entry}
use Rattle.sched_core.specs.Scheds.{IsSched, SchedValue}
use Rattle.stage_work.specs.Judged.{IsJudged}
use Rattle.stage_work.specs.Jobs.{Flies}
use Rattle.stage_work.specs.declared.tasks.Report.{Report}
use Rattle.stage_work.specs.declared.tasks.Report.TheVariants as report
use Rattle.stage_work.specs.Reports.{HasNoResult, IsRight, act_told, job_told}
use Rattle.stage_work.proofs.Jobs.{no-report}
use Rattle.lab_workers.specs.Reports.{HasTold}
use Rattle.lab_workers.specs.Turns.{HasPut, HasTaken, PutsNothing, PutsQuietly, ReportsQuietly, adds}
use Rattle.lab_workers.specs.Workers.{SchedChair, is_halt, sched_entries}
use Rattle.lab_workers.proofs.Holdings.{has-put, sees-put}
use Rattle.lab_workers.proofs.Taken.{flies-still, right-judged, right-still}
use Rattle.lab_workers.proofs.Owing.{told-lands}
use Rattle.lab_workers.proofs.Turning.{adds-none, has-looked}

-- told or not, the scheduler's history went on by acts of the chair
pub told-or-not : {E : Type 0} (r : Result (Unit {0}) E) (who : ℕ) (a : SchedAct) (value now : SchedValue)
    → OnOk r (now ≡ with_entry who a value) → OnErr r (now ≡ value) → (acts : List SchedAct) × (now ≡ adds who acts value)
told-or-not (Ok x) who a value now told same = (a ∷ [], told)
told-or-not (Err e) who a value now told same = ([], same ∙ adds-none who value)

-- what the chair finds, after it took a job last
module _ (session : Session) (chair : SchedChair) (was value : SchedValue) (who : ℕ) (own : who ≡ chair.number) (same : value ≡ was)
    (is : was.session ≡ session) (known : IsSched value)
    (begins : IsPrefix chair.seen (booked_acts was.history)) (knows : acts_of chair.number (booked_acts was.history) ≡ chair.own) where
  kept : value.session ≡ session
  kept = ap (λ (v : SchedValue). v.session) same ∙ is

  begun : IsPrefix chair.seen (booked_acts value.history)
  begun = let B : SchedValue → Type 0 = λ v. IsPrefix chair.seen (booked_acts v.history) in subst B (sym same) begins

  knows-here : acts_of chair.number (booked_acts value.history) ≡ chair.own
  knows-here = ap (λ (v : SchedValue). acts_of chair.number (booked_acts v.history)) same ∙ knows

  pub tell-flies : (job : JobName) → HasTaken session job chair → Flies who job value
  tell-flies job taken =
      let T : Session → Type 0 = λ s. HasTaken s job chair in
      let F : ℕ → Type 0 = λ n. Flies n job value in
      subst F (sym own)
      (flies-still value.session job chair (subst T (sym kept) taken) value.history begun knows-here known.session known.lawful)

  pub tell-right : (told : Report) → IsRight session (sched_entries chair.seen) told → IsRight value.session value.history told
  tell-right told right =
      let R : Session → Type 0 = λ s. IsRight s (sched_entries chair.seen) told in
      right-still value.session told chair value.history begun (subst R (sym kept) right)

  pub has-told : (d e : SchedChair) (lost : List ℕ) (now : SchedValue) (told : Report)
      → d ≡ holding (losing chair lost) (booked_acts was.history) → Puts d (booked_acts now.history) e
      → IsRight session (sched_entries chair.seen) told
      → now ≡ with_entry who (act_told value.session value.history told) value → HasTold session told chair e
  has-told d e lost now told held puts right went =
      let T : SchedAct → Type 0 = λ a. now ≡ adds who (a ∷ []) value in
      let act-is : act_told value.session value.history told ≡ act_told session was.history told =
      λ i. act_told (kept i) ((same i).history) told in
      let put : HasPut session was.history (act_told session was.history told ∷ []) chair e =
      has-put chair d e lost was value now who (act_told session was.history told ∷ []) own held same (subst T act-is went) puts
      session is (subst IsSched same known) begins knows in
      let J : List SchedEntry → Type 0 = λ h. IsJudged session h (act_told session was.history told) in
      record {
        found = was.history;
        put = put;
        judged =
            subst J (sym (sees-put session was.history (act_told session was.history told ∷ []) chair e put))
            (right-judged session was.history (entry_of chair.number (act_told session was.history told) ∷ []) told
            (right-still session told chair was.history begins right));
      }

  pub untold : (d e : SchedChair) (lost : List ℕ) (now : SchedValue) → d ≡ holding (losing chair lost) (booked_acts was.history)
      → Puts d (booked_acts now.history) e → now ≡ value → PutsNothing chair e
  untold d e lost now held puts nothing = has-looked chair d e lost was value now who session own held same puts is known begins knows nothing

-- ---- reports that are quiet

pub no-halt : (session : Session) (found : List SchedEntry) (told : Report) → filter is_halt (act_told session found told ∷ []) ≡ []
no-halt session found (report.Prepared rid kit) = refl
no-halt session found (report.Refused rid) = refl
no-halt session found (report.Stepped rid place kit ran) = refl
no-halt session found (report.Analyzed rid) = refl

pub told-quietly : (session : Session) (told : Report) (c e : SchedChair) → HasNoResult told → HasTold session told c e → PutsQuietly session c e
told-quietly session told c e free t = record {
  found = t.found;
  acts = act_told session t.found told ∷ [];
  put = t.put;
  quiet = record {
    steps = no-report session t.found told free;
    halts = no-halt session t.found told;
    judged = (t.judged, tt);
  };
}

-- and the job is no longer owed
pub reports-quietly : (session : Session) (told : Report) (c e : SchedChair) → HasNoResult told → HasTold session told c e → ReportsQuietly session (job_told told) c e
reports-quietly session told c e free t = record { quietly = told-quietly session told c e free t; lands = told-lands session told c e t }
