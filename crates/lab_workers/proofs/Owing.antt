-- What a chair owes: the jobs that it took and hasn't reported.
use Rattle.std.proofs.Common.{◌≡◌, ℕ, true, List, [], ◌∷◌, ◌++◌, cond, refl, sym, ap, ◌∙◌, append-nil, eq-eqb}
use Rattle.std.specs.Prelude.{◌==◌, ◌&&◌, not, fold, map, Option, Some, None}
use Rattle.std.proofs.lemmas.List.Sums.{fold-append}
use Rattle.exp_model.specs.declared.session.Session.{Session}
use Rattle.sched_state.specs.declared.entry.JobName.{JobName}
use Rattle.sched_state.specs.declared.entry.JobName.TheVariants as name
use Rattle.sched_state.specs.declared.entry.SchedAct.{SchedAct}
use Rattle.sched_state.specs.declared.entry.SchedAct.TheVariants.{Halted, Jumped, Took}
use Rattle.sched_state.specs.declared.entry.SchedEntry.{SchedEntry}
use Rattle.sched_core.specs.Calls.{same_job}
use Rattle.stage_work.specs.declared.tasks.Report.{Report}
use Rattle.stage_work.specs.declared.tasks.Report.TheVariants as report
use Rattle.stage_work.specs.Reports.{act_told, job_told}
use Rattle.lab_workers.specs.Reports.{HasTold}
use Rattle.lab_workers.specs.Turns.{halt_due}
use Rattle.lab_workers.specs.Workers.{SchedChair, owed, owed_after, without}

owed-on : (own acts : List SchedAct) → owed (own ++ acts) ≡ fold owed_after (owed own) acts
owed-on own acts = fold-append owed_after [] own acts

-- ---- a job is taken

-- the clock moved on
jumps-owe : (clocks : List ℕ) (jobs : List JobName) → fold owed_after jobs (map Jumped clocks) ≡ jobs
jumps-owe [] jobs = refl
jumps-owe (clock ∷ clocks) jobs = jumps-owe clocks jobs

pub owes-jumps : (clocks : List ℕ) (own : List SchedAct) → owed (own ++ map Jumped clocks) ≡ owed own ++ []
owes-jumps clocks own = owed-on own (map Jumped clocks) ∙ (jumps-owe clocks (owed own) ∙ sym (append-nil (owed own)))

-- and the job was taken
pub owes-job : (clocks : List ℕ) (job : JobName) (own : List SchedAct) → owed (own ++ (map Jumped clocks ++ Took job ∷ [])) ≡ owed own ++ job ∷ []
owes-job clocks job own =
    owed-on own (map Jumped clocks ++ Took job ∷ [])
    ∙ (fold-append owed_after (owed own) (map Jumped clocks) (Took job ∷ [])
    ∙ ap (λ (jobs : List JobName). jobs ++ job ∷ []) (jumps-owe clocks (owed own)))

-- ---- it is reported

same-self : (job : JobName) → same_job job job ≡ true
same-self (name.Prepare rid) = eq-eqb rid rid refl
same-self (name.Step rid place) = ap (λ b. b && (place == place)) (eq-eqb rid rid refl) ∙ eq-eqb place place refl
same-self (name.Analyze rid) = eq-eqb rid rid refl

none-left : (job : JobName) → without (Some job) (job ∷ []) ≡ []
none-left job = ap (λ b. cond (not b) (job ∷ []) []) (same-self job)

lands : (session : Session) (found : List SchedEntry) (told : Report) → owed_after (job_told told ∷ []) (act_told session found told) ≡ []
lands session found (report.Prepared rid kit) = none-left (name.Prepare rid)
lands session found (report.Refused rid) = none-left (name.Prepare rid)
lands session found (report.Stepped rid place kit ran) = none-left (name.Step rid place)
lands session found (report.Analyzed rid) = none-left (name.Analyze rid)

pub told-lands : (session : Session) (told : Report) (c e : SchedChair) → HasTold session told c e → owed c.own ≡ job_told told ∷ [] → owed e.own ≡ []
told-lands session told c e t owes =
    ap owed t.put.own
    ∙ (owed-on c.own (act_told session t.found told ∷ [])
    ∙ (ap (λ (jobs : List JobName). owed_after jobs (act_told session t.found told)) owes ∙ lands session t.found told))

-- ---- a halt

pub halt-owes : (by : Option ℕ) (own : List SchedAct) → owed (own ++ halt_due by) ≡ owed own
halt-owes None own = owed-on own (Halted ∷ [])
halt-owes (Some by) own = ap owed (append-nil own)
