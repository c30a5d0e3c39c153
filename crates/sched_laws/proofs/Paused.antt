-- A paused run goes on only where no run is higher.
use Rattle.std.proofs.Common.{◌≡◌, ℕ, true, false, List, [], ◌∷◌, ◌++◌, sym, ◌∙◌, ap, subst, append_assoc, append-nil, inl, inr}
use Rattle.std.specs.Prelude.{Some}
use Rattle.exp_runs.specs.declared.run.Run.{Run}
use Rattle.exp_runs.specs.declared.run.Status.TheVariants as status
use Rattle.exp_runs.specs.Keys.{can_run, is_of, run_of, some_higher}
use Rattle.exp_runs.specs.Statuses.{is_prepared, is_running}
use Rattle.exp_model.specs.declared.session.Session.{Session}
use Rattle.sched_state.specs.declared.entry.JobName.TheVariants.{Step}
use Rattle.sched_state.specs.declared.entry.SchedAct.TheVariants as act
use Rattle.sched_state.specs.declared.entry.SchedEntry.{SchedEntry}
use Rattle.sched_state.specs.State.{SchedState}
use Rattle.sched_state.specs.Lawful.{IsLawfulAfter, MayFollow, state_after}
use Rattle.sched_state.proofs.Openings.{second}
use Rattle.sched_state.proofs.Chosen.{best-chosen}
use Rattle.sched_state.proofs.Numbers.{numbered-after}
use Rattle.sched_state.specs.Boards.{AreNumbered}
use Rattle.sched_laws.specs.Ladder.{PausedRunsWait}
use Rattle.sched_laws.proofs.Picked.{StepsBy, picked, steps-by}
use Rattle.sched_laws.proofs.Taking.{found-test}

-- what may follow the last of a lawful history
pub last-follows : (session : Session) (front before : List SchedEntry) (entry : SchedEntry) → IsLawfulAfter session front (before ++ entry ∷ [])
    → MayFollow session (front ++ before) entry
last-follows session front [] entry lawful = let P : List SchedEntry → Type 0 = λ h. MayFollow session h entry in subst P (sym (append-nil front)) lawful.0
last-follows session front (first ∷ before) entry lawful =
    let P : List SchedEntry → Type 0 = λ h. MayFollow session h entry in
    subst P (append_assoc front (first ∷ []) before) (last-follows session (front ++ first ∷ []) before entry lawful.1)

by-cause : (state : SchedState) (pipeline rid : ℕ) (run : Run) → AreNumbered state.runs → run_of state.runs rid ≡ Some run → run.status ≡ status.Paused
    → StepsBy state pipeline rid → some_higher state.runs rid state.clock ≡ false
by-cause state pipeline rid run numbered there is_paused (inl due) =
    let runs_on : is_running run.status ≡ true = sym (found-test (λ (r : Run). is_running r.status) state.runs rid run there) ∙ due.1 in
    let no : is_running run.status ≡ false = ap is_running is_paused in
    absurd (cc)
by-cause state pipeline rid run numbered there is_paused (inr (inl due)) =
    let found = best-chosen (can_run pipeline) state.runs numbered rid due.0 in
    let same : found.0 ≡ run = cc (found.1, there) in
    let prepared : is_prepared run.status ≡ true =
    ap (λ (r : Run). is_prepared r.status) (sym same) ∙ second (is_of pipeline found.0) (is_prepared found.0.status) found.2 in
    let no : is_prepared run.status ≡ false = ap is_prepared is_paused in
    absurd (cc)
by-cause state pipeline rid run numbered there is_paused (inr (inr due)) = due.2

pub paused-wait : PausedRunsWait
paused-wait session before chair rid place run ok lawful there is_paused =
    let state = state_after session before in
    let follows : MayFollow session before (record { chair = chair; act = act.Took (Step rid place) }) = last-follows session [] before _ lawful in
    let at = picked session state (Step rid place) follows.0 in
    by-cause state at.0.0 rid run (numbered-after session before) there is_paused (steps-by state at.0.0 rid at.0.1).1
