-- The steps of a stage, one by one.
use Rattle.std.proofs.Common.{◌≡◌, ℕ, ◌+◌, ◌<◌, true, false, cond, List, [], ◌∷◌, ◌++◌, drop, length, get_or, refl, sym, ◌∙◌, ap, subst, drop-cons, add-one}
use Rattle.std.specs.Prelude.{Option, Some, None}
use Rattle.exp_runs.specs.declared.run.Run.{Run}
use Rattle.exp_runs.specs.declared.run.Status.{Status}
use Rattle.exp_runs.specs.declared.run.Status.TheVariants.{Deleted, Failed}
use Rattle.exp_runs.specs.Keys.{run_of}
use Rattle.exp_runs.specs.Table.{with_status}
use Rattle.exp_model.specs.declared.arrival.Arrival.{Arrival}
use Rattle.exp_model.specs.declared.step.HostStep.{HostStep}
use Rattle.dataset_db.specs.Datasets.{Change, Dataset, after, datasets_after}
use Rattle.sched_state.specs.Datasets.{Stage, changes_by, stage, stage_after}
use Rattle.sched_state.specs.declared.board.Board.{Board}
use Rattle.sched_state.specs.State.{SchedState, found_passes, landed, with_run}
use Rattle.sched_state.specs.Reports.{after_stage, refused}
use Rattle.sched_state.specs.Boards.{IsStored, staged_by, state_with}

pub after-append : (a b : List Change) (datasets : List Dataset) → datasets_after (a ++ b) datasets ≡ datasets_after b (datasets_after a datasets)
after-append [] b datasets = refl
after-append (change ∷ a) b datasets = after-append a b (after datasets change)

abbrev LeadsTo : Stage → List Dataset → Stage → List Dataset → Type 0
LeadsTo now datasets all old = (now.fine ≡ all.fine) × (datasets_after now.changes datasets ≡ datasets_after all.changes old)

-- a step that is done leaves the rest
done-at : (steps : List HostStep) (found : Option (List Change)) (old new : List Dataset) → IsStored found true old new → LeadsTo (stage steps new) new (stage_after (λ next. stage steps next) old found) old
done-at steps None old new is = absurd (cc (is.0))
done-at steps (Some changes) old new is =
    let P : List Dataset → Type 0 = λ ds. LeadsTo (stage steps ds) ds (stage_after (λ next. stage steps next) old (Some changes)) old in
    subst P (sym is.1) (refl, sym (after-append changes (stage steps (datasets_after changes old)).changes old))

-- one that fails ends the stage
failed-at : (steps : List HostStep) (found : Option (List Change)) (old new : List Dataset) → IsStored found false old new → ((stage_after (λ next. stage steps next) old found).fine ≡ false) × (datasets_after (stage_after (λ next. stage steps next) old found).changes old ≡ new)
failed-at steps None old new is = (refl, sym is.1)
failed-at steps (Some changes) old new is = absurd (cc (is.0))

split : (steps : List HostStep) (i : ℕ) (step : HostStep) → i < length steps → step ≡ get_or steps i step → drop i steps ≡ step ∷ drop (i + 1) steps
split steps i step h e = rw add-one (drop-cons steps i step h) ∙ ap (λ s. s ∷ drop (i + 1) steps) (sym e)

pub stage-done : (steps : List HostStep) (i : ℕ) (step : HostStep) (old new : List Dataset) → i < length steps → step ≡ get_or steps i step → IsStored (changes_by step old) true old new → LeadsTo (stage (drop (i + 1) steps) new) new (stage (drop i steps) old) old
stage-done steps i step old new h e is =
    let P : List HostStep → Type 0 = λ ss. LeadsTo (stage (drop (i + 1) steps) new) new (stage ss old) old in
    subst P (sym (split steps i step h e)) (done-at (drop (i + 1) steps) (changes_by step old) old new is)

pub stage-failed : (steps : List HostStep) (i : ℕ) (step : HostStep) (old new : List Dataset) → i < length steps → step ≡ get_or steps i step → IsStored (changes_by step old) false old new
    → ((stage (drop i steps) old).fine ≡ false) × (datasets_after (stage (drop i steps) old).changes old ≡ new)
stage-failed steps i step old new h e is =
    let P : List HostStep → Type 0 = λ ss. ((stage ss old).fine ≡ false) × (datasets_after (stage ss old).changes old ≡ new) in
    subst P (sym (split steps i step h e)) (failed-at (drop (i + 1) steps) (changes_by step old) old new is)

-- a doomed run is deleted, with no step done
pub staged-doomed : (steps : List HostStep) (next : Status) (run : Run) (state : SchedState) → run.doomed ≡ true → staged_by steps next run state ≡ with_run (with_status Deleted) run.rid (landed run.rid state)
staged-doomed steps next run state e = ap (λ b. cond b (with_run (with_status Deleted) run.rid (landed run.rid state)) (after_stage next run.rid (stage steps state.datasets) (landed run.rid state))) e

-- another stands where its steps lead
pub staged-ends : (left : List Arrival) (board : Board) (steps : List HostStep) (next : Status) (run : Run) (old new : List Dataset) (is : Status) → run.doomed ≡ false → is ≡ cond (stage steps old).fine next Failed → new ≡ datasets_after (stage steps old).changes old
    → with_run (with_status is) run.rid (landed run.rid (state_with left new board)) ≡ staged_by steps next run (state_with left old board)
staged-ends left board steps next run old new is lives e k =
    ap (λ (s : Status). with_run (with_status s) run.rid (landed run.rid (state_with left new board))) e
    ∙ ap (λ (ds : List Dataset). with_run (with_status (cond (stage steps old).fine next Failed)) run.rid (landed run.rid (state_with left ds board))) k
    ∙ sym (ap (λ b. cond b (with_run (with_status Deleted) run.rid (landed run.rid (state_with left old board))) (after_stage next run.rid (stage steps old) (landed run.rid (state_with left old board)))) lives)

pub refused-is : (run : Run) (state : SchedState) (is : Status) → run_of state.runs run.rid ≡ Some run → is ≡ cond run.doomed Deleted Failed → with_run (with_status is) run.rid (landed run.rid state) ≡ refused run.rid state
refused-is run state is found e =
    ap (λ (s : Status). with_run (with_status s) run.rid (landed run.rid state))
    (e ∙ ap (λ b. cond b Deleted Failed) (sym (ap (found_passes (λ (r : Run). r.doomed)) found)))
