use Rattle.std.proofs.Common.{◌≡◌, ℕ, List, [], ap, drop, refl, sym, ◌∙◌, subst}
use Rattle.std.specs.Prelude.{Option, Some, IsSome}
use Rattle.exp_runs.specs.declared.run.Run.{Run}
use Rattle.exp_runs.specs.declared.run.Status.TheVariants as status
use Rattle.exp_runs.specs.Keys.{run_of}
use Rattle.exp_model.specs.declared.session.Experiment.{Experiment}
use Rattle.dataset_db.specs.Datasets.{Dataset}
use Rattle.sched_state.specs.State.{SchedState}
use Rattle.sched_state.specs.Lawful.{state_after}
use Rattle.sched_state.specs.Boards.{staged_by, state_with}
use Rattle.sched_core.specs.Scheds.{SchedValue, sched_state}
use Rattle.sched_state.specs.Boards.{state_of}
use Rattle.sched_state.specs.Reports.{prepared}
use Rattle.sched_core.proofs.Reported.{stage-report}
use Rattle.sched_core.proofs.sched.Sched.after_preparation.Goals as goal

pub finish_stage-requires : goal.finish_stage-requires
finish_stage-requires g c =
    let a = c.self.inside in
    let run = c.args.run.now in
    let R : SchedValue → Type 0 = λ v. run_of (sched_state v).runs run.rid ≡ Some run in
    let here = subst R (sym c.self.view_is) c.requires in
    let old = ap (λ (s : SchedState). run_of s.runs run.rid) c.self.invariant.state ∙ here in
    let copied = ap (λ (s : SchedState). run_of s.runs run.rid) (c.in_ok-board.ensures.state [] []) ∙ old in
    let I : Option Run → Type 0 = λ o. IsSome o in
    subst I (sym copied) refl

pub returns-clause-state : goal.returns-clause-state
returns-clause-state g c =
    let a = c.self.inside in
    let run = c.args.run.now in
    let R : SchedValue → Type 0 = λ v. run_of (sched_state v).runs run.rid ≡ Some run in
    let here = subst R (sym c.self.view_is) c.requires in
    let state = state_after a.session a.entries.items in
    let left = drop a.board.taken a.session.arrivals in
    let steps = c.prepare_steps-steps.result.now in
    let board = c.finish_stage.new.self in
    let datasets = c.finish_stage.new.datasets in
    let begun : state_with left c.in_ok-datasets.datasets c.in_ok-board.board ≡ state =
    ap (λ (ds : List Dataset). state_with left ds c.in_ok-board.board) c.in_ok-datasets.ensures ∙ c.in_ok-board.ensures.state left a.datasets ∙ c.self.invariant.state in
    let V : SchedValue → Type 0 = λ v. state_of v.session.arrivals datasets board ≡ prepared v.session run.rid (sched_state v) in
    subst V c.self.view_is
    (ap (λ (t : ℕ). state_with (drop t a.session.arrivals) datasets board) (c.in_ok-finish_stage.ensures.taken ∙ c.in_ok-board.ensures.taken) ∙ c.in_ok-finish_stage.ensures.state left
    ∙ ap (staged_by steps status.Prepared run) begun ∙ stage-report (λ (e : Experiment). e.prepare) status.Prepared a.session run state steps c.prepare_steps-steps.ensures here)
