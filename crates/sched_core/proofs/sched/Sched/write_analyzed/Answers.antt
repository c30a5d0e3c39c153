use Rattle.std.proofs.Common.{◌≡◌, ◌∷◌, ◌++◌, ℕ, List, [], ap, arith, drop, refl, sym, ◌∙◌, subst}
use Rattle.std.specs.Prelude.{Option, Some, IsSome}
use Rattle.exp_runs.specs.declared.run.Run.{Run}
use Rattle.exp_runs.specs.declared.run.Status.TheVariants as status
use Rattle.exp_runs.specs.Keys.{run_of}
use Rattle.exp_model.specs.declared.session.Experiment.{Experiment}
use Rattle.dataset_db.specs.Datasets.{Dataset}
use Rattle.sched_state.specs.declared.entry.JobName.TheVariants as name
use Rattle.sched_state.specs.declared.entry.SchedAct.TheVariants as act
use Rattle.sched_state.specs.declared.entry.SchedEntry.{SchedEntry}
use Rattle.sched_state.specs.State.{SchedState}
use Rattle.sched_state.specs.Lawful.{IsFlying, state_after}
use Rattle.sched_state.specs.Boards.{staged_by, state_with}
use Rattle.sched_core.specs.Calls.{entry_of}
use Rattle.sched_core.specs.Scheds.{SchedValue, sched_state}
use Rattle.sched_state.proofs.Numbers.{numbered-after}
use Rattle.sched_laws.proofs.Stays.{Stays, stays-here, stays-stable}
use Rattle.sched_laws.proofs.Through.{by-act}
use Rattle.sched_core.proofs.Kits.{kits-kept}
use Rattle.sched_core.proofs.Taken.{entries-kept}
use Rattle.sched_core.proofs.Reported.{analyzed-fewer, analyzed-may, report-keeps, stage-report}
use Rattle.sched_core.proofs.sched.Sched.write_analyzed.Goals as goal

pub finish_stage-requires : goal.finish_stage-requires
finish_stage-requires g c =
    let a = c.self.inside in
    let run = c.args.run in
    let R : SchedValue → Type 0 = λ v. run_of (sched_state v).runs run.rid ≡ Some run in
    let here = subst R (sym c.self.view_is) c.requires.run in
    let old = ap (λ (s : SchedState). run_of s.runs run.rid) c.self.invariant.state ∙ here in
    let copied = ap (λ (s : SchedState). run_of s.runs run.rid) (c.in_ok-board.ensures.state [] []) ∙ old in
    let I : Option Run → Type 0 = λ o. IsSome o in
    subst I (sym copied) refl

pub invariant_of-self-in_err-finish_stage : goal.invariant_of-self-in_err-finish_stage
invariant_of-self-in_err-finish_stage g c =
    entries-kept g.P.Payload.source_of g.P.Payload.stands_for g.P.Payload.has_call c.self.inside c.reserve.new.self c.self.invariant c.in_ok-reserve.ensures.items
    (λ e. let was = c.self.invariant.room e in omega (arith, was, c.reserve.ensures.len, c.reserve.ensures.capacity))

pub invariant_of-self-2 : goal.invariant_of-self-2
invariant_of-self-2 g c =
    let a = c.self.inside in
    let run = c.args.run in
    let R : SchedValue → Type 0 = λ v. run_of (sched_state v).runs run.rid ≡ Some run in
    let here = subst R (sym c.self.view_is) c.requires.run in
    let F : SchedValue → Type 0 = λ v. IsFlying (sched_state v) c.args.who (name.Analyze run.rid) in
    let flying = subst F (sym c.self.view_is) c.requires.flying in
    let state = state_after a.session a.entries.items in
    let left = drop a.board.taken a.session.arrivals in
    let steps = c.analyze_steps-steps.result.now in
    let board = c.finish_stage.new.self in
    let datasets = c.finish_stage.new.datasets in
    let begun : state_with left c.in_ok-datasets.datasets c.in_ok-board.board ≡ state =
    ap (λ (ds : List Dataset). state_with left ds c.in_ok-board.board) c.in_ok-datasets.ensures ∙ c.in_ok-board.ensures.state left a.datasets ∙ c.self.invariant.state in
    let stay = by-act (Stays state.runs) (stays-stable state.runs) a.session c.args.who (act.Analyzed run.rid) state (stays-here state.runs (numbered-after a.session a.entries.items)) in
    report-keeps g.P.Payload.source_of g.P.Payload.stands_for g.P.Payload.has_call a board datasets c.push_reserved.new.self a.kits c.args.who (act.Analyzed run.rid) c.self.invariant flying (analyzed-may run.rid) refl
    (omega (arith, c.in_ok-finish_stage.ensures.taken, c.in_ok-board.ensures.taken, c.self.invariant.taken))
    (c.in_ok-finish_stage.ensures.pipelines ∙ c.in_ok-board.ensures.pipelines ∙ c.self.invariant.pipelines)
    (ap (λ (t : ℕ). state_with (drop t a.session.arrivals) datasets board) (c.in_ok-finish_stage.ensures.taken ∙ c.in_ok-board.ensures.taken) ∙ c.in_ok-finish_stage.ensures.state left
    ∙ ap (staged_by steps status.Done run) begun ∙ stage-report (λ (e : Experiment). e.analyze) status.Done a.session run state steps c.analyze_steps-steps.ensures here)
    (kits-kept g.P.Payload.source_of g.P.Payload.stands_for g.P.Payload.has_call a.session state _ a.kits.items stay.1 (analyzed-fewer a.session run.rid run state here) c.self.invariant.kits)
    (c.push_reserved.ensures.items ∙ ap (λ (xs : List SchedEntry). xs ++ entry_of c.args.who (act.Analyzed run.rid) ∷ []) c.in_ok-reserve.ensures.items)
    (omega (arith, c.push_reserved.ensures.len, c.push_reserved.ensures.capacity, c.in_ok-reserve.ensures.ok, c.in_ok-reserve.ensures.len))
