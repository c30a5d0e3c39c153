use Rattle.std.proofs.Common.{◌≡◌, ap, arith, sym, ◌∙◌, subst}
use Rattle.std.specs.Prelude.{Option}
use Rattle.sched_state.specs.declared.entry.JobName.TheVariants as name
use Rattle.sched_state.specs.declared.entry.KernelResult.{KernelResult}
use Rattle.sched_state.specs.State.{SchedState}
use Rattle.sched_state.specs.Boards.{state_of}
use Rattle.sched_state.specs.Reports.{step_effect}
use Rattle.sched_core.specs.Calls.{HasJob}
use Rattle.sched_core.specs.Scheds.{SchedValue, sched_state}
use Rattle.sched_core.proofs.Steps.{may-step}
use Rattle.sched_core.proofs.sched.Sched.after_step.Goals as goal

pub report_step-requires-clause-numbered : goal.report_step-requires-clause-numbered
report_step-requires-clause-numbered g c =
    let J : SchedValue → Type 0 = λ v. HasJob (sched_state v) (name.Step c.args.rid c.args.pos) in
    let may = may-step g.P.Payload.source_of g.P.Payload.stands_for g.P.Payload.has_call c.self.inside c.in_ok-board.board c.in_ok-datasets.datasets c.args.rid c.args.pos c.self.invariant c.in_ok-board.ensures c.in_ok-datasets.ensures (subst J (sym c.self.view_is) c.requires) in
    may.numbered

pub report_step-requires-clause-clock : goal.report_step-requires-clause-clock
report_step-requires-clause-clock g c =
    let J : SchedValue → Type 0 = λ v. HasJob (sched_state v) (name.Step c.args.rid c.args.pos) in
    let may = may-step g.P.Payload.source_of g.P.Payload.stands_for g.P.Payload.has_call c.self.inside c.in_ok-board.board c.in_ok-datasets.datasets c.args.rid c.args.pos c.self.invariant c.in_ok-board.ensures c.in_ok-datasets.ensures (subst J (sym c.self.view_is) c.requires) in
    omega (arith, may.clock, c.self.inside.entries.ok, c.self.inside.entries.small)

pub report_step-requires-clause-run : goal.report_step-requires-clause-run
report_step-requires-clause-run g c =
    let J : SchedValue → Type 0 = λ v. HasJob (sched_state v) (name.Step c.args.rid c.args.pos) in
    let may = may-step g.P.Payload.source_of g.P.Payload.stands_for g.P.Payload.has_call c.self.inside c.in_ok-board.board c.in_ok-datasets.datasets c.args.rid c.args.pos c.self.invariant c.in_ok-board.ensures c.in_ok-datasets.ensures (subst J (sym c.self.view_is) c.requires) in
    may.run

pub returns-clause-state : goal.returns-clause-state
returns-clause-state g c =
    let a = c.self.inside in
    let ran = c.args.ran.now in
    let J : SchedValue → Type 0 = λ v. HasJob (sched_state v) (name.Step c.args.rid c.args.pos) in
    let may = may-step g.P.Payload.source_of g.P.Payload.stands_for g.P.Payload.has_call a c.in_ok-board.board c.in_ok-datasets.datasets c.args.rid c.args.pos c.self.invariant c.in_ok-board.ensures c.in_ok-datasets.ensures (subst J (sym c.self.view_is) c.requires) in
    let V : SchedValue → Type 0 = λ v. state_of v.session.arrivals c.report_step.new.datasets c.report_step.new.self ≡ (step_effect v.session c.args.rid c.args.pos ran (sched_state v)).state in
    subst V c.self.view_is
    (c.in_ok-word.ensures.state
    ∙ ap (λ (r : Option KernelResult). (step_effect a.session c.args.rid c.args.pos r (state_of a.session.arrivals c.in_ok-datasets.datasets c.in_ok-board.board)).state) c.as_ref-ran.ensures.value
    ∙ ap (λ (s : SchedState). (step_effect a.session c.args.rid c.args.pos ran s).state) may.begun)

pub returns-clause-word : goal.returns-clause-word
returns-clause-word g c =
    let a = c.self.inside in
    let ran = c.args.ran.now in
    let J : SchedValue → Type 0 = λ v. HasJob (sched_state v) (name.Step c.args.rid c.args.pos) in
    let may = may-step g.P.Payload.source_of g.P.Payload.stands_for g.P.Payload.has_call a c.in_ok-board.board c.in_ok-datasets.datasets c.args.rid c.args.pos c.self.invariant c.in_ok-board.ensures c.in_ok-datasets.ensures (subst J (sym c.self.view_is) c.requires) in
    let V : SchedValue → Type 0 = λ v. c.in_ok-word.word ≡ (step_effect v.session c.args.rid c.args.pos ran (sched_state v)).word in
    subst V c.self.view_is
    (c.in_ok-word.ensures.word
    ∙ ap (λ (r : Option KernelResult). (step_effect a.session c.args.rid c.args.pos r (state_of a.session.arrivals c.in_ok-datasets.datasets c.in_ok-board.board)).word) c.as_ref-ran.ensures.value
    ∙ ap (λ (s : SchedState). (step_effect a.session c.args.rid c.args.pos ran s).word) may.begun)
