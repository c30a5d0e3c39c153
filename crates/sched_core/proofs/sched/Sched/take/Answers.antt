use Rattle.std.proofs.Common.{◌≡◌, ◌++◌, sym, ◌∙◌, subst}
use Rattle.std.specs.Prelude.{Option, Some, None}
use Rattle.sched_state.specs.declared.entry.JobName.{JobName}
use Rattle.sched_state.specs.declared.entry.JobName.TheVariants.{Prepare, Step}
use Rattle.sched_state.specs.Picks.{pick}
use Rattle.sched_state.specs.Lawful.{halted_by, state_after}
use Rattle.sched_state.specs.Boards.{state_of}
use Rattle.sched_core.specs.declared.answer.Job.TheVariants as given
use Rattle.sched_core.specs.Calls.{HandsOut, IsJobFor, jumps}
use Rattle.sched_core.specs.Jumps.{JumpsTo}
use Rattle.sched_core.specs.Scheds.{SchedValue, sched_state}
use Rattle.sched_core.proofs.Taken.{prepare-for, step-for, step-there}
use Rattle.sched_core.proofs.sched.Sched.take.Goals as goal

pub unreachable-requires : goal.unreachable-requires
unreachable-requires g c =
    let source = g.P.Payload.source_of in
    let stands = g.P.Payload.stands_for in
    let calls = g.P.Payload.has_call in
    let a = c.self-in-Step.inside in
    let clocks = c.args.ahead.clocks.items in
    let board = c.args.ahead.board in
    let G : SchedValue → Type 0 = λ v. halted_by v.history ≡ None in
    let J : SchedValue → Type 0 = λ v. JumpsTo v.session (sched_state v) clocks (state_of v.session.arrivals (sched_state v).datasets board) in
    let going = subst G (sym c.self-in-Step.view_is) c.requires.going in
    let there = subst J (sym c.self-in-Step.view_is) c.requires.jumps in
    let IsDue : JobName → SchedValue → Type 0 = λ j v. pick v.session (state_of v.session.arrivals (sched_state v).datasets board) ≡ Some j in
    let IsDueNow : JobName → Type 0 = λ j. IsDue j c.args.self.now in
    let due = subst (IsDue (Step c.in-Step.rid c.in-Step.pos)) (sym c.self-in-Step.view_is) (subst IsDueNow c.in-Step.is c.requires.due) in
    step-there source stands calls a board clocks c.in-Step.rid c.in-Step.pos c.self-in-Step.invariant going there due (sym c.in_ok-found-in-Step.ensures ∙ c.in_default.is)

pub returns-in_ok-commit-in-Prepare-clause-ok : goal.returns-in_ok-commit-in-Prepare-clause-ok
returns-in_ok-commit-in-Prepare-clause-ok g c =
    let source = g.P.Payload.source_of in
    let stands = g.P.Payload.stands_for in
    let calls = g.P.Payload.has_call in
    let a = c.self.inside in
    let clocks = c.args.ahead.clocks.items in
    let board = c.args.ahead.board in
    let G : SchedValue → Type 0 = λ v. halted_by v.history ≡ None in
    let J : SchedValue → Type 0 = λ v. JumpsTo v.session (sched_state v) clocks (state_of v.session.arrivals (sched_state v).datasets board) in
    let going = subst G (sym c.self.view_is) c.requires.going in
    let there = subst J (sym c.self.view_is) c.requires.jumps in
    let IsDue : JobName → SchedValue → Type 0 = λ j v. pick v.session (state_of v.session.arrivals (sched_state v).datasets board) ≡ Some j in
    let IsDueNow : JobName → Type 0 = λ j. IsDue j c.args.self.now in
    let due = subst (IsDue (Prepare c.in-Prepare.rid)) (sym c.self.view_is) (subst IsDueNow c.in-Prepare.is c.requires.due) in
    let F : SchedValue → Type 0 = λ v. IsJobFor source stands calls v.session (state_after v.session (v.history ++ jumps c.args.who clocks)) (given.Prepare c.in-Prepare.rid c.source_of-source.result) in (
      c.requires.going,
      clocks,
      c.in_ok-commit-in-Prepare.ensures.ok,
      subst F c.self.view_is (prepare-for source stands calls a board clocks c.args.who c.in-Prepare.rid c.source_of-source.result c.self.invariant going there due c.source_of-source.ensures),
    )

pub returns-in-Some-kit-clause-ok : goal.returns-in-Some-kit-clause-ok
returns-in-Some-kit-clause-ok g c =
    let source = g.P.Payload.source_of in
    let stands = g.P.Payload.stands_for in
    let calls = g.P.Payload.has_call in
    let a = c.self-in-Step.inside in
    let clocks = c.args.ahead.clocks.items in
    let board = c.args.ahead.board in
    let G : SchedValue → Type 0 = λ v. halted_by v.history ≡ None in
    let J : SchedValue → Type 0 = λ v. JumpsTo v.session (sched_state v) clocks (state_of v.session.arrivals (sched_state v).datasets board) in
    let going = subst G (sym c.self-in-Step.view_is) c.requires.going in
    let there = subst J (sym c.self-in-Step.view_is) c.requires.jumps in
    let rid = c.in-Step.rid in
    let pos = c.in-Step.pos in
    let H : SchedValue → Option g.row.P.Denot → Type 0 = λ v o. HandsOut source stands calls v.session (state_of v.session.arrivals (sched_state v).datasets board) (Step rid pos) o in
    let H0 : Option g.row.P.Denot → Type 0 = λ o. H c.args.self.now o in
    let H1 : SchedValue → Type 0 = λ v. H v (Some c.in-Some-kit.kit) in
    let hands = subst H1 (sym c.self-in-Step.view_is) (subst H0 c.in-Some-kit.is c.in_ok-kit-in-Step.ensures.kit) in
    let F : SchedValue → Type 0 = λ v. IsJobFor source stands calls v.session (state_after v.session (v.history ++ jumps c.args.who clocks)) (given.Step rid pos c.pipeline_of-pipeline.result c.in-Some.step c.in-Some-kit.kit) in (
      c.requires.going,
      clocks,
      c.in_ok-kit-in-Step.ensures.ok,
      subst F c.self-in-Step.view_is (step-for source stands calls a board clocks c.args.who rid pos c.pipeline_of-pipeline.result c.in-Some.step c.in-Some-kit.kit c.self-in-Step.invariant going there c.pipeline_of-pipeline.ensures (sym c.in_ok-found-in-Step.ensures ∙ c.in-Some.is) hands),
    )
