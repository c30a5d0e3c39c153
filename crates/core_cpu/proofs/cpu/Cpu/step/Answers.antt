use Rattle.std.proofs.Common.{◌≡◌, ◌<◌, ◌++◌, [], List, IsTrue, sym, ◌∙◌, ap, subst}
use Rattle.std.proofs.lemmas.Bool.{false≢true}
use Rattle.rtio_types.specs.declared.request.Reply.{Reply}
use Rattle.rtio_types.specs.declared.request.Request.{Request}
use Rattle.core_isa.specs.Runs.{step}
use Rattle.core_cpu.specs.Courses.{phase_after}
use Rattle.core_cpu.specs.Moments.{is_asking, is_playing, is_ready, proceed, with_history}
use Rattle.core_cpu.specs.Nearness.{nearness}
use Rattle.core_cpu.specs.Settled.{moment_of}
use Rattle.core_cpu.specs.declared.course.Course.TheVariants.{Silent}
use Rattle.core_cpu.proofs.Settling.{line_there, line_runs, stepped, stepped_settles, stepped_goes, stepped_nearer, counted_can, counted_turn, asks_on_course, plays_nothing}
use Rattle.core_cpu.proofs.Stops.{ready_is}
use Rattle.core_cpu.proofs.cpu.Cpu.step.Goals as goal

pub line_of-line-requires : goal.line_of-line-requires
line_of-line-requires c = line_there c.code-code.result.now c.self.inside.code.now c.code-code.ensures.value c.self.inside.state c.self.inside.phase (subst (λ m. IsTrue (is_ready m.phase)) (sym c.self.view_is) c.requires) c.self.invariant c.code-code.ensures.in_range c.code-code.ensures.order c.code-code.ensures.marked c.place.result c.place.ensures

pub run_asking-requires-clause-can : goal.run_asking-requires-clause-can
run_asking-requires-clause-can c = line_runs c.code-code.result.now c.self.inside.code.now c.code-code.ensures.value c.self.inside.state c.self.inside.phase (subst (λ m. IsTrue (is_ready m.phase)) (sym c.self.view_is) c.requires) c.self.invariant c.code-code.ensures.in_range c.code-code.ensures.order c.code-code.ensures.marked c.place.result c.place.ensures c.line_of-line.result c.line_of-line.ensures

pub run_silent-way-requires-clause-can : goal.run_silent-way-requires-clause-can
run_silent-way-requires-clause-can c =
    counted_can c.code-code.result.now c.self.inside.state c.count.new.self c.line_of-line.result.instr c.count.ensures (line_runs c.code-code.result.now c.self.inside.code.now c.code-code.ensures.value c.self.inside.state c.self.inside.phase (subst (λ m. IsTrue (is_ready m.phase)) (sym c.self.view_is) c.requires) c.self.invariant c.code-code.ensures.in_range c.code-code.ensures.order c.code-code.ensures.marked c.place.result c.place.ensures c.line_of-line.result c.line_of-line.ensures)

pub invariant_of-self-then-may_ask : goal.invariant_of-self-then-may_ask
invariant_of-self-then-may_ask c = stepped_settles c.self.inside.code.now c.self.inside.state c.run_asking.new.state c.in_ok-course.course c.settled-phase.result.0 (stepped c.code-code.result.now c.self.inside.code.now c.code-code.ensures.value c.self.inside.state c.self.inside.phase (subst (λ m. IsTrue (is_ready m.phase)) (sym c.self.view_is) c.requires) c.self.invariant c.code-code.ensures.in_range c.code-code.ensures.order c.code-code.ensures.marked c.place.result c.place.ensures c.line_of-line.result c.run_asking.new.state c.in_ok-course.course c.line_of-line.ensures c.in_ok-course.ensures.goes) c.settled-phase.ensures.phase

pub returns-then-may_ask-clause-nearer : goal.returns-then-may_ask-clause-nearer
returns-then-may_ask-clause-nearer c =
    subst
    (λ m. nearness (moment_of c.self.inside.code.now c.run_asking.new.state c.settled-phase.result.0) < nearness m)
    c.self.view_is
    (stepped_nearer c.self.inside.code.now c.self.inside.state c.run_asking.new.state c.in_ok-course.course c.self.inside.phase c.settled-phase.result.0 (stepped c.code-code.result.now c.self.inside.code.now c.code-code.ensures.value c.self.inside.state c.self.inside.phase (subst (λ m. IsTrue (is_ready m.phase)) (sym c.self.view_is) c.requires) c.self.invariant c.code-code.ensures.in_range c.code-code.ensures.order c.code-code.ensures.marked c.place.result c.place.ensures c.line_of-line.result c.run_asking.new.state c.in_ok-course.course c.line_of-line.ensures c.in_ok-course.ensures.goes) c.within.ensures (subst (λ m. IsTrue (is_ready m.phase)) (sym c.self.view_is) c.requires) c.settled-phase.ensures.phase)

pub invariant_of-self-in-Goes : goal.invariant_of-self-in-Goes
invariant_of-self-in-Goes c = stepped_settles c.self.inside.code.now c.self.inside.state c.run_silent-way.new.state (Silent c.run_silent-way.result) c.self.inside.phase (stepped c.code-code.result.now c.self.inside.code.now c.code-code.ensures.value c.self.inside.state c.self.inside.phase (subst (λ m. IsTrue (is_ready m.phase)) (sym c.self.view_is) c.requires) c.self.invariant c.code-code.ensures.in_range c.code-code.ensures.order c.code-code.ensures.marked c.place.result c.place.ensures c.line_of-line.result c.run_silent-way.new.state (Silent c.run_silent-way.result) c.line_of-line.ensures (counted_turn c.code-code.result.now c.self.inside.state c.count.new.self c.run_silent-way.new.state c.line_of-line.result.instr (Silent c.run_silent-way.result) c.count.ensures c.run_silent-way.ensures)) (ready_is c.self.inside.phase (subst (λ m. IsTrue (is_ready m.phase)) (sym c.self.view_is) c.requires) ∙ ap phase_after (sym c.in-Goes.is))

pub returns-in-Goes-clause-goes : goal.returns-in-Goes-clause-goes
returns-in-Goes-clause-goes c =
    subst
    (λ m. (more : List Reply) (before : List Request) → step m.code (with_history m.machine more before) ≡ proceed c.self.inside.phase (with_history c.run_silent-way.new.state.machine more (before ++ [])))
    c.self.view_is
    (stepped_goes c.self.inside.code.now c.self.inside.state c.run_silent-way.new.state (Silent c.run_silent-way.result) c.self.inside.phase (stepped c.code-code.result.now c.self.inside.code.now c.code-code.ensures.value c.self.inside.state c.self.inside.phase (subst (λ m. IsTrue (is_ready m.phase)) (sym c.self.view_is) c.requires) c.self.invariant c.code-code.ensures.in_range c.code-code.ensures.order c.code-code.ensures.marked c.place.result c.place.ensures c.line_of-line.result c.run_silent-way.new.state (Silent c.run_silent-way.result) c.line_of-line.ensures (counted_turn c.code-code.result.now c.self.inside.state c.count.new.self c.run_silent-way.new.state c.line_of-line.result.instr (Silent c.run_silent-way.result) c.count.ensures c.run_silent-way.ensures)) (ready_is c.self.inside.phase (subst (λ m. IsTrue (is_ready m.phase)) (sym c.self.view_is) c.requires) ∙ ap phase_after (sym c.in-Goes.is)))

pub returns-in-Goes-clause-nearer : goal.returns-in-Goes-clause-nearer
returns-in-Goes-clause-nearer c =
    subst
    (λ m. nearness (moment_of c.self.inside.code.now c.run_silent-way.new.state c.self.inside.phase) < nearness m)
    c.self.view_is
    (stepped_nearer c.self.inside.code.now c.self.inside.state c.run_silent-way.new.state (Silent c.run_silent-way.result) c.self.inside.phase c.self.inside.phase (stepped c.code-code.result.now c.self.inside.code.now c.code-code.ensures.value c.self.inside.state c.self.inside.phase (subst (λ m. IsTrue (is_ready m.phase)) (sym c.self.view_is) c.requires) c.self.invariant c.code-code.ensures.in_range c.code-code.ensures.order c.code-code.ensures.marked c.place.result c.place.ensures c.line_of-line.result c.run_silent-way.new.state (Silent c.run_silent-way.result) c.line_of-line.ensures (counted_turn c.code-code.result.now c.self.inside.state c.count.new.self c.run_silent-way.new.state c.line_of-line.result.instr (Silent c.run_silent-way.result) c.count.ensures c.run_silent-way.ensures)) c.within-2.ensures (subst (λ m. IsTrue (is_ready m.phase)) (sym c.self.view_is) c.requires) (ready_is c.self.inside.phase (subst (λ m. IsTrue (is_ready m.phase)) (sym c.self.view_is) c.requires) ∙ ap phase_after (sym c.in-Goes.is)))

pub invariant_of-self-in_default : goal.invariant_of-self-in_default
invariant_of-self-in_default c = stepped_settles c.self.inside.code.now c.self.inside.state c.run_silent-way.new.state (Silent c.run_silent-way.result) c.after.result (stepped c.code-code.result.now c.self.inside.code.now c.code-code.ensures.value c.self.inside.state c.self.inside.phase (subst (λ m. IsTrue (is_ready m.phase)) (sym c.self.view_is) c.requires) c.self.invariant c.code-code.ensures.in_range c.code-code.ensures.order c.code-code.ensures.marked c.place.result c.place.ensures c.line_of-line.result c.run_silent-way.new.state (Silent c.run_silent-way.result) c.line_of-line.ensures (counted_turn c.code-code.result.now c.self.inside.state c.count.new.self c.run_silent-way.new.state c.line_of-line.result.instr (Silent c.run_silent-way.result) c.count.ensures c.run_silent-way.ensures)) c.after.ensures

pub returns-in_default-clause-goes : goal.returns-in_default-clause-goes
returns-in_default-clause-goes c =
    subst
    (λ m. (more : List Reply) (before : List Request) → step m.code (with_history m.machine more before) ≡ proceed c.after.result (with_history c.run_silent-way.new.state.machine more (before ++ [])))
    c.self.view_is
    (stepped_goes c.self.inside.code.now c.self.inside.state c.run_silent-way.new.state (Silent c.run_silent-way.result) c.after.result (stepped c.code-code.result.now c.self.inside.code.now c.code-code.ensures.value c.self.inside.state c.self.inside.phase (subst (λ m. IsTrue (is_ready m.phase)) (sym c.self.view_is) c.requires) c.self.invariant c.code-code.ensures.in_range c.code-code.ensures.order c.code-code.ensures.marked c.place.result c.place.ensures c.line_of-line.result c.run_silent-way.new.state (Silent c.run_silent-way.result) c.line_of-line.ensures (counted_turn c.code-code.result.now c.self.inside.state c.count.new.self c.run_silent-way.new.state c.line_of-line.result.instr (Silent c.run_silent-way.result) c.count.ensures c.run_silent-way.ensures)) c.after.ensures)

pub returns-in_default-clause-asks : goal.returns-in_default-clause-asks
returns-in_default-clause-asks c = ap is_asking c.after.ensures ∙ asks_on_course (Silent c.run_silent-way.result)

pub returns-in_default-clause-plays : goal.returns-in_default-clause-plays
returns-in_default-clause-plays c = ap is_playing c.after.ensures ∙ plays_nothing (Silent c.run_silent-way.result)

pub returns-in_default-clause-waits : goal.returns-in_default-clause-waits
returns-in_default-clause-waits c = λ asks. absurd (false≢true asks)

pub returns-in_default-clause-nearer : goal.returns-in_default-clause-nearer
returns-in_default-clause-nearer c =
    subst
    (λ m. nearness (moment_of c.self.inside.code.now c.run_silent-way.new.state c.after.result) < nearness m)
    c.self.view_is
    (stepped_nearer c.self.inside.code.now c.self.inside.state c.run_silent-way.new.state (Silent c.run_silent-way.result) c.self.inside.phase c.after.result (stepped c.code-code.result.now c.self.inside.code.now c.code-code.ensures.value c.self.inside.state c.self.inside.phase (subst (λ m. IsTrue (is_ready m.phase)) (sym c.self.view_is) c.requires) c.self.invariant c.code-code.ensures.in_range c.code-code.ensures.order c.code-code.ensures.marked c.place.result c.place.ensures c.line_of-line.result c.run_silent-way.new.state (Silent c.run_silent-way.result) c.line_of-line.ensures (counted_turn c.code-code.result.now c.self.inside.state c.count.new.self c.run_silent-way.new.state c.line_of-line.result.instr (Silent c.run_silent-way.result) c.count.ensures c.run_silent-way.ensures)) c.within-2.ensures (subst (λ m. IsTrue (is_ready m.phase)) (sym c.self.view_is) c.requires) c.after.ensures)
