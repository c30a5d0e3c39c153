use Rattle.std.proofs.Common.{sym, subst, ◌∙◌}
use Rattle.core_isa.specs.Steps.{play_events}
use Rattle.core_cpu.specs.Settled.{IsSettled}
use Rattle.core_cpu.specs.declared.phase.Phase.TheVariants.{Playing}
use Rattle.core_cpu.proofs.Settling.{settles, asked_waits}
use Rattle.core_cpu.proofs.cpu.Cpu.play_on.Goals as goal

still : (c : goal.Joined-self-phase) → IsSettled c.self.inside.code.now c.play_next-course.new.state c.settled-phase.result.0
still c =
    let playing : IsSettled c.self.inside.code.now c.self.inside.state (Playing c.in-Playing.left) =
    subst (IsSettled c.self.inside.code.now c.self.inside.state) (sym c.replace-phase.ensures.value ∙ c.in-Playing.is) c.self.invariant
    in
    subst
    (IsSettled c.self.inside.code.now c.play_next-course.new.state)
    (sym c.settled-phase.ensures.phase)
    (settles
    c.self.inside.code.now
    (play_events c.in-Playing.left.events c.in-Playing.left.length)
    c.self.inside.state
    c.play_next-course.new.state
    c.play_next-course.result
    playing.sound
    playing.proper.place
    playing.room
    playing.in_range
    playing.marked
    c.play_next-course.ensures)

pub invariant_of-self : goal.invariant_of-self
invariant_of-self c = still c

pub returns-clause-waits : goal.returns-clause-waits
returns-clause-waits c =
    asked_waits
    c.self.inside.code.now
    c.play_next-course.new.state
    c.play_next-course.result
    c.settled-phase.result.0
    c.settled-phase.result.1
    c.settled-phase.ensures.phase
    c.settled-phase.ensures.asks
    (still c)
