use Rattle.std.proofs.Common.{◌≡◌, ◌<◌, length, Some, refl, subst, sym}
use Rattle.std.specs.Prelude.{slice_get}
use Rattle.core_cpu.specs.Courses.{phase_after}
use Rattle.core_cpu.specs.Hurrying.{Hurried}
use Rattle.core_cpu.specs.Layout.{Held}
use Rattle.core_cpu.specs.declared.phase.Phase.TheVariants.{Ready}
use Rattle.core_cpu.proofs.Hurrying.{hurried_first, hurried_next, hurried_nearer}
use Rattle.core_cpu.proofs.Settling.{line_there, line_runs}
use Rattle.core_cpu.proofs.hurry.run_quick.Goals as goal

pub loop-state-init : goal.loop-state-init
loop-state-init c = hurried_first c.args.code.now c.args.state.now c.requires.settled

pub line_at-line-requires : goal.line_at-line-requires
line_at-line-requires c =
    let here = c.loop-state.invariant.settled in
    subst
    (λ xs. c.place.result < length xs)
    (sym c.items-lines.ensures)
    (line_there c.args.code.now c.args.code.now refl c.loop-state.state Ready refl here here.in_range c.requires.order here.marked c.place.result c.place.ensures)

pub quick-requires : goal.quick-requires
quick-requires c =
    let here = c.loop-state.invariant.settled in
    line_runs c.args.code.now c.args.code.now refl c.loop-state.state Ready refl here here.in_range c.requires.order here.marked c.place.result c.place.ensures c.line_at-line.result.now (subst (λ xs. slice_get xs c.place.result ≡ Some c.line_at-line.result.now) c.items-lines.ensures c.line_at-line.ensures)

pub loop-state-smaller : goal.loop-state-smaller
loop-state-smaller c =
    hurried_nearer c.args.code.now c.requires.order c.args.state.now c.loop-state.state c.quick.new.state c.loop-state.invariant c.place.result c.place.ensures c.line_at-line.result.now (subst (λ xs. slice_get xs c.place.result ≡ Some c.line_at-line.result.now) c.items-lines.ensures c.line_at-line.ensures) c.in-Some-Goes.field-0 c.in-Some-Goes.ensures.quick c.within.ensures c.in-Some-Goes.field-0-is

pub loop-state-preserved : goal.loop-state-preserved
loop-state-preserved c =
    subst
    (λ way. Hurried c.args.code.now c.args.state.now (phase_after way) c.quick.new.state)
    c.in-Some-Goes.field-0-is
    (hurried_next c.args.code.now c.requires.order c.args.state.now c.loop-state.state c.quick.new.state c.loop-state.invariant c.place.result c.place.ensures c.line_at-line.result.now (subst (λ xs. slice_get xs c.place.result ≡ Some c.line_at-line.result.now) c.items-lines.ensures c.line_at-line.ensures) c.in-Some-Goes.field-0 c.in-Some-Goes.ensures.quick c.within.ensures)

pub returns-in-Some : goal.returns-in-Some
returns-in-Some c =
    hurried_next c.args.code.now c.requires.order c.args.state.now c.loop-state.state c.quick.new.state c.loop-state.invariant c.place.result c.place.ensures c.line_at-line.result.now (subst (λ xs. slice_get xs c.place.result ≡ Some c.line_at-line.result.now) c.items-lines.ensures c.line_at-line.ensures) c.in-Some.way c.in-Some.ensures.quick c.within-in-Some.ensures

pub returns-in-None : goal.returns-in-None
returns-in-None c =
    subst (λ (held : Held). Hurried c.args.code.now c.args.state.now Ready held) (sym c.in-None.ensures.other) c.loop-state.invariant
