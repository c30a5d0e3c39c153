use Rattle.std.proofs.Common.{◌≤◌, List, IsTrue, sym, ◌∙◌, ap, subst}
use Rattle.rtio_types.specs.declared.request.Reply.{Reply}
use Rattle.rtio_types.specs.declared.request.Request.{Request}
use Rattle.core_cpu.specs.Moments.{is_asking, is_playing, is_ready}
use Rattle.core_cpu.specs.Nearness.{nearness}
use Rattle.core_cpu.specs.Settled.{moment_of}
use Rattle.core_cpu.specs.Standing.{Start, Stands}
use Rattle.core_cpu.specs.declared.course.Course.TheVariants.{Silent}
use Rattle.core_cpu.proofs.Hurrying.{ready_settled, hurry_settles, hurry_stands, hurry_nearer}
use Rattle.core_cpu.proofs.Settling.{asks_on_course, plays_nothing}
use Rattle.core_cpu.proofs.cpu.Cpu.hurry.Goals as goal

pub hurry-way-requires-clause-settled : goal.hurry-way-requires-clause-settled
hurry-way-requires-clause-settled c =
    ready_settled
    c.code-code.result.now
    c.self.inside.code.now
    c.code-code.ensures.value
    c.self.inside.state
    c.self.inside.phase
    (subst (λ m. IsTrue (is_ready m.phase)) (sym c.self.view_is) c.requires)
    c.self.invariant

pub invariant_of-self : goal.invariant_of-self
invariant_of-self c =
    hurry_settles
    c.code-code.result.now
    c.self.inside.code.now
    c.code-code.ensures.value
    c.self.inside.state
    c.hurry-way.new.self
    c.after.result
    c.hurry-way.result
    c.after.ensures
    c.hurry-way.ensures

pub returns-clause-stands : goal.returns-clause-stands
returns-clause-stands c =
    subst
    (λ m. (start : Start) (asked : List Request) (replies : List Reply) → Stands start asked replies m
    → Stands start asked replies (moment_of c.self.inside.code.now c.hurry-way.new.self c.after.result))
    c.self.view_is
    (hurry_stands
    c.code-code.result.now
    c.self.inside.code.now
    c.code-code.ensures.value
    c.self.inside.state
    c.hurry-way.new.self
    c.self.inside.phase
    c.after.result
    c.hurry-way.result
    (subst (λ m. IsTrue (is_ready m.phase)) (sym c.self.view_is) c.requires)
    c.after.ensures
    c.hurry-way.ensures)

pub returns-clause-asking : goal.returns-clause-asking
returns-clause-asking c = ap is_asking c.after.ensures ∙ asks_on_course (Silent c.hurry-way.result)

pub returns-clause-playing : goal.returns-clause-playing
returns-clause-playing c = ap is_playing c.after.ensures ∙ plays_nothing (Silent c.hurry-way.result)

pub returns-clause-nearer : goal.returns-clause-nearer
returns-clause-nearer c =
    subst
    (λ m. nearness (moment_of c.self.inside.code.now c.hurry-way.new.self c.after.result) ≤ nearness m)
    c.self.view_is
    (hurry_nearer
    c.code-code.result.now
    c.self.inside.code.now
    c.code-code.ensures.value
    c.self.inside.state
    c.hurry-way.new.self
    c.self.inside.phase
    c.after.result
    c.hurry-way.result
    (subst (λ m. IsTrue (is_ready m.phase)) (sym c.self.view_is) c.requires)
    c.after.ensures
    c.hurry-way.ensures)
