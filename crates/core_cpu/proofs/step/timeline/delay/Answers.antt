use Rattle.std.proofs.Common.{◌≡◌, refl, ap, ◌∙◌, rules}
use Rattle.std.proofs.lemmas.Int.{to_z-of_z}
use Rattle.rtio_types.specs.Time.{later}
use Rattle.core_isa.specs.Machine.{next}
use Rattle.core_isa.specs.Steps.{act}
use Rattle.core_isa.specs.declared.instr.Instr.TheVariants as I
use Rattle.core_cpu.specs.declared.course.Course.TheVariants.{Silent}
use Rattle.core_cpu.proofs.Turning.{one_popped, changed_then}
use mir.Syntax.{w64}
use mir.Val.{of_z, to_z}
use Rattle.core_cpu.proofs.step.timeline.delay.Goals as goal

pub returns : goal.returns
returns c =
    λ code.
    one_popped
    (act code I.Delay)
    (λ d m. next (record m { cursor = later m.cursor d }))
    c.args.state.now
    c.pop-time.new.self
    c.onward.new.state
    c.pop-time.result
    (to_z w64 (of_z w64 c.pop-time.result))
    (Silent c.onward.result)
    (λ more before. refl)
    c.pop-time.ensures
    (search (rules, to_z-of_z))
    (changed_then
    (λ m. next (record m { cursor = later m.cursor (to_z w64 (of_z w64 c.pop-time.result)) }))
    next
    c.pop-time.new.self
    c.set_cursor.new.self
    (record c.pop-time.new.self { machine = record c.pop-time.new.self.machine { cursor = later c.pop-time.new.self.machine.cursor (to_z w64 (of_z w64 c.pop-time.result)) } })
    c.onward.new.state
    (Silent c.onward.result)
    (c.set_cursor.ensures
    ∙ ap
    (λ t. record c.pop-time.new.self { machine = record c.pop-time.new.self.machine { cursor = t } })
    (let moved : to_z w64 (of_z w64 c.moved_on-cursor.result) ≡ c.moved_on-cursor.result = search (rules, to_z-of_z) in
    let from : to_z w64 (of_z w64 c.cursor.result) ≡ c.cursor.result = search (rules, to_z-of_z) in
    cc))
    (λ more before. refl)
    refl
    refl
    c.onward.ensures.turns)
