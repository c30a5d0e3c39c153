use Rattle.std.proofs.Common.{rules, sym, subst, w64, FitsSigned}
use Rattle.std.proofs.lemmas.Int.{to_z-of_z}
use Rattle.core_cpu.specs.Settled.{IsSettled}
use Rattle.core_cpu.specs.contracts.state.State.{the_view}
use Rattle.core_cpu.specs.declared.phase.Phase.TheVariants.{Ready}
use mir.Val.{of_z, to_z}
use Rattle.core_cpu.proofs.state.State.hurry.Goals as goal

pub run_quick-way-requires-clause-settled : goal.run_quick-way-requires-clause-settled
run_quick-way-requires-clause-settled c =
    let fits : FitsSigned w64 c.self.inside.cursor = search rules in
    let base : IsSettled c.args.code.now (the_view c.self.inside) Ready =
    subst (λ held. IsSettled c.args.code.now held Ready) (sym c.self.view_is) c.requires.settled
    in
    let with_callers : IsSettled c.args.code.now (the_view (record c.self.inside { callers = c.replace-callers.result })) Ready =
    subst (λ x. IsSettled c.args.code.now (the_view (record c.self.inside { callers = x })) Ready) (sym c.replace-callers.ensures.value) base
    in
    let with_slots : IsSettled c.args.code.now (the_view (record c.self.inside { callers = c.replace-callers.result; slots = c.replace-slots.result })) Ready =
    subst (λ x. IsSettled c.args.code.now (the_view (record c.self.inside { callers = c.replace-callers.result; slots = x })) Ready) (sym c.replace-slots.ensures.value) with_callers
    in
    let with_operands : IsSettled c.args.code.now (the_view (record c.self.inside { callers = c.replace-callers.result; slots = c.replace-slots.result; operands = c.replace-operands.result })) Ready =
    subst (λ x. IsSettled c.args.code.now (the_view (record c.self.inside { callers = c.replace-callers.result; slots = c.replace-slots.result; operands = x })) Ready) (sym c.replace-operands.ensures.value) with_slots
    in
    let with_handlers : IsSettled c.args.code.now (the_view (record c.self.inside { callers = c.replace-callers.result; slots = c.replace-slots.result; operands = c.replace-operands.result; handlers = c.replace-handlers.result })) Ready =
    subst (λ x. IsSettled c.args.code.now (the_view (record c.self.inside { callers = c.replace-callers.result; slots = c.replace-slots.result; operands = c.replace-operands.result; handlers = x })) Ready) (sym c.replace-handlers.ensures.value) with_operands
    in
    let with_cursor : IsSettled c.args.code.now (the_view (record c.self.inside { callers = c.replace-callers.result; slots = c.replace-slots.result; operands = c.replace-operands.result; handlers = c.replace-handlers.result; cursor = to_z w64 (of_z w64 c.self.inside.cursor) })) Ready =
    subst (λ x. IsSettled c.args.code.now (the_view (record c.self.inside { callers = c.replace-callers.result; slots = c.replace-slots.result; operands = c.replace-operands.result; handlers = c.replace-handlers.result; cursor = x })) Ready) (sym (to_z-of_z w64 c.self.inside.cursor fits)) with_handlers
    in
    let with_recording : IsSettled c.args.code.now (the_view (record c.self.inside { callers = c.replace-callers.result; slots = c.replace-slots.result; operands = c.replace-operands.result; handlers = c.replace-handlers.result; cursor = to_z w64 (of_z w64 c.self.inside.cursor); recording = c.take-recording.result })) Ready =
    subst (λ x. IsSettled c.args.code.now (the_view (record c.self.inside { callers = c.replace-callers.result; slots = c.replace-slots.result; operands = c.replace-operands.result; handlers = c.replace-handlers.result; cursor = to_z w64 (of_z w64 c.self.inside.cursor); recording = x })) Ready) (sym c.take-recording.ensures.value) with_cursor
    in
    with_recording
