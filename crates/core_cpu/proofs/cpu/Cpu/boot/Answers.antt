use Rattle.std.proofs.Common.{◌≡◌, sym, ◌∙◌, ap, subst, Some}
use Rattle.std.specs.Prelude.{slice_get}
use Rattle.core_isa.proofs.Decided.{found_one}
use Rattle.core_cpu.proofs.Settling.{booted_settled}
use mir.Syntax.{w64}
use mir.Val.{of_z, to_z}
use Rattle.core_cpu.proofs.cpu.Cpu.boot.Goals as goal

pub invariant_of-result : goal.invariant_of-result
invariant_of-result c =
    booted_settled
    c.code-source.result.now
    c.args.code.now
    c.code-source.ensures.value
    c.code-source.ensures.in_range
    c.code-source.ensures.order
    c.code-source.ensures.marked
    c.args.function
    c.function_of-entry.result
    c.function_of-entry.ensures
    c.args.args.now
    (c.requires.fit
    ∙ ap
    (λ f. f.params)
    (found_one
    (sym (subst (λ k. slice_get k.functions c.args.function ≡ Some c.requires.entry) (sym c.code-source.ensures.value) c.requires.found)
    ∙ c.function_of-entry.ensures)))
    (to_z w64 (of_z w64 c.args.cursor))
    c.args.units
    c.widest.result
    c.in_ok-state.state
    c.in_ok-state.ensures
    c.widest.ensures
