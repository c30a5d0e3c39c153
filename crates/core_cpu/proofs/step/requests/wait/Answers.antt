use Rattle.std.proofs.Common.{refl, rules}
use Rattle.std.proofs.lemmas.Int.{to_z-of_z}
use Rattle.rtio_types.specs.declared.request.Request.TheVariants as Q
use Rattle.core_isa.specs.Steps.{act, ask_only}
use Rattle.core_isa.specs.declared.instr.Instr.TheVariants as I
use Rattle.core_cpu.proofs.Turning.{one_popped}
use mir.Syntax.{w64}
use mir.Val.{of_z, to_z}
use Rattle.core_cpu.proofs.step.requests.wait.Goals as goal

pub returns : goal.returns
returns c =
    λ code.
    one_popped
    (act code I.Wait)
    (λ t. ask_only (Q.Wait t))
    c.args.state.now
    c.pop-until.new.self
    c.asks.new.state
    c.pop-until.result
    (to_z w64 (of_z w64 c.pop-until.result))
    c.asks.result
    (λ more before. refl)
    c.pop-until.ensures
    (search (rules, to_z-of_z))
    c.asks.ensures
