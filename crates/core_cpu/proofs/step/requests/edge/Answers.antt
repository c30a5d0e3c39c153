use Rattle.std.proofs.Common.{refl, rules}
use Rattle.std.proofs.lemmas.Int.{to_z-of_z}
use Rattle.rtio_types.specs.declared.request.Request.TheVariants as Q
use Rattle.core_isa.specs.Steps.{act, ask_number}
use Rattle.core_isa.specs.declared.instr.Instr.TheVariants as I
use Rattle.core_cpu.proofs.Turning.{one_popped}
use mir.Syntax.{w64}
use mir.Val.{of_z, to_z}
use Rattle.core_cpu.proofs.step.requests.edge.Goals as goal

pub returns : goal.returns
returns c =
    λ code.
    one_popped
    (act code (I.Edge c.args.channel))
    (λ up_to. ask_number (Q.Edge c.args.channel up_to))
    c.args.state.now
    c.pop-up_to.new.self
    c.asks.new.state
    c.pop-up_to.result
    (to_z w64 (of_z w64 c.pop-up_to.result))
    c.asks.result
    (λ more before. refl)
    c.pop-up_to.ensures
    (search (rules, to_z-of_z))
    c.asks.ensures
