use Rattle.std.proofs.Common.{ap, rules}
use Rattle.std.proofs.lemmas.Int.{to_z-of_z}
use Rattle.rtio_types.specs.declared.request.Request.TheVariants as Q
use Rattle.rtio_types.specs.declared.request.Value.TheVariants as W
use Rattle.core_isa.specs.Steps.{act, ask_only, on_one, on_some}
use Rattle.core_isa.specs.declared.instr.Instr.TheVariants as I
use Rattle.core_cpu.specs.Moments.{with_history}
use Rattle.core_cpu.proofs.Turning.{one_popped}
use mir.Syntax.{w64}
use mir.Val.{of_z, to_z}
use Rattle.core_cpu.proofs.step.requests.data_int.Goals as goal

pub returns : goal.returns
returns c =
    one_popped
    (act c.args.code.now (I.DataInt c.args.name))
    (λ v. ask_only (Q.Data c.name_of-name.result (W.Int v)))
    c.args.state.now
    c.pop.new.self
    c.asks.new.state
    c.pop.result
    (to_z w64 (of_z w64 c.pop.result))
    c.asks.result
    (λ more before. ap (λ o. on_some o (λ name. on_one (with_history c.args.state.now.machine more before) (λ v. ask_only (Q.Data name (W.Int v))))) c.name_of-name.ensures)
    c.pop.ensures
    (search (rules, to_z-of_z))
    c.asks.ensures
