use Rattle.std.proofs.Common.{◌+◌, refl, sym, subst}
use Rattle.core_isa.specs.Runs.{counted}
use Rattle.core_isa.specs.Steps.{act}
use Rattle.core_isa.specs.declared.code.Code.{Code}
use Rattle.core_isa.specs.declared.instr.Instr.TheVariants as I
use Rattle.core_cpu.specs.Courses.{TurnsTo}
use Rattle.core_cpu.proofs.Here.{fits_here, slots_here, exist_here, follow_here, silent_here, if_ok}
use Rattle.core_cpu.proofs.run.run_asking.Goals as goal

pub out-requires : goal.out-requires
out-requires c = fits_here c.args.code.now c.args.state.now c.args.instr c.requires.can 1 0 (follow_here c.args.code.now c.args.state.now c.args.instr c.requires.can (I.Out c.in-Out.channel c.in-Out.address) c.in-Out.is)

pub out_to-requires : goal.out_to-requires
out_to-requires c = fits_here c.args.code.now c.args.state.now c.args.instr c.requires.can 2 0 (follow_here c.args.code.now c.args.state.now c.args.instr c.requires.can (I.OutTo c.in-OutTo.channel) c.in-OutTo.is)

pub data_list-requires-clause-closed : goal.data_list-requires-clause-closed
data_list-requires-clause-closed c = silent_here c.args.code.now c.args.state.now c.args.instr c.requires.can (I.DataList c.in-DataList.name c.in-DataList.first c.in-DataList.count) c.in-DataList.is refl

pub data_list-requires-clause-name : goal.data_list-requires-clause-name
data_list-requires-clause-name c = (exist_here c.args.code.now c.args.state.now c.args.instr c.requires.can (I.DataList c.in-DataList.name c.in-DataList.first c.in-DataList.count) c.in-DataList.is).0

pub data_list-requires-clause-array : goal.data_list-requires-clause-array
data_list-requires-clause-array c =
    slots_here c.args.code.now c.args.state.now c.args.instr c.requires.can (c.in-DataList.first + c.in-DataList.count) (exist_here c.args.code.now c.args.state.now c.args.instr c.requires.can (I.DataList c.in-DataList.name c.in-DataList.first c.in-DataList.count) c.in-DataList.is).1.1

pub returns-in-Out-clause-goes : goal.returns-in-Out-clause-goes
returns-in-Out-clause-goes c =
    if_ok
    (λ course. (code : Code) → TurnsTo (λ m. act code (I.Out c.in-Out.channel c.in-Out.address) (counted m)) c.args.state.now course c.out.new.state)
    (λ course. TurnsTo (λ m. act c.args.code.now c.args.instr (counted m)) c.args.state.now course c.out.new.state)
    c.out.result
    (λ course turns. subst (λ i. TurnsTo (λ m. act c.args.code.now i (counted m)) c.args.state.now course c.out.new.state) (sym c.in-Out.is) (turns c.args.code.now))
    c.out.ensures.goes

pub returns-in-OutTo-clause-goes : goal.returns-in-OutTo-clause-goes
returns-in-OutTo-clause-goes c =
    if_ok
    (λ course. (code : Code) → TurnsTo (λ m. act code (I.OutTo c.in-OutTo.channel) (counted m)) c.args.state.now course c.out_to.new.state)
    (λ course. TurnsTo (λ m. act c.args.code.now c.args.instr (counted m)) c.args.state.now course c.out_to.new.state)
    c.out_to.result
    (λ course turns. subst (λ i. TurnsTo (λ m. act c.args.code.now i (counted m)) c.args.state.now course c.out_to.new.state) (sym c.in-OutTo.is) (turns c.args.code.now))
    c.out_to.ensures.goes
