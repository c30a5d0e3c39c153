use Rattle.std.proofs.Common.{◌<◌, length, subst, arith}
use Rattle.std.proofs.lemmas.List.{drop_all}
use Rattle.kern_names.proofs.Numbers.{AreNumbered, all_numbered, number_step}
use Rattle.kern_names.proofs.functions.number_functions.Goals as goal

pub loop-number-preserved : goal.loop-number-preserved
loop-number-preserved c =
    let within : c.loop-number.number < length c.args.functions.now = c.loop-number-test.true in
    number_step c.args.functions.now c.loop-number.numbers c.note_function.new.numbers c.loop-number.number c.index-functions-number.result within c.index-functions-number.is c.loop-number.invariant c.in_ok-note_function.ensures

pub returns : goal.returns
returns c =
    let functions = c.args.functions.now in
    let i = c.loop-number.number in
    let numbers = c.loop-number.numbers in
    let none : AreNumbered functions (Rattle.std.proofs.Common.[]) numbers i = subst (λ l. AreNumbered functions l numbers i) (drop_all i functions c.loop-number-test.false) c.loop-number.invariant in
    all_numbered functions numbers i none
