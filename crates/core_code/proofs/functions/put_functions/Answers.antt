use Rattle.kern_names.proofs.Members.{item_is_among}
use Rattle.core_code.proofs.functions.put_functions.Goals as goal

pub put_function-requires-clause-own : goal.put_function-requires-clause-own
put_function-requires-clause-own c =
    item_is_among c.args.program.now.functions.now c.loop-function.function-index c.function-item.result c.loop-function-test.true c.function-item.is
