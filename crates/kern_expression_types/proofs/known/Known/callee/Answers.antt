use Rattle.std.proofs.Common.{take}
use Rattle.kern_expression_types.proofs.Pairs.{callee-found}
use Rattle.kern_expression_types.proofs.known.Known.callee.Goals as goal

pub returns : goal.returns
returns c =
    callee-found c.first_named.result (take c.args.self.now.callable c.args.self.now.functions.now) c.args.name.now c.first_named.ensures
