use Rattle.std.proofs.lemmas.Bool.{false≢true}
use Rattle.stage_work.proofs.Done.{called}
use Rattle.stage_work.proofs.starting.start_for.Goals as goal

-- the kit has the function that the step calls
pub unreachable-requires : goal.unreachable-requires
unreachable-requires c =
    false≢true
    (c.in_default-function_of.ensures.there c.in-Kernel.args
    (called c.args.kit.now c.args.step c.in-Kernel.name c.items.result.now c.in-Kernel.args c.in-Kernel.is c.items.ensures c.requires))
