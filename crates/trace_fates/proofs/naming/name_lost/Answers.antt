use Rattle.trace_fates.proofs.Marking.{four_marks}
use Rattle.trace_fates.proofs.naming.name_lost.Goals as goal

pub returns : goal.returns
returns c = λ lists tells.
    four_marks c.args.log.now lists c.args.outputs.now _ _ _ _ tells c.mark_kind.ensures.outputs c.mark_kind-2.ensures.outputs c.mark_kind-3.ensures.outputs c.mark_kind-4.ensures.outputs
