use Rattle.std.proofs.Common.{◌<◌, sym, length, arith}
use Rattle.trace_fates.proofs.Marking.{marked_more, marked_none, marked_skip}
use Rattle.trace_fates.proofs.naming.mark_kind.Goals as goal
use Rattle.trace_fates.proofs.naming.mark_kind.Goals.{then-is_kind, else-is_kind}

pub loop-line-init : goal.loop-line-init
loop-line-init c = record { outputs = sym (marked_none c.args.fate c.args.outputs.now); numbers = c.requires }

pub loop-line-preserved : goal.loop-line-preserved
loop-line-preserved c =
    let below : c.loop-line.line-index < length c.args.log.now = omega arith in
    elim c.if-is_kind.branch [
      | then-is_kind w ↦ rw w.outputs-is
          (record {
            outputs = marked_more c.args.fate c.args.kind c.args.log.now c.loop-line.line-index _ c.args.outputs.now c.loop-line.outputs _ below (sym w.if-is_kind.ensures) c.loop-line.invariant.outputs w.mark.ensures.outputs;
            numbers = w.mark.ensures.numbers;
          })
      | else-is_kind w ↦ rw w.outputs-is
          (record {
            outputs = marked_skip c.args.fate c.args.kind c.args.log.now c.loop-line.line-index _ c.args.outputs.now c.loop-line.outputs below (sym w.if-is_kind.ensures) c.loop-line.invariant.outputs;
            numbers = c.loop-line.invariant.numbers;
          })
    ]
