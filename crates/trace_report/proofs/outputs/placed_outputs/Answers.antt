use Rattle.std.proofs.Common.{arith}
use Rattle.trace_report.specs.Outputs.{placed}
use Rattle.trace_report.proofs.Walked.{placed-done, placed-more}
use Rattle.trace_report.proofs.outputs.placed_outputs.Goals as goal

pub loop-entry-preserved : goal.loop-entry-preserved
loop-entry-preserved c = record {
  whole = placed-more c.args.places.now c.args.outputs.now c.args.history.now c.loop-entry.entry-index c.entry-item.result c.loop-entry.passed c.passed_by-passed.result c.loop-entry.all.items c.push_next.new.all.items (placed c.args.places.now c.args.outputs.now c.args.history.now) c.next_placed.result
      c.loop-entry-test.true c.entry-item.is c.in_ok-push_next.ensures c.next_placed.ensures c.passed_by-passed.ensures.value c.loop-entry.invariant.whole;
  asked = omega (arith, c.loop-entry.invariant.asked, c.passed_by-passed.ensures.asked);
  outputs = omega (arith, c.loop-entry.invariant.outputs, c.passed_by-passed.ensures.outputs);
}

pub returns : goal.returns
returns c =
    placed-done c.args.places.now c.args.outputs.now c.args.history.now c.loop-entry.entry-index c.loop-entry.passed c.loop-entry.all.items (placed c.args.places.now c.args.outputs.now c.args.history.now)
    c.loop-entry-test.false c.loop-entry.invariant.whole
