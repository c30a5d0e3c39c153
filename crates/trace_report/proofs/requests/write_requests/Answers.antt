use Rattle.std.proofs.Common.{◌++◌, arith, string_bytes}
use Rattle.trace_report.specs.Outputs.{answered}
use Rattle.trace_report.specs.Requests.{request_lines}
use Rattle.trace_report.proofs.Walked.{lines-done, lines-more}
use Rattle.trace_report.proofs.requests.write_requests.Goals as goal

pub loop-entry-preserved : goal.loop-entry-preserved
loop-entry-preserved c = record {
  whole = lines-more c.args.places.now c.args.outputs.now c.args.history.now c.loop-entry.entry-index c.entry-item.result c.loop-entry.passed c.passed_by-passed.result (string_bytes c.loop-entry.text) (string_bytes c.write_entry.new.text) (string_bytes c.args.text.now ++ request_lines c.args.outputs.now 0 (answered c.args.places.now c.args.history.now))
      c.loop-entry-test.true c.entry-item.is c.in_ok-write_entry.ensures c.passed_by-passed.ensures.value c.loop-entry.invariant.whole;
  asked = omega (arith, c.loop-entry.invariant.asked, c.passed_by-passed.ensures.asked);
  outputs = omega (arith, c.loop-entry.invariant.outputs, c.passed_by-passed.ensures.outputs);
}

pub returns : goal.returns
returns c =
    lines-done c.args.places.now c.args.outputs.now c.args.history.now c.loop-entry.entry-index c.loop-entry.passed (string_bytes c.loop-entry.text) (string_bytes c.args.text.now ++ request_lines c.args.outputs.now 0 (answered c.args.places.now c.args.history.now))
    c.loop-entry-test.false c.loop-entry.invariant.whole
