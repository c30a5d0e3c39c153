use Rattle.std.proofs.Common.{◌≡◌, None, Some, drop, sym, ap, ◌∙◌}
use Rattle.recording_bytes.specs.Fields.{wrong_among}
use Rattle.recording_bytes.proofs.Loops.{tail}
use Rattle.core_analyzer.specs.DumpFields.{line_fields}
use Rattle.core_analyzer.proofs.DumpLoops.{line-inside, line-past, line-wrong}
use Rattle.core_analyzer.proofs.faults.wrong_in_lines.Goals as goal

pub returns-in-Some : goal.returns-in-Some
returns-in-Some c =
    let rest = drop c.loop.at c.args.bytes.now in
    let found : wrong_among (line_fields c.loop.at rest) ≡ Some c.in-Some.offset = ap (λ b. wrong_among (line_fields c.loop.at b)) (sym (tail c.loop.at c.args.bytes.now)) ∙ sym c.wrong_in_line.ensures ∙ c.in-Some.is in
    sym (c.loop.invariant.same ∙ line-wrong c.loop.at c.args.count c.loop.counter rest c.in-Some.offset c.loop-test.true found)

pub loop-preserved : goal.loop-preserved
loop-preserved c =
    let rest = drop c.loop.at c.args.bytes.now in
    let right : wrong_among (line_fields c.loop.at rest) ≡ None = ap (λ b. wrong_among (line_fields c.loop.at b)) (sym (tail c.loop.at c.args.bytes.now)) ∙ sym c.wrong_in_line.ensures ∙ c.in_default.is in
    record {
      inside = line-inside c.loop.at c.args.bytes.now c.loop.invariant.inside right;
      same = c.loop.invariant.same ∙ line-past c.loop.at c.args.count c.loop.counter c.args.bytes.now c.loop-test.true right;
    }
