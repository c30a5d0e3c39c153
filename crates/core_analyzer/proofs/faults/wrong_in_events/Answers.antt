use Rattle.std.proofs.Common.{◌≡◌, None, Some, drop, sym, ap, ◌∙◌}
use Rattle.recording_bytes.specs.Fields.{wrong_among}
use Rattle.recording_bytes.specs.Reading.{fixed_read}
use Rattle.recording_bytes.proofs.Loops.{tail}
use Rattle.core_analyzer.specs.DumpFields.{event_fields}
use Rattle.core_analyzer.proofs.DumpLoops.{event-inside, event-past, event-wrong}
use Rattle.core_analyzer.proofs.faults.wrong_in_events.Goals as goal

pub returns-in-Some : goal.returns-in-Some
returns-in-Some c =
    let rest = drop c.loop.at c.args.bytes.now in
    let found : wrong_among (event_fields c.loop.at c.loop.before rest) ≡ Some c.in-Some.offset = ap (λ b. wrong_among (event_fields c.loop.at c.loop.before b)) (sym (tail c.loop.at c.args.bytes.now)) ∙ sym c.wrong_in_event.ensures ∙ c.in-Some.is in
    sym (c.loop.invariant.same ∙ event-wrong c.loop.at c.loop.before c.args.count c.loop.counter rest c.in-Some.offset c.loop-test.true found)

pub loop-preserved : goal.loop-preserved
loop-preserved c =
    let rest = drop c.loop.at c.args.bytes.now in
    let right : wrong_among (event_fields c.loop.at c.loop.before rest) ≡ None = ap (λ b. wrong_among (event_fields c.loop.at c.loop.before b)) (sym (tail c.loop.at c.args.bytes.now)) ∙ sym c.wrong_in_event.ensures ∙ c.in_default.is in
    record {
      inside = event-inside c.loop.at c.loop.before c.args.bytes.now c.loop.invariant.inside right;
      same = c.loop.invariant.same ∙ event-past c.loop.at c.loop.before c.args.count c.loop.counter c.args.bytes.now c.read_event.result c.loop-test.true right (c.read_event.ensures ∙ ap fixed_read (tail c.loop.at c.args.bytes.now));
    }
