use Rattle.std.proofs.Common.{◌≡◌, None, Some, drop, sym, ap, ◌∙◌}
use Rattle.recording_bytes.specs.Fields.{event_fields, wrong_among}
use Rattle.recording_bytes.specs.Reading.{event_size}
use Rattle.recording_bytes.proofs.Loops.{event-inside, event-past, event-wrong, tail}
use Rattle.recording_bytes.proofs.faults.wrong_in_events.Goals as goal

pub returns-in-Some : goal.returns-in-Some
returns-in-Some c =
    let rest = drop c.loop.at c.args.bytes.now in
    let found : wrong_among (event_fields c.args.format c.loop.at rest) ≡ Some c.in-Some.offset = ap (λ b. wrong_among (event_fields c.args.format c.loop.at b)) (sym (tail c.loop.at c.args.bytes.now)) ∙ sym c.wrong_in_event.ensures ∙ c.in-Some.is in
    sym (c.loop.invariant.same ∙ event-wrong c.args.format c.args.count c.loop.counter c.loop.at rest c.in-Some.offset c.loop-test.true found)

pub loop-preserved : goal.loop-preserved
loop-preserved c =
    let rest = drop c.loop.at c.args.bytes.now in
    let right : wrong_among (event_fields c.args.format c.loop.at rest) ≡ None = ap (λ b. wrong_among (event_fields c.args.format c.loop.at b)) (sym (tail c.loop.at c.args.bytes.now)) ∙ sym c.wrong_in_event.ensures ∙ c.in_default.is in
    let is : c.event_size-at.result ≡ event_size c.args.format rest = c.event_size-at.ensures ∙ ap (event_size c.args.format) (tail c.loop.at c.args.bytes.now) in
    record {
      inside = event-inside c.args.format c.loop.at c.event_size-at.result c.args.bytes.now c.loop.invariant.inside right is;
      same = c.loop.invariant.same ∙ event-past c.args.format c.args.count c.loop.counter c.loop.at c.event_size-at.result c.args.bytes.now c.loop-test.true right is;
    }
