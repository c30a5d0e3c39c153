use Rattle.std.proofs.Common.{rules, ◌≡◌, None, ◌+◌, ◌-◌, ◌++◌, drop, FitsSigned, to_z, w64, sym, ap, subst, ◌∙◌, ◌≤◌, length}
use Rattle.std.proofs.lemmas.Int.{to_z-of_z}
use Rattle.recording_bytes.specs.Fields.{event_fields, wrong_among}
use Rattle.recording_bytes.specs.Reading.{event_read, event_size, events_read}
use Rattle.recording_bytes.proofs.Loops.{event-inside, event-past, event-there, next-right, read-more, right-anywhere, tail}
use Rattle.recording_bytes.proofs.reading.read_events.Goals as goal

pub read_event-event-requires : goal.read_event-event-requires
read_event-event-requires c =
    let right = next-right c.args.format c.args.count c.loop.counter c.loop.at (drop c.loop.at c.args.bytes.now) c.loop-test.true c.loop.invariant.right in
    ap (λ b. wrong_among (event_fields c.args.format 0 b)) (tail c.loop.at c.args.bytes.now) ∙ right-anywhere c.args.format c.loop.at 0 (drop c.loop.at c.args.bytes.now) right

pub event_size-at-requires : goal.event_size-at-requires
event_size-at-requires c =
    let right = next-right c.args.format c.args.count c.loop.counter c.loop.at (drop c.loop.at c.args.bytes.now) c.loop-test.true c.loop.invariant.right in
    subst (λ b. 3 ≤ length b) (sym (tail c.loop.at c.args.bytes.now)) (event-there c.args.format c.loop.at (drop c.loop.at c.args.bytes.now) right)

pub loop-preserved : goal.loop-preserved
loop-preserved c =
    let rest = drop c.loop.at c.args.bytes.now in
    let size = c.event_size-at.result in
    let event = c.read_event-event.result in
    let before = to_z w64 c.loop.before-bits in
    let fits : FitsSigned w64 c.read_event-event.result.stamp = search rules in
    let right : wrong_among (event_fields c.args.format c.loop.at rest) ≡ None = next-right c.args.format c.args.count c.loop.counter c.loop.at rest c.loop-test.true c.loop.invariant.right in
    let is : size ≡ event_size c.args.format rest = c.event_size-at.ensures ∙ ap (event_size c.args.format) (tail c.loop.at c.args.bytes.now) in
    let reads : event ≡ event_read c.args.format before rest = c.read_event-event.ensures ∙ ap (event_read c.args.format before) (tail c.loop.at c.args.bytes.now) in
    record {
      inside = event-inside c.args.format c.loop.at size c.args.bytes.now c.loop.invariant.inside right is;
      right = sym (event-past c.args.format c.args.count c.loop.counter c.loop.at size c.args.bytes.now c.loop-test.true right is) ∙ c.loop.invariant.right;
      same =
          ap (λ z. c.push.new.self.items ++ events_read c.args.format z (c.args.count - (c.loop.counter + 1)) (drop (c.loop.at + size) c.args.bytes.now)) (to_z-of_z w64 event.stamp fits)
          ∙ read-more c.args.format c.args.count c.loop.counter c.loop.at size c.args.bytes.now before event c.loop.events.items c.push.new.self.items _ c.loop-test.true is reads c.in_ok-push.ensures.items c.loop.invariant.same;
    }
