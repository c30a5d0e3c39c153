use Rattle.std.proofs.Common.{ap, ◌∙◌, arith}
use Rattle.recording_bytes.specs.Reading.{fixed_read}
use Rattle.recording_bytes.proofs.Loops.{tail}
use Rattle.core_analyzer.proofs.DumpLoops.{event-read}
use Rattle.core_analyzer.proofs.reading.read_events.Goals as goal

pub loop-preserved : goal.loop-preserved
loop-preserved c =
    record {
      room = omega (arith, c.loop.invariant.room, c.loop-test.true);
      same = event-read c.args.count c.loop.counter c.loop.at c.args.bytes.now c.read_event.result c.loop.events.items c.push.new.self.items _ c.loop-test.true (c.read_event.ensures ∙ ap fixed_read (tail c.loop.at c.args.bytes.now)) c.in_ok-push.ensures.items c.loop.invariant.same;
    }
