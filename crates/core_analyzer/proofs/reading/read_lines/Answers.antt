use Rattle.std.proofs.Common.{ap, ◌∙◌, arith}
use Rattle.recording_bytes.proofs.Loops.{tail}
use Rattle.core_analyzer.specs.DumpReading.{line_read}
use Rattle.core_analyzer.proofs.DumpLoops.{line-read}
use Rattle.core_analyzer.proofs.reading.read_lines.Goals as goal

pub loop-preserved : goal.loop-preserved
loop-preserved c =
    record {
      room = omega (arith, c.loop.invariant.room, c.loop-test.true);
      same = line-read c.args.count c.loop.counter c.loop.at c.args.bytes.now c.read_line.result c.loop.lines.items c.push.new.self.items _ c.loop-test.true (c.read_line.ensures ∙ ap line_read (tail c.loop.at c.args.bytes.now)) c.in_ok-push.ensures.items c.loop.invariant.same;
    }
