use Rattle.std.proofs.Common.{ap, ◌∙◌}
use Rattle.recording_bytes.proofs.Loops.{tail}
use Rattle.core_analyzer.specs.DumpReading.{count_read}
use Rattle.core_analyzer.proofs.reading.read_count_at.Goals as goal

pub returns : goal.returns
returns c = c.read_count.ensures ∙ ap count_read (tail c.args.at c.args.bytes.now)
