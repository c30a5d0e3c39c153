use Rattle.std.proofs.Common.{◌++◌, pos, refl}
use Rattle.rtio_log.specs.declared.LogLine.{LogLine}
use Rattle.rtio_log.specs.declared.LogKind.TheVariants.{Sequence}
use Rattle.core_analyzer.specs.Dumps.{FitsLine, line_bytes, lines_bytes}
use Rattle.core_analyzer.proofs.DumpLoops.{written-more}
use Rattle.core_analyzer.proofs.writing.write_lines.Goals as goal

pub loop-line-preserved : goal.loop-line-preserved
loop-line-preserved c =
    let lines = c.args.lines.now in
    let none : LogLine = record { kind = Sequence; number = 0; event = record { channel = 0; address = 0; value = 0; stamp = pos 0 } } in
    written-more lines_bytes line_bytes FitsLine (c.args.bytes.now.items ++ lines_bytes lines) c.loop-line.bytes.items c.write_line.new.bytes.items c.loop-line.line-index lines none (λ x others. refl) c.loop-line-test.true c.loop-line.invariant c.in_ok-write_line.ensures.written c.in_ok-write_line.ensures.fits
