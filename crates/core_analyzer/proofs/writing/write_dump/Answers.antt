use Rattle.std.proofs.Common.{◌≡◌, ◌++◌, ◌<◌, ◌^◌, length, w32, ap, subst, ◌∙◌}
use Rattle.std.specs.Int.{to_le_bytes}
use Rattle.std.specs.List.{AllByRecursion}
use Rattle.rtio_core.specs.Reply.{outputs_at}
use Rattle.rtio_core.specs.Told.{log_lines_at}
use Rattle.core_analyzer.specs.Dumps.{FitsEvent, FitsLine, events_bytes, header_bytes, lines_bytes}
use Rattle.core_analyzer.proofs.DumpLoops.{four-added}
use Rattle.core_analyzer.proofs.CoreTold.{core-valid}
use Rattle.core_analyzer.proofs.writing.write_dump.Goals as goal

pub returns : goal.returns
returns c =
    let core = c.args.core.now in
    let is = c.history-lawful.ensures.core in
    let events = outputs_at core.config core.history core.counter in
    let lines = log_lines_at core.config core.history core.counter in
    let header = c.write_header.new.bytes.items in
    let two = c.write_events.new.bytes.items in
    let three = c.extend_from_slice.new.self.items in
    let all = c.write_lines.new.bytes.items in
    let trace : c.trace-events.result.now ≡ events = c.trace-events.ensures in
    let log : c.log-lines.result.now ≡ lines = c.log-lines.ensures.lines in
    let is1 : header ≡ header_bytes core.counter (length events) = c.in_ok-write_header.ensures.written ∙ (λ j. c.in_ok-bytes.ensures.items j ++ header_bytes (c.counter.ensures j) (length (trace j))) in
    let is2 : two ≡ header ++ events_bytes events = c.in_ok-write_events.ensures.written ∙ ap (λ es. header ++ events_bytes es) trace in
    let is3 : three ≡ two ++ to_le_bytes w32 (length lines) = c.in_ok-extend_from_slice.ensures.items ∙ ap (λ b. two ++ b) (c.to_le_bytes.ensures ∙ ap (λ ls. to_le_bytes w32 (length ls)) log) in
    let is4 : all ≡ three ++ lines_bytes lines = c.in_ok-write_lines.ensures.written ∙ ap (λ ls. three ++ lines_bytes ls) log in
    record {
      spelled = four-added header two three all (header_bytes core.counter (length events)) (events_bytes events) (to_le_bytes w32 (length lines)) (lines_bytes lines) is1 is2 is3 is4;
      valid = core-valid core is (c.what_is_put_out_was_submitted.ensures core is.lawful).outputs.in_order c.requires;
      counter_fits = subst (λ n. n < 2 ^ 64) c.counter.ensures c.in_ok-write_header.ensures.fits;
      events_fit = subst (AllByRecursion FitsEvent) trace c.in_ok-write_events.ensures.fits;
      lines_fit = subst (AllByRecursion FitsLine) log c.in_ok-write_lines.ensures.fits;
    }
