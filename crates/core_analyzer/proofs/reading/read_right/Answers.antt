use Rattle.std.proofs.Common.{◌≡◌, ◌+◌, ◌*◌, drop, sym, ap, ◌∙◌, arith}
use Rattle.std.proofs.lemmas.List.{drop-drop}
use Rattle.recording_bytes.proofs.Loops.{tail}
use Rattle.core_analyzer.specs.DumpReading.{behind_events, count_read, event_count, events_read, lines_read, number_read}
use Rattle.core_analyzer.proofs.DumpSpelled.{right-bytes}
use Rattle.core_analyzer.proofs.reading.read_right.Goals as goal

pub read_events-requires : goal.read_events-requires
read_events-requires c =
    let bytes = c.args.bytes.now in
    let count : c.read_count-count.result ≡ event_count bytes = c.read_count-count.ensures ∙ ap count_read (tail 12 bytes) in
    omega (arith, count, (right-bytes bytes c.requires).log)

pub read_count_at-requires : goal.read_count_at-requires
read_count_at-requires c =
    let bytes = c.args.bytes.now in
    let count : c.read_count-count.result ≡ event_count bytes = c.read_count-count.ensures ∙ ap count_read (tail 12 bytes) in
    omega (arith, count, (right-bytes bytes c.requires).log)

pub read_lines-requires : goal.read_lines-requires
read_lines-requires c =
    let bytes = c.args.bytes.now in
    let count : c.read_count-count.result ≡ event_count bytes = c.read_count-count.ensures ∙ ap count_read (tail 12 bytes) in
    let lines : c.read_count_at.result ≡ count_read (behind_events bytes) = c.read_count_at.ensures ∙ ap (λ n. count_read (drop (16 + 14 * n) bytes)) count in
    omega (arith, count, lines, (right-bytes bytes c.requires).room)

pub returns : goal.returns
returns c =
    let bytes = c.args.bytes.now in
    let place = 16 + 14 * event_count bytes in
    let count : c.read_count-count.result ≡ event_count bytes = c.read_count-count.ensures ∙ ap count_read (tail 12 bytes) in
    let number : c.read_count_at.result ≡ count_read (behind_events bytes) = c.read_count_at.ensures ∙ ap (λ n. count_read (drop (16 + 14 * n) bytes)) count in
    let counter = c.read_number-counter.ensures ∙ ap number_read (tail 4 bytes) in
    let events = c.in_ok-events.ensures ∙ ap (λ n. events_read n (drop 16 bytes)) count in
    let lines = c.in_ok-lines.ensures ∙ ap (λ n. lines_read c.read_count_at.result (drop (16 + 14 * n + 4) bytes)) count
    ∙ ap (λ n. lines_read n (drop (place + 4) bytes)) number ∙ ap (λ b. lines_read (count_read (behind_events bytes)) b) (sym (drop-drop 4 place bytes)) in
    λ j. record { counter = counter j; events = events j; lines = lines j }
