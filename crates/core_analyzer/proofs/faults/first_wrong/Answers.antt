use Rattle.std.proofs.Common.{◌≡◌, ◌+◌, ◌*◌, None, Some, drop, sym, ap, ◌∙◌}
use Rattle.recording_bytes.specs.Fields.{wrong_among}
use Rattle.recording_bytes.proofs.Loops.{tail}
use Rattle.core_analyzer.specs.DumpFields.{fields_of_events, header_fields, log_fields}
use Rattle.core_analyzer.specs.DumpReading.{behind_header, count_read, event_count}
use Rattle.core_analyzer.proofs.DumpSpelled.{first-in-events, first-in-log, log-inside}
use Rattle.core_analyzer.proofs.faults.first_wrong.Goals as goal

pub returns-in-Some-wrong_in_events : goal.returns-in-Some-wrong_in_events
returns-in-Some-wrong_in_events c =
    let bytes = c.args.bytes.now in
    let header : wrong_among (header_fields bytes) ≡ None = sym c.wrong_in_header.ensures ∙ c.in_default.is in
    let count : c.read_count-count.result ≡ event_count bytes = c.read_count-count.ensures ∙ ap count_read (tail 12 bytes) in
    let found : wrong_among (fields_of_events 16 None (event_count bytes) (behind_header bytes)) ≡ Some c.in-Some-wrong_in_events.offset = ap (λ n. wrong_among (fields_of_events 16 None n (drop 16 bytes))) (sym count) ∙ sym c.wrong_in_events.ensures ∙ c.in-Some-wrong_in_events.is in
    sym (first-in-events bytes c.in-Some-wrong_in_events.offset header found)

pub wrong_in_log-requires : goal.wrong_in_log-requires
wrong_in_log-requires c =
    log-inside c.args.bytes.now c.read_count-count.result (sym c.wrong_in_header.ensures ∙ c.in_default.is) (sym c.wrong_in_events.ensures ∙ c.in_default-wrong_in_events.is)

pub returns : goal.returns
returns c =
    let bytes = c.args.bytes.now in
    let header : wrong_among (header_fields bytes) ≡ None = sym c.wrong_in_header.ensures ∙ c.in_default.is in
    let count : c.read_count-count.result ≡ event_count bytes = c.read_count-count.ensures ∙ ap count_read (tail 12 bytes) in
    let right : wrong_among (fields_of_events 16 None (event_count bytes) (behind_header bytes)) ≡ None = ap (λ n. wrong_among (fields_of_events 16 None n (drop 16 bytes))) (sym count) ∙ sym c.wrong_in_events.ensures ∙ c.in_default-wrong_in_events.is in
    c.wrong_in_log.ensures ∙ ap (λ n. wrong_among (log_fields (16 + 14 * n) (drop (16 + 14 * n) bytes))) count ∙ sym (first-in-log bytes header right)
