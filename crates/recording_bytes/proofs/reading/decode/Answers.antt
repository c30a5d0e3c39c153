use Rattle.std.proofs.Common.{rules, ◌≡◌, FitsSigned, w64, to_z, of_z, drop, pos, sym, subst, ◌∙◌}
use Rattle.std.proofs.lemmas.Int.{to_z-of_z}
use Rattle.recording_bytes.specs.Spelling.{IsSpellingIn}
use Rattle.recording_bytes.specs.Reading.{events_read, format_read, recording_read}
use Rattle.recording_bytes.proofs.FixedEvents.{AreBytes}
use Rattle.recording_bytes.proofs.Spelled.{read-spells, spelled-read, spelled-right}
use Rattle.recording_bytes.proofs.reading.decode.Goals as goal

pub returns-in-Some-clause-only : goal.returns-in-Some-clause-only
returns-in-Some-clause-only c recording s =
    let right = spelled-right s.0 c.args.bytes.now recording s.1 in
    let wrong = sym c.first_wrong.ensures ∙ c.in-Some.is in
    absurd (cc)

pub returns-clause-ok : goal.returns-clause-ok
returns-clause-ok c =
    let are : AreBytes c.args.bytes.now = record { below = λ i. (c.type_inv.bytes i).fits } in
    let fits : FitsSigned w64 c.read_length.result = search rules in
    let events = c.in_ok-events.ensures ∙ (λ j. events_read (c.read_format.ensures j) (pos 0) (c.read_count.ensures j) (drop 13 c.args.bytes.now)) in
    let len = to_z-of_z w64 c.read_length.result fits ∙ c.read_length.ensures in
    let read : recording_read c.args.bytes.now ≡ record { events = c.in_ok-events.events.items; length = to_z w64 (of_z w64 c.read_length.result) } = λ j. record { events = sym events j; length = sym len j } in
    (format_read c.args.bytes.now, subst (IsSpellingIn (format_read c.args.bytes.now) c.args.bytes.now) read (read-spells c.args.bytes.now are (sym c.first_wrong.ensures ∙ c.in_default.is)))

pub returns-clause-only : goal.returns-clause-only
returns-clause-only c recording s =
    let fits : FitsSigned w64 c.read_length.result = search rules in
    let events = c.in_ok-events.ensures ∙ (λ j. events_read (c.read_format.ensures j) (pos 0) (c.read_count.ensures j) (drop 13 c.args.bytes.now)) in
    let len = to_z-of_z w64 c.read_length.result fits ∙ c.read_length.ensures in
    let read : record { events = c.in_ok-events.events.items; length = to_z w64 (of_z w64 c.read_length.result) } ≡ recording_read c.args.bytes.now = λ j. record { events = events j; length = len j } in
    read ∙ spelled-read s.0 c.args.bytes.now recording s.1
