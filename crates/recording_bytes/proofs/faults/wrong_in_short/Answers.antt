use Rattle.std.proofs.Common.{sym, ◌∙◌}
use Rattle.recording_bytes.specs.Fields.{front_fields, number_fields}
use Rattle.recording_bytes.proofs.WrongFields.{all_right, wrong-append_none, wrong-append_some}
use Rattle.recording_bytes.proofs.ShortEvents.{front-there}
use Rattle.recording_bytes.proofs.faults.wrong_in_short.Goals as goal

pub returns-in-Some : goal.returns-in-Some
returns-in-Some c =
    sym (wrong-append_some (front_fields c.args.at c.args.bytes.now) (number_fields c.args.at c.args.bytes.now) c.in-Some.offset (sym c.wrong_in_front.ensures ∙ c.in-Some.is))

pub wrong_in_numbers-requires : goal.wrong_in_numbers-requires
wrong_in_numbers-requires c =
    record { at = c.requires; front = front-there c.args.at c.args.bytes.now (all_right (front_fields c.args.at c.args.bytes.now) (sym c.wrong_in_front.ensures ∙ c.in_default.is)) }

pub returns : goal.returns
returns c =
    c.wrong_in_numbers.ensures ∙ sym (wrong-append_none (front_fields c.args.at c.args.bytes.now) (number_fields c.args.at c.args.bytes.now) (sym c.wrong_in_front.ensures ∙ c.in_default.is))
