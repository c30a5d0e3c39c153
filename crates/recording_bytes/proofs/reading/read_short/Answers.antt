use Rattle.std.proofs.Common.{◌≡◌, ◌<◌, ◌^◌, take, subst, sym, ap, ◌∙◌}
use Rattle.recording_bytes.specs.Numbers.{number_of}
use Rattle.recording_bytes.specs.Reading.{data_bytes}
use Rattle.recording_bytes.proofs.FixedEvents.{AreBytes}
use Rattle.recording_bytes.proofs.ShortEvents.{data-small}
use Rattle.recording_bytes.proofs.Loops.{tail}
use Rattle.recording_bytes.proofs.reading.read_short.Goals as goal

pub overflow_cast-result : goal.overflow_cast-result
overflow_cast-result c =
    let are : AreBytes c.args.bytes.now = record { below = λ i. (c.type_inv.bytes i).fits } in
    let value : c.read_number-2.result ≡ number_of (data_bytes c.args.bytes.now) = c.read_number-2.ensures ∙ ap number_of (c.split_at.ensures.front ∙ (λ j. take (c.data_width.ensures j) (tail 3 c.args.bytes.now j))) in
    let small : c.read_number-2.result < 2 ^ 32 = subst (λ n. n < 2 ^ 32) (sym value) (data-small c.args.bytes.now are c.requires.widths.0) in
    record { fits = small }
