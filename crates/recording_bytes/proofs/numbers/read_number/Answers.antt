use Rattle.std.proofs.Common.{ap, ◌∙◌, w64}
use Rattle.std.specs.Int.{from_le_bytes}
use Rattle.recording_bytes.proofs.FewBytes.{padded-number}
use Rattle.recording_bytes.proofs.numbers.read_number.Goals as goal

pub returns : goal.returns
returns c =
    c.from_le_bytes.ensures ∙ ap (from_le_bytes w64) c.widened.ensures ∙ padded-number c.args.bytes.now c.requires
