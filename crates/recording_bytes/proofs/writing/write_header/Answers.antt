use Rattle.std.proofs.Common.{◌++◌, [], ◌∷◌, ap, ◌∙◌, w32, w64}
use Rattle.std.specs.Int.{cast_unsigned, to_le_bytes}
use Rattle.std.proofs.lemmas.Int.{to_z-of_z}
use Rattle.recording_bytes.proofs.Written.{three-added}
use Rattle.recording_bytes.proofs.writing.write_header.Goals as goal

pub returns-clause-written : goal.returns-clause-written
returns-clause-written c =
    let one = c.push.new.self.items in
    let two = c.extend_from_slice.new.self.items in
    three-added c.args.bytes.now.items one two c.extend_from_slice-2.new.self.items (2 ∷ []) (to_le_bytes w32 c.args.count) (to_le_bytes w64 (cast_unsigned w64 c.args.length)) c.in_ok-push.ensures.items (c.in_ok-extend_from_slice.ensures.items ∙ ap (λ b. one ++ b) c.to_le_bytes.ensures) (c.in_ok-extend_from_slice-2.ensures.items ∙ ap (λ b. two ++ b) (c.to_le_bytes-2.ensures ∙ ap (λ z. to_le_bytes w64 (cast_unsigned w64 z)) (to_z-of_z w64 c.args.length c.ranges.length)))
