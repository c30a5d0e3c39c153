use Rattle.std.proofs.Common.{rules, ◌++◌, [], ◌∷◌, FitsSigned, ap, ◌∙◌, w32, w64}
use Rattle.std.specs.Int.{cast_unsigned, to_le_bytes}
use Rattle.std.proofs.lemmas.Int.{to_z-of_z}
use Rattle.recording_bytes.proofs.Written.{three-added}
use Rattle.core_analyzer.proofs.writing.write_event.Goals as goal

pub returns-clause-written : goal.returns-clause-written
returns-clause-written c =
    let event = c.args.event.now in
    let fits : FitsSigned w64 event.stamp = search rules in
    let one = c.extend_from_slice.new.self.items in
    let two = c.extend_from_slice-2.new.self.items in
    three-added c.args.bytes.now.items one two c.extend_from_slice-3.new.self.items (event.channel ∷ event.address ∷ []) (to_le_bytes w32 event.value) (to_le_bytes w64 (cast_unsigned w64 event.stamp)) c.in_ok-extend_from_slice.ensures.items (c.in_ok-extend_from_slice-2.ensures.items ∙ ap (λ b. one ++ b) c.to_le_bytes.ensures) (c.in_ok-extend_from_slice-3.ensures.items ∙ ap (λ b. two ++ b) (c.to_le_bytes-2.ensures ∙ ap (λ z. to_le_bytes w64 (cast_unsigned w64 z)) (to_z-of_z w64 event.stamp fits)))
