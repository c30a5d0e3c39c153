use Rattle.std.proofs.Common.{◌≡◌, ◌++◌, drop, string_bytes}
use Rattle.json_fields.specs.Paths.{steps_text}
use Rattle.json_fields.proofs.written.put_steps.Given as goal

-- what is written and what is left to write make the whole
abbrev pub invariant-loop-part : goal.invariant-loop-part
invariant-loop-part l = string_bytes l.text ++ steps_text (drop l.part-index l.parts) ≡ string_bytes l.initial.text ++ steps_text l.parts
