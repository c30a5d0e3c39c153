use Rattle.std.proofs.Common.{◌≡◌, ◌∷◌, map, string_bytes, take}
use Rattle.std.specs.Prelude.{codes}
use Rattle.trace_program.proofs.words.behind_command.Given as goal

-- the command and the words so far
abbrev pub invariant-loop-word : goal.invariant-loop-word
invariant-loop-word l = map string_bytes l.all.items ≡ codes "dump" ∷ map string_bytes (take l.word-index l.words)
