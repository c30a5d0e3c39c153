use Rattle.std.proofs.Common.{◌≡◌, Some, map, string_bytes}
use Rattle.std.specs.Prelude.{option_map}
use Rattle.lab_program.proofs.telling.lines_of_all.Given as goal

-- the lines so far
abbrev pub invariant-loop-telling : goal.invariant-loop-telling
invariant-loop-telling l = map (λ telling. option_map string_bytes telling.lines) l.yielded ≡ map (λ lines. Some (string_bytes lines)) l.all.items
