use Rattle.std.proofs.Common.{◌≡◌, ◌++◌, string_bytes}
use Rattle.std.specs.Prelude.{flat_map}
use Rattle.std.specs.List.{range_with_len}
use Rattle.kernel_gen.specs.Generated.{number_of, pulse_lines, head}
use Rattle.kernel_gen.proofs.generating.generated_text.Given as goal

-- the lines of the pulses so far are written
abbrev pub invariant-loop : goal.invariant-loop
invariant-loop l =
    (l.x ≡ number_of l.fn.number l.counter)
    × (string_bytes l.text ≡ head ++ flat_map (pulse_lines l.fn.number) (range_with_len 1 l.counter))
