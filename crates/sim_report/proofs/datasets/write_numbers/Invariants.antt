use Rattle.std.proofs.Common.{◌≡◌, ◌++◌, string_bytes, take}
use Rattle.std.specs.Prelude.{codes, flat_map}
use Rattle.std.specs.Fmt.{signed_decimal}
use Rattle.sim_report.proofs.datasets.write_numbers.Given as goal

-- the numbers so far are written, each behind a comma
abbrev pub invariant-loop-number : goal.invariant-loop-number
invariant-loop-number l = string_bytes l.text ≡ string_bytes l.initial.text ++ flat_map (λ m. codes "," ++ signed_decimal m) (take l.number-index l.rest)
