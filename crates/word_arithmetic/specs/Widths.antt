-- The widths of shifts.
use Rattle.std.specs.Prelude.{◌≡◌, ◌⊎◌, ℕ}

-- a width at which a shift's amount is taken
abbrev pub IsShiftWidth : ℕ → Type 0
IsShiftWidth w = (w ≡ 32) ⊎ (w ≡ 64)
