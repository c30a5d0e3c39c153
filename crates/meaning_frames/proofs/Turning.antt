-- The numbers of a loop.
use Rattle.std.proofs.Common.{◌≡◌, zero, suc, arith, FitsSigned}
use Rattle.std.specs.Prelude.{ℤ, pos, negsuc, ◌+ℤ◌, ◌<ℤ◌}
use Rattle.std.specs.Int.{w64, int_gap}
use Rattle.std.proofs.lemmas.Int.{ints}

-- the numbers between two, one after another
pub gap_step : (i e : ℤ) → i <ℤ e → int_gap i e ≡ suc (int_gap (i +ℤ pos 1) e)
gap_step (pos a) (pos b) below = grind (arith, ints, below)
gap_step (pos a) (negsuc b) below = grind (arith, ints, below)
gap_step (negsuc zero) (pos b) below = grind (arith, ints, below)
gap_step (negsuc zero) (negsuc b) below = grind (arith, ints, below)
gap_step (negsuc (suc a)) (pos b) below = grind (arith, ints, below)
gap_step (negsuc (suc a)) (negsuc b) below = grind (arith, ints, below)

-- a number below another can be raised by one
pub next_fits : (i e : ℤ) → i <ℤ e → FitsSigned w64 i → FitsSigned w64 e → FitsSigned w64 (i +ℤ pos 1)
next_fits (pos a) (pos b) below f h = grind (arith, ints, below, f, h)
next_fits (pos a) (negsuc b) below f h = grind (arith, ints, below, f, h)
next_fits (negsuc zero) e below f h = grind (arith, ints, below, f, h)
next_fits (negsuc (suc a)) e below f h = grind (arith, ints, below, f, h)
