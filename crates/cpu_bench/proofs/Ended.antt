-- What the end of a CPU that was booted at the main function says of the run.
use Rattle.std.proofs.Common.{◌≡◌, ℕ, [], sym, subst, refl}
use Rattle.std.specs.Prelude.{ℤ, pos}
use Rattle.rtio_types.specs.declared.outcome.Outcome.{Outcome}
use Rattle.core_isa.specs.Runs.{Ran, Runs}
use Rattle.core_isa.specs.declared.code.Code.{Code}
use Rattle.core_cpu.specs.Moments.{Moment}
use Rattle.core_cpu.specs.Standing.{HasEnded, Start, StopsAt}
use Rattle.core_cpu.specs.declared.stop.Stop.{Stop}
use Rattle.core_cpu.specs.declared.stop.Stop.TheVariants.{Ended}
use Rattle.cpu_bench.specs.Ending.{EndsSo}

-- the main function's start
abbrev pub start : ℕ → ℕ → Start
start main units = record { function = main; args = []; cursor = pos 0; units = units }

-- its end is that of the run
pub ends_so : (code : Code) (main units : ℕ) (after : Moment) (stop : Stop) (outcome : Outcome) (steps left : ℕ) (cursor : ℤ) → main ≡ code.main → after.code ≡ code → StopsAt (start main units) [] [] after stop → stop ≡ Ended outcome → steps ≡ after.machine.steps → left ≡ after.machine.units → cursor ≡ after.machine.cursor → EndsSo code units (record { outcome = outcome; steps = steps; units = left; cursor = cursor })
ends_so code main units after stop outcome steps left cursor is_main same stops is counted rest at = record {
  machine_end = ended.end;
  outcome = ended.is;
  run =
      subst (λ (r : Ran). Runs code code.main [] (pos 0) units [] r) (sym numbers)
      (subst (λ (n : ℕ). Runs code n [] (pos 0) units [] found) is_main
      (subst (λ (k : Code). Runs k main [] (pos 0) units [] found) same ended.run));
}
  where
    ended : HasEnded (start main units) [] [] outcome after
    ended = subst (λ (s : Stop). StopsAt (start main units) [] [] after s) is stops

    found : Ran
    found = record { requests = []; outcome = ended.end; cursor = after.machine.cursor; units = after.machine.units; count = after.machine.steps }

    numbers : record { requests = []; outcome = ended.end; cursor = cursor; units = left; count = steps } ≡ found
    numbers = rw (counted, rest, at) refl
