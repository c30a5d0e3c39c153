-- How a run that asks nothing ends.
use Rattle.std.specs.Prelude.{◌≡◌, ℕ, [], pos, Some}
use Rattle.core_isa.specs.Machine.{MachineEnd}
use Rattle.core_isa.specs.Runs.{Runs}
use Rattle.core_isa.specs.declared.code.Code.{Code}
use Rattle.core_cpu.specs.Moments.{outcome_of}
use Rattle.cpu_bench.specs.declared.running.End.{End}

-- the run of the main function from cursor 0, with so many units, asks nothing and ends so
pub record EndsSo (code : Code) (units : ℕ) (end : End) : Type 0 where
  pub machine_end : MachineEnd
  pub outcome : outcome_of machine_end ≡ Some end.outcome
  pub run : Runs code code.main [] (pos 0) units [] (record { requests = []; outcome = machine_end; cursor = end.cursor; units = end.units; count = end.steps })
