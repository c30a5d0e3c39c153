-- Instructions in a row that ask nothing.
use Rattle.std.specs.Prelude.{◌≤◌, List}
use Rattle.rtio_types.specs.declared.request.Reply.{Reply}
use Rattle.rtio_types.specs.declared.request.Request.{Request}
use Rattle.core_isa.specs.declared.code.Code.{Code}
use Rattle.core_cpu.specs.Layout.{Held}
use Rattle.core_cpu.specs.Nearness.{nearness}
use Rattle.core_cpu.specs.Settled.{moment_of, IsSettled}
use Rattle.core_cpu.specs.Standing.{Start, Stands}
use Rattle.core_cpu.specs.declared.phase.Phase.{Phase}
use Rattle.core_cpu.specs.declared.phase.Phase.TheVariants.{Ready}

-- a machine that was ready has come to a phase in the same run, no farther from the next stop
pub record Hurried (code : Code) (old : Held) (phase : Phase) (new : Held) : Type 0 where
  pub settled : IsSettled code new phase
  pub stands : (start : Start) (asked : List Request) (replies : List Reply) → Stands start asked replies (moment_of code old Ready)
      → Stands start asked replies (moment_of code new phase)
  pub nearer : nearness (moment_of code new phase) ≤ nearness (moment_of code old Ready)
