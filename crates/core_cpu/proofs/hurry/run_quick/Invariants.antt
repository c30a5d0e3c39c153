use Rattle.core_cpu.specs.Hurrying.{Hurried}
use Rattle.core_cpu.specs.Nearness.{nearness}
use Rattle.core_cpu.specs.Settled.{moment_of}
use Rattle.core_cpu.specs.declared.phase.Phase.TheVariants.{Ready}
use Rattle.core_cpu.proofs.hurry.run_quick.Given as goal

abbrev pub invariant-loop-state : goal.invariant-loop-state
invariant-loop-state l = Hurried l.code l.initial.state Ready l.state

abbrev pub decreases-loop-state : goal.decreases-loop-state
decreases-loop-state l = nearness (moment_of l.code l.state Ready)
