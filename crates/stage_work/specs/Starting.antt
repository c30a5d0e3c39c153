-- What the session of a kernel's step is started for.
use Rattle.std.specs.Prelude.{◌≡◌, ℕ, Option, Some, None}
use Rattle.rtio_core.specs.declared.data.StartOf.{StartOf}
use Rattle.exp_model.specs.declared.step.HostStep.{HostStep}
use Rattle.exp_model.specs.declared.step.HostStep.TheVariants.{Kernel}
use Rattle.lab_kernels.specs.Meant.{TakesArguments}
use Rattle.lab_kits.specs.declared.kit.Kit.{Kit}
use Rattle.lab_kits.specs.Calls.{HasFunction}
use Rattle.lab_kits.specs.Kits.{program_in}
use Rattle.lab_ties.specs.Steps.{start_of}

-- what the session of a kernel's step is started for: the function of the name
-- that the step calls, which its arguments fit. Other steps have no session
abbrev pub IsStartFor : Kit → (rid place : ℕ) → HostStep → Option StartOf → Type 0
IsStartFor kit rid place (Kernel name args) (Some of) =
    (function : ℕ) × HasFunction (program_in kit) name args function × (of ≡ start_of kit function args rid place)
IsStartFor kit rid place (Kernel name args) None = ⊥
IsStartFor kit rid place other (Some of) = ⊥
IsStartFor kit rid place other None = Unit {0}

-- if there is a session, the kernel's function takes the arguments
abbrev pub MayStart : Kit → Option StartOf → Type 0
MayStart kit None = Unit {0}
MayStart kit (Some of) = TakesArguments (program_in kit) of.function of.args
