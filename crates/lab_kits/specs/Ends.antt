-- Why a run has no kit.
use Rattle.kern_accepted.specs.declared.end.KernelEnd.{KernelEnd}
use Rattle.kern_accepted.specs.declared.end.KernelEnd.TheVariants as K
use Rattle.lab_kits.specs.declared.end.PrepareEnd.{PrepareEnd}
use Rattle.lab_kits.specs.declared.end.PrepareEnd.TheVariants.{Refused, Memory}

-- a source is refused that isn't accepted; want of memory says nothing of it
abbrev pub IsEndFor : (accepted : Type 0) → PrepareEnd → Type 0
IsEndFor accepted Refused = accepted → ⊥
IsEndFor accepted Memory = Unit {0}

-- a text is refused that is no accepted kernel's
abbrev pub end_of_kernel : KernelEnd → PrepareEnd
end_of_kernel (K.Refused refusal) = Refused
end_of_kernel K.Memory = Memory
