-- Why some bytes give no code.
use Rattle.std.specs.Prelude.{◌≡◌, ℕ}
use Rattle.core_isa.specs.declared.code.Code.{Code}
use Rattle.core_image.specs.Fields.{Bytes, HasFault}
use Rattle.core_image.specs.Ranges.{IsInRange}
use Rattle.core_image.specs.Spelling.{image_of}
use Rattle.core_image.specs.Table.{image}
use Rattle.core_image.specs.declared.end.ImageEnd.{ImageEnd}
use Rattle.core_image.specs.declared.end.ImageEnd.TheVariants.{Fault, Memory}

-- an end is the first wrong field of some bytes, or want of memory
abbrev pub IsEndOf : Bytes → ImageEnd → Type 0
IsEndOf bytes (Fault offset) = HasFault image bytes offset
IsEndOf bytes Memory = Unit {0}

-- an end is want of memory
abbrev pub IsMemory : ImageEnd → Type 0
IsMemory (Fault offset) = ⊥
IsMemory Memory = Unit {0}

-- bytes are the image of some code
abbrev pub IsImage : Bytes → Type 0
IsImage bytes = (code : Code) × IsInRange code × (bytes ≡ image_of code)

-- bytes have a first wrong field
abbrev pub IsFaulty : Bytes → Type 0
IsFaulty bytes = (place : ℕ) × HasFault image bytes place
