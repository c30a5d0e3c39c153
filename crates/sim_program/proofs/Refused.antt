-- Which texts are refused, and by which lines.
use Rattle.std.specs.Prelude.{IsTrue, refl, true}
use Rattle.kern_syntax.specs.Tree.{Bytes, ProgramTree}
use Rattle.kern_accepted.specs.Refusals.{IsEndOf}
use Rattle.kern_accepted.specs.Texts.{IsKernelText}
use Rattle.kern_accepted.specs.declared.end.KernelEnd.{KernelEnd}
use Rattle.kern_accepted.specs.declared.end.KernelEnd.TheVariants as E
use Rattle.kern_accepted.proofs.Kernels.{none-refused}
use Rattle.sim_program.specs.Texts.{IsLineOfEnd, IsTextRefused}

-- the line of an end refuses the text, which no accepted kernel has, as a command does that takes texts
pub refused : (text told : Bytes) (end : KernelEnd) → IsEndOf text end → IsLineOfEnd end told
    → IsTrue true × IsTextRefused text told × ¬ ((program : ProgramTree) × IsKernelText text program)
refused text told (E.Refused refusal) why line =
    (refl, record { refusal = refusal; why = why; line = line }, λ taken. none-refused text refusal why taken.0 taken.1)
refused text told E.Memory why line = absurd line

-- the text of a kernel isn't refused
pub text-not-refused : (text told : Bytes) (program : ProgramTree) → IsKernelText text program → IsTextRefused text told → ⊥
text-not-refused text told program kernel is = none-refused text is.refusal is.why program kernel
