-- What a kit is of, stands for and has.
use Rattle.std.specs.Prelude.{ℕ, List, ℤ}
use Rattle.kern_syntax.specs.Tree.{Bytes, ProgramTree}
use Rattle.kern_syntax.specs.TreeOf.{tree_of}
use Rattle.exp_runs.specs.declared.run.Run.{Run}
use Rattle.exp_model.specs.declared.session.Session.{Session}
use Rattle.sched_core.specs.Scheds.{IsKitFor}
use Rattle.lab_kits.specs.declared.kit.Kit.{Kit}
use Rattle.lab_kits.specs.Calls.{HasCallOf}
use Rattle.kern_accepted.specs.Texts.{IsKernelText}

-- the program that it keeps
abbrev pub program_in : Kit → ProgramTree
program_in kit = tree_of kit.compiled.0

-- the number of the source that it was made of
abbrev pub kit_source : Kit → ℕ
kit_source kit = kit.source

-- its program is that of this text, which is an accepted kernel's
abbrev pub KitText : Kit → Bytes → Type 0
KitText kit text = IsKernelText text (program_in kit)

-- its program has a function of this name, which these arguments fit
abbrev pub KitCall : Kit → Bytes → List ℤ → Type 0
KitCall kit name args = HasCallOf (program_in kit) name args

-- it is a kit for this run: of its source, standing for the text of that, with the function of each of its kernel steps
abbrev pub IsKitOf : Session → Run → Kit → Type 0
IsKitOf session run kit = IsKitFor kit_source KitText KitCall session run kit
