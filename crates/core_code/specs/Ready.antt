-- The functions whose code can be put, one behind the other.
use Rattle.std.specs.Prelude.{ℕ, ◌+◌, List, [], ◌∷◌}
use Rattle.kern_syntax.specs.Tree.{Bytes, FunctionTree, ProgramTree}
use Rattle.code_forms.specs.Programs.{function_size}
use Rattle.code_law.specs.Laws.{IsReadyFunction}

-- each of some functions has what its code needs where it stands behind those before it, from a place on
abbrev pub AreReadyFrom : ProgramTree → (texts : List Bytes) → (place : ℕ) → List FunctionTree → Type 0
AreReadyFrom program texts place [] = Unit {0}
AreReadyFrom program texts place (f ∷ rest) =
    IsReadyFunction program texts place f × AreReadyFrom program texts (place + function_size program texts f) rest
