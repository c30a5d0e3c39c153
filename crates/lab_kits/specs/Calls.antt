-- Calls of a program's functions by name.
use Rattle.std.specs.Prelude.{◌≡◌, ℕ, List, slice_get, Some, ℤ}
use Rattle.kern_arguments.specs.Fitting.{ArgumentsFit}
use Rattle.kern_syntax.specs.Tree.{Bytes, FunctionTree, ProgramTree}

-- the program's function of this number, in the order of the text, has this name, and the arguments fit it
pub record HasFunction (program : ProgramTree) (name : Bytes) (args : List ℤ) (function : ℕ) : Type 0 where
  pub f : FunctionTree
  pub found : slice_get program function ≡ Some f
  pub named : f.name ≡ name
  pub fit : ArgumentsFit f.parameters args

-- the program has a function of this name, which the arguments fit
abbrev pub HasCallOf : ProgramTree → Bytes → List ℤ → Type 0
HasCallOf program name args = (function : ℕ) × HasFunction program name args function
