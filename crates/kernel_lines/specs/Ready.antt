-- Functions whose instructions can be counted.
use Rattle.std.specs.Prelude.{ℕ, List}
use Rattle.kern_syntax.specs.Tree.{Bytes, FunctionTree, ProgramTree}
use Rattle.code_law.specs.Laws.{IsReadyFunction}

-- the code of a function can be put at some place
abbrev pub IsReadySomewhere : ProgramTree → (texts : List Bytes) → FunctionTree → Type 0
IsReadySomewhere program texts f = (place : ℕ) × IsReadyFunction program texts place f
