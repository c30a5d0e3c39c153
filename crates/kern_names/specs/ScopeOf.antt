-- What the program's own types of this crate stand for.
use Rattle.kern_syntax.specs.Tree.{ProgramTree}
use Rattle.kern_syntax.specs.TreeOf.{tree_of}
use Rattle.kern_calls.specs.Types as T
use Rattle.kern_names.specs.declared.functions.Functions.{Functions}
use Rattle.kern_names.specs.declared.scope.Scope.{Scope}

-- the program of some functions
abbrev pub program_of : Functions → ProgramTree
program_of functions = tree_of functions.functions.now

-- the program with the names of a function
abbrev pub scope_of : Scope → T.Scope
scope_of scope = record { program = program_of scope.functions; names = scope.names.now }
