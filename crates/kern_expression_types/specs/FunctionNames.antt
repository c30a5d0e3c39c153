-- The names of the functions of a program.
use Rattle.std.specs.Prelude.{List, map}
use Rattle.kern_syntax.specs.declared.program.Function.{Function}
use Rattle.kern_syntax.specs.Tree.{Bytes}

-- the names of functions, in the order of the text
abbrev pub function_names : List Function → List Bytes
function_names functions = map (λ f. f.name) functions
