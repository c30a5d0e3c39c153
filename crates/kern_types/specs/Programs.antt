-- The verdict on a program: its functions in the order of the text, and then that there is a `main`.
use Rattle.std.specs.Prelude.{ℕ, List, [], ◌∷◌, ◌++◌, length, Bool, true, false, not, ◌||◌, nat_le}
use Rattle.std.specs.Prelude.{◌==◌, bytes_eq, position, IsTrue, Option, Some, None, is_some, codes}
use Rattle.kern_syntax.specs.Tree.{Bytes, ParameterTree, FunctionTree, ProgramTree}
use Rattle.kern_expression_types.specs.declared.place.Place.{Place}
use Rattle.kern_expression_types.specs.declared.fault.TypeKind.TheVariants as K
use Rattle.kern_calls.specs.Calls.{look_up}
use Rattle.kern_calls.specs.Types.{Names, declared_type, function_named}
use Rattle.kern_expression_types.specs.Verdicts.{Verdict, well, ◌>>=◌, ◌>>◌, refuse_if, is_well}
use Rattle.kern_expression_types.specs.Before.{Functions, is_reserved, is_taken}
use Rattle.kern_plain.specs.Plain.{with_plain}
use Rattle.kern_types.specs.Statements.{block_verdict}

-- the most functions of a program, and the most parameters of a function
abbrev pub most_functions : ℕ
most_functions = 256

abbrev pub most_parameters : ℕ
most_parameters = 8

-- the names after one more parameter, or its fault: its name is new, and no function or word of the language has it
abbrev pub parameter_verdict : Functions → (line : ℕ) → ParameterTree → Names → Verdict Names
parameter_verdict functions line p names = do
  refuse_if (is_some (look_up names p.name) || is_taken functions p.name) line K.Name
  refuse_if (nat_le most_parameters (length names)) line K.Size
  well (names ++ (p.name, declared_type p.declared) ∷ [])

-- the names after the parameters of a function, or their first fault
abbrev pub parameters_verdict : Functions → (line : ℕ) → List ParameterTree → Names → Verdict Names
parameters_verdict functions line [] names = well names
parameters_verdict functions line (p ∷ rest) names = do
  after ← parameter_verdict functions line p names
  parameters_verdict functions line rest after

-- the place of a function's body
abbrev pub body_place : FunctionTree → Place
body_place f =
    record { line = f.line; result = f.result; in_loop = false; may_return = true; in_record = false }

-- what the body of a function may speak of
abbrev pub body_functions : (program earlier : ProgramTree) → (plain : List Bytes) → FunctionTree → Functions
body_functions program earlier plain f =
    record { program = program; callable = earlier ++ f ∷ []; plain = plain }

-- the names of a function, its parameters and those that its body assigns, or their first fault
abbrev pub body_verdict : Functions → FunctionTree → Verdict Names
body_verdict functions f = do
  names ← parameters_verdict functions f.line f.parameters []
  block_verdict functions f.body (body_place f) names

-- the names of a function after those before it, or its first fault
abbrev pub function_verdict : (program earlier : ProgramTree) → (plain : List Bytes) → FunctionTree → Verdict Names
function_verdict program earlier plain f = do
  refuse_if (is_some (function_named earlier f.name) || is_reserved f.name) f.line K.Name
  refuse_if (nat_le most_functions (length earlier)) f.line K.Size
  body_verdict (body_functions program earlier plain f) f

-- a function without parameters
abbrev pub has_main : Option FunctionTree → Bool
has_main None = false
has_main (Some f) = length f.parameters == 0

-- the place of the function of this name in the text, from 0
abbrev pub place_of_function : ProgramTree → Bytes → Option ℕ
place_of_function program name = position (λ f. bytes_eq name f.name) program

-- the program has a `main` without parameters; else line 1 has the fault
abbrev pub main_verdict : ProgramTree → Verdict (Unit {0})
main_verdict program = refuse_if (not (has_main (function_named program (codes "main")))) 1 K.NoMain

-- the functions that are left, after those before them, and then `main`
abbrev pub functions_verdict : (program earlier : ProgramTree) → (plain : List Bytes) → (rest : ProgramTree) → Verdict (Unit {0})
functions_verdict program earlier plain [] = main_verdict program
functions_verdict program earlier plain (f ∷ rest) = do
  function_verdict program earlier plain f
  functions_verdict program (earlier ++ f ∷ []) (with_plain plain f) rest

-- the verdict on a program: it is typed, or it has a first fault
abbrev pub program_verdict : ProgramTree → Verdict (Unit {0})
program_verdict program = functions_verdict program [] [] program

-- the program is typed
abbrev pub IsTyped : ProgramTree → Type 0
IsTyped program = IsTrue (is_well (program_verdict program))
