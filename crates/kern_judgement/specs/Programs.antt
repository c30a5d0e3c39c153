-- Which functions are typed, and which programs: a rule for each form.
use Rattle.std.specs.Prelude.{◌≡◌, ℕ, suc, ◌<◌, List, [], ◌∷◌, ◌++◌, length, take, true, false, Some, None, codes}
use Rattle.kern_syntax.specs.Tree.{Bytes, ParameterTree, FunctionTree, ProgramTree}
use Rattle.kern_calls.specs.Calls.{look_up}
use Rattle.kern_calls.specs.Types.{Names, declared_type, function_named}
use Rattle.kern_expression_types.specs.Before.{Functions, is_reserved, is_taken}
use Rattle.kern_types.specs.Plain.{with_plain}
use Rattle.kern_types.specs.PlainFunctions.{plain_names}
use Rattle.kern_types.specs.Programs.{most_functions, most_parameters, body_functions}
use Rattle.kern_judgement.specs.Fitting.{Standing}
use Rattle.kern_judgement.specs.Statements.{IsTypedBlock}

-- the names behind the parameters of a function: each name is new, and no function or word of the language has it
pub data HasParameters (functions : Functions) : (names : Names) → List ParameterTree → (after : Names) → Type 0 where
  none : {names : Names} → HasParameters functions names [] names
  one : {names : Names} {p : ParameterTree} {rest : List ParameterTree} {after : Names} → look_up names p.name ≡ None
      → is_taken functions p.name ≡ false → length names < most_parameters
      → HasParameters functions (names ++ (p.name, declared_type p.declared) ∷ []) rest after
      → HasParameters functions names (p ∷ rest) after

-- what the function at a place of the program may speak of: it may call those before it and itself
abbrev pub functions_at : (program : ProgramTree) → (place : ℕ) → Functions
functions_at program k =
    record {
      program = program;
      callable = take (suc k) program;
      plain = plain_names [] (take k program);
    }

-- where the body of a function stands
abbrev pub body_standing : FunctionTree → Standing
body_standing f = record { result = f.result; in_loop = false; may_return = true; in_record = false }

-- a body is typed, with these names in all
pub record IsTypedBody (functions : Functions) (f : FunctionTree) (after : Names) : Type 0 where
  pub parameters : Names
  pub has_parameters : HasParameters functions [] f.parameters parameters
  pub body : IsTypedBlock functions (body_standing f) parameters f.body after

-- a function is typed behind the earlier ones, of which these are plain, with these names in all
pub record IsTypedFunction (program earlier : ProgramTree) (plain : List Bytes) (f : FunctionTree) (after : Names) : Type 0 where
  pub is_new : function_named earlier f.name ≡ None
  pub is_free : is_reserved f.name ≡ false
  pub has_room : length earlier < most_functions
  pub body : IsTypedBody (body_functions program earlier plain f) f after

-- the program has a `main` without parameters
pub record HasMain (program : ProgramTree) : Type 0 where
  pub main : FunctionTree
  pub is_there : function_named program (codes "main") ≡ Some main
  pub takes_nothing : main.parameters ≡ []

-- the functions that are left are typed, each behind those before it
pub data AreTypedFunctions (program : ProgramTree) : (earlier : ProgramTree) (plain : List Bytes) → ProgramTree → Type 0 where
  none : {earlier : ProgramTree} {plain : List Bytes} → AreTypedFunctions program earlier plain []
  one : {earlier : ProgramTree} {plain : List Bytes} {f : FunctionTree} {rest : ProgramTree} {after : Names}
      → IsTypedFunction program earlier plain f after → AreTypedFunctions program (earlier ++ f ∷ []) (with_plain plain f) rest
      → AreTypedFunctions program earlier plain (f ∷ rest)

-- a program is typed by the rules
pub record IsTypedByRules (program : ProgramTree) : Type 0 where
  pub functions : AreTypedFunctions program [] [] program
  pub has_main : HasMain program
