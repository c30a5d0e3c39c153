-- Every run of a typed program keeps types.
use Rattle.std.proofs.Common.{◌≡◌, ℕ, suc, Some, refl, subst}
use Rattle.std.specs.Prelude.{slice_get}
use Rattle.kern_syntax.specs.Tree.{FunctionTree, ProgramTree}
use Rattle.kern_calls.specs.Types.{Names, names_of}
use Rattle.kern_expression_types.specs.Before.{Functions}
use Rattle.kern_judgement.specs.Fitting.{Standing}
use Rattle.kern_judgement.specs.Programs.{IsTypedBody, IsTypedByRules, functions_at}
use Rattle.kern_judgement.specs.Told.{TellsNames}
use Rattle.kern_types.specs.Programs.{IsTyped}
use Rattle.kern_judgement.proofs.ProgramsFound.{found_program}
use Rattle.kern_judgement.proofs.ToldTypes.{told}
use Rattle.kern_judgement.proofs.ToldFunctions.{functions_told, found_there, found_by_name, names_told}
use Rattle.timeline_sem.specs.Programs.{function_call}
use Rattle.typed_runs.specs.Ends.{in_an_expression, EndsCall}
use Rattle.typed_runs.specs.KeepsTypes.{scope_in, KeepsTypes}
use Rattle.typed_runs.proofs.Expressions.{HasShortArrays, TellsTypes, GivesResults, typed_expression, typed_alone}
use Rattle.typed_runs.proofs.ShortArrays.{short_found, short_block, short_parameters}
use Rattle.typed_runs.proofs.Statements.{GiveTheirTypes, typed_block}
use Rattle.typed_runs.proofs.Functions.{call_typed, begun, CallsGive, calls_give}

-- the arrays of a typed function are short
body_short : (functions : Functions) (f : FunctionTree) (names : Names) → IsTypedBody functions f names → HasShortArrays names
body_short functions f names typed =
    short_found names (short_block functions typed.body (short_parameters functions typed.has_parameters tt))

module _ (program : ProgramTree) (typed : IsTypedByRules program) where
  -- each body is typed with the names that are told of it
  bodies : (k : ℕ) (f : FunctionTree) → slice_get program k ≡ Some f → IsTypedBody (functions_at program k) f (names_of program f)
  bodies k f there = names_told program k f typed there

  -- a call of what may be called gives what the function gives
  gives_results : (room : ℕ) → CallsGive program room → (k : ℕ) (f : FunctionTree) (at : Standing)
      → GivesResults (functions_at program k) (scope_in program f) at (function_call program room)
  gives_results room calls k f at x called named numbers fit =
      let there = found_there program (suc k) x called named in
      record {
        from = λ s h. call_typed (names_of program f) at called.result s (function_call program room x numbers s)
            (subst (λ y. EndsCall called.result s.values (function_call program room y numbers s)) there.3
            (calls there.0 called there.2 numbers fit s)) h;
      }

  -- the types of expressions are those that the scope tells
  types_told : (k : ℕ) (f : FunctionTree) (here : Standing) (names : Names) → TellsNames names (scope_in program f)
      → TellsTypes (functions_at program k) here names (scope_in program f)
  types_told k f here names tells e t h scalar =
      told (functions_at program k) here names (scope_in program f) tells (functions_told program k (names_of program f)) h t refl

  -- from calls that give what they give each expression gives its type
  bodies_give : (room : ℕ) → CallsGive program room → (k : ℕ) (f : FunctionTree) → slice_get program k ≡ Some f
      → GiveTheirTypes (functions_at program k) (scope_in program f) (function_call program room)
  bodies_give room calls k f there =
      let short = body_short (functions_at program k) f (names_of program f) (bodies k f there) in
      record {
        numbers = λ here names e t h scalar tells at.
            typed_expression (functions_at program k) here names (scope_in program f) (function_call program room) at
            short tells (types_told k f here names tells) (gives_results room calls k f at) e t h scalar;
        alone = λ here names e g h tells at.
            typed_alone (functions_at program k) here names (scope_in program f) (function_call program room) at
            short tells (types_told k f here names tells) (gives_results room calls k f at) e g h;
      }

  -- so every call does
  all_calls : (room : ℕ) → CallsGive program room
  all_calls room = calls_give program bodies (λ k f there. found_by_name program k f typed there) bodies_give room

  -- the runs of the program keep types
  pub rules_keep : KeepsTypes program
  rules_keep =
      record {
        begins = λ k f there args fit. begun (functions_at program k) program f args (bodies k f there) fit;
        expressions = λ k f there here names e t h scalar tells room s own.
            ((bodies_give room (all_calls room) k f there).numbers here names e t h scalar tells (in_an_expression here)).from s own;
        blocks = λ k f there here names b after h tells room s own.
            (typed_block (functions_at program k) (scope_in program f) (function_call program room)
            (bodies_give room (all_calls room) k f there) here h tells).from s own;
        calls = λ k f there args fit room s. all_calls room k f there args fit s;
      }

-- the runs of a program that the checker takes keep types
pub typed_keep : (program : ProgramTree) → IsTyped program → KeepsTypes program
typed_keep program typed = rules_keep program (found_program program typed)
