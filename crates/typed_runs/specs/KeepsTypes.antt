-- That values keep their types in every run of a program.
use Rattle.std.specs.Prelude.{◌≡◌, ℕ, List, ℤ, Some, slice_get, ⊤}
use Rattle.kern_syntax.specs.Tree.{Expression, Block, FunctionTree, ProgramTree}
use Rattle.kern_calls.specs.declared.types.ValueType.{ValueType}
use Rattle.kern_calls.specs.Types.{Names, Scope, scope_of, names_of}
use Rattle.kern_expression_types.specs.declared.place.Given.TheVariants.{Typed}
use Rattle.kern_judgement.specs.Fitting.{Standing, IsScalar}
use Rattle.kern_judgement.specs.Expressions.{HasType}
use Rattle.kern_judgement.specs.Statements.{IsTypedBlock}
use Rattle.kern_judgement.specs.Programs.{functions_at}
use Rattle.kern_judgement.specs.Told.{TellsNames}
use Rattle.timeline_sem.specs.Actions.{State}
use Rattle.timeline_sem.specs.Expressions.{expression}
use Rattle.timeline_sem.specs.Statements.{block}
use Rattle.timeline_sem.specs.Programs.{initial_values, function_call}
use Rattle.typed_runs.specs.Values.{IsNumberOf, HaveValues, AreArgumentsOf}
use Rattle.typed_runs.specs.Ends.{in_an_expression, EndsTyped, EndsCall}

module _ (program : ProgramTree) where
  -- the scope of a function's body
  abbrev pub scope_in : FunctionTree → Scope
  scope_in f = scope_of program (names_of program f)

  -- every run keeps types, under any replies, with any units, and however many further functions may be active
  pub record KeepsTypes : Type 0 where
    -- a function begins, with arguments of its parameters' types, with values of its names' types
    pub begins : (k : ℕ) (f : FunctionTree) → slice_get program k ≡ Some f
        → (args : List ℤ) → AreArgumentsOf f.parameters args
        → HaveValues (names_of program f) (initial_values (names_of program f) args)
    -- from such values each expression gives a number of its type and leaves
    -- such values, and it never ends by a `break`, a `continue` or a `return`
    pub expressions : (k : ℕ) (f : FunctionTree) → slice_get program k ≡ Some f
        → (here : Standing) (names : Names) (e : Expression) (t : ValueType)
        → HasType (functions_at program k) here names e (Typed t) → IsScalar t → TellsNames names (scope_in f)
        → (room : ℕ) (s : State) → HaveValues (names_of program f) s.values
        → EndsTyped
        (names_of program f)
        (in_an_expression here)
        (IsNumberOf t)
        (expression (scope_in f) (function_call program room) e s)
    -- from such values each block ends with such values, by a `break` or a `continue` only in a loop, and by a `return`
    -- only where it may leave the function, with what the function gives
    pub blocks : (k : ℕ) (f : FunctionTree) → slice_get program k ≡ Some f
        → (here : Standing) (names : Names) (b : Block) (after : Names)
        → IsTypedBlock (functions_at program k) here names b after → TellsNames after (scope_in f)
        → (room : ℕ) (s : State) → HaveValues (names_of program f) s.values
        → EndsTyped (names_of program f) here (λ (a : ⊤). Unit {0}) (block (scope_in f) (function_call program room) b s)
    -- a call with arguments of the parameters' types ends with the caller's values, normally
    -- with what the function gives, and never by a `break`, a `continue` or a `return`
    pub calls : (k : ℕ) (f : FunctionTree) → slice_get program k ≡ Some f
        → (args : List ℤ) → AreArgumentsOf f.parameters args
        → (room : ℕ) (s : State) → EndsCall f.result s.values (function_call program room f.name args s)
