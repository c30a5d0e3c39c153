-- A call of a typed function with arguments of its parameters' types gives what the function gives, and the caller's values are back.
use Rattle.std.proofs.Common.{◌≡◌, ℕ, zero, suc, List, ◌++◌, Option, Some, None, refl, sym, ◌∙◌, ap, subst}
use Rattle.std.specs.Prelude.{ℤ, pos, ⊤, slice_get}
use Rattle.std.proofs.lemmas.Bool.{false≢true}
use Rattle.rtio_types.specs.declared.request.Value.{Value}
use Rattle.rtio_types.specs.declared.outcome.Exc.TheVariants.{StackOverflow}
use Rattle.kern_syntax.specs.declared.program.DeclaredType.{DeclaredType}
use Rattle.kern_syntax.specs.Tree.{Bytes, FunctionTree, ProgramTree}
use Rattle.kern_calls.specs.Types.{Names, names_of, function_named}
use Rattle.kern_expression_types.specs.Before.{Functions}
use Rattle.kern_judgement.specs.Fitting.{Standing}
use Rattle.kern_judgement.specs.Programs.{IsTypedBody, functions_at, body_standing}
use Rattle.timeline_sem.specs.Actions.{State, break, continue, return, raised, budget, unanswered, Completion, normal, early, Action, go_on, stop, take_unit_of}
use Rattle.timeline_sem.specs.Statements.{block}
use Rattle.timeline_sem.specs.Programs.{initial_values, leave_function, function_body, optional_body, function_call}
use Rattle.typed_runs.specs.Values.{HaveValues, IsResultOf, AreArgumentsOf}
use Rattle.typed_runs.specs.Ends.{EndsTyped, EndsCall}
use Rattle.typed_runs.specs.KeepsTypes.{scope_in}
use Rattle.typed_runs.proofs.Calculus.{Anything}
use Rattle.typed_runs.proofs.Kept.{zero_of}
use Rattle.typed_runs.proofs.NamesBehind.{block_behind, parameters_behind}
use Rattle.typed_runs.proofs.Begin.{of_parameters, begin_values}
use Rattle.typed_runs.proofs.Statements.{GiveTheirTypes, typed_block}

-- 0 is what a function gives that ends without a `return`
zero_result : (result : Option DeclaredType) → IsResultOf result (pos 0)
zero_result None = refl
zero_result (Some declared) = zero_of declared

-- with what a body ends a call ends
call_left : (names : Names) (f : FunctionTree) (values : List (Bytes × Value)) (c : Completion ⊤)
    → EndsTyped names (body_standing f) Anything c → EndsCall f.result values (leave_function values c)
call_left names f values (normal a s) h = (zero_result f.result, refl)
call_left names f values (early (return v) s) h = (h.0.1, refl)
call_left names f values (early break s) h = false≢true h.0
call_left names f values (early continue s) h = false≢true h.0
call_left names f values (early (raised x) s) h = refl
call_left names f values (early budget s) h = refl
call_left names f values (early unanswered s) h = refl

-- a call takes a unit first
call_behind_unit : (result : Option DeclaredType) (n : ℕ) (s : State) (body : Action ℤ)
    → ((left : ℕ) → EndsCall result s.values (body (record s { units = left })))
    → EndsCall result s.values (go_on (take_unit_of n s) (λ a. body))
call_behind_unit result zero s body k = refl
call_behind_unit result (suc n) s body k = k n

-- a call from values of the caller's names' types ends with such values, wherever it stands
pub call_typed : (names : Names) (at : Standing) (result : Option DeclaredType) (s : State) (c : Completion ℤ)
    → EndsCall result s.values c → HaveValues names s.values → EndsTyped names at (IsResultOf result) c
call_typed names at result s (normal v s') g h = (g.0, subst (HaveValues names) (sym g.1) h)
call_typed names at result s (early (return v) s') g h = absurd g
call_typed names at result s (early break s') g h = absurd g
call_typed names at result s (early continue s') g h = absurd g
call_typed names at result s (early (raised x) s') g h = (tt, subst (HaveValues names) (sym g) h)
call_typed names at result s (early budget s') g h = (tt, subst (HaveValues names) (sym g) h)
call_typed names at result s (early unanswered s') g h = (tt, subst (HaveValues names) (sym g) h)

-- a function's values at its beginning
pub begun : (functions : Functions) (program : ProgramTree) (f : FunctionTree) (args : List ℤ)
    → IsTypedBody functions f (names_of program f) → AreArgumentsOf f.parameters args
    → HaveValues (names_of program f) (initial_values (names_of program f) args)
begun functions program f args typed fit =
    let behind = block_behind functions typed.body in
    let parameters = parameters_behind functions typed.has_parameters in
    let whole : names_of program f ≡ of_parameters f.parameters ++ behind.more = behind.is ∙ ap (λ l. l ++ behind.more) parameters in
    subst (λ names. HaveValues names (initial_values names args)) (sym whole) (begin_values f.parameters behind.more args fit)

-- each call of a function of the program ends as calls do, where so many further ones may be active
abbrev pub CallsGive : ProgramTree → ℕ → Type 0
CallsGive program room =
    (k : ℕ) (f : FunctionTree) → slice_get program k ≡ Some f
    → (args : List ℤ) → AreArgumentsOf f.parameters args
    → (s : State) → EndsCall f.result s.values (function_call program room f.name args s)

-- from such calls each expression of the body of a function gives its type
abbrev pub BodiesGive : ProgramTree → Type 0
BodiesGive program =
    (room : ℕ) → CallsGive program room → (k : ℕ) (f : FunctionTree) → slice_get program k ≡ Some f
    → GiveTheirTypes (functions_at program k) (scope_in program f) (function_call program room)

module _
    (program : ProgramTree)
    (typed : (k : ℕ) (f : FunctionTree) → slice_get program k ≡ Some f → IsTypedBody (functions_at program k) f (names_of program f))
    (found : (k : ℕ) (f : FunctionTree) → slice_get program k ≡ Some f → function_named program f.name ≡ Some f)
  where
    -- a run of the body of a function ends as a call of it
    call_of_body : BodiesGive program → (room : ℕ) → CallsGive program room → (k : ℕ) (f : FunctionTree) → slice_get program k ≡ Some f
        → (args : List ℤ) → AreArgumentsOf f.parameters args → (s : State)
        → EndsCall f.result s.values (function_body program (function_call program room) f args s)
    call_of_body bodies room calls k f there args fit s =
        let own = typed k f there in
        let callee = function_call program room in
        let start = record s { values = initial_values (names_of program f) args } in
        let gives = bodies room calls k f there in
        let runs = typed_block (functions_at program k) (scope_in program f) callee gives (body_standing f) own.body (λ x t e. e) in
        call_left (names_of program f) f s.values (block (scope_in program f) callee f.body start)
        (runs.from start (begun (functions_at program k) program f args own fit))

    -- a call ends as calls do, however many further functions may be active
    pub calls_give : BodiesGive program → (room : ℕ) → CallsGive program room
    calls_give bodies zero k f there args fit s =
        call_behind_unit f.result s.units s (stop (raised StackOverflow)) (λ left. refl)
    calls_give bodies (suc room) k f there args fit s =
        call_behind_unit f.result s.units s (optional_body program (function_call program room) (function_named program f.name) args)
        (λ left. subst
        (λ o. EndsCall f.result s.values (optional_body program (function_call program room) o args (record s { units = left })))
        (sym (found k f there))
        (call_of_body bodies room (calls_give bodies room) k f there args fit (record s { units = left })))
