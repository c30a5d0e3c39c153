-- The code of a checked program has at most 16 instructions a node.
use Rattle.std.proofs.Common.{◌≡◌, ℕ, zero, suc, ◌+◌, ◌*◌, ◌≤◌, List, [], ◌∷◌, length, Option, Some, None, refl, sym, ap, arith, length-append}
use Rattle.std.specs.Prelude.{Bool, true, false, is_some, slice_get, sum_by, if◌then◌else◌}
use Rattle.std.proofs.lemmas.Bool.{false≢true}
use Rattle.std.proofs.lemmas.List.Sums.{sum_by-cons}
use Rattle.kern_syntax.specs.Grammatical.{Deeper, IsStatement, AreLines, AreBranches, AreHandlers, AreFunctions}
use Rattle.kern_syntax.specs.Nodes.{expression_nodes, argument_nodes, optional_nodes, statement_nodes, block_nodes, otherwise_nodes, handler_nodes, program_nodes}
use Rattle.kern_syntax.specs.Tree as T
use Rattle.kern_syntax.specs.Tree.{Bytes, Expression, integer, true_literal, false_literal, variable, element, group, unary, binary, compare, negation, conjunction, disjunction, call, method, Arguments, no_more, value_then, text_then, Statement, pass, evaluate, assign, assign_element, augment, augment_element, assign_repeated, assign_list, if_then, while_do, for_range, parallel, sequential, record_as, try_do, Block, done, line_then, Otherwise, no_else, else_do, elif_then, Handlers, no_handler, except_then, FunctionTree, ProgramTree}
use Rattle.kern_syntax.specs.declared.expression.UnaryOperator.{UnaryOperator}
use Rattle.kern_syntax.specs.declared.expression.UnaryOperator.TheVariants as U
use Rattle.kern_syntax.specs.declared.expression.Comparison.{Comparison}
use Rattle.kern_syntax.specs.declared.expression.Comparison.TheVariants as K
use Rattle.kern_calls.specs.declared.types.ValueType.{ValueType}
use Rattle.kern_calls.specs.declared.types.ValueType.TheVariants as V
use Rattle.kern_calls.specs.declared.calls.Builtin.{Builtin}
use Rattle.kern_calls.specs.declared.calls.Builtin.TheVariants as B
use Rattle.kern_calls.specs.declared.calls.Operation.{Operation}
use Rattle.kern_calls.specs.declared.calls.Operation.TheVariants as P
use Rattle.kern_calls.specs.Calls.{builtin_named, method_named}
use Rattle.kern_calls.specs.Types.{type_of}
use Rattle.timeline_sem.specs.Expressions.{text_in}
use Rattle.code_forms.specs.Setting as C
use Rattle.code_forms.specs.ExpressionCode.{numbers_in}
use Rattle.code_forms.specs.Operations.{wrapping, unary_instrs, literal, negated, comparison_instrs, builtin_instrs, call_instrs, call_has_value, takes_numbers, array_argument, operation_instrs, method_instrs, method_has_value, wrapped_type}
use Rattle.code_forms.specs.Programs.{setting_of, plain_names, function_code, function_size, functions_code, code_of_program}
use Rattle.code_forms.specs.Texts.{texts_of}
use Rattle.code_forms.specs.Sizes.{unless, when, has_second, parallel_begin_size, unary_size, expression_size, arguments_size, effect_size, stored_size, return_size, from_size, exit_size, statement_size, block_size, parallel_size, others_size, otherwise_size, handlers_size}
use Rattle.code_forms.specs.Suited.{MethodHasWhatItTakes, operation_numbers, IsSuited, AreSuited, IsSuitedAlone, IfThereSuited, EachSuited, IsSuitedStatement, IsSuitedBlock, IsSuitedOtherwise, AreSuitedHandlers}
use Rattle.code_forms.proofs.Asked.{asked_short, asked_looping_short}
use Rattle.code_forms.proofs.StatementLengths.{functions_have_their_size}
pub use Rattle.code_suited.proofs.Functions.{typed_is_suited}
use Rattle.kern_types.specs.Checked.{IsChecked}

wrapping_short : (t : ValueType) → length (wrapping t) ≤ 1
wrapping_short V.Int32 = omega arith
wrapping_short V.Int64 = omega arith
wrapping_short V.Bool = omega arith
wrapping_short (V.Array n) = omega arith

unary_short : (op : UnaryOperator) (t : ValueType) → length (unary_instrs op t) ≤ 2
unary_short U.Negate t = omega (arith, wrapping_short t)
unary_short U.Invert t = omega (arith, wrapping_short t)

negated_short : (o : Option ℕ) (operand own : ℕ) → unary_size o operand own ≤ operand + own + 1
negated_short (Some n) operand own = omega arith
negated_short None operand own = omega arith

comparison_short : (op : Comparison) → length (comparison_instrs op) ≤ 3
comparison_short K.Equal = omega arith
comparison_short K.NotEqual = omega arith
comparison_short K.Less = omega arith
comparison_short K.LessEqual = omega arith
comparison_short K.Greater = omega arith
comparison_short K.GreaterEqual = omega arith

unless_short : (b : Bool) → unless b ≤ 1
unless_short true = omega arith
unless_short false = omega arith

when_short : (b : Bool) → when b ≤ 1
when_short true = omega arith
when_short false = omega arith

unless_none : (b : Bool) → b ≡ true → unless b ≡ 0
unless_none true e = refl
unless_none false e = absurd (false≢true e)

exit_short : (cs : C.Setting) (rest : Otherwise) → exit_size cs rest ≤ 1
exit_short cs no_else = omega arith
exit_short cs (else_do b) = omega arith
exit_short cs (elif_then ln c b rest) = omega arith

parallel_begin_short : (second : Bool) → parallel_begin_size second ≤ 4
parallel_begin_short true = omega arith
parallel_begin_short false = omega arith

builtin_short : (cs : C.Setting) (text : Bytes) (array : Option Bytes) (b : Builtin) → length (builtin_instrs cs text array b) ≤ 1
builtin_short cs text array B.NowMu = omega arith
builtin_short cs text array B.AtMu = omega arith
builtin_short cs text array B.DelayMu = omega arith
builtin_short cs text array B.SetDataset = omega arith
builtin_short cs text array B.Len = omega arith
builtin_short cs text array B.ToInt32 = omega arith
builtin_short cs text array B.ToInt64 = omega arith

call_short : (cs : C.Setting) (f text : Bytes) (array : Option Bytes) (b : Option Builtin) → length (call_instrs cs f text array b) ≤ 1
call_short cs f text array None = omega arith
call_short cs f text array (Some b) = builtin_short cs text array b

operation_short : (cs : C.Setting) (text : Bytes) (op : Operation) → length (operation_instrs cs 0 0 text op) ≤ 8 + 5 * operation_numbers op
operation_short cs text (P.On c) = omega arith
operation_short cs text (P.Off c) = omega arith
operation_short cs text (P.Pulse c) = omega arith
operation_short cs text (P.Write c) = omega arith
operation_short cs text (P.GateRising c) = omega arith
operation_short cs text (P.GateFalling c) = omega arith
operation_short cs text (P.GateBoth c) = omega arith
operation_short cs text (P.Timestamp c) = omega arith
operation_short cs text (P.Count c) = omega arith
operation_short cs text P.Counter = omega arith
operation_short cs text P.BreakRealtime = omega arith
operation_short cs text P.Reset = omega arith
operation_short cs text P.WaitUntil = omega arith
operation_short cs text P.Playback = omega arith
operation_short cs text P.PlaybackHandle = omega arith
operation_short cs text P.GetHandle = omega arith
operation_short cs text P.Erase = omega arith

method_short : (cs : C.Setting) (text : Bytes) (args : Arguments) (op : Option Operation) → MethodHasWhatItTakes args op → length (method_instrs cs 0 0 text op) ≤ 8 + 5 * numbers_in args
method_short cs text args None has = absurd has
method_short cs text args (Some op) has = omega (arith, operation_short cs text op, has.0)

-- what is done only where a test holds
taken_short : (t : Bool) (n m : ℕ) → (t ≡ true → n ≤ m) → (if t then n else 0) ≤ m
taken_short true n m k = k refl
taken_short false n m k = omega arith

-- a block stands one deeper
one_deeper : (room : ℕ) (Inside : ℕ → Type 0) → Deeper room Inside → (r : ℕ) × (room ≡ suc r) × Inside r
one_deeper zero Inside e = absurd e
one_deeper (suc room) Inside e = (room, refl, e)

module _ (cs : C.Setting) (plain : List Bytes) where
  mutual
    expression_short : (d : Bool) (e : Expression) → IsSuited cs plain d e → expression_size cs e + 5 ≤ 16 * expression_nodes e
    expression_short d (integer n) r = omega arith
    expression_short d true_literal r = omega arith
    expression_short d false_literal r = omega arith
    expression_short d (variable x) r = omega arith
    expression_short d (element x i) r = omega (arith, expression_short d i r.2)
    expression_short d (group e) r = omega (arith, expression_short d e r)
    expression_short d (unary op e) r =
        omega (arith, expression_short d e r, unary_short op (type_of cs.scope e), negated_short (negated op (literal e)) (expression_size cs e) (length (unary_instrs op (type_of cs.scope e))))
    expression_short d (binary op a b) r = omega (arith, expression_short d a r.0, expression_short d b r.1, wrapping_short (wrapped_type op (literal a) (literal b) (type_of cs.scope (binary op a b))))
    expression_short d (compare op a b) r = omega (arith, expression_short d a r.0, expression_short d b r.1, comparison_short op)
    expression_short d (negation e) r = omega (arith, expression_short d e r)
    expression_short d (conjunction a b) r = omega (arith, expression_short d a r.0, expression_short d b r.1)
    expression_short d (disjunction a b) r = omega (arith, expression_short d a r.0, expression_short d b r.1)
    expression_short d (call f args) r =
        let t = takes_numbers (array_argument cs args) (builtin_named f) in
        let n = taken_short t (arguments_size cs args) (16 * argument_nodes args) (λ e. let a = arguments_short d args (r.2 e) in omega (arith, a)) in
        omega (arith, n, call_short cs f (text_in args) (array_argument cs args) (builtin_named f), unless_short (call_has_value cs f (builtin_named f)))
    expression_short d (method o m args) r =
        omega (arith, arguments_short d args r.2, method_short cs (text_in args) args (method_named o m) r.1, unless_none (method_has_value (method_named o m)) r.0)

    arguments_short : (d : Bool) (args : Arguments) → AreSuited cs plain d args → arguments_size cs args + 5 * numbers_in args ≤ 16 * argument_nodes args
    arguments_short d no_more r = omega arith
    arguments_short d (value_then e rest) r = omega (arith, expression_short d e r.0, arguments_short d rest r.1)
    arguments_short d (text_then text rest) r = arguments_short d rest r

  popped_short : (d : Bool) (e : Expression) → IsSuited cs plain d e → expression_size cs e + 1 + 4 ≤ 16 * expression_nodes e
  popped_short d e r = omega (arith, expression_short d e r)

  effect_short : (d : Bool) (e : Expression) → IsSuitedAlone cs plain d e → effect_size cs e + 3 ≤ 16 * expression_nodes e
  effect_short d (group e) r = omega (arith, effect_short d e r)
  effect_short d (call f args) r =
      let t = takes_numbers (array_argument cs args) (builtin_named f) in
      let n = taken_short t (arguments_size cs args) (16 * argument_nodes args) (λ e. let a = arguments_short d args (r.1 e) in omega (arith, a)) in
      omega (arith, n, call_short cs f (text_in args) (array_argument cs args) (builtin_named f), when_short (call_has_value cs f (builtin_named f)))
  effect_short d (method o m args) r =
      omega (arith, arguments_short d args r.1, method_short cs (text_in args) args (method_named o m) r.0, when_short (method_has_value (method_named o m)))
  effect_short d (integer n) r = omega arith
  effect_short d true_literal r = omega arith
  effect_short d false_literal r = omega arith
  effect_short d (variable x) r = omega arith
  effect_short d (element x i) r = omega (arith, popped_short d (element x i) r)
  effect_short d (unary op e) r = omega (arith, popped_short d (unary op e) r)
  effect_short d (binary op a b) r = omega (arith, popped_short d (binary op a b) r)
  effect_short d (compare op a b) r = omega (arith, popped_short d (compare op a b) r)
  effect_short d (negation e) r = omega (arith, popped_short d (negation e) r)
  effect_short d (conjunction a b) r = omega (arith, popped_short d (conjunction a b) r)
  effect_short d (disjunction a b) r = omega (arith, popped_short d (disjunction a b) r)

  stored_short : (d : Bool) (es : List Expression) → EachSuited cs plain d es → stored_size cs es + 2 * length es ≤ 16 * sum_by expression_nodes es
  stored_short d [] r = omega arith
  stored_short d (e ∷ es) r = omega (arith, expression_short d e r.0, stored_short d es r.1, sum_by-cons expression_nodes e es)

  from_short : (d : Bool) (from : Option Expression) → IfThereSuited cs plain d from → from_size cs from ≤ 1 + 16 * optional_nodes from
  from_short d None r = omega arith
  from_short d (Some e) r = omega (arith, expression_short d e r)

  return_short : (d : Bool) (e : Option Expression) → IfThereSuited cs plain d e → (value : Bool) → cs.value ≡ value → is_some e ≡ value → return_size cs e ≤ 16 * optional_nodes e
  return_short d None r true is e = absurd (false≢true e)
  return_short d None r false is e = let none : when cs.value ≡ 0 = ap when is in omega (arith, none)
  return_short d (Some x) r true is e = let none : unless cs.value ≡ 0 = ap unless is in omega (arith, none, expression_short d x r)
  return_short d (Some x) r false is e = absurd (false≢true (sym e))

  mutual
    -- with so many more, where nothing leaves the block
    statement_short : (l m d : Bool) (tries kept room more : ℕ) (s : Statement) → IsSuitedStatement cs plain l m d s → IsStatement room s → tries + room ≤ 15 → more ≤ 6 → (l ≡ true → more ≡ 0) → (m ≡ true → more ≡ 0) → statement_size cs tries kept s + more ≤ 16 * statement_nodes s
    statement_short l m d tries kept room more pass r g t six x y = omega (arith, six)
    statement_short l m d tries kept room more T.break r g t six x y = omega (arith, t, x r)
    statement_short l m d tries kept room more T.continue r g t six x y = omega (arith, t, x r)
    statement_short l m d tries kept room more (T.return e) r g t six x y = omega (arith, t, y r.0, return_short d e r.1 cs.value refl r.2)
    statement_short l m d tries kept room more (evaluate e) r g t six x y = omega (arith, six, effect_short d e r)
    statement_short l m d tries kept room more (assign a e) r g t six x y = omega (arith, six, expression_short d e r.1)
    statement_short l m d tries kept room more (assign_element a i e) r g t six x y = omega (arith, six, expression_short d i r.2, expression_short d e r.3)
    statement_short l m d tries kept room more (augment a op e) r g t six x y = omega (arith, six, expression_short d e r.1, wrapping_short (type_of cs.scope (variable a)))
    statement_short l m d tries kept room more (augment_element a i op e) r g t six x y = omega (arith, six, expression_short d i r.2, expression_short d e r.3)
    statement_short l m d tries kept room more (assign_repeated a e n) r g t six x y = omega (arith, six, expression_short d e r.1)
    statement_short l m d tries kept room more (assign_list a es) r g t six x y = omega (arith, six, stored_short d es r.1)
    statement_short l m d tries kept room more (if_then c b rest) r g t six x y =
        let k = one_deeper room _ g.1 in
        omega (arith, six, expression_short d c r.0, asked_short cs c, block_short l m d tries kept k.0 b r.1 k.2.1 (omega (arith, t, k.1)), otherwise_short l m d tries kept k.0 rest r.2 k.2.2 (omega (arith, t, k.1)), exit_short cs rest)
    statement_short l m d tries kept room more (while_do c b) r g t six x y =
        let k = one_deeper room _ g.1 in
        omega (arith, six, expression_short d c r.0, asked_looping_short cs c, block_short true m d tries tries k.0 b r.1 k.2.1 (omega (arith, t, k.1)))
    statement_short l m d tries kept room more (for_range a from to b) r g t six x y =
        let k = one_deeper room _ g.2 in
        omega (arith, six, from_short d from r.1, expression_short d to r.2, block_short true m d tries tries k.0 b r.3 k.2.1 (omega (arith, t, k.1)))
    statement_short l m d tries kept room more (parallel b) r g t six x y =
        let k = one_deeper room _ g in
        omega (arith, six, parallel_begin_short (has_second b), parallel_short d tries kept k.0 b r k.2.1 (omega (arith, t, k.1)))
    statement_short l m d tries kept room more (sequential b) r g t six x y =
        let k = one_deeper room _ g in
        omega (arith, six, block_short l m d tries kept k.0 b r k.2.1 (omega (arith, t, k.1)))
    statement_short l m d tries kept room more (record_as name b) r g t six x y =
        let k = one_deeper room _ g in
        omega (arith, six, block_short false false true tries kept k.0 b r.1 k.2.1 (omega (arith, t, k.1)))
    statement_short l m d tries kept room more (try_do b handlers) r g t six x y =
        let k = one_deeper room _ g in
        omega (arith, six, block_short l m d (tries + 1) kept k.0 b r.0 k.2.1 (omega (arith, t, k.1)), handlers_short l m d tries kept k.0 handlers r.1 k.2.3 (omega (arith, t, k.1)))

    block_short : (l m d : Bool) (tries kept room : ℕ) (b : Block) → IsSuitedBlock cs plain l m d b → AreLines room b → tries + room ≤ 15 → block_size cs tries kept b ≤ 16 * block_nodes b
    block_short l m d tries kept room done r g t = omega arith
    block_short l m d tries kept room (line_then ln s rest) r g t =
        omega (arith, statement_short l m d tries kept room 0 s r.0 g.0 t (omega arith) (λ e. refl) (λ e. refl), block_short l m d tries kept room rest r.1 g.1 t)

    parallel_short : (d : Bool) (tries kept room : ℕ) (b : Block) → IsSuitedBlock cs plain false false d b → AreLines room b → tries + room ≤ 15 → parallel_size cs tries kept b ≤ 16 * block_nodes b
    parallel_short d tries kept room done r g t = omega arith
    parallel_short d tries kept room (line_then ln s rest) r g t =
        omega (arith, statement_short false false d tries kept room 6 s r.0 g.0 t (omega arith) (λ e. absurd (false≢true e)) (λ e. absurd (false≢true e)), others_short d tries kept room rest r.1 g.1 t)

    others_short : (d : Bool) (tries kept room : ℕ) (b : Block) → IsSuitedBlock cs plain false false d b → AreLines room b → tries + room ≤ 15 → others_size cs tries kept b ≤ 16 * block_nodes b + 4
    others_short d tries kept room done r g t = omega arith
    others_short d tries kept room (line_then ln s rest) r g t =
        omega (arith, statement_short false false d tries kept room 6 s r.0 g.0 t (omega arith) (λ e. absurd (false≢true e)) (λ e. absurd (false≢true e)), others_short d tries kept room rest r.1 g.1 t)

    otherwise_short : (l m d : Bool) (tries kept room : ℕ) (rest : Otherwise) → IsSuitedOtherwise cs plain l m d rest → AreBranches room rest → tries + room ≤ 15 → otherwise_size cs tries kept rest ≤ 16 * otherwise_nodes rest
    otherwise_short l m d tries kept room no_else r g t = omega arith
    otherwise_short l m d tries kept room (else_do b) r g t = omega (arith, block_short l m d tries kept room b r g.1 t)
    otherwise_short l m d tries kept room (elif_then ln c b rest) r g t =
        omega (arith, expression_short d c r.0, asked_short cs c, block_short l m d tries kept room b r.1 g.2 t, otherwise_short l m d tries kept room rest r.2 g.3 t, exit_short cs rest)

    handlers_short : (l m d : Bool) (tries kept room : ℕ) (handlers : Handlers) → AreSuitedHandlers cs plain l m d handlers → AreHandlers room handlers → tries + room ≤ 15 → handlers_size cs tries kept handlers ≤ 16 * handler_nodes handlers + 1
    handlers_short l m d tries kept room no_handler r g t = omega arith
    handlers_short l m d tries kept room (except_then ln x b rest) r g t =
        omega (arith, block_short l m d tries kept room b r.0 g.1 t, handlers_short l m d tries kept room rest r.1 g.2 t)

module _ (program : ProgramTree) (plain texts : List Bytes) where
  function_short : (f : FunctionTree) → AreLines 15 f.body → IsSuitedBlock (setting_of program texts f) plain false true false f.body → function_size program texts f ≤ 16 * (1 + block_nodes f.body)
  function_short f g r =
      let cs = setting_of program texts f in
      let b : block_size cs 0 0 f.body ≤ 16 * block_nodes f.body = block_short cs plain false true false 0 0 15 f.body r g (omega arith) in
      let w : when (is_some f.result) ≤ 1 = when_short (is_some f.result) in
      sum_short (block_size cs 0 0 f.body) (when (is_some f.result)) (block_nodes f.body) b w
    where
      sum_short : (a w n : ℕ) → a ≤ 16 * n → w ≤ 1 → a + (w + 1) ≤ 16 * (1 + n)
      sum_short a w n less one = omega (arith, less, one)

  functions_short : (fs : ProgramTree) (place : ℕ) → AreFunctions fs → ((k : ℕ) (f : FunctionTree) → slice_get fs k ≡ Some f → IsSuitedBlock (setting_of program texts f) plain false true false f.body) → length (functions_code program texts place fs) ≤ 16 * program_nodes fs
  functions_short [] place g r = omega arith
  functions_short (f ∷ fs) place g r =
      let own = function_code program texts place f in
      let others = functions_code program texts (place + function_size program texts f) fs in
      omega (arith, length-append own others, functions_have_their_size program texts place f, function_short f g.0.1 (r 0 f refl), sum_by-cons (λ (h : FunctionTree). 1 + block_nodes h.body) f fs, functions_short fs (place + function_size program texts f) g.1 (λ k h e. r (suc k) h e))

-- the code of a checked program is short
pub is_short : (program : ProgramTree) → IsChecked program → length (code_of_program program).lines ≤ 16 * program_nodes program
is_short program checked =
    let suited = typed_is_suited program checked.spellable checked.typed in
    functions_short program (plain_names [] program) (texts_of program) program 0 checked.grammatical.1 (λ k f e. (suited k f e).0)
