-- A typed program has no more texts than nodes.
use Rattle.std.proofs.Common.{◌≡◌, ℕ, ◌+◌, ◌≤◌, List, [], ◌∷◌, ◌++◌, length, Option, Some, None, refl, sym, ap, arith, length-append}
use Rattle.std.specs.Prelude.{Bool, true, false, not, ◌==◌, sum_by}
use Rattle.std.proofs.lemmas.List.Sums.{sum_by-cons}
use Rattle.kern_syntax.specs.declared.program.DeclaredType.{DeclaredType}
use Rattle.kern_syntax.specs.declared.program.DeclaredType.TheVariants as D
use Rattle.kern_syntax.specs.Nodes.{expression_nodes, argument_nodes, optional_nodes, statement_nodes, block_nodes, otherwise_nodes, handler_nodes}
use Rattle.kern_syntax.specs.Tree as T
use Rattle.kern_syntax.specs.Tree.{Bytes, Expression, integer, true_literal, false_literal, variable, element, group, unary, binary, compare, negation, conjunction, disjunction, call, method, Arguments, no_more, value_then, text_then, Statement, pass, evaluate, assign, assign_element, augment, augment_element, assign_repeated, assign_list, if_then, while_do, for_range, parallel, sequential, record_as, try_do, Block, done, line_then, Otherwise, no_else, else_do, elif_then, Handlers, no_handler, except_then, ParameterTree, FunctionTree, ProgramTree}
use Rattle.kern_calls.specs.declared.calls.Builtin.{Builtin}
use Rattle.kern_calls.specs.declared.calls.Builtin.TheVariants as B
use Rattle.kern_calls.specs.declared.calls.Operation.{Operation}
use Rattle.kern_calls.specs.declared.calls.Operation.TheVariants as P
use Rattle.kern_calls.specs.declared.types.ValueType.{ValueType}
use Rattle.kern_calls.specs.declared.wanted.Wanted.{Wanted}
use Rattle.kern_calls.specs.declared.wanted.Wanted.TheVariants as W
use Rattle.kern_calls.specs.Calls.{builtin_named, builtin_result, builtin_takes, builtin_is_live, object_named, method_of, operation_result, operation_takes, is_live}
use Rattle.kern_calls.specs.Types.{Names, function_named}
use Rattle.kern_expression_types.specs.declared.place.Given.{Given}
use Rattle.kern_expression_types.specs.declared.place.Given.TheVariants as G
use Rattle.kern_expression_types.specs.declared.place.Place.{Place}
use Rattle.kern_expression_types.specs.declared.fault.TypeKind.TheVariants as K
use Rattle.kern_expression_types.specs.Before.{Functions, is_in, exceptions}
use Rattle.kern_expression_types.specs.Verdicts.{Verdict, well, fault, ◌>>=◌, refuse_if, found_or}
use Rattle.kern_expression_types.specs.Fits.{misfit, declared_wanted, wanted_of, fit, fit_all, fit_each, as_condition, as_integer, as_statement, scalar_of}
use Rattle.kern_expression_types.specs.Expressions.{variable_verdict, element_verdict, expression_verdict, arguments_verdict, call_verdict, function_verdict, named_verdict, method_verdict, condition_verdict, fitting_verdict, elements_verdict}
use Rattle.kern_types.specs.Statements.{at_line, inside_loop, inside_parallel, inside_record, augmented_verdict, bounds_verdict, assigned_verdict, array_verdict, value_verdict, return_verdict, alone_verdict, element_assigned_verdict, name_augmented_verdict, element_augmented_verdict, range_verdict, loop_verdict, statement_verdict, block_verdict, branches_verdict, handlers_verdict}
use Rattle.code_forms.specs.Texts.{expression_texts, argument_texts, option_texts, list_texts, statement_texts, block_texts, otherwise_texts, handler_texts}
use Rattle.code_suited.proofs.Inverted.{inverted, not_refused, none_refused, same_found, is_text, wants_text, text_wanted}
use Rattle.code_suited.proofs.Wanted.{equal_lengths}

-- one where a test holds
abbrev one_if : Bool → ℕ
one_if true = 1
one_if false = 0

-- how many texts are given, and how many are wanted
abbrev texts_given : List Given → ℕ
texts_given [] = 0
texts_given (g ∷ gs) = one_if (is_text g) + texts_given gs

abbrev texts_wanted : List Wanted → ℕ
texts_wanted [] = 0
texts_wanted (w ∷ ws) = one_if (wants_text w) + texts_wanted ws

builtin_wants : (b : Builtin) → texts_wanted (builtin_takes b) ≤ 1
builtin_wants B.NowMu = omega arith
builtin_wants B.AtMu = omega arith
builtin_wants B.DelayMu = omega arith
builtin_wants B.SetDataset = omega arith
builtin_wants B.Len = omega arith
builtin_wants B.ToInt32 = omega arith
builtin_wants B.ToInt64 = omega arith

operation_wants : (op : Operation) → texts_wanted (operation_takes op) ≤ 1
operation_wants (P.On c) = omega arith
operation_wants (P.Off c) = omega arith
operation_wants (P.Pulse c) = omega arith
operation_wants (P.Write c) = omega arith
operation_wants (P.GateRising c) = omega arith
operation_wants (P.GateFalling c) = omega arith
operation_wants (P.GateBoth c) = omega arith
operation_wants (P.Timestamp c) = omega arith
operation_wants (P.Count c) = omega arith
operation_wants P.Counter = omega arith
operation_wants P.BreakRealtime = omega arith
operation_wants P.Reset = omega arith
operation_wants P.WaitUntil = omega arith
operation_wants P.Playback = omega arith
operation_wants P.PlaybackHandle = omega arith
operation_wants P.GetHandle = omega arith
operation_wants P.Erase = omega arith

parameters_want : (ps : List ParameterTree) → texts_wanted (wanted_of ps) ≡ 0
parameters_want [] = refl
parameters_want (p ∷ ps) = by_type p.declared (parameters_want ps)
  where
    by_type : (t : DeclaredType) → texts_wanted (wanted_of ps) ≡ 0 → one_if (wants_text (declared_wanted t)) + texts_wanted (wanted_of ps) ≡ 0
    by_type D.Int32 e = omega (arith, e)
    by_type D.Int64 e = omega (arith, e)
    by_type D.Bool e = omega (arith, e)

one_fits : (line : ℕ) (w : Wanted) (g : Given) (u : Unit {0}) → fit line w g ≡ well u → one_if (is_text g) ≤ one_if (wants_text w)
one_fits line w G.Text u e =
    let is : wants_text w ≡ true = text_wanted w (none_refused (misfit w G.Text) line u e) in
    let one : one_if (wants_text w) ≡ 1 = ap one_if is in
    omega (arith, one)
one_fits line w G.Nothing u e = omega arith
one_fits line w (G.Typed t) u e = omega arith

all_fit : (line : ℕ) (ws : List Wanted) (gs : List Given) (u : Unit {0}) → length gs ≡ length ws → fit_all line ws gs ≡ well u → texts_given gs ≤ texts_wanted ws
all_fit line [] [] u long e = omega arith
all_fit line (w ∷ ws) (g ∷ gs) u long e =
    let i = inverted (fit line w g) (λ a. fit_all line ws gs) u e in
    omega (arith, one_fits line w g i.0 i.1, all_fit line ws gs u (omega (arith, long)) i.2)
all_fit line [] (g ∷ gs) u long e = absurd (omega (arith, long))
all_fit line (w ∷ ws) [] u long e = absurd (omega (arith, long))

call_few : (place : Place) (ws : List Wanted) (result : Option DeclaredType) (live : Bool) (gs : List Given) (g : Given) → call_verdict place ws result live gs ≡ well g → texts_given gs ≤ texts_wanted ws
call_few place ws result live gs g e =
    let a = inverted _ _ g e in
    let b = inverted _ _ g a.2 in
    let same : not (length gs == length ws) ≡ false = not_refused _ _ _ a.0 a.1 in
    all_fit place.line ws gs b.0 (equal_lengths (length gs) (length ws) same) b.1

module _ (functions : Functions) where
  named_few : (place : Place) (f : Bytes) (b : Option Builtin) (gs : List Given) (g : Given) → named_verdict functions place f b gs ≡ well g → texts_given gs ≤ 1
  named_few place f (Some b) gs g e = omega (arith, builtin_wants b, call_few place (builtin_takes b) (builtin_result b) (builtin_is_live b) gs g e)
  named_few place f None gs g e =
      let i = inverted (found_or (function_named functions.callable f) place.line K.Unknown) (λ h. function_verdict functions place h gs) g e in
      let few = call_few place (wanted_of i.0.parameters) i.0.result (not (is_in functions.plain i.0.name)) gs g i.2 in
      omega (arith, few, parameters_want i.0.parameters)

  method_few : (place : Place) (o m : Bytes) (gs : List Given) (g : Given) → method_verdict place (object_named o) m gs ≡ well g → texts_given gs ≤ 1
  method_few place o m gs g e =
      let next : Operation → Verdict Given = λ op. call_verdict place (operation_takes op) (operation_result op) (is_live op) gs in
      let b = inverted (found_or (object_named o) place.line K.Unknown) (λ x. found_or (method_of (object_named o) m) place.line K.Method >>= next) g e in
      let c = inverted (found_or (method_of (object_named o) m) place.line K.Method) next g b.2 in
      omega (arith, operation_wants c.0, call_few place (operation_takes c.0) (operation_result c.0) (is_live c.0) gs g c.2)

  module _ (place : Place) (ns : Names) where
    mutual
      expression_few : (e : Expression) (g : Given) → expression_verdict functions place ns e ≡ well g → length (expression_texts e) ≤ expression_nodes e
      expression_few (integer n) g e = omega arith
      expression_few true_literal g e = omega arith
      expression_few false_literal g e = omega arith
      expression_few (variable x) g e = omega arith
      expression_few (element x i) g e =
          let a = inverted (expression_verdict functions place ns i) _ g e in
          omega (arith, expression_few i a.0 a.1)
      expression_few (group x) g e = omega (arith, expression_few x g e)
      expression_few (unary op x) g e =
          let a = inverted (expression_verdict functions place ns x) _ g e in
          omega (arith, expression_few x a.0 a.1)
      expression_few (binary op x y) g e =
          let a = inverted (expression_verdict functions place ns x) _ g e in
          let b = inverted (expression_verdict functions place ns y) _ g a.2 in
          omega (arith, expression_few x a.0 a.1, expression_few y b.0 b.1, length-append (expression_texts x) (expression_texts y))
      expression_few (compare op x y) g e =
          let a = inverted (expression_verdict functions place ns x) _ g e in
          let b = inverted (expression_verdict functions place ns y) _ g a.2 in
          omega (arith, expression_few x a.0 a.1, expression_few y b.0 b.1, length-append (expression_texts x) (expression_texts y))
      expression_few (negation x) g e =
          let a = inverted (expression_verdict functions place ns x) _ g e in
          omega (arith, expression_few x a.0 a.1)
      expression_few (conjunction x y) g e =
          let a = inverted (expression_verdict functions place ns x) _ g e in
          let b = inverted (expression_verdict functions place ns y) _ g a.2 in
          omega (arith, expression_few x a.0 a.1, expression_few y b.0 b.1, length-append (expression_texts x) (expression_texts y))
      expression_few (disjunction x y) g e =
          let a = inverted (expression_verdict functions place ns x) _ g e in
          let b = inverted (expression_verdict functions place ns y) _ g a.2 in
          omega (arith, expression_few x a.0 a.1, expression_few y b.0 b.1, length-append (expression_texts x) (expression_texts y))
      expression_few (call f args) g e =
          let a = inverted (arguments_verdict functions place ns args) _ g e in
          omega (arith, arguments_few args a.0 a.1, named_few place f (builtin_named f) a.0 g a.2)
      expression_few (method o m args) g e =
          let a = inverted (arguments_verdict functions place ns args) _ g e in
          omega (arith, arguments_few args a.0 a.1, method_few place o m a.0 g a.2)

      arguments_few : (args : Arguments) (gs : List Given) → arguments_verdict functions place ns args ≡ well gs → length (argument_texts args) ≤ argument_nodes args + texts_given gs
      arguments_few no_more gs e = omega arith
      arguments_few (value_then x rest) gs e =
          let a = inverted (expression_verdict functions place ns x) _ gs e in
          let b = inverted (arguments_verdict functions place ns rest) _ gs a.2 in
          let same : texts_given gs ≡ texts_given (a.0 ∷ b.0) = ap texts_given (sym (same_found b.2)) in
          omega (arith, same, expression_few x a.0 a.1, arguments_few rest b.0 b.1, length-append (expression_texts x) (argument_texts rest))
      arguments_few (text_then text rest) gs e =
          let b = inverted (arguments_verdict functions place ns rest) _ gs e in
          let same : texts_given gs ≡ texts_given (G.Text ∷ b.0) = ap texts_given (sym (same_found b.2)) in
          omega (arith, same, arguments_few rest b.0 b.1)

    list_few : (es : List Expression) (gs : List Given) → elements_verdict functions place ns es ≡ well gs → length (list_texts es) ≤ sum_by expression_nodes es
    list_few [] gs e = omega arith
    list_few (x ∷ es) gs e =
        let a = inverted (expression_verdict functions place ns x) _ gs e in
        let b = inverted (elements_verdict functions place ns es) _ gs a.2 in
        omega (arith, expression_few x a.0 a.1, list_few es b.0 b.1, length-append (expression_texts x) (list_texts es), sum_by-cons expression_nodes x es)

    fitting_few : (w : Wanted) (x : Expression) (u : Unit {0}) → fitting_verdict functions place ns w x ≡ well u → length (expression_texts x) ≤ expression_nodes x
    fitting_few w x u e =
        let a = inverted (expression_verdict functions place ns x) (λ g. fit place.line w g) u e in
        expression_few x a.0 a.1

    condition_few : (x : Expression) (u : Unit {0}) → condition_verdict functions place ns x ≡ well u → length (expression_texts x) ≤ expression_nodes x
    condition_few x u e =
        let a = inverted (expression_verdict functions place ns x) (λ g. as_condition place.line g) u e in
        expression_few x a.0 a.1

    value_few : (result : Option DeclaredType) (x : Option Expression) (u : Unit {0}) → value_verdict functions place ns result x ≡ well u → length (option_texts x) ≤ optional_nodes x
    value_few None None u e = omega arith
    value_few (Some t) None u e = omega arith
    value_few None (Some x) u e =
        let a = inverted (expression_verdict functions place ns x) (λ z. fault place.line K.Arity) u e in
        expression_few x a.0 a.1
    value_few (Some t) (Some x) u e = fitting_few (declared_wanted t) x u e

    bounds_few : (from : Option Expression) (to : Expression) (t : ValueType) → range_verdict functions place ns from to ≡ well t → (length (option_texts from) ≤ optional_nodes from) × (length (expression_texts to) ≤ expression_nodes to)
    bounds_few None to t e =
        let a = inverted (expression_verdict functions place ns to) (λ g. as_integer place.line g) t e in
        (omega arith, expression_few to a.0 a.1)
    bounds_few (Some from) to t e =
        let a = inverted (expression_verdict functions place ns from) (λ g. expression_verdict functions place ns to >>= λ h. bounds_verdict place.line g h) t e in
        let b = inverted (expression_verdict functions place ns to) (λ h. bounds_verdict place.line a.0 h) t a.2 in
        (expression_few from a.0 a.1, expression_few to b.0 b.1)

  mutual
    statement_few : (st : Statement) (place : Place) (ns after : Names) → statement_verdict functions st place ns ≡ well after → length (statement_texts st) ≤ statement_nodes st
    statement_few pass place ns after e = omega arith
    statement_few T.break place ns after e = omega arith
    statement_few T.continue place ns after e = omega arith
    statement_few (T.return x) place ns after e =
        let a = inverted (return_verdict functions place ns x) (λ z. well ns) after e in
        let b = inverted (value_verdict functions place ns place.result x) (λ z. refuse_if (not place.may_return) place.line K.BlockExit) a.0 a.1 in
        omega (arith, value_few place ns place.result x b.0 b.1)
    statement_few (evaluate x) place ns after e =
        let a = inverted (alone_verdict functions place ns x) (λ z. well ns) after e in
        let b = inverted (expression_verdict functions place ns x) (λ g. as_statement place.line g) a.0 a.1 in
        omega (arith, expression_few place ns x b.0 b.1)
    statement_few (assign x w) place ns after e =
        let a = inverted (expression_verdict functions place ns w) (λ g. assigned_verdict functions place ns x (scalar_of g)) after e in
        omega (arith, expression_few place ns w a.0 a.1)
    statement_few (assign_element x i w) place ns after e =
        let a = inverted (element_assigned_verdict functions place ns x i w) (λ z. well ns) after e in
        let b = inverted (expression_verdict functions place ns w) (λ h. expression_verdict functions place ns i >>= λ j. element_verdict place.line ns x j >>= λ z. fit place.line W.Int64 h) a.0 a.1 in
        let c = inverted (expression_verdict functions place ns i) (λ j. element_verdict place.line ns x j >>= λ z. fit place.line W.Int64 b.0) a.0 b.2 in
        omega (arith, expression_few place ns w b.0 b.1, expression_few place ns i c.0 c.1, length-append (expression_texts w) (expression_texts i))
    statement_few (augment x op w) place ns after e =
        let a = inverted (name_augmented_verdict functions place ns x w) (λ z. well ns) after e in
        let b = inverted (variable_verdict place.line ns x) (λ held. expression_verdict functions place ns w >>= λ h. augmented_verdict place.line held h) a.0 a.1 in
        let c = inverted (expression_verdict functions place ns w) (λ h. augmented_verdict place.line b.0 h) a.0 b.2 in
        omega (arith, expression_few place ns w c.0 c.1)
    statement_few (augment_element x i op w) place ns after e =
        let a = inverted (element_augmented_verdict functions place ns x i w) (λ z. well ns) after e in
        let b = inverted (expression_verdict functions place ns i) (λ j. element_verdict place.line ns x j >>= λ z. fitting_verdict functions place ns W.Int64 w) a.0 a.1 in
        let d = inverted (element_verdict place.line ns x b.0) (λ z. fitting_verdict functions place ns W.Int64 w) a.0 b.2 in
        omega (arith, expression_few place ns i b.0 b.1, fitting_few place ns W.Int64 w a.0 d.2, length-append (expression_texts i) (expression_texts w))
    statement_few (assign_repeated x w n) place ns after e =
        let a = inverted (fitting_verdict functions place ns W.Int64 w) (λ z. array_verdict functions place ns x n) after e in
        omega (arith, fitting_few place ns W.Int64 w a.0 a.1)
    statement_few (assign_list x ws) place ns after e =
        let a = inverted (elements_verdict functions place ns ws) (λ gs. fit_each place.line W.Int64 gs >>= λ z. array_verdict functions place ns x (length ws)) after e in
        omega (arith, list_few place ns ws a.0 a.1)
    statement_few (if_then c b rest) place ns after e =
        let a = inverted (condition_verdict functions place ns c) (λ z. block_verdict functions b place ns >>= λ m. branches_verdict functions rest place m) after e in
        let h = inverted (block_verdict functions b place ns) (λ m. branches_verdict functions rest place m) after a.2 in
        omega (arith, condition_few place ns c a.0 a.1, block_few b place ns h.0 h.1, branches_few rest place h.0 after h.2, length-append (expression_texts c ++ block_texts b) (otherwise_texts rest), length-append (expression_texts c) (block_texts b))
    statement_few (while_do c b) place ns after e =
        let a = inverted (condition_verdict functions place ns c) (λ z. block_verdict functions b (inside_loop place) ns) after e in
        omega (arith, condition_few place ns c a.0 a.1, block_few b (inside_loop place) ns after a.2, length-append (block_texts b) (expression_texts c))
    statement_few (for_range x from to b) place ns after e =
        let a = inverted (loop_verdict functions place ns x from to) (λ m. block_verdict functions b (inside_loop place) m) after e in
        let h = inverted (range_verdict functions place ns from to) (λ t. assigned_verdict functions place ns x (Some t)) a.0 a.1 in
        let few = bounds_few place ns from to h.0 h.1 in
        omega (arith, few.0, few.1, block_few b (inside_loop place) a.0 after a.2, length-append (option_texts from ++ expression_texts to) (block_texts b), length-append (option_texts from) (expression_texts to))
    statement_few (parallel b) place ns after e = omega (arith, block_few b (inside_parallel place) ns after e)
    statement_few (sequential b) place ns after e = omega (arith, block_few b place ns after e)
    statement_few (record_as name b) place ns after e =
        let a = inverted (refuse_if place.in_record place.line K.NestedRecord) (λ z. block_verdict functions b (inside_record place) ns) after e in
        omega (arith, block_few b (inside_record place) ns after a.2)
    statement_few (try_do b handlers) place ns after e =
        let a = inverted (block_verdict functions b place ns) (λ m. handlers_verdict functions handlers place m) after e in
        omega (arith, block_few b place ns a.0 a.1, handlers_few handlers place a.0 after a.2, length-append (block_texts b) (handler_texts handlers))

    pub block_few : (b : Block) (place : Place) (ns after : Names) → block_verdict functions b place ns ≡ well after → length (block_texts b) ≤ block_nodes b
    block_few done place ns after e = omega arith
    block_few (line_then ln st rest) place ns after e =
        let a = inverted (statement_verdict functions st (at_line place ln) ns) (λ m. block_verdict functions rest place m) after e in
        omega (arith, statement_few st (at_line place ln) ns a.0 a.1, block_few rest place a.0 after a.2, length-append (statement_texts st) (block_texts rest))

    branches_few : (rest : Otherwise) (place : Place) (ns after : Names) → branches_verdict functions rest place ns ≡ well after → length (otherwise_texts rest) ≤ otherwise_nodes rest
    branches_few no_else place ns after e = omega arith
    branches_few (else_do b) place ns after e = omega (arith, block_few b place ns after e)
    branches_few (elif_then ln c b rest) place ns after e =
        let a = inverted (condition_verdict functions (at_line place ln) ns c >>= λ z. block_verdict functions b place ns) (λ m. branches_verdict functions rest place m) after e in
        let h = inverted (condition_verdict functions (at_line place ln) ns c) (λ z. block_verdict functions b place ns) a.0 a.1 in
        omega (arith, condition_few (at_line place ln) ns c h.0 h.1, block_few b place ns a.0 h.2, branches_few rest place a.0 after a.2, length-append (expression_texts c ++ block_texts b) (otherwise_texts rest), length-append (expression_texts c) (block_texts b))

    handlers_few : (handlers : Handlers) (place : Place) (ns after : Names) → handlers_verdict functions handlers place ns ≡ well after → length (handler_texts handlers) ≤ handler_nodes handlers
    handlers_few no_handler place ns after e = omega arith
    handlers_few (except_then ln name b rest) place ns after e =
        let a = inverted (refuse_if (not (is_in exceptions name)) ln K.Unknown) (λ z. block_verdict functions b place ns >>= λ m. handlers_verdict functions rest place m) after e in
        let h = inverted (block_verdict functions b place ns) (λ m. handlers_verdict functions rest place m) after a.2 in
        omega (arith, block_few b place ns h.0 h.1, handlers_few rest place h.0 after h.2, length-append (block_texts b) (handler_texts rest))
