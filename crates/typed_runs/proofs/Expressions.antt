-- Typed expressions give numbers of their types, and leave values of the names' types.
use Rattle.std.proofs.Common.{◌≡◌, ℕ, ◌<◌, ◌^◌, List, [], ◌∷◌, Option, Some, None, length, refl, sym, ap, subst, arith}
use Rattle.std.specs.Prelude.{Bool, true, false, not, ℤ, pos, is_some, unwrap_or}
use Rattle.std.specs.Int.{w32, int_wrap}
use Rattle.std.proofs.lemmas.Int.{SFits-int_wrap}
use Rattle.std.proofs.lemmas.Bool.{false≢true}
use Rattle.rtio_types.specs.Integers.{number_of, is_true}
use Rattle.rtio_types.specs.declared.request.Value.{Value}
use Rattle.rtio_types.specs.declared.request.Value.TheVariants as W
use Rattle.kern_syntax.specs.Tree.{Bytes, Expression, integer, true_literal, false_literal, variable, element, group, unary, binary, compare, negation, conjunction, disjunction, call, method, Arguments, no_more, value_then, text_then, FunctionTree}
use Rattle.kern_calls.specs.declared.types.ValueType.{ValueType}
use Rattle.kern_calls.specs.declared.types.ValueType.TheVariants as V
use Rattle.kern_calls.specs.declared.calls.Builtin.{Builtin}
use Rattle.kern_calls.specs.declared.calls.Builtin.TheVariants as B
use Rattle.kern_calls.specs.declared.calls.Operation.{Operation}
use Rattle.kern_calls.specs.Calls.{look_up, builtin_named, builtin_result, method_named, operation_result}
use Rattle.kern_calls.specs.Types.{Names, Scope, type_of, width_of, binary_type, literal_type, function_named}
use Rattle.kern_expression_types.specs.declared.place.Given.{Given}
use Rattle.kern_expression_types.specs.declared.place.Given.TheVariants as G
use Rattle.kern_expression_types.specs.Fits.{given_result}
use Rattle.kern_expression_types.specs.Before.{Functions}
use Rattle.kern_judgement.specs.Fitting.{Standing, IsInteger, IsScalar}
use Rattle.kern_judgement.specs.Fitting as F
use Rattle.kern_judgement.specs.Expressions.{HasType, HaveTypes}
use Rattle.kern_judgement.specs.Expressions as E
use Rattle.kern_judgement.specs.Told.{TellsNames}
use Rattle.timeline_sem.specs.Actions.{Action, give, ◌>>=◌}
use Rattle.timeline_sem.specs.Timeline.{first_of_list}
use Rattle.timeline_sem.specs.Numbers.{unary_result}
use Rattle.timeline_sem.specs.Expressions.{Callee, list_in_value, array_in, if_array, array_or_number, dataset_value, text_in, perform_builtin, perform_call, perform_method, unless_decided, expression, arguments}
use Rattle.typed_runs.specs.Values.{IsNumberOf, IsValueOf, IsResultOf, AreArgumentsOf}
use Rattle.typed_runs.proofs.Calculus.{Anything, RunsTyped, typed_bind, typed_weaken, typed_give, typed_cursor_now, typed_set_cursor, typed_delay, typed_tell, typed_no_value, typed_perform}
use Rattle.typed_runs.proofs.NamedValues.{typed_read, typed_read_element, typed_operate}
use Rattle.typed_runs.proofs.Numbers.{wrapped, binary_integer, truth, small_fits, literal_integer, literal_number, IsGivenNumber, given_integer, scalar_given, given_value, given_call, AreGivenNumbers, no_number, a_number, a_text, arguments_given}

-- no array among the names is too long for its length to be an int32
abbrev pub HasShortArrays : Names → Type 0
HasShortArrays names = (x : Bytes) (n : ℕ) → look_up names x ≡ Some (V.Array n) → n < 2 ^ 31

-- a list that isn't too long for its length to be an int32
abbrev IsShort : Value → Type 0
IsShort v = length (list_in_value v) < 2 ^ 31

module _ (scope : Scope) (at : Standing) (short : HasShortArrays scope.names) where
  named : (x y : Bytes) (o : Option ValueType) → look_up scope.names y ≡ o → if_array y o ≡ Some x
      → (n : ℕ) × (look_up scope.names x ≡ Some (V.Array n))
  named x y None q e = absurd (false≢true (ap is_some e))
  named x y (Some V.Int32) q e = absurd (false≢true (ap is_some e))
  named x y (Some V.Int64) q e = absurd (false≢true (ap is_some e))
  named x y (Some V.Bool) q e = absurd (false≢true (ap is_some e))
  named x y (Some (V.Array n)) q e = (n, subst (λ z. look_up scope.names z ≡ Some (V.Array n)) (ap (λ o. unwrap_or o y) e) q)

  -- an array argument is the array of a name
  named_array : (e : Expression) (x : Bytes) → array_in scope e ≡ Some x → (n : ℕ) × (look_up scope.names x ≡ Some (V.Array n))
  named_array (variable y) x e = named x y (look_up scope.names y) refl e
  named_array (group e) x q = named_array e x q
  named_array (integer n) x e = absurd (false≢true (ap is_some e))
  named_array true_literal x e = absurd (false≢true (ap is_some e))
  named_array false_literal x e = absurd (false≢true (ap is_some e))
  named_array (element a i) x e = absurd (false≢true (ap is_some e))
  named_array (unary op a) x e = absurd (false≢true (ap is_some e))
  named_array (binary op a b) x e = absurd (false≢true (ap is_some e))
  named_array (compare op a b) x e = absurd (false≢true (ap is_some e))
  named_array (negation a) x e = absurd (false≢true (ap is_some e))
  named_array (conjunction a b) x e = absurd (false≢true (ap is_some e))
  named_array (disjunction a b) x e = absurd (false≢true (ap is_some e))
  named_array (call f args) x e = absurd (false≢true (ap is_some e))
  named_array (method o m args) x e = absurd (false≢true (ap is_some e))

  array_short : (x : Bytes) (n : ℕ) → look_up scope.names x ≡ Some (V.Array n) → (v : Value) → IsValueOf (V.Array n) v → IsShort v
  array_short x n found (W.List items) long = omega (arith, short x n found, long)
  array_short x n found (W.Int k) long = absurd long

  typed_array_or : (o : Option Bytes) (k : ℤ) → ((x : Bytes) → o ≡ Some x → (n : ℕ) × (look_up scope.names x ≡ Some (V.Array n)))
      → RunsTyped scope.names at IsShort (array_or_number o k)
  typed_array_or (Some x) k is =
      let found = is x refl in
      typed_weaken scope.names at (array_short x found.0 found.1) (typed_read scope.names at x (V.Array found.0) found.1)
  typed_array_or None k is = typed_give scope.names at (W.Int k) (omega arith)

  -- what a dataset is given isn't too long
  typed_dataset : (args : Arguments) (k : ℤ) → RunsTyped scope.names at IsShort (dataset_value scope args k)
  typed_dataset no_more k = typed_give scope.names at (W.Int k) (omega arith)
  typed_dataset (text_then text rest) k = typed_dataset rest k
  typed_dataset (value_then e rest) k = typed_array_or (array_in scope e) k (named_array e)

  -- a function of the language gives what it says
  typed_builtin : (f : Builtin) (args : Arguments) (numbers : List ℤ)
      → RunsTyped scope.names at (IsResultOf (builtin_result f)) (perform_builtin scope f args numbers)
  typed_builtin B.NowMu args numbers = typed_cursor_now scope.names at
  typed_builtin B.AtMu args numbers = typed_no_value scope.names at (typed_set_cursor scope.names at _)
  typed_builtin B.DelayMu args numbers = typed_no_value scope.names at (typed_delay scope.names at _)
  typed_builtin B.SetDataset args numbers =
      typed_bind scope.names at (typed_dataset args _)
      (λ new p. typed_no_value scope.names at (typed_tell scope.names at _))
  typed_builtin B.Len args numbers =
      typed_bind scope.names at (typed_dataset args (pos 0)) (λ held less. typed_give scope.names at _ (small_fits _ less))
  typed_builtin B.ToInt32 args numbers = typed_give scope.names at _ (SFits-int_wrap w32 (first_of_list numbers))
  typed_builtin B.ToInt64 args numbers = typed_give scope.names at _ tt

  typed_unless : (b : Bool) (answer : ℤ) (second : Action ℤ) → IsNumberOf V.Bool answer
      → RunsTyped scope.names at (IsNumberOf V.Bool) second
      → RunsTyped scope.names at (IsNumberOf V.Bool) (unless_decided b answer second)
  typed_unless true answer second p k = typed_give scope.names at answer p
  typed_unless false answer second p k = k

-- what a function that may be called gives for arguments of its parameters' types
abbrev pub GivesResults : Functions → Scope → Standing → Callee → Type 0
GivesResults functions scope at callee =
    (f : Bytes) (called : FunctionTree) → function_named functions.callable f ≡ Some called
    → (numbers : List ℤ) → AreArgumentsOf called.parameters numbers
    → RunsTyped scope.names at (IsResultOf called.result) (callee f numbers)

-- the scope's types of scalars are those by the rules
abbrev pub TellsTypes : Functions → Standing → Names → Scope → Type 0
TellsTypes functions here names scope =
    (e : Expression) (t : ValueType) → HasType functions here names e (G.Typed t) → IsScalar t → type_of scope e ≡ t

module _ (functions : Functions) (here : Standing) (so_far : Names) (scope : Scope) (callee : Callee) (at : Standing)
    (short : HasShortArrays scope.names) (tells : TellsNames so_far scope) (told : TellsTypes functions here so_far scope)
    (gives : GivesResults functions scope at callee) where
  -- an expression gives what is told of its number
  abbrev IsGivenBy : Given → Expression → Type 0
  IsGivenBy g e = RunsTyped scope.names at (IsGivenNumber g) (expression scope callee e)

  abbrev bind : {A B : Type 0} {P : A → Type 0} {Q : B → Type 0} {m : Action A} {f : A → Action B} → RunsTyped scope.names at P m
      → ((a : A) → P a → RunsTyped scope.names at Q (f a)) → RunsTyped scope.names at Q (m >>= f)
  bind = typed_bind scope.names at

  typed_truth : (b : Bool) → RunsTyped scope.names at (IsNumberOf V.Bool) (give (number_of b))
  typed_truth b = typed_give scope.names at _ (truth b)

  wrapped_as : (t u : ValueType) → t ≡ u → IsInteger u → (n : ℤ) → IsGivenNumber (G.Typed u) (int_wrap (width_of t) n)
  wrapped_as t u e i n = given_integer u i _ (subst (λ w. IsNumberOf u (int_wrap (width_of w) n)) (sym e) (wrapped u i n))

  typed_named_builtin : (f : Bytes) (builtin : Builtin) → builtin_named f ≡ Some builtin → (args : Arguments) (numbers : List ℤ)
      → RunsTyped scope.names at (IsGivenNumber (given_result (builtin_result builtin)))
      (perform_call scope callee f (builtin_named f) args numbers)
  typed_named_builtin f builtin e args numbers =
      subst
      (λ o. RunsTyped scope.names at (IsGivenNumber (given_result (builtin_result builtin))) (perform_call scope callee f o args numbers))
      (sym e)
      (typed_weaken scope.names at (given_call (builtin_result builtin))
      (typed_builtin scope at short builtin args numbers))

  typed_named_function : (f : Bytes) (called : FunctionTree) → builtin_named f ≡ None
      → function_named functions.callable f ≡ Some called → (args : Arguments) (numbers : List ℤ)
      → AreArgumentsOf called.parameters numbers
      → RunsTyped scope.names at (IsGivenNumber (given_result called.result)) (perform_call scope callee f (builtin_named f) args numbers)
  typed_named_function f called e found args numbers own =
      subst
      (λ o. RunsTyped scope.names at (IsGivenNumber (given_result called.result)) (perform_call scope callee f o args numbers))
      (sym e)
      (typed_weaken scope.names at (given_call called.result) (gives f called found numbers own))

  typed_named_method : (o m : Bytes) (op : Operation) → method_named o m ≡ Some op → (numbers : List ℤ) (text : Bytes)
      → RunsTyped scope.names at (IsGivenNumber (given_result (operation_result op))) (perform_method (method_named o m) numbers text)
  typed_named_method o m op e numbers text =
      subst (λ p. RunsTyped scope.names at (IsGivenNumber (given_result (operation_result op)))
      (perform_method p numbers text)) (sym e)
      (typed_weaken scope.names at (given_call (operation_result op)) (typed_perform scope.names at op numbers text))

  mutual
    -- a typed expression gives what is told of its number
    pub typed_given : (e : Expression) (g : Given) → HasType functions here so_far e g → IsGivenBy g e
    typed_given e g (E.of_integer n) =
        typed_give scope.names at _ (given_integer (literal_type n) (literal_integer n) (pos n) (literal_number n))
    typed_given e g E.of_true = typed_truth true
    typed_given e g E.of_false = typed_truth false
    typed_given e g (E.of_variable {x} {t} found) =
        bind (typed_read scope.names at x t (tells x t found)) (λ held p. typed_give scope.names at _ (given_value t held p))
    typed_given e g (E.of_element {x} {i} found own is) =
        bind (typed_given i _ own) (λ place p. typed_read_element scope.names at x place)
    typed_given e g (E.of_group {e = inner} own) = typed_given inner g own
    typed_given e g (E.of_unary {op} {e = inner} {t} own is) =
        bind (typed_given inner _ own)
        (λ a p. typed_give scope.names at _
        (wrapped_as (type_of scope inner) t (told inner t own (F.integer is)) is (unary_result op a)))
    typed_given e g (E.of_binary {op} {a} {b} {t} {u} first is second too) =
        let sum = binary_integer op t u is too in
        let same = told (binary op a b) (binary_type op t u) (E.of_binary first is second too) (F.integer sum) in
        bind (typed_given a _ first)
        (λ x p. bind (typed_given b _ second)
        (λ y q. typed_operate scope.names at op (type_of scope (binary op a b)) x y
        (wrapped_as (type_of scope (binary op a b)) (binary_type op t u) same sum)))
    typed_given e g (E.of_compare {op} {a} {b} first second fit) =
        bind (typed_given a _ first) (λ x p. bind (typed_given b _ second) (λ y q. typed_truth _))
    typed_given e g (E.of_negation {e = inner} own) = bind (typed_given inner _ own) (λ a p. typed_truth _)
    typed_given e g (E.of_conjunction {a} {b} first second) =
        bind (typed_given a _ first)
        (λ x p. typed_unless scope at short (not (is_true x)) (pos 0) (expression scope callee b) (truth false)
        (typed_given b _ second))
    typed_given e g (E.of_disjunction {a} {b} first second) =
        bind (typed_given a _ first)
        (λ x p. typed_unless scope at short (is_true x) (pos 1) (expression scope callee b) (truth true)
        (typed_given b _ second))
    typed_given e g (E.of_builtin {f} {args} {builtin} {given} is own fit still) =
        bind (typed_arguments args given own) (λ numbers p. typed_named_builtin f builtin is args numbers)
    typed_given e g (E.of_function {f} {args} {called} {given} none found own fit still) =
        bind (typed_arguments args given own)
        (λ numbers p. typed_named_function f called none found args numbers (arguments_given called.parameters given numbers fit p))
    typed_given e g (E.of_method {o} {m} {args} {op} {given} is own fit still) =
        bind (typed_arguments args given own) (λ numbers p. typed_named_method o m op is numbers (text_in args))

    -- typed arguments give numbers of which is told what they are
    pub typed_arguments : (args : Arguments) (gs : List Given) → HaveTypes functions here so_far args gs
        → RunsTyped scope.names at (AreGivenNumbers gs) (arguments scope callee args)
    typed_arguments args gs E.of_no_more = typed_give scope.names at [] no_number
    typed_arguments args gs (E.of_value {e} {rest} {g} {others} own more) =
        bind (typed_given e g own)
        (λ a p. bind (typed_arguments rest others more) (λ ns q. typed_give scope.names at (a ∷ ns) (a_number p q)))
    typed_arguments args gs (E.of_text {rest} {others} more) =
        typed_weaken scope.names at (λ ns q. a_text q) (typed_arguments rest others more)

  -- a typed expression of a scalar gives a number of its type
  pub typed_expression : (e : Expression) (t : ValueType) → HasType functions here so_far e (G.Typed t) → IsScalar t
      → RunsTyped scope.names at (IsNumberOf t) (expression scope callee e)
  typed_expression e t own is = typed_weaken scope.names at (scalar_given t is) (typed_given e (G.Typed t) own)

  -- a typed expression leaves values of the names' types
  pub typed_alone : (e : Expression) (g : Given) → HasType functions here so_far e g
      → RunsTyped scope.names at Anything (expression scope callee e)
  typed_alone e g own = typed_weaken scope.names at (λ n p. tt) (typed_given e g own)
