-- Where the rules give an expression something, its verdict finds the same without fault; so it has one type at most.
use Rattle.std.proofs.Common.{◌≡◌, ℕ, List, [], ◌∷◌, Option, Some, None, refl, sym, ◌∙◌, ap}
use Rattle.std.specs.Prelude.{not, is_some}
use Rattle.std.proofs.lemmas.Bool.{false≢true}
use Rattle.kern_syntax.specs.declared.expression.BinaryOperator.{BinaryOperator}
use Rattle.kern_syntax.specs.Tree.{Bytes, Expression, Arguments, FunctionTree}
use Rattle.kern_calls.specs.declared.calls.Builtin.{Builtin}
use Rattle.kern_calls.specs.declared.calls.Object.{Object}
use Rattle.kern_calls.specs.declared.calls.Operation.{Operation}
use Rattle.kern_calls.specs.declared.types.ValueType.{ValueType}
use Rattle.kern_calls.specs.declared.types.ValueType.TheVariants as V
use Rattle.kern_calls.specs.declared.wanted.Wanted.{Wanted}
use Rattle.kern_calls.specs.declared.wanted.Wanted.TheVariants as W
use Rattle.kern_calls.specs.Calls.{look_up, builtin_named, builtin_result, builtin_takes, builtin_is_live, object_named, method_of, method_named, operation_result, operation_takes, is_live}
use Rattle.kern_calls.specs.Types.{Names, binary_type, function_named}
use Rattle.kern_expression_types.specs.declared.place.Given.{Given}
use Rattle.kern_expression_types.specs.declared.place.Given.TheVariants as G
use Rattle.kern_expression_types.specs.declared.place.Place.{Place}
use Rattle.kern_expression_types.specs.declared.fault.TypeKind.TheVariants as K
use Rattle.kern_expression_types.specs.Before.{Functions, is_in}
use Rattle.kern_expression_types.specs.Verdicts.{Verdict, well, ◌>>=◌, ◌>>◌, found_or}
use Rattle.kern_expression_types.specs.Fits.{misfit, wanted_of, given_result, fit, fit_each, as_condition, as_integer}
use Rattle.kern_expression_types.specs.Expressions.{element_verdict, arithmetic_verdict, comparison_verdict, truth_verdict, function_verdict, expression_verdict, arguments_verdict, elements_verdict, fitting_verdict, condition_verdict, call_verdict, named_verdict, method_verdict}
use Rattle.kern_judgement.specs.Fitting.{Standing, standing_of, IsStill, IsInteger, Fits, AllFit}
use Rattle.kern_judgement.specs.Expressions.{HasType, HaveTypes, AreIntegers}
use Rattle.kern_judgement.proofs.Inverted.{same_found, chained, refused_none, is_found}
use Rattle.kern_judgement.proofs.Fitting.{fits_judged, integer_judged}
use Rattle.kern_judgement.proofs.CallsFitting.{compared_judged, called_judged}

-- an object with a method is there
object_there : (m : Bytes) (object : Option Object) (op : Operation) → method_of object m ≡ Some op → (x : Object) × (object ≡ Some x)
object_there m (Some x) op e = (x, refl)
object_there m None op e = absurd (false≢true (ap is_some e))

module _ (functions : Functions) (place : Place) (names : Names) where
  -- what an expression gives by the rules, where the verdict stands
  abbrev pub Has : Expression → Given → Type 0
  Has e g = HasType functions (standing_of place) names e g

  -- the verdict on an expression
  abbrev verdict : Expression → Verdict Given
  verdict e = expression_verdict functions place names e

  -- a call of the language's own function
  builtin_judged : (f : Bytes) (builtin : Builtin) (given : List Given)
      → builtin_named f ≡ Some builtin
      → AllFit (builtin_takes builtin) given
      → IsStill (standing_of place) (builtin_is_live builtin)
      → named_verdict functions place f (builtin_named f) given ≡ well (given_result (builtin_result builtin))
  builtin_judged f builtin given is fit still =
      ap (λ b. named_verdict functions place f b given) is
      ∙ called_judged place (builtin_takes builtin) (builtin_result builtin) (builtin_is_live builtin) given fit still

  -- a call of a function of the program
  function_judged : (f : Bytes) (called : FunctionTree) (given : List Given)
      → builtin_named f ≡ None
      → function_named functions.callable f ≡ Some called
      → AllFit (wanted_of called.parameters) given
      → IsStill (standing_of place) (not (is_in functions.plain called.name))
      → named_verdict functions place f (builtin_named f) given ≡ well (given_result called.result)
  function_judged f called given is there fit still =
      let live = not (is_in functions.plain called.name) in
      let found = is_found (function_named functions.callable f) place.line K.Unknown called there in
      ap (λ b. named_verdict functions place f b given) is
      ∙ chained _ (λ h. function_verdict functions place h given) _ _ found
      (called_judged place (wanted_of called.parameters) called.result live given fit still)

  -- a call of a method
  method_judged : (o m : Bytes) (op : Operation) (given : List Given)
      → method_named o m ≡ Some op
      → AllFit (operation_takes op) given
      → IsStill (standing_of place) (is_live op)
      → method_verdict place (object_named o) m given ≡ well (given_result (operation_result op))
  method_judged o m op given is fit still =
      let next : Operation → Verdict Given =
      λ p. call_verdict place (operation_takes p) (operation_result p) (is_live p) given in
      let object = object_there m (object_named o) op is in
      let method = is_found (method_of (object_named o) m) place.line K.Method op is in
      let stands = called_judged place (operation_takes op) (operation_result op) (is_live op) given fit still in
      chained _ (λ x. found_or (method_of (object_named o) m) place.line K.Method >>= next) _ _
      (is_found (object_named o) place.line K.Unknown object.0 object.1)
      (chained _ next _ _ method stands)

  -- what is found of two operands, where the verdicts on both are known
  both_judged : (a b : Expression) (next : Given → Given → Verdict Given) (g h r : Given)
      → verdict a ≡ well g
      → verdict b ≡ well h
      → next g h ≡ well r
      → (verdict a >>= (λ x. verdict b >>= (λ y. next x y))) ≡ well r
  both_judged a b next g h r p q e =
      chained _ (λ x. verdict b >>= (λ y. next x y)) _ _ p (chained _ (λ y. next g y) _ _ q e)

  -- an element of an array
  element_judged : (x : Bytes) (n : ℕ) (t : ValueType)
      → look_up names x ≡ Some (V.Array n)
      → IsInteger t
      → element_verdict place.line names x (G.Typed t) ≡ well tt
  element_judged x n t there i =
      chained _ (λ h. fit place.line W.Array (G.Typed h) >> fit place.line W.Int64 (G.Typed t)) _ _
      (is_found (look_up names x) place.line K.Unknown (V.Array n) there)
      (refused_none (misfit W.Int64 (G.Typed t)) place.line (fits_judged (Fits.int64 i)))

  -- the operators on two integers
  arithmetic_judged : (op : BinaryOperator) {t u : ValueType}
      → IsInteger t
      → IsInteger u
      → arithmetic_verdict place.line op (G.Typed t) (G.Typed u) ≡ well (G.Typed (binary_type op t u))
  arithmetic_judged op {t} {u} i j =
      chained _ (λ x. as_integer place.line (G.Typed u) >>= (λ y. well (G.Typed (binary_type op x y)))) _ _
      (integer_judged place.line i)
      (ap (λ v. v >>= (λ y. well (G.Typed (binary_type op t y)))) (integer_judged place.line j))

  mutual
    -- what an expression gives by the rules its verdict finds
    pub expression_judged : {e : Expression} {g : Given}
        → HasType functions (standing_of place) names e g
        → expression_verdict functions place names e ≡ well g
    expression_judged (HasType.of_integer n) = refl
    expression_judged HasType.of_true = refl
    expression_judged HasType.of_false = refl
    expression_judged (HasType.of_variable there) =
        ap (λ o. found_or o place.line K.Unknown >>= (λ u. well (G.Typed u))) there
    expression_judged (HasType.of_element {x = x} {n = n} {t = t} there h i) =
        chained _ (λ a. element_verdict place.line names x a >> well (G.Typed V.Int64)) _ _ (expression_judged h)
        (ap (λ v. v >> well (G.Typed V.Int64)) (element_judged x n t there i))
    expression_judged (HasType.of_group h) = expression_judged h
    expression_judged (HasType.of_unary h i) =
        chained _ (λ a. as_integer place.line a >>= (λ u. well (G.Typed u))) _ _ (expression_judged h)
        (ap (λ v. v >>= (λ u. well (G.Typed u))) (integer_judged place.line i))
    expression_judged (HasType.of_binary {op = op} {a = a} {b = b} h i k j) =
        both_judged a b (arithmetic_verdict place.line op) _ _ _ (expression_judged h) (expression_judged k)
        (arithmetic_judged op i j)
    expression_judged (HasType.of_compare {op = op} {a = a} {b = b} h k c) =
        both_judged a b (comparison_verdict place.line op) _ _ _ (expression_judged h) (expression_judged k)
        (ap (λ v. v >> well (G.Typed V.Bool)) (compared_judged place.line c))
    expression_judged (HasType.of_negation h) =
        ap (λ v. v >>= (λ a. as_condition place.line a >> well (G.Typed V.Bool))) (expression_judged h)
    expression_judged (HasType.of_conjunction {a = a} {b = b} h k) =
        both_judged a b (truth_verdict place.line) _ _ _ (expression_judged h) (expression_judged k) refl
    expression_judged (HasType.of_disjunction {a = a} {b = b} h k) =
        both_judged a b (truth_verdict place.line) _ _ _ (expression_judged h) (expression_judged k) refl
    expression_judged (HasType.of_builtin {f = f} {builtin = builtin} {given = given} is all fit still) =
        chained _ (λ gs. named_verdict functions place f (builtin_named f) gs) _ _ (arguments_judged all)
        (builtin_judged f builtin given is fit still)
    expression_judged (HasType.of_function {f = f} {called = called} {given = given} is there all fit still) =
        chained _ (λ gs. named_verdict functions place f (builtin_named f) gs) _ _ (arguments_judged all)
        (function_judged f called given is there fit still)
    expression_judged (HasType.of_method {o = o} {m = m} {op = op} {given = given} is all fit still) =
        chained _ (λ gs. method_verdict place (object_named o) m gs) _ _ (arguments_judged all)
        (method_judged o m op given is fit still)

    -- what arguments give by the rules their verdict finds
    pub arguments_judged : {args : Arguments} {given : List Given}
        → HaveTypes functions (standing_of place) names args given
        → arguments_verdict functions place names args ≡ well given
    arguments_judged HaveTypes.of_no_more = refl
    arguments_judged (HaveTypes.of_value {rest = rest} {g = g} h r) =
        chained _ (λ a. arguments_verdict functions place names rest >>= (λ gs. well (a ∷ gs))) _ _ (expression_judged h)
        (ap (λ v. v >>= (λ gs. well (g ∷ gs))) (arguments_judged r))
    arguments_judged (HaveTypes.of_text r) = ap (λ v. v >>= (λ gs. well (G.Text ∷ gs))) (arguments_judged r)

  -- an expression that gives by the rules what fits, the verdict lets fit
  pub fitting_judged : (wanted : Wanted) (e : Expression) (g : Given)
      → Has e g
      → Fits wanted g
      → fitting_verdict functions place names wanted e ≡ well tt
  fitting_judged wanted e g h fits =
      chained _ (λ a. fit place.line wanted a) _ _ (expression_judged h)
      (refused_none (misfit wanted g) place.line (fits_judged fits))

  -- a truth value is a condition
  pub condition_passes : (e : Expression) → Has e (G.Typed V.Bool) → condition_verdict functions place names e ≡ well tt
  condition_passes e h = ap (λ v. v >>= (λ a. as_condition place.line a)) (expression_judged h)

  -- elements that are integers the verdict lets fit
  pub elements_judged : {es : List Expression}
      → AreIntegers functions (standing_of place) names es
      → (given : List Given)
      × (elements_verdict functions place names es ≡ well given)
      × (fit_each place.line W.Int64 given ≡ well tt)
  elements_judged AreIntegers.none = ([], refl, refl)
  elements_judged (AreIntegers.one {es = es} x r) =
      let others = elements_judged r in
      let g = G.Typed x.0 in
      let number = refused_none (misfit W.Int64 g) place.line (fits_judged (Fits.int64 x.2)) in
      let found =
      chained _ (λ a. elements_verdict functions place names es >>= (λ gs. well (a ∷ gs))) _ _ (expression_judged x.1)
      (ap (λ v. v >>= (λ gs. well (g ∷ gs))) others.1) in
      (g ∷ others.0, found, chained _ (λ u. fit_each place.line W.Int64 others.0) _ _ number others.2)

-- a place that stands here
abbrev place_of : Standing → Place
place_of here =
    record {
      line = 0;
      result = here.result;
      in_loop = here.in_loop;
      may_return = here.may_return;
      in_record = here.in_record;
    }

-- an expression gives one thing at most
pub one_type : (functions : Functions) (here : Standing) (names : Names) (e : Expression) (g h : Given)
    → HasType functions here names e g
    → HasType functions here names e h
    → g ≡ h
one_type functions here names e g h p q =
    let first = expression_judged functions (place_of here) names p in
    let second = expression_judged functions (place_of here) names q in
    same_found (sym first ∙ second)
