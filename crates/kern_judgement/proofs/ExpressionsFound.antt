-- Where the verdict on an expression is without fault, the rules give the same.
use Rattle.std.proofs.Common.{◌≡◌, List, [], ◌∷◌, Option, Some, None, refl, sym, ◌∙◌, ap, subst}
use Rattle.std.specs.Prelude.{not}
use Rattle.kern_syntax.specs.Tree.{Bytes, Expression, integer, true_literal, false_literal, variable, element, group, unary, binary, compare, negation, conjunction, disjunction, call, method, Arguments, no_more, value_then, text_then}
use Rattle.kern_calls.specs.declared.calls.Builtin.{Builtin}
use Rattle.kern_calls.specs.declared.calls.Operation.{Operation}
use Rattle.kern_calls.specs.declared.types.ValueType.TheVariants as V
use Rattle.kern_calls.specs.declared.wanted.Wanted.{Wanted}
use Rattle.kern_calls.specs.declared.wanted.Wanted.TheVariants as W
use Rattle.kern_calls.specs.Calls.{look_up, builtin_named, builtin_result, builtin_takes, builtin_is_live, object_named, method_of, operation_result, operation_takes, is_live}
use Rattle.kern_calls.specs.Types.{Names, function_named}
use Rattle.kern_expression_types.specs.declared.place.Given.{Given}
use Rattle.kern_expression_types.specs.declared.place.Given.TheVariants as G
use Rattle.kern_expression_types.specs.declared.place.Place.{Place}
use Rattle.kern_expression_types.specs.declared.fault.TypeKind.TheVariants as K
use Rattle.kern_expression_types.specs.Before.{Functions, is_in}
use Rattle.kern_expression_types.specs.Verdicts.{Verdict, well, ◌>>=◌, found_or}
use Rattle.kern_expression_types.specs.Fits.{misfit, wanted_of, fit, fit_each, as_condition, as_integer, as_compared}
use Rattle.kern_expression_types.specs.Expressions.{expression_verdict, arguments_verdict, elements_verdict, fitting_verdict, condition_verdict, call_verdict, named_verdict, method_verdict}
use Rattle.kern_judgement.specs.Fitting.{standing_of, Fits}
use Rattle.kern_judgement.specs.Expressions.{HasType, HaveTypes, IsAnInteger, AreIntegers}
use Rattle.kern_judgement.proofs.Inverted.{same_found, inverted, none_refused, was_there}
use Rattle.kern_judgement.proofs.Fitting.{same_type, fits_found, integer_fits, array_fits, integer_found, condition_found}
use Rattle.kern_judgement.proofs.CallsFitting.{compared_found, called_found}

module _ (functions : Functions) (place : Place) (names : Names) where
  -- what an expression gives by the rules, where the verdict stands
  abbrev pub Has : Expression → Given → Type 0
  Has e g = HasType functions (standing_of place) names e g

  -- what arguments give
  abbrev pub HaveAll : Arguments → List Given → Type 0
  HaveAll args given = HaveTypes functions (standing_of place) names args given

  -- a call by name
  named_found : (f : Bytes) (args : Arguments) (b : Option Builtin)
      → builtin_named f ≡ b
      → (given : List Given)
      → HaveAll args given
      → (g : Given)
      → named_verdict functions place f b given ≡ well g
      → Has (call f args) g
  named_found f args (Some b) is given all g e =
      let c = called_found place (builtin_takes b) (builtin_result b) (builtin_is_live b) given g e in
      subst (Has (call f args)) c.gives (HasType.of_builtin is all c.all_fit c.still)
  named_found f args None is given all g e =
      let i = inverted (found_or (function_named functions.callable f) place.line K.Unknown) _ g e in
      let called = i.0 in
      let there = was_there (function_named functions.callable f) place.line K.Unknown called i.1 in
      let live = not (is_in functions.plain called.name) in
      let c = called_found place (wanted_of called.parameters) called.result live given g i.2 in
      subst (Has (call f args)) c.gives (HasType.of_function is there all c.all_fit c.still)

  -- a call of a method
  method_found : (o m : Bytes) (args : Arguments) (given : List Given)
      → HaveAll args given
      → (g : Given)
      → method_verdict place (object_named o) m given ≡ well g → Has (method o m args) g
  method_found o m args given all g e =
      let next : Operation → Verdict Given =
      λ op. call_verdict place (operation_takes op) (operation_result op) (is_live op) given in
      let its_own = found_or (method_of (object_named o) m) place.line K.Method in
      let b = inverted (found_or (object_named o) place.line K.Unknown) (λ x. its_own >>= next) g e in
      let i = inverted its_own next g b.2 in
      let op = i.0 in
      let there = was_there (method_of (object_named o) m) place.line K.Method op i.1 in
      let c = called_found place (operation_takes op) (operation_result op) (is_live op) given g i.2 in
      subst (Has (method o m args)) c.gives (HasType.of_method there all c.all_fit c.still)

  mutual
    -- what the verdict finds of an expression it gives by the rules
    pub expression_found : (e : Expression) (g : Given) → expression_verdict functions place names e ≡ well g → Has e g
    expression_found (integer n) g e = subst (Has (integer n)) (same_found e) (HasType.of_integer n)
    expression_found true_literal g e = subst (Has true_literal) (same_found e) HasType.of_true
    expression_found false_literal g e = subst (Has false_literal) (same_found e) HasType.of_false
    expression_found (variable x) g e =
        let i = inverted (found_or (look_up names x) place.line K.Unknown) _ g e in
        subst (Has (variable x)) (same_found i.2) (HasType.of_variable (was_there _ _ _ i.0 i.1))
    expression_found (element x i) g e =
        let a = inverted (expression_verdict functions place names i) _ g e in
        let b = inverted _ _ g a.2 in
        let c = inverted _ _ b.0 b.1 in
        let t = c.0 in
        let there = was_there (look_up names x) place.line K.Unknown t c.1 in
        let p = inverted (fit place.line W.Array (G.Typed t)) (λ z. fit place.line W.Int64 a.0) b.0 c.2 in
        let held = array_fits (fits_found W.Array (G.Typed t) (none_refused _ _ p.0 p.1)) in
        let index = integer_fits (fits_found W.Int64 a.0 (none_refused _ _ b.0 p.2)) in
        let number = subst (Has i) index.1 (expression_found i a.0 a.1) in
        subst (Has (element x i)) (same_found b.2) (HasType.of_element (there ∙ ap Some (same_type held.1)) number index.2)
    expression_found (group x) g e = HasType.of_group (expression_found x g e)
    expression_found (unary op x) g e =
        let a = inverted (expression_verdict functions place names x) _ g e in
        let b = inverted (as_integer place.line a.0) _ g a.2 in
        let n = integer_found place.line a.0 b.0 b.1 in
        subst (Has (unary op x)) (same_found b.2) (HasType.of_unary (subst (Has x) n.0 (expression_found x a.0 a.1)) n.1)
    expression_found (binary op x y) g e =
        let a = inverted (expression_verdict functions place names x) _ g e in
        let b = inverted (expression_verdict functions place names y) _ g a.2 in
        let c = inverted (as_integer place.line a.0) _ g b.2 in
        let d = inverted (as_integer place.line b.0) _ g c.2 in
        let n = integer_found place.line a.0 c.0 c.1 in
        let m = integer_found place.line b.0 d.0 d.1 in
        let left = subst (Has x) n.0 (expression_found x a.0 a.1) in
        let right = subst (Has y) m.0 (expression_found y b.0 b.1) in
        subst (Has (binary op x y)) (same_found d.2) (HasType.of_binary left n.1 right m.1)
    expression_found (compare op x y) g e =
        let a = inverted (expression_verdict functions place names x) _ g e in
        let b = inverted (expression_verdict functions place names y) _ g a.2 in
        let c = inverted (as_compared place.line op a.0 b.0) _ g b.2 in
        let n = compared_found place.line op a.0 b.0 c.0 c.1 in
        let left = subst (Has x) n.left_is (expression_found x a.0 a.1) in
        let right = subst (Has y) n.right_is (expression_found y b.0 b.1) in
        subst (Has (compare op x y)) (same_found c.2) (HasType.of_compare left right n.comparable)
    expression_found (negation x) g e =
        let a = inverted (expression_verdict functions place names x) _ g e in
        let b = inverted (as_condition place.line a.0) _ g a.2 in
        let truth = subst (Has x) (condition_found place.line a.0 b.0 b.1) (expression_found x a.0 a.1) in
        subst (Has (negation x)) (same_found b.2) (HasType.of_negation truth)
    expression_found (conjunction x y) g e =
        let a = inverted (expression_verdict functions place names x) _ g e in
        let b = inverted (expression_verdict functions place names y) _ g a.2 in
        let c = inverted (as_condition place.line a.0) _ g b.2 in
        let d = inverted (as_condition place.line b.0) _ g c.2 in
        let left = subst (Has x) (condition_found place.line a.0 c.0 c.1) (expression_found x a.0 a.1) in
        let right = subst (Has y) (condition_found place.line b.0 d.0 d.1) (expression_found y b.0 b.1) in
        subst (Has (conjunction x y)) (same_found d.2) (HasType.of_conjunction left right)
    expression_found (disjunction x y) g e =
        let a = inverted (expression_verdict functions place names x) _ g e in
        let b = inverted (expression_verdict functions place names y) _ g a.2 in
        let c = inverted (as_condition place.line a.0) _ g b.2 in
        let d = inverted (as_condition place.line b.0) _ g c.2 in
        let left = subst (Has x) (condition_found place.line a.0 c.0 c.1) (expression_found x a.0 a.1) in
        let right = subst (Has y) (condition_found place.line b.0 d.0 d.1) (expression_found y b.0 b.1) in
        subst (Has (disjunction x y)) (same_found d.2) (HasType.of_disjunction left right)
    expression_found (call f args) g e =
        let a = inverted (arguments_verdict functions place names args) _ g e in
        named_found f args (builtin_named f) refl a.0 (arguments_found args a.0 a.1) g a.2
    expression_found (method o m args) g e =
        let a = inverted (arguments_verdict functions place names args) _ g e in
        method_found o m args a.0 (arguments_found args a.0 a.1) g a.2

    -- what the verdict finds of arguments they give by the rules
    pub arguments_found : (args : Arguments) (given : List Given)
        → arguments_verdict functions place names args ≡ well given → HaveAll args given
    arguments_found no_more given e = subst (HaveAll no_more) (same_found e) HaveTypes.of_no_more
    arguments_found (value_then x rest) given e =
        let a = inverted (expression_verdict functions place names x) _ given e in
        let b = inverted (arguments_verdict functions place names rest) _ given a.2 in
        let whole = HaveTypes.of_value (expression_found x a.0 a.1) (arguments_found rest b.0 b.1) in
        subst (HaveAll (value_then x rest)) (same_found b.2) whole
    arguments_found (text_then text rest) given e =
        let b = inverted (arguments_verdict functions place names rest) _ given e in
        subst (HaveAll (text_then text rest)) (same_found b.2) (HaveTypes.of_text (arguments_found rest b.0 b.1))

  -- an expression that the verdict lets fit what is wanted gives by the rules what fits
  pub fitting_found : (wanted : Wanted) (e : Expression) (u : Unit {0})
      → fitting_verdict functions place names wanted e ≡ well u
      → (g : Given) × Has e g × Fits wanted g
  fitting_found wanted e u q =
      let a = inverted (expression_verdict functions place names e) _ u q in
      (a.0, expression_found e a.0 a.1, fits_found wanted a.0 (none_refused (misfit wanted a.0) place.line u a.2))

  -- an expression that gives what fits where an integer is wanted is an integer
  pub integer_fitting : (e : Expression) (g : Given) → Has e g → Fits W.Int64 g → IsAnInteger functions (standing_of place) names e
  integer_fitting e g has fits =
      let i = integer_fits fits in
      (i.0, subst (Has e) i.1 has, i.2)

  -- a condition is a truth value
  pub condition_has : (e : Expression) (u : Unit {0}) → condition_verdict functions place names e ≡ well u → Has e (G.Typed V.Bool)
  condition_has e u q =
      let a = inverted (expression_verdict functions place names e) _ u q in
      subst (Has e) (condition_found place.line a.0 u a.2) (expression_found e a.0 a.1)

  -- elements that the verdict lets fit are integers
  pub elements_found : (es : List Expression) (given : List Given)
      → elements_verdict functions place names es ≡ well given
      → (u : Unit {0})
      → fit_each place.line W.Int64 given ≡ well u
      → AreIntegers functions (standing_of place) names es
  elements_found [] given e u f = AreIntegers.none
  elements_found (x ∷ es) given e u f =
      let a = inverted (expression_verdict functions place names x) _ given e in
      let b = inverted (elements_verdict functions place names es) _ given a.2 in
      let f' = subst (λ gs. fit_each place.line W.Int64 gs ≡ well u) (sym (same_found b.2)) f in
      let c = inverted (fit place.line W.Int64 a.0) _ u f' in
      let fits = fits_found W.Int64 a.0 (none_refused (misfit W.Int64 a.0) place.line c.0 c.1) in
      AreIntegers.one (integer_fitting x a.0 (expression_found x a.0 a.1) fits) (elements_found es b.0 b.1 u c.2)
