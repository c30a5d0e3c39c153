-- The types of expressions, a rule for each form.
use Rattle.std.specs.Prelude.{◌≡◌, ℕ, List, [], ◌∷◌, not, Some, None}
use Rattle.kern_syntax.specs.declared.expression.BinaryOperator.{BinaryOperator}
use Rattle.kern_syntax.specs.declared.expression.Comparison.{Comparison}
use Rattle.kern_syntax.specs.declared.expression.UnaryOperator.{UnaryOperator}
use Rattle.kern_syntax.specs.Tree.{Bytes, Expression, integer, true_literal, false_literal, variable, element}
use Rattle.kern_syntax.specs.Tree.{group, unary, binary, compare, negation, conjunction, disjunction, call}
use Rattle.kern_syntax.specs.Tree.{method, Arguments, no_more, value_then, text_then, FunctionTree}
use Rattle.kern_calls.specs.declared.types.ValueType.{ValueType}
use Rattle.kern_calls.specs.declared.types.ValueType.TheVariants as V
use Rattle.kern_calls.specs.declared.calls.Builtin.{Builtin}
use Rattle.kern_calls.specs.declared.calls.Operation.{Operation}
use Rattle.kern_calls.specs.Calls.{look_up, builtin_named, builtin_result, builtin_takes, builtin_is_live}
use Rattle.kern_calls.specs.Calls.{method_named, operation_result, operation_takes, is_live}
use Rattle.kern_calls.specs.Types.{Names, binary_type, literal_type, function_named}
use Rattle.kern_expression_types.specs.declared.place.Given.{Given}
use Rattle.kern_expression_types.specs.declared.place.Given.TheVariants.{Text, Typed}
use Rattle.kern_expression_types.specs.Fits.{wanted_of, given_result}
use Rattle.kern_expression_types.specs.Before.{Functions, is_in}
use Rattle.kern_judgement.specs.Fitting.{Standing, IsStill, IsInteger, AllFit, AreComparable}

module _ (functions : Functions) (here : Standing) (names : Names) where
  mutual
    -- what an expression gives: a value of a type, or nothing
    pub data HasType : Expression → Given → Type 0 where
      of_integer : (n : ℕ) → HasType (integer n) (Typed (literal_type n))
      of_true : HasType true_literal (Typed V.Bool)
      of_false : HasType false_literal (Typed V.Bool)
      of_variable : {x : Bytes} {t : ValueType} → look_up names x ≡ Some t → HasType (variable x) (Typed t)
      of_element : {x : Bytes} {i : Expression} {n : ℕ} {t : ValueType} → look_up names x ≡ Some (V.Array n)
          → HasType i (Typed t) → IsInteger t → HasType (element x i) (Typed V.Int64)
      of_group : {e : Expression} {g : Given} → HasType e g → HasType (group e) g
      of_unary : {op : UnaryOperator} {e : Expression} {t : ValueType} → HasType e (Typed t) → IsInteger t → HasType (unary op e) (Typed t)
      of_binary : {op : BinaryOperator} {a b : Expression} {t u : ValueType} → HasType a (Typed t) → IsInteger t
          → HasType b (Typed u) → IsInteger u → HasType (binary op a b) (Typed (binary_type op t u))
      of_compare : {op : Comparison} {a b : Expression} {t u : ValueType} → HasType a (Typed t) → HasType b (Typed u)
          → AreComparable op t u → HasType (compare op a b) (Typed V.Bool)
      of_negation : {e : Expression} → HasType e (Typed V.Bool) → HasType (negation e) (Typed V.Bool)
      of_conjunction : {a b : Expression} → HasType a (Typed V.Bool) → HasType b (Typed V.Bool) → HasType (conjunction a b) (Typed V.Bool)
      of_disjunction : {a b : Expression} → HasType a (Typed V.Bool) → HasType b (Typed V.Bool) → HasType (disjunction a b) (Typed V.Bool)
      -- a call of the language's own function
      of_builtin : {f : Bytes} {args : Arguments} {builtin : Builtin} {given : List Given} → builtin_named f ≡ Some builtin
          → HaveTypes args given → AllFit (builtin_takes builtin) given → IsStill here (builtin_is_live builtin)
          → HasType (call f args) (given_result (builtin_result builtin))
      -- a call of a function of the program that may be called, which is live unless it is plain
      of_function : {f : Bytes} {args : Arguments} {called : FunctionTree} {given : List Given} → builtin_named f ≡ None
          → function_named functions.callable f ≡ Some called → HaveTypes args given
          → AllFit (wanted_of called.parameters) given → IsStill here (not (is_in functions.plain called.name))
          → HasType (call f args) (given_result called.result)
      of_method : {o m : Bytes} {args : Arguments} {op : Operation} {given : List Given} → method_named o m ≡ Some op
          → HaveTypes args given → AllFit (operation_takes op) given → IsStill here (is_live op)
          → HasType (method o m args) (given_result (operation_result op))

    -- what the arguments of a call give, from left to right
    pub data HaveTypes : Arguments → List Given → Type 0 where
      of_no_more : HaveTypes no_more []
      of_value : {e : Expression} {rest : Arguments} {g : Given} {others : List Given} → HasType e g → HaveTypes rest others
          → HaveTypes (value_then e rest) (g ∷ others)
      of_text : {text : Bytes} {rest : Arguments} {others : List Given} → HaveTypes rest others
          → HaveTypes (text_then text rest) (Text ∷ others)

  -- an integer
  abbrev pub IsAnInteger : Expression → Type 0
  IsAnInteger e = (t : ValueType) × HasType e (Typed t) × IsInteger t

  -- each of some expressions is an integer
  pub data AreIntegers : List Expression → Type 0 where
    none : AreIntegers []
    one : {e : Expression} {es : List Expression} → IsAnInteger e → AreIntegers es → AreIntegers (e ∷ es)
