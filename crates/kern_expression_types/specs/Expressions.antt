-- What the expressions of a statement give, or their first fault: operands and arguments come before their operator or
-- call, from left to right.
use Rattle.std.specs.Prelude.{ℕ, List, [], ◌∷◌, length, Bool, not, ◌&&◌, ◌==◌, Option, Some, None}
use Rattle.kern_syntax.specs.declared.expression.BinaryOperator.{BinaryOperator}
use Rattle.kern_syntax.specs.declared.expression.Comparison.{Comparison}
use Rattle.kern_syntax.specs.declared.program.DeclaredType.{DeclaredType}
use Rattle.kern_syntax.specs.Tree.{Bytes, Expression, integer, true_literal, false_literal, variable, element}
use Rattle.kern_syntax.specs.Tree.{group, unary, binary, compare, negation, conjunction, disjunction, call}
use Rattle.kern_syntax.specs.Tree.{method, Arguments, no_more, value_then, text_then, FunctionTree}
use Rattle.kern_calls.specs.declared.types.ValueType.TheVariants as V
use Rattle.kern_expression_types.specs.declared.place.Given.{Given}
use Rattle.kern_expression_types.specs.declared.place.Given.TheVariants.{Text, Typed}
use Rattle.kern_calls.specs.declared.wanted.Wanted.{Wanted}
use Rattle.kern_calls.specs.declared.wanted.Wanted.TheVariants as W
use Rattle.kern_expression_types.specs.declared.place.Place.{Place}
use Rattle.kern_expression_types.specs.declared.fault.TypeKind.TheVariants as K
use Rattle.kern_calls.specs.declared.calls.Builtin.{Builtin}
use Rattle.kern_calls.specs.declared.calls.Object.{Object}
use Rattle.kern_calls.specs.Calls.{look_up, builtin_named, builtin_result, builtin_takes, builtin_is_live}
use Rattle.kern_calls.specs.Calls.{object_named, method_of, operation_result, operation_takes, is_live}
use Rattle.kern_calls.specs.Types.{Names, binary_type, literal_type, function_named}
use Rattle.kern_expression_types.specs.Verdicts.{Verdict, well, ◌>>=◌, ◌>>◌, refuse_if, found_or}
use Rattle.kern_expression_types.specs.Fits.{wanted_of, given_result, fit, fit_all}
use Rattle.kern_expression_types.specs.Fits.{as_condition, as_integer, as_compared}
use Rattle.kern_expression_types.specs.Before.{Functions, is_in}

-- the type of a name that is assigned
abbrev pub variable_verdict : (line : ℕ) → Names → Bytes → Verdict Given
variable_verdict line names x = do
  t ← found_or (look_up names x) line K.Unknown
  well (Typed t)

-- an element of an array: that the name is assigned, that it is an array's, and that the index is an integer
abbrev pub element_verdict : (line : ℕ) → Names → Bytes → (index : Given) → Verdict (Unit {0})
element_verdict line names x index = do
  t ← found_or (look_up names x) line K.Unknown
  fit line W.Array (Typed t)
  fit line W.Int64 index

-- the operators that take two integers and give one
abbrev pub arithmetic_verdict : (line : ℕ) → BinaryOperator → (left right : Given) → Verdict Given
arithmetic_verdict line op left right = do
  t ← as_integer line left
  u ← as_integer line right
  well (Typed (binary_type op t u))

-- a comparison
abbrev pub comparison_verdict : (line : ℕ) → Comparison → (left right : Given) → Verdict Given
comparison_verdict line op left right = as_compared line op left right >> well (Typed V.Bool)

-- `and` and `or`
abbrev pub truth_verdict : (line : ℕ) → (left right : Given) → Verdict Given
truth_verdict line left right = do
  as_condition line left
  as_condition line right
  well (Typed V.Bool)

module _ (place : Place) where
  -- a call of what takes this, gives that, and is live or not:
  -- the number of arguments, what each is, and then the place
  abbrev pub call_verdict : List Wanted → Option DeclaredType → (live : Bool) → List Given → Verdict Given
  call_verdict wanted result live given = do
    refuse_if (not (length given == length wanted)) place.line K.Arity
    fit_all place.line wanted given
    refuse_if (place.in_record && live) place.line K.LiveInRecord
    well (given_result result)

  -- a call of a method: the object, its method, and then the call
  abbrev pub method_verdict : Option Object → Bytes → List Given → Verdict Given
  method_verdict object name given = do
    found_or object place.line K.Unknown
    op ← found_or (method_of object name) place.line K.Method
    call_verdict (operation_takes op) (operation_result op) (is_live op) given

module _ (functions : Functions) (place : Place) where
  -- a call of a function of the program, which is live unless it is plain
  abbrev pub function_verdict : FunctionTree → List Given → Verdict Given
  function_verdict f given =
      call_verdict place (wanted_of f.parameters) f.result (not (is_in functions.plain f.name)) given

  -- a call by name: of the language's own function, or else of one of the program that may be called
  abbrev pub named_verdict : Bytes → Option Builtin → List Given → Verdict Given
  named_verdict name (Some builtin) given =
      call_verdict place (builtin_takes builtin) (builtin_result builtin) (builtin_is_live builtin) given
  named_verdict name None given = do
    f ← found_or (function_named functions.callable name) place.line K.Unknown
    function_verdict f given

  module _ (names : Names) where
    abbrev mutual
      -- what an expression gives, or its first fault
      pub expression_verdict : Expression → Verdict Given
      expression_verdict (integer n) = well (Typed (literal_type n))
      expression_verdict true_literal = well (Typed V.Bool)
      expression_verdict false_literal = well (Typed V.Bool)
      expression_verdict (variable x) = variable_verdict place.line names x
      expression_verdict (element x i) = do
        index ← expression_verdict i
        element_verdict place.line names x index
        well (Typed V.Int64)
      expression_verdict (group e) = expression_verdict e
      expression_verdict (unary op e) = do
        a ← expression_verdict e
        t ← as_integer place.line a
        well (Typed t)
      expression_verdict (binary op left right) = do
        a ← expression_verdict left
        b ← expression_verdict right
        arithmetic_verdict place.line op a b
      expression_verdict (compare op left right) = do
        a ← expression_verdict left
        b ← expression_verdict right
        comparison_verdict place.line op a b
      expression_verdict (negation e) = do
        a ← expression_verdict e
        as_condition place.line a
        well (Typed V.Bool)
      expression_verdict (conjunction left right) = do
        a ← expression_verdict left
        b ← expression_verdict right
        truth_verdict place.line a b
      expression_verdict (disjunction left right) = do
        a ← expression_verdict left
        b ← expression_verdict right
        truth_verdict place.line a b
      expression_verdict (call f args) = do
        given ← arguments_verdict args
        named_verdict f (builtin_named f) given
      expression_verdict (method o m args) = do
        given ← arguments_verdict args
        method_verdict place (object_named o) m given

      -- what the arguments of a call give, from left to right
      pub arguments_verdict : Arguments → Verdict (List Given)
      arguments_verdict no_more = well []
      arguments_verdict (value_then e rest) = do
        a ← expression_verdict e
        others ← arguments_verdict rest
        well (a ∷ others)
      arguments_verdict (text_then name rest) = do
        others ← arguments_verdict rest
        well (Text ∷ others)

    -- what the first of some arguments gives
    abbrev pub argument_verdict : Arguments → Verdict Given
    argument_verdict no_more = well Text
    argument_verdict (value_then e rest) = expression_verdict e
    argument_verdict (text_then name rest) = well Text

    -- an expression that fits what is wanted
    abbrev pub fitting_verdict : Wanted → Expression → Verdict (Unit {0})
    fitting_verdict wanted e = do
      given ← expression_verdict e
      fit place.line wanted given

    -- a condition
    abbrev pub condition_verdict : Expression → Verdict (Unit {0})
    condition_verdict e = do
      given ← expression_verdict e
      as_condition place.line given

    -- what some expressions give, from left to right
    abbrev pub elements_verdict : List Expression → Verdict (List Given)
    elements_verdict [] = well []
    elements_verdict (e ∷ rest) = do
      a ← expression_verdict e
      others ← elements_verdict rest
      well (a ∷ others)
