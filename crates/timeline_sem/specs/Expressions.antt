-- The meaning of expressions.
use Rattle.std.specs.Prelude.{List, [], ◌∷◌, length, ℤ, pos, negsuc, Bool, true, false, not, if◌then◌else◌}
use Rattle.std.specs.Prelude.{slice_get, slice_set, unsigned_abs, Option, Some, None, option_map, bytes_eq, ⊤}
use Rattle.std.specs.Int.{w32, int_wrap}
use Rattle.rtio_types.specs.declared.outcome.Exc.{Exc}
use Rattle.rtio_types.specs.declared.outcome.Exc.TheVariants.{IndexError, ZeroDivisionError}
use Rattle.rtio_types.specs.declared.request.Request.TheVariants as Q
use Rattle.rtio_types.specs.declared.request.Value.{Value}
use Rattle.rtio_types.specs.declared.request.Value.TheVariants as W
use Rattle.kern_syntax.specs.declared.expression.BinaryOperator.{BinaryOperator}
use Rattle.kern_syntax.specs.Tree.{Bytes, Expression, integer, true_literal, false_literal, variable}
use Rattle.kern_syntax.specs.Tree.{element, group, unary, binary, compare, negation, conjunction}
use Rattle.kern_syntax.specs.Tree.{disjunction, call, method, Arguments, no_more, value_then, text_then}
use Rattle.kern_calls.specs.declared.types.ValueType.{ValueType}
use Rattle.kern_calls.specs.declared.types.ValueType.TheVariants as V
use Rattle.kern_calls.specs.declared.calls.Builtin.{Builtin}
use Rattle.kern_calls.specs.declared.calls.Builtin.TheVariants as B
use Rattle.kern_calls.specs.declared.calls.Operation.{Operation}
use Rattle.kern_calls.specs.Calls.{look_up, builtin_named, method_named}
use Rattle.kern_calls.specs.Types.{Scope, type_of, width_of, bits_of}
use Rattle.timeline_sem.specs.Actions.{Action, normal, raised, give, stop, cursor_now, set_cursor, ◌>>=◌}
use Rattle.rtio_types.specs.Integers.{number_of, is_true}
use Rattle.timeline_sem.specs.Numbers.{exact_result, compares, unary_result}
use Rattle.timeline_sem.specs.Timeline.{delay, tell, perform, no_value, first_of_list}

-- the value of a name
abbrev pub value_of : List (Bytes × Value) → Bytes → Value
value_of [] x = W.Int (pos 0)
value_of (entry ∷ rest) x = if bytes_eq entry.0 x then entry.1 else value_of rest x

-- the values after a name is given a new one
abbrev pub with_value : List (Bytes × Value) → Bytes → Value → List (Bytes × Value)
with_value [] x new = []
with_value (entry ∷ rest) x new = if bytes_eq entry.0 x then (entry.0, new) ∷ rest else entry ∷ with_value rest x new

-- a value as a number
abbrev pub number_in_value : Value → ℤ
number_in_value (W.Int n) = n
number_in_value (W.List items) = pos 0

-- a value as a list
abbrev pub list_in_value : Value → List ℤ
list_in_value (W.Int n) = []
list_in_value (W.List items) = items

-- reads a name
abbrev pub read : Bytes → Action Value
read x s = normal (value_of s.values x) s

-- gives a name a new value
abbrev pub write : Bytes → Value → Action ⊤
write x new s = normal tt (record s { values = with_value s.values x new })

-- gives a value, or raises where there is none
abbrev pub or_raise : {A : Type 0} → Option A → Exc → Action A
or_raise (Some a) x = give a
or_raise None x = stop (raised x)

-- the place of an index in a list, if it has one
abbrev pub place_in : List ℤ → ℤ → Option ℤ
place_in items (pos i) = slice_get items i
place_in items (negsuc i) = None

-- the list with one item anew, if the index is one of its places
abbrev pub with_item : List ℤ → ℤ → ℤ → Option (List ℤ)
with_item items i new = option_map (λ old. slice_set items (unsigned_abs i) new) (place_in items i)

-- an element of an array
abbrev pub read_element : Bytes → ℤ → Action ℤ
read_element x i = do
  held ← read x
  or_raise (place_in (list_in_value held) i) IndexError

-- writes an element of an array
abbrev pub write_element : Bytes → ℤ → ℤ → Action ⊤
write_element x i new = do
  held ← read x
  items ← or_raise (with_item (list_in_value held) i new) IndexError
  write x (W.List items)

-- an operator on two values: its exact result wraps at the width of its type
abbrev pub operate : BinaryOperator → ValueType → ℤ → ℤ → Action ℤ
operate op t a b = do
  exact ← or_raise (exact_result op (bits_of t) a b) ZeroDivisionError
  give (int_wrap (width_of t) exact)

-- the name, if its type is that of an array
abbrev pub if_array : Bytes → Option ValueType → Option Bytes
if_array x (Some (V.Array n)) = Some x
if_array x _ = None

-- the name of the array that an expression is, if it is one
abbrev pub array_in : Scope → Expression → Option Bytes
array_in scope (variable x) = if_array x (look_up scope.names x)
array_in scope (group e) = array_in scope e
array_in scope _ = None

-- the array of a name, or else the number
abbrev pub array_or_number : Option Bytes → ℤ → Action Value
array_or_number (Some x) n = read x
array_or_number None n = give (W.Int n)

-- the value that a dataset is given: an array, or else a number
abbrev pub dataset_value : Scope → Arguments → ℤ → Action Value
dataset_value scope no_more n = give (W.Int n)
dataset_value scope (text_then text rest) n = dataset_value scope rest n
dataset_value scope (value_then e rest) n = array_or_number (array_in scope e) n

-- the text among a call's arguments
abbrev pub text_in : Arguments → Bytes
text_in no_more = []
text_in (value_then e rest) = text_in rest
text_in (text_then text rest) = text

-- the length of the array that is a call's argument
abbrev pub array_length : Scope → Arguments → Action ℤ
array_length scope args = do
  held ← dataset_value scope args (pos 0)
  give (pos (length (list_in_value held)))

-- what a function of the language does with its numbers
abbrev pub perform_builtin : Scope → Builtin → Arguments → List ℤ → Action ℤ
perform_builtin scope B.NowMu args numbers = cursor_now
perform_builtin scope B.AtMu args numbers = no_value (set_cursor (first_of_list numbers))
perform_builtin scope B.DelayMu args numbers = no_value (delay (first_of_list numbers))
perform_builtin scope B.SetDataset args numbers = do
  new ← dataset_value scope args (first_of_list numbers)
  no_value (tell (Q.Data (text_in args) new))
perform_builtin scope B.Len args numbers = array_length scope args
perform_builtin scope B.ToInt32 args numbers = give (int_wrap w32 (first_of_list numbers))
perform_builtin scope B.ToInt64 args numbers = give (first_of_list numbers)

-- what a call of a function of the program does, by its name and arguments
abbrev pub Callee : Type 0
Callee = Bytes → List ℤ → Action ℤ

-- a call by name: of the language's own function, or else of one of the program
abbrev pub perform_call : Scope → Callee → Bytes → Option Builtin → Arguments → List ℤ → Action ℤ
perform_call scope callee f (Some builtin) args numbers = perform_builtin scope builtin args numbers
perform_call scope callee f None args numbers = callee f numbers

-- a call of a method, if there is one
abbrev pub perform_method : Option Operation → List ℤ → Bytes → Action ℤ
perform_method (Some operation) numbers text = perform operation numbers text
perform_method None numbers text = give (pos 0)

-- goes on with the second part where the test says so, and else has its answer already
abbrev pub unless_decided : Bool → ℤ → Action ℤ → Action ℤ
unless_decided true answer second = give answer
unless_decided false answer second = second

module _ (scope : Scope) (callee : Callee) where
  abbrev mutual
    -- the value of an expression, operands from left to right
    pub expression : Expression → Action ℤ
    expression (integer n) = give (pos n)
    expression true_literal = give (pos 1)
    expression false_literal = give (pos 0)
    expression (variable x) = do
      held ← read x
      give (number_in_value held)
    expression (element x i) = do
      place ← expression i
      read_element x place
    expression (group e) = expression e
    expression (unary op e) = do
      a ← expression e
      give (int_wrap (width_of (type_of scope e)) (unary_result op a))
    expression (binary op left right) = do
      a ← expression left
      b ← expression right
      operate op (type_of scope (binary op left right)) a b
    expression (compare op left right) = do
      a ← expression left
      b ← expression right
      give (number_of (compares op a b))
    expression (negation e) = do
      a ← expression e
      give (number_of (not (is_true a)))
    expression (conjunction left right) = do
      a ← expression left
      unless_decided (not (is_true a)) (pos 0) (expression right)
    expression (disjunction left right) = do
      a ← expression left
      unless_decided (is_true a) (pos 1) (expression right)
    expression (call f args) = do
      numbers ← arguments args
      perform_call scope callee f (builtin_named f) args numbers
    expression (method o m args) = do
      numbers ← arguments args
      perform_method (method_named o m) numbers (text_in args)

    -- the values of a call's arguments, from left to right, without its texts
    pub arguments : Arguments → Action (List ℤ)
    arguments no_more = give []
    arguments (value_then e rest) = do
      a ← expression e
      others ← arguments rest
      give (a ∷ others)
    arguments (text_then text rest) = arguments rest
