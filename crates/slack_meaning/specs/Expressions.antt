-- The values of expressions in a run without a core.
use Rattle.std.specs.Prelude.{List, [], ◌∷◌, length, ℤ, pos, negsuc, Bool, true, false, not, ◌&&◌, if◌then◌else◌}
use Rattle.std.specs.Prelude.{slice_get, slice_set, unsigned_abs, Option, Some, None, option_map, bytes_eq, ⊤}
use Rattle.std.specs.List.{list_all}
use Rattle.std.specs.Int.{w32, int_wrap}
use Rattle.rtio_types.specs.declared.outcome.Exc.{Exc}
use Rattle.rtio_types.specs.declared.outcome.Exc.TheVariants.{IndexError, ZeroDivisionError}
use Rattle.rtio_types.specs.Integers.{number_of, is_true}
use Rattle.kern_syntax.specs.declared.expression.BinaryOperator.{BinaryOperator}
use Rattle.kern_syntax.specs.declared.expression.BinaryOperator.TheVariants as O
use Rattle.kern_syntax.specs.Tree.{Bytes, Expression, integer, true_literal, false_literal, variable}
use Rattle.kern_syntax.specs.Tree.{element, group, unary, binary, compare, negation, conjunction}
use Rattle.kern_syntax.specs.Tree.{disjunction, call, method, Arguments, no_more, value_then, text_then}
use Rattle.kern_calls.specs.declared.types.ValueType.{ValueType}
use Rattle.kern_calls.specs.declared.types.ValueType.TheVariants as T
use Rattle.kern_calls.specs.declared.calls.Builtin.{Builtin}
use Rattle.kern_calls.specs.declared.calls.Builtin.TheVariants as B
use Rattle.kern_calls.specs.declared.calls.Operation.{Operation}
use Rattle.kern_calls.specs.Calls.{builtin_named, method_named}
use Rattle.kern_calls.specs.Types.{Scope, type_of, width_of, bits_of}
use Rattle.timeline_sem.specs.Numbers.{exact_result, compares, unary_result}
use Rattle.timeline_sem.specs.Expressions.{array_in, text_in}
use Rattle.slack_meaning.specs.declared.verdict.OpenKind.TheVariants as K
use Rattle.slack_meaning.specs.Spans.{Span, exactly, is_number, span_sum, span_less}
use Rattle.slack_meaning.specs.Actions.{Held, number, list, Action, normal, raised, give, stop, leave_open}
use Rattle.slack_meaning.specs.Actions.{take_unit, cursor_now, set_cursor, as_number, within_near, ◌>>=◌, ◌>>◌}
use Rattle.slack_meaning.specs.Answers.{answered}
use Rattle.slack_meaning.specs.Timeline.{delay, perform, no_value, first_of_list}

-- what a name holds
abbrev pub held_by : List (Bytes × Held) → Bytes → Held
held_by [] x = number (exactly (pos 0))
held_by (entry ∷ rest) x = if bytes_eq entry.0 x then entry.1 else held_by rest x

-- the values after a name is given a new one
abbrev pub with_held : List (Bytes × Held) → Bytes → Held → List (Bytes × Held)
with_held [] x new = []
with_held (entry ∷ rest) x new = if bytes_eq entry.0 x then (entry.0, new) ∷ rest else entry ∷ with_held rest x new

-- what is held as one value
abbrev pub span_in : Held → Span
span_in (number span) = span
span_in (list spans) = exactly (pos 0)

-- what is held as a list
abbrev pub spans_in : Held → List Span
spans_in (number span) = []
spans_in (list spans) = spans

-- no span is among what is held
abbrev pub are_numbers : Held → Bool
are_numbers (number span) = is_number span
are_numbers (list spans) = list_all is_number spans

-- reads a name
abbrev pub read : Bytes → Action Held
read x s = normal (held_by s.values x) s

-- gives a name a new value
abbrev pub write : Bytes → Held → Action ⊤
write x new s = normal tt (record s { values = with_held s.values x new })

-- gives a value, or raises where there is none
abbrev pub or_raise : {A : Type 0} → Option A → Exc → Action A
or_raise (Some a) x = give a
or_raise None x = stop (raised x)

-- the place of an index in a list, if it has one
abbrev pub place_in : List Span → ℤ → Option Span
place_in spans (pos i) = slice_get spans i
place_in spans (negsuc i) = None

-- the list with one item anew, if the index is one of its places
abbrev pub with_item : List Span → ℤ → Span → Option (List Span)
with_item spans i new = option_map (λ old. slice_set spans (unsigned_abs i) new) (place_in spans i)

-- an element of an array
abbrev pub read_element : Bytes → Span → Action Span
read_element x i = do
  place ← as_number i
  held ← read x
  or_raise (place_in (spans_in held) place) IndexError

-- writes an element of an array
abbrev pub write_element : Bytes → Span → Span → Action ⊤
write_element x i new = do
  place ← as_number i
  held ← read x
  spans ← or_raise (with_item (spans_in held) place new) IndexError
  write x (list spans)

-- a number taken from a span
abbrev pub less : Span → Span → Action Span
less a b = do
  n ← as_number b
  within_near (span_less a n)

-- an operator with a span: a number or a span may be added, and a number taken away. A span is an int64
abbrev pub operate_spans : BinaryOperator → ValueType → Span → Span → Action Span
operate_spans O.Add T.Int64 a b = within_near (span_sum a b)
operate_spans O.Subtract T.Int64 a b = less a b
operate_spans _ _ a b = leave_open K.Span

-- an operator on two numbers: its exact result wraps at the width of its type
abbrev pub operate_numbers : BinaryOperator → ValueType → ℤ → ℤ → Action Span
operate_numbers op t a b = do
  exact ← or_raise (exact_result op (bits_of t) a b) ZeroDivisionError
  give (exactly (int_wrap (width_of t) exact))

-- an operator, by whether both values are numbers
abbrev pub operate_if : Bool → BinaryOperator → ValueType → Span → Span → Action Span
operate_if true op t a b = operate_numbers op t a.least b.least
operate_if false op t a b = operate_spans op t a b

-- an operator on two values
abbrev pub operate : BinaryOperator → ValueType → Span → Span → Action Span
operate op t a b = operate_if (is_number a && is_number b) op t a b

-- the array of a name, or else the value
abbrev pub array_or_value : Option Bytes → Span → Action Held
array_or_value (Some x) span = read x
array_or_value None span = give (number span)

-- the value that a dataset is given: an array, or else one value
abbrev pub dataset_value : Scope → Arguments → Span → Action Held
dataset_value scope no_more span = give (number span)
dataset_value scope (text_then text rest) span = dataset_value scope rest span
dataset_value scope (value_then e rest) span = array_or_value (array_in scope e) span

-- sets a dataset, by whether no span is among what it is given
abbrev pub set_if : Bool → Action ⊤
set_if true = take_unit >> answered
set_if false = leave_open K.Span

-- the length of the array that is a call's argument
abbrev pub array_length : Scope → Arguments → Action Span
array_length scope args = do
  held ← dataset_value scope args (exactly (pos 0))
  give (exactly (pos (length (spans_in held))))

-- what a function of the language does with its values
abbrev pub perform_builtin : Scope → Builtin → Arguments → List Span → Action Span
perform_builtin scope B.NowMu args spans = cursor_now
perform_builtin scope B.AtMu args spans = no_value (set_cursor (first_of_list spans))
perform_builtin scope B.DelayMu args spans = no_value (delay (first_of_list spans))
perform_builtin scope B.SetDataset args spans = do
  new ← dataset_value scope args (first_of_list spans)
  no_value (set_if (are_numbers new))
perform_builtin scope B.Len args spans = array_length scope args
perform_builtin scope B.ToInt32 args spans = do
  n ← as_number (first_of_list spans)
  give (exactly (int_wrap w32 n))
perform_builtin scope B.ToInt64 args spans = do
  n ← as_number (first_of_list spans)
  give (exactly n)

-- what a call of a function of the program does, by its name and arguments
abbrev pub Callee : Type 0
Callee = Bytes → List Span → Action Span

-- a call by name: of the language's own function, or else of one of the program
abbrev pub perform_call : Scope → Callee → Bytes → Option Builtin → Arguments → List Span → Action Span
perform_call scope callee f (Some builtin) args spans = perform_builtin scope builtin args spans
perform_call scope callee f None args spans = callee f spans

-- a call of a method, if there is one
abbrev pub perform_method : Option Operation → List Span → Bytes → Action Span
perform_method (Some operation) spans text = perform operation spans text
perform_method None spans text = give (exactly (pos 0))

-- goes on with the second part where the test says so, and else has its answer already
abbrev pub unless_decided : Bool → Span → Action Span → Action Span
unless_decided true answer second = give answer
unless_decided false answer second = second

module _ (scope : Scope) (callee : Callee) where
  abbrev mutual
    -- the value of an expression, operands from left to right
    pub expression : Expression → Action Span
    expression (integer n) = give (exactly (pos n))
    expression true_literal = give (exactly (pos 1))
    expression false_literal = give (exactly (pos 0))
    expression (variable x) = do
      held ← read x
      give (span_in held)
    expression (element x i) = do
      place ← expression i
      read_element x place
    expression (group e) = expression e
    expression (unary op e) = do
      a ← expression e
      n ← as_number a
      give (exactly (int_wrap (width_of (type_of scope e)) (unary_result op n)))
    expression (binary op left right) = do
      a ← expression left
      b ← expression right
      operate op (type_of scope (binary op left right)) a b
    expression (compare op left right) = do
      a ← expression left
      b ← expression right
      m ← as_number a
      n ← as_number b
      give (exactly (number_of (compares op m n)))
    expression (negation e) = do
      a ← expression e
      n ← as_number a
      give (exactly (number_of (not (is_true n))))
    expression (conjunction left right) = do
      a ← expression left
      n ← as_number a
      unless_decided (not (is_true n)) (exactly (pos 0)) (expression right)
    expression (disjunction left right) = do
      a ← expression left
      n ← as_number a
      unless_decided (is_true n) (exactly (pos 1)) (expression right)
    expression (call f args) = do
      spans ← arguments args
      perform_call scope callee f (builtin_named f) args spans
    expression (method o m args) = do
      spans ← arguments args
      perform_method (method_named o m) spans (text_in args)

    -- the values of a call's arguments, from left to right, without its texts
    pub arguments : Arguments → Action (List Span)
    arguments no_more = give []
    arguments (value_then e rest) = do
      a ← expression e
      others ← arguments rest
      give (a ∷ others)
    arguments (text_then text rest) = arguments rest
