-- The names after a statement, or its first fault: its parts count in the order in which they are evaluated.
use Rattle.std.specs.Prelude.{ℕ, List, [], ◌∷◌, ◌++◌, length, true, false, not, ◌&&◌, nat_le, Option, Some, None}
use Rattle.kern_syntax.specs.declared.program.DeclaredType.{DeclaredType}
use Rattle.kern_syntax.specs.Tree.{Bytes, Expression, Statement, pass, evaluate, assign, assign_element}
use Rattle.kern_syntax.specs.Tree.{augment, augment_element, assign_repeated, assign_list, if_then, while_do}
use Rattle.kern_syntax.specs.Tree.{for_range, parallel, sequential, record_as, try_do, Block, done, line_then}
use Rattle.kern_syntax.specs.Tree.{Otherwise, no_else, else_do, elif_then, Handlers, no_handler, except_then}
use Rattle.kern_syntax.specs.Tree as T
use Rattle.kern_calls.specs.declared.types.ValueType.{ValueType}
use Rattle.kern_calls.specs.declared.types.ValueType.TheVariants as V
use Rattle.kern_expression_types.specs.declared.place.Given.{Given}
use Rattle.kern_expression_types.specs.declared.place.Place.{Place}
use Rattle.kern_calls.specs.declared.wanted.Wanted.TheVariants as W
use Rattle.kern_expression_types.specs.declared.fault.TypeKind.TheVariants as K
use Rattle.kern_calls.specs.Calls.{look_up}
use Rattle.kern_calls.specs.Types.{Names, wider_type}
use Rattle.kern_expression_types.specs.Verdicts.{Verdict, well, fault, ◌>>=◌, ◌>>◌, refuse_if, refuse_some, found_or}
use Rattle.kern_expression_types.specs.Fits.{declared_wanted, kept_misfit, fit, fit_each}
use Rattle.kern_expression_types.specs.Fits.{as_integer, as_statement, scalar_of}
use Rattle.kern_expression_types.specs.Before.{Functions, is_in, is_taken, exceptions}
use Rattle.kern_expression_types.specs.Expressions.{expression_verdict, variable_verdict, element_verdict}
use Rattle.kern_expression_types.specs.Expressions.{fitting_verdict, condition_verdict, elements_verdict}

-- the most names of a function, its parameters among them
abbrev pub most_names : ℕ
most_names = 64

-- the same place at another line
abbrev pub at_line : Place → ℕ → Place
at_line place line = record place { line = line }

-- inside a loop
abbrev pub inside_loop : Place → Place
inside_loop place = record place { in_loop = true }

-- inside a parallel block, which nothing leaves
abbrev pub inside_parallel : Place → Place
inside_parallel place = record place { in_loop = false; may_return = false }

-- inside a record block, which nothing leaves
abbrev pub inside_record : Place → Place
inside_record place = record place { in_loop = false; may_return = false; in_record = true }

-- a number is added to what a name holds, which has to take the sum's type
abbrev pub augmented_verdict : (line : ℕ) → (held added : Given) → Verdict (Unit {0})
augmented_verdict line held added = do
  t ← as_integer line held
  u ← as_integer line added
  refuse_some (kept_misfit t (wider_type t u)) line

-- `break` and `continue`
abbrev pub turn_verdict : Place → Verdict (Unit {0})
turn_verdict place = refuse_if (not place.in_loop) place.line K.BlockExit

-- the two bounds of a loop
abbrev pub bounds_verdict : (line : ℕ) → (from to : Given) → Verdict ValueType
bounds_verdict line from to = do
  t ← as_integer line from
  u ← as_integer line to
  well (wider_type t u)

module _ (place : Place) (names : Names) where
  -- a new name takes the type of its first value, and a later value has to fit it
  abbrev pub kept_verdict : Bytes → (value : Option ValueType) → (held : Option ValueType) → Verdict Names
  kept_verdict x value None = do
    refuse_if (nat_le most_names (length names)) place.line K.Size
    t ← found_or value place.line K.Mismatch
    well (names ++ (x, t) ∷ [])
  kept_verdict x value (Some held) = do
    t ← found_or value place.line K.Mismatch
    refuse_some (kept_misfit held t) place.line
    well names

module _ (functions : Functions) (place : Place) (names : Names) where
  -- the names after a value of this type, if it is one that a name can take, is assigned to a name
  abbrev pub assigned_verdict : Bytes → (value : Option ValueType) → Verdict Names
  assigned_verdict x value = do
    refuse_if (is_taken functions x) place.line K.Name
    kept_verdict place names x value (look_up names x)

  -- an array of this length is assigned to a name
  abbrev pub array_verdict : Bytes → (count : ℕ) → Verdict Names
  array_verdict x count = do
    refuse_if (not (nat_le 1 count && nat_le count 512)) place.line K.Size
    assigned_verdict x (Some (V.Array count))

  -- the value of a `return`, against what the function gives
  abbrev pub value_verdict : Option DeclaredType → Option Expression → Verdict (Unit {0})
  value_verdict None None = well tt
  value_verdict (Some t) None = fault place.line K.Arity
  value_verdict None (Some e) = expression_verdict functions place names e >> fault place.line K.Arity
  value_verdict (Some t) (Some e) = fitting_verdict functions place names (declared_wanted t) e

  -- a `return`: its value, and then its place
  abbrev pub return_verdict : Option Expression → Verdict (Unit {0})
  return_verdict e = do
    value_verdict place.result e
    refuse_if (not place.may_return) place.line K.BlockExit

  -- an expression that stands alone
  abbrev pub alone_verdict : Expression → Verdict (Unit {0})
  alone_verdict e = do
    a ← expression_verdict functions place names e
    as_statement place.line a

  -- a value that is assigned to an element
  abbrev pub element_assigned_verdict : Bytes → (index value : Expression) → Verdict (Unit {0})
  element_assigned_verdict x i e = do
    a ← expression_verdict functions place names e
    index ← expression_verdict functions place names i
    element_verdict place.line names x index
    fit place.line W.Int64 a

  -- a value that is added to a name's, which is read first
  abbrev pub name_augmented_verdict : Bytes → Expression → Verdict (Unit {0})
  name_augmented_verdict x e = do
    held ← variable_verdict place.line names x
    a ← expression_verdict functions place names e
    augmented_verdict place.line held a

  -- a value that is added to an element's, which is read first
  abbrev pub element_augmented_verdict : Bytes → (index value : Expression) → Verdict (Unit {0})
  element_augmented_verdict x i e = do
    index ← expression_verdict functions place names i
    element_verdict place.line names x index
    fitting_verdict functions place names W.Int64 e

  -- the names after an array of equal elements is assigned
  abbrev pub repeated_verdict : Bytes → Expression → (count : ℕ) → Verdict Names
  repeated_verdict x e count = do
    fitting_verdict functions place names W.Int64 e
    array_verdict x count

  -- the names after an array of these elements is assigned
  abbrev pub listed_verdict : Bytes → List Expression → Verdict Names
  listed_verdict x es = do
    given ← elements_verdict functions place names es
    fit_each place.line W.Int64 given
    array_verdict x (length es)

  -- the names after a value is assigned
  abbrev pub value_assigned_verdict : Bytes → Expression → Verdict Names
  value_assigned_verdict x e = do
    a ← expression_verdict functions place names e
    assigned_verdict x (scalar_of a)

  -- the type of a loop's variable: the wider one of its bounds
  abbrev pub range_verdict : Option Expression → Expression → Verdict ValueType
  range_verdict None to = do
    a ← expression_verdict functions place names to
    as_integer place.line a
  range_verdict (Some from) to = do
    a ← expression_verdict functions place names from
    b ← expression_verdict functions place names to
    bounds_verdict place.line a b

  -- the names after the header of a loop
  abbrev pub loop_verdict : Bytes → Option Expression → Expression → Verdict Names
  loop_verdict x from to = do
    t ← range_verdict from to
    assigned_verdict x (Some t)

  -- the names after a statement without a block, or its first fault
  abbrev pub simple_verdict : Statement → Verdict Names
  simple_verdict T.break = turn_verdict place >> well names
  simple_verdict T.continue = turn_verdict place >> well names
  simple_verdict (T.return e) = return_verdict e >> well names
  simple_verdict (evaluate e) = alone_verdict e >> well names
  simple_verdict (assign x e) = value_assigned_verdict x e
  simple_verdict (assign_element x i e) = element_assigned_verdict x i e >> well names
  simple_verdict (augment x op e) = name_augmented_verdict x e >> well names
  simple_verdict (augment_element x i op e) = element_augmented_verdict x i e >> well names
  simple_verdict (assign_repeated x e count) = repeated_verdict x e count
  simple_verdict (assign_list x es) = listed_verdict x es
  simple_verdict s = well names

module _ (functions : Functions) where
  abbrev mutual
    -- the names after a statement, or its first fault
    pub statement_verdict : Statement → Place → Names → Verdict Names
    statement_verdict (if_then condition body rest) place names = do
      condition_verdict functions place names condition
      after ← block_verdict body place names
      branches_verdict rest place after
    statement_verdict (while_do condition body) place names = do
      condition_verdict functions place names condition
      block_verdict body (inside_loop place) names
    statement_verdict (for_range x from to body) place names = do
      after ← loop_verdict functions place names x from to
      block_verdict body (inside_loop place) after
    statement_verdict (parallel body) place names = block_verdict body (inside_parallel place) names
    statement_verdict (sequential body) place names = block_verdict body place names
    statement_verdict (record_as text body) place names = do
      refuse_if place.in_record place.line K.NestedRecord
      block_verdict body (inside_record place) names
    statement_verdict (try_do body handlers) place names = do
      after ← block_verdict body place names
      handlers_verdict handlers place after
    statement_verdict s place names = simple_verdict functions place names s

    -- the names after a block, or its first fault
    pub block_verdict : Block → Place → Names → Verdict Names
    block_verdict done place names = well names
    block_verdict (line_then line s rest) place names = do
      after ← statement_verdict s (at_line place line) names
      block_verdict rest place after

    -- the names after the further branches of an `if`, or their first fault
    pub branches_verdict : Otherwise → Place → Names → Verdict Names
    branches_verdict no_else place names = well names
    branches_verdict (else_do body) place names = block_verdict body place names
    branches_verdict (elif_then line condition body rest) place names = do
      after ← condition_verdict functions (at_line place line) names condition >> block_verdict body place names
      branches_verdict rest place after

    -- the names after `except` branches, or their first fault
    pub handlers_verdict : Handlers → Place → Names → Verdict Names
    handlers_verdict no_handler place names = well names
    handlers_verdict (except_then line exception body rest) place names = do
      refuse_if (not (is_in exceptions exception)) line K.Unknown
      after ← block_verdict body place names
      handlers_verdict rest place after
