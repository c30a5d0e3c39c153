-- The types of expressions and of names in a well-typed program.
use Rattle.std.specs.Prelude.{ℕ, ◌^◌, List, [], ◌∷◌, ◌++◌, map, length, nat_lt, if◌then◌else◌, Option}
use Rattle.std.specs.Prelude.{Some, None, bytes_eq, find, is_some, option_and_then, unwrap_or}
use Rattle.std.specs.Int.{Width, w32, w64}
use Rattle.kern_syntax.specs.declared.program.DeclaredType.{DeclaredType}
use Rattle.kern_syntax.specs.declared.program.DeclaredType.TheVariants as D
use Rattle.kern_syntax.specs.declared.expression.BinaryOperator.{BinaryOperator}
use Rattle.kern_syntax.specs.declared.expression.BinaryOperator.TheVariants.{ShiftLeft, ShiftRight}
use Rattle.kern_syntax.specs.Tree.{Bytes, Expression, integer, true_literal, false_literal, variable, element, group}
use Rattle.kern_syntax.specs.Tree.{unary, binary, compare, negation, conjunction, disjunction, call, method, Statement}
use Rattle.kern_syntax.specs.Tree.{assign, assign_repeated, assign_list, if_then, while_do, for_range, parallel}
use Rattle.kern_syntax.specs.Tree.{sequential, record_as, try_do, Block, done, line_then, Otherwise, no_else, else_do}
use Rattle.kern_syntax.specs.Tree.{elif_then, Handlers, no_handler, except_then, FunctionTree, ProgramTree}
use Rattle.kern_calls.specs.declared.types.ValueType.{ValueType}
use Rattle.kern_calls.specs.declared.types.ValueType.TheVariants as V
use Rattle.kern_calls.specs.declared.types.ValueType.TheVariants.{Int32, Int64}
use Rattle.kern_calls.specs.declared.calls.Builtin.{Builtin}
use Rattle.kern_calls.specs.Calls.{look_up, builtin_named, builtin_result, method_named, operation_result}

-- names with their types, in the order of their first assignment
abbrev pub Names : Type 0
Names = List (Bytes × ValueType)

-- what the types of a function's body rest on: the functions that it may call, and its names
pub record Scope : Type 0 where
  pub program : ProgramTree
  pub names : Names

-- the wider of two integer types
abbrev pub wider_type : ValueType → ValueType → ValueType
wider_type Int32 Int32 = Int32
wider_type _ _ = Int64

-- the width at which values of a type wrap
abbrev pub width_of : ValueType → Width
width_of Int32 = w32
width_of _ = w64

-- that width as a number of bits
abbrev pub bits_of : ValueType → ℕ
bits_of Int32 = 32
bits_of _ = 64

-- the type that a header names
abbrev pub declared_type : DeclaredType → ValueType
declared_type D.Int32 = Int32
declared_type D.Int64 = Int64
declared_type D.Bool = V.Bool

-- a literal is an int32 as long as it is one
abbrev pub literal_type : ℕ → ValueType
literal_type n = if nat_lt n (2 ^ 31) then Int32 else Int64

-- the type that a call gives; Int64 where it gives none, which no typed program uses
abbrev pub result_type : Option DeclaredType → ValueType
result_type None = Int64
result_type (Some t) = declared_type t

-- the function of this name
abbrev pub function_named : ProgramTree → Bytes → Option FunctionTree
function_named program name = find (λ f. bytes_eq name f.name) program

-- what a call gives: of a function of the program, or else of the language
abbrev pub call_type : ProgramTree → Bytes → Option Builtin → ValueType
call_type program name (Some builtin) = result_type (builtin_result builtin)
call_type program name None = result_type (option_and_then (λ f. f.result) (function_named program name))

-- an operator's type: a shift has that of its left operand, any other the wider one
abbrev pub binary_type : BinaryOperator → ValueType → ValueType → ValueType
binary_type ShiftLeft a b = a
binary_type ShiftRight a b = a
binary_type _ a b = wider_type a b

-- the type of an expression that is well typed
abbrev pub type_of : Scope → Expression → ValueType
type_of scope (integer n) = literal_type n
type_of scope true_literal = V.Bool
type_of scope false_literal = V.Bool
type_of scope (variable x) = unwrap_or (look_up scope.names x) Int64
type_of scope (element x i) = Int64
type_of scope (group e) = type_of scope e
type_of scope (unary op e) = type_of scope e
type_of scope (binary op a b) = binary_type op (type_of scope a) (type_of scope b)
type_of scope (compare op a b) = V.Bool
type_of scope (negation e) = V.Bool
type_of scope (conjunction a b) = V.Bool
type_of scope (disjunction a b) = V.Bool
type_of scope (call f args) = call_type scope.program f (builtin_named f)
type_of scope (method o m args) = result_type (option_and_then operation_result (method_named o m))

-- the names after one more is assigned; a known name keeps its place and its type
abbrev pub with_name : Names → Bytes → ValueType → Names
with_name names x t = if is_some (look_up names x) then names else names ++ (x, t) ∷ []

-- the type of a loop's variable: that of its bounds, the wider one where there are two
abbrev pub range_type : Scope → Option Expression → Expression → ValueType
range_type scope None to = type_of scope to
range_type scope (Some from) to = wider_type (type_of scope from) (type_of scope to)

module _ (program : ProgramTree) where
  -- the scope of a body with these names
  abbrev pub scope_of : Names → Scope
  scope_of names = record { program = program; names = names }

  abbrev mutual
    -- the names after a statement, in the order of the text
    pub names_after : Statement → Names → Names
    names_after (assign x e) names = with_name names x (type_of (scope_of names) e)
    names_after (assign_repeated x e n) names = with_name names x (V.Array n)
    names_after (assign_list x es) names = with_name names x (V.Array (length es))
    names_after (if_then c b rest) names = names_after_otherwise rest (names_after_block b names)
    names_after (while_do c b) names = names_after_block b names
    names_after (for_range x from to b) names =
        names_after_block b (with_name names x (range_type (scope_of names) from to))
    names_after (parallel b) names = names_after_block b names
    names_after (sequential b) names = names_after_block b names
    names_after (record_as n b) names = names_after_block b names
    names_after (try_do b handlers) names = names_after_handlers handlers (names_after_block b names)
    names_after _ names = names

    -- the names after a block
    pub names_after_block : Block → Names → Names
    names_after_block done names = names
    names_after_block (line_then line s rest) names = names_after_block rest (names_after s names)

    -- the names after the further branches of an `if`
    pub names_after_otherwise : Otherwise → Names → Names
    names_after_otherwise no_else names = names
    names_after_otherwise (else_do b) names = names_after_block b names
    names_after_otherwise (elif_then line c b rest) names = names_after_otherwise rest (names_after_block b names)

    -- the names after handlers
    pub names_after_handlers : Handlers → Names → Names
    names_after_handlers no_handler names = names
    names_after_handlers (except_then line x b rest) names = names_after_handlers rest (names_after_block b names)

  -- all names of a function with their types, its parameters first
  abbrev pub names_of : FunctionTree → Names
  names_of f = names_after_block f.body (map (λ p. (p.name, declared_type p.declared)) f.parameters)
