-- Functions that have no live call and no record block, also in what they call, and so may be called in a record block.
use Rattle.std.specs.Prelude.{List, [], ◌∷◌, ◌++◌, Bool, true, false, not, ◌&&◌, if◌then◌else◌, Option, Some, None}
use Rattle.std.specs.List.{list_all}
use Rattle.kern_syntax.specs.declared.statement.Target.{Target}
use Rattle.kern_syntax.specs.declared.statement.Target.TheVariants as L
use Rattle.kern_syntax.specs.TreeOf.{expression_of}
use Rattle.kern_syntax.specs.Tree.{Bytes, Expression, element, group, unary, binary, compare, negation}
use Rattle.kern_syntax.specs.Tree.{conjunction, disjunction, call, method, Arguments, no_more, value_then}
use Rattle.kern_syntax.specs.Tree.{text_then, Statement, return, evaluate, assign, assign_element, augment}
use Rattle.kern_syntax.specs.Tree.{augment_element, assign_repeated, assign_list, if_then, while_do, for_range}
use Rattle.kern_syntax.specs.Tree.{parallel, sequential, record_as, try_do, Block, done, line_then, Otherwise}
use Rattle.kern_syntax.specs.Tree.{no_else, else_do, elif_then, Handlers, no_handler, except_then, FunctionTree}
use Rattle.kern_calls.specs.declared.calls.Builtin.{Builtin}
use Rattle.kern_calls.specs.declared.calls.Operation.{Operation}
use Rattle.kern_calls.specs.Calls.{builtin_named, builtin_is_live, is_live, method_named}
pub use Rattle.kern_expression_types.specs.Before.{is_in, with_member}

-- a call that may stand in a plain function: of a plain function, or not live
abbrev pub is_plain_call : List Bytes → Bytes → Option Builtin → Bool
is_plain_call plain name (Some builtin) = not (builtin_is_live builtin)
is_plain_call plain name None = is_in plain name

-- a method that may stand in a plain function
abbrev pub is_plain_method : Option Operation → Bool
is_plain_method None = true
is_plain_method (Some op) = not (is_live op)

module _ (plain : List Bytes) where
  abbrev mutual
    -- an expression whose calls may all stand in a plain function
    pub is_plain_expression : Expression → Bool
    is_plain_expression (element x i) = is_plain_expression i
    is_plain_expression (group e) = is_plain_expression e
    is_plain_expression (unary op e) = is_plain_expression e
    is_plain_expression (binary op a b) = is_plain_expression a && is_plain_expression b
    is_plain_expression (compare op a b) = is_plain_expression a && is_plain_expression b
    is_plain_expression (negation e) = is_plain_expression e
    is_plain_expression (conjunction a b) = is_plain_expression a && is_plain_expression b
    is_plain_expression (disjunction a b) = is_plain_expression a && is_plain_expression b
    is_plain_expression (call f args) = is_plain_call plain f (builtin_named f) && are_plain_arguments args
    is_plain_expression (method o m args) = is_plain_method (method_named o m) && are_plain_arguments args
    is_plain_expression _ = true

    -- the same of arguments
    pub are_plain_arguments : Arguments → Bool
    are_plain_arguments no_more = true
    are_plain_arguments (value_then e rest) = is_plain_expression e && are_plain_arguments rest
    are_plain_arguments (text_then name rest) = are_plain_arguments rest

  -- the same of an expression that may be missing
  abbrev pub is_plain_option : Option Expression → Bool
  is_plain_option None = true
  is_plain_option (Some e) = is_plain_expression e

  abbrev mutual
    -- a statement that may stand in a plain function
    pub is_plain_statement : Statement → Bool
    is_plain_statement (return e) = is_plain_option e
    is_plain_statement (evaluate e) = is_plain_expression e
    is_plain_statement (assign x e) = is_plain_expression e
    is_plain_statement (assign_element x i e) = is_plain_expression i && is_plain_expression e
    is_plain_statement (augment x op e) = is_plain_expression e
    is_plain_statement (augment_element x i op e) = is_plain_expression i && is_plain_expression e
    is_plain_statement (assign_repeated x e n) = is_plain_expression e
    is_plain_statement (assign_list x es) = list_all is_plain_expression es
    is_plain_statement (if_then c b rest) = is_plain_expression c && (is_plain_block b && is_plain_otherwise rest)
    is_plain_statement (while_do c b) = is_plain_expression c && is_plain_block b
    is_plain_statement (for_range x from to b) =
        is_plain_option from && (is_plain_expression to && is_plain_block b)
    is_plain_statement (parallel b) = is_plain_block b
    is_plain_statement (sequential b) = is_plain_block b
    is_plain_statement (record_as name b) = false
    is_plain_statement (try_do b handlers) = is_plain_block b && are_plain_handlers handlers
    is_plain_statement _ = true

    -- the same of a block
    pub is_plain_block : Block → Bool
    is_plain_block done = true
    is_plain_block (line_then line s rest) = is_plain_statement s && is_plain_block rest

    -- the same of the further branches of an `if`
    pub is_plain_otherwise : Otherwise → Bool
    is_plain_otherwise no_else = true
    is_plain_otherwise (else_do b) = is_plain_block b
    is_plain_otherwise (elif_then line c b rest) =
        is_plain_expression c && (is_plain_block b && is_plain_otherwise rest)

    -- the same of handlers
    pub are_plain_handlers : Handlers → Bool
    are_plain_handlers no_handler = true
    are_plain_handlers (except_then line x b rest) = is_plain_block b && are_plain_handlers rest

-- the same of what is assigned to: of the index, if it is an element
abbrev pub is_plain_target : List Bytes → Target → Bool
is_plain_target plain (L.Variable x) = true
is_plain_target plain (L.Element x i) = is_plain_expression plain (expression_of i)

-- a function is plain that has no live call, no record block, and calls of
-- plain functions only, given those before it; its own calls don't count
abbrev pub is_plain_function : List Bytes → FunctionTree → Bool
is_plain_function plain f = is_plain_block (plain ++ f.name ∷ []) f.body

-- the plain functions after one more function
abbrev pub with_plain : List Bytes → FunctionTree → List Bytes
with_plain plain f = if is_plain_function plain f then with_member plain f.name else plain
