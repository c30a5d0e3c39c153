-- How many instructions the code of a part has.
use Rattle.std.specs.Prelude.{ℕ, ◌+◌, ◌-◌, ◌*◌, List, [], ◌∷◌, length, Bool}
use Rattle.std.specs.Prelude.{true, false, if◌then◌else◌, Option, Some, None}
use Rattle.kern_syntax.specs.Tree.{Bytes, Expression, integer, true_literal, false_literal, variable, element, group}
use Rattle.kern_syntax.specs.Tree.{unary, binary, compare, negation, conjunction, disjunction, call, method, Arguments}
use Rattle.kern_syntax.specs.Tree.{no_more, value_then, text_then, Statement, pass, break, continue, return, evaluate}
use Rattle.kern_syntax.specs.Tree.{assign, assign_element, augment, augment_element, assign_repeated, assign_list}
use Rattle.kern_syntax.specs.Tree.{if_then, while_do, for_range, parallel, sequential, record_as, try_do, Block, done}
use Rattle.kern_syntax.specs.Tree.{line_then, Otherwise, no_else, else_do, elif_then, Handlers, no_handler, except_then}
use Rattle.kern_calls.specs.Calls.{builtin_named, method_named}
use Rattle.kern_calls.specs.Types.{type_of}
use Rattle.timeline_sem.specs.Expressions.{text_in}
use Rattle.timeline_sem.specs.Statements.{operator_of}
use Rattle.code_forms.specs.declared.test_kind.TestKind.TheVariants.{Branch, LoopEnd}
use Rattle.code_forms.specs.Conditions.{is_turned, asked, test_size, loop_size}
use Rattle.code_forms.specs.Setting.{Setting}
use Rattle.code_forms.specs.Operations.{operator_instrs, unary_instrs, literal, negated}
use Rattle.code_forms.specs.Operations.{comparison_instrs, call_instrs, call_has_value, takes_numbers}
use Rattle.code_forms.specs.Operations.{array_argument, method_instrs, method_has_value, wrapped_type}

-- an instruction more where there is no value
abbrev pub unless : Bool → ℕ
unless true = 0
unless false = 1

-- an instruction more where there is a value
abbrev pub when : Bool → ℕ
when true = 1
when false = 0

-- a block has a second statement
abbrev pub has_second : Block → Bool
has_second (line_then line s (line_then line' s' rest)) = true
has_second b = false

-- of what a parallel block keeps when it begins: the greatest end and, if there is a second statement, its start
abbrev pub parallel_begin_size : (second : Bool) → ℕ
parallel_begin_size true = 4
parallel_begin_size false = 2

-- of `-` and `~`, with so many for the operand and for what is done with it; one number where it is `-` of an integer
abbrev pub unary_size : (negated : Option ℕ) → (operand own : ℕ) → ℕ
unary_size (Some n) operand own = 1
unary_size None operand own = operand + own

-- of a call, which leaves a value if it has one, with so many for its arguments
abbrev pub call_size_with : Setting → (name : Bytes) → Arguments → (numbers : ℕ) → ℕ
call_size_with setting f args numbers =
    (if takes_numbers (array_argument setting args) (builtin_named f) then numbers else 0)
    + length (call_instrs setting f (text_in args) (array_argument setting args) (builtin_named f))

-- of a call of a method, which leaves a value if it has one, with so many for its arguments
abbrev pub method_size_with : Setting → (object name : Bytes) → Arguments → (numbers : ℕ) → ℕ
method_size_with setting o m args numbers = numbers + length (method_instrs setting 0 0 (text_in args) (method_named o m))

module _ (setting : Setting) where
  abbrev mutual
    -- of an expression, which leaves its value
    pub expression_size : Expression → ℕ
    expression_size (integer n) = 1
    expression_size true_literal = 1
    expression_size false_literal = 1
    expression_size (variable x) = 1
    expression_size (element x i) = expression_size i + 1
    expression_size (group e) = expression_size e
    expression_size (unary op e) =
        unary_size (negated op (literal e)) (expression_size e) (length (unary_instrs op (type_of setting.scope e)))
    expression_size (binary op a b) =
        expression_size a
        + (expression_size b + length (operator_instrs op (wrapped_type op (literal a) (literal b) (type_of setting.scope (binary op a b)))))
    expression_size (compare op a b) = expression_size a + (expression_size b + length (comparison_instrs op))
    expression_size (negation e) = expression_size e + 2
    expression_size (conjunction a b) = expression_size a + (1 + (expression_size b + 2))
    expression_size (disjunction a b) = expression_size a + (3 + expression_size b)
    expression_size (call f args) =
        call_size_with setting f args (arguments_size args) + unless (call_has_value setting f (builtin_named f))
    expression_size (method o m args) =
        method_size_with setting o m args (arguments_size args) + unless (method_has_value (method_named o m))

    -- of the arguments of a call
    pub arguments_size : Arguments → ℕ
    arguments_size no_more = 0
    arguments_size (value_then e rest) = expression_size e + arguments_size rest
    arguments_size (text_then text rest) = arguments_size rest

  -- of a call by name, and of a method
  abbrev pub call_size : (name : Bytes) → Arguments → ℕ
  call_size f args = call_size_with setting f args (arguments_size args)

  abbrev pub method_size : (object name : Bytes) → Arguments → ℕ
  method_size o m args = method_size_with setting o m args (arguments_size args)

  -- of an expression whose value isn't wanted
  abbrev pub effect_size : Expression → ℕ
  effect_size (group e) = effect_size e
  effect_size (call f args) = call_size f args + when (call_has_value setting f (builtin_named f))
  effect_size (method o m args) = method_size o m args + when (method_has_value (method_named o m))
  effect_size e = expression_size e + 1

  -- of some expressions, each of which is stored
  abbrev pub stored_size : List Expression → ℕ
  stored_size [] = 0
  stored_size (e ∷ rest) = expression_size e + (1 + stored_size rest)

  -- of the value of a `return`
  abbrev pub return_size : Option Expression → ℕ
  return_size None = when setting.value
  return_size (Some e) = expression_size e + unless setting.value

  -- of where a `for` begins
  abbrev pub from_size : Option Expression → ℕ
  from_size None = 1
  from_size (Some e) = expression_size e

  -- of the end of a branch, which goes past the branches that follow
  abbrev pub exit_size : Otherwise → ℕ
  exit_size no_else = 0
  exit_size rest = 1

  abbrev mutual
    -- of a statement under so many handlers, of which so many stood before the enclosing loop
    pub statement_size : (tries kept : ℕ) → Statement → ℕ
    statement_size tries kept pass = 0
    statement_size tries kept break = tries - kept + 1
    statement_size tries kept continue = tries - kept + 1
    statement_size tries kept (return e) = return_size e + (tries + 1)
    statement_size tries kept (evaluate e) = effect_size e
    statement_size tries kept (assign x e) = expression_size e + 1
    statement_size tries kept (assign_element x i e) = expression_size e + (expression_size i + 1)
    statement_size tries kept (augment x op e) =
        1 + (expression_size e + (length (operator_instrs (operator_of op) (type_of setting.scope (variable x))) + 1))
    statement_size tries kept (augment_element x i op e) = expression_size i + (3 + (expression_size e + 3))
    statement_size tries kept (assign_repeated x e n) = expression_size e + 1
    statement_size tries kept (assign_list x es) = stored_size es + 2 * (length es - 1)
    statement_size tries kept (if_then c b rest) =
        expression_size (asked Branch c)
        + (test_size (is_turned Branch c) + (block_size tries kept b + (exit_size rest + otherwise_size tries kept rest)))
    statement_size tries kept (while_do c b) =
        2 + (block_size tries tries b + (expression_size (asked LoopEnd c) + loop_size (is_turned LoopEnd c)))
    statement_size tries kept (for_range x from to b) =
        from_size from + (expression_size to + (10 + (block_size tries tries b + 4)))
    statement_size tries kept (parallel b) = parallel_begin_size (has_second b) + parallel_size tries kept b
    statement_size tries kept (sequential b) = block_size tries kept b
    statement_size tries kept (record_as name b) = 1 + (block_size tries kept b + 1)
    statement_size tries kept (try_do b handlers) =
        1 + (block_size (tries + 1) kept b + (2 + handlers_size tries kept handlers))

    -- of a block
    pub block_size : (tries kept : ℕ) → Block → ℕ
    block_size tries kept done = 0
    block_size tries kept (line_then line s rest) = statement_size tries kept s + block_size tries kept rest

    -- of the statements of a parallel block
    pub parallel_size : (tries kept : ℕ) → Block → ℕ
    parallel_size tries kept done = 0
    parallel_size tries kept (line_then line s rest) = statement_size tries kept s + others_size tries kept rest

    -- of those behind one of them
    pub others_size : (tries kept : ℕ) → Block → ℕ
    others_size tries kept done = 4
    others_size tries kept (line_then line s rest) = 6 + (statement_size tries kept s + others_size tries kept rest)

    -- of the further branches of an `if`
    pub otherwise_size : (tries kept : ℕ) → Otherwise → ℕ
    otherwise_size tries kept no_else = 0
    otherwise_size tries kept (else_do b) = block_size tries kept b
    otherwise_size tries kept (elif_then line c b rest) =
        expression_size (asked Branch c)
        + (test_size (is_turned Branch c) + (block_size tries kept b + (exit_size rest + otherwise_size tries kept rest)))

    -- of handlers
    pub handlers_size : (tries kept : ℕ) → Handlers → ℕ
    handlers_size tries kept no_handler = 1
    handlers_size tries kept (except_then line name b rest) =
        5 + (block_size tries kept b + (1 + handlers_size tries kept rest))
