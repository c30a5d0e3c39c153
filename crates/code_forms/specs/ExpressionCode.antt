-- The code of expressions.
use Rattle.std.specs.Prelude.{ℕ, ◌+◌, List, [], ◌∷◌, ◌++◌, pos, neg_ℤ, Bool}
use Rattle.std.specs.Prelude.{true, false, if◌then◌else◌, Option, Some, None}
use Rattle.kern_syntax.specs.Tree.{Bytes, Expression, integer, true_literal, false_literal, variable}
use Rattle.kern_syntax.specs.Tree.{element, group, unary, binary, compare, negation, conjunction}
use Rattle.kern_syntax.specs.Tree.{disjunction, call, method, Arguments, no_more, value_then, text_then}
use Rattle.kern_calls.specs.Calls.{builtin_named, look_up, method_named}
use Rattle.kern_calls.specs.Types.{type_of}
use Rattle.timeline_sem.specs.Expressions.{text_in}
use Rattle.core_isa.specs.declared.code.CodeLine.{CodeLine}
use Rattle.core_isa.specs.declared.code.Mark.{Mark}
use Rattle.core_isa.specs.declared.instr.Instr.{Instr}
use Rattle.core_isa.specs.declared.instr.Instr.TheVariants as I
use Rattle.code_forms.specs.Lines.{line, raised, straight}
use Rattle.code_forms.specs.Operations.{operator_instrs, unary_instrs, literal, negated, comparison_instrs}
use Rattle.code_forms.specs.Operations.{not_instrs, load_instr, call_instrs, call_has_value, takes_numbers}
use Rattle.code_forms.specs.Operations.{array_argument, method_instrs, method_has_value, wrapped_type}
use Rattle.code_forms.specs.Setting.{Setting, slot_of, length_of}
use Rattle.code_forms.specs.Sizes.{expression_size, arguments_size}

-- how many numbers a call has among its arguments
abbrev pub numbers_in : Arguments → ℕ
numbers_in no_more = 0
numbers_in (value_then e rest) = 1 + numbers_in rest
numbers_in (text_then text rest) = numbers_in rest

-- a 0 where a call has no value
abbrev pub filled : Mark → (has_value : Bool) → List CodeLine
filled mark true = []
filled mark false = line mark (I.Const (pos 0)) ∷ []

-- a value that isn't wanted is dropped
abbrev pub dropped : Mark → (has_value : Bool) → List CodeLine
dropped mark true = line (raised 1 mark) I.Pop ∷ []
dropped mark false = []

-- `-` or `~`, given its operand's code: one number where it is `-` of an integer
abbrev pub unary_lines : Mark → (negated : Option ℕ) → (operand : List CodeLine) → List Instr → List CodeLine
unary_lines mark (Some n) operand instrs = line mark (I.Const (neg_ℤ (pos n))) ∷ []
unary_lines mark None operand instrs = operand ++ straight (raised 1 mark) instrs

-- a call, given the code of its arguments: it leaves a value if it has one
abbrev pub call_lines : Setting → Mark → (name : Bytes) → Arguments → (numbers : List CodeLine) → List CodeLine
call_lines setting mark f args numbers =
    if takes_numbers (array_argument setting args) (builtin_named f)
    then (numbers
    ++ straight (raised (numbers_in args) mark) (call_instrs setting f (text_in args) (array_argument setting args) (builtin_named f)))
    else straight mark (call_instrs setting f (text_in args) (array_argument setting args) (builtin_named f))

-- a call of a method at a place, given the code of its arguments: it leaves a value if it has one
abbrev pub method_lines : Setting → (free : ℕ) → Mark → (place : ℕ) → (object name : Bytes) → Arguments → (numbers : List CodeLine) → List CodeLine
method_lines setting free mark place o m args numbers =
    numbers ++ straight (raised (numbers_in args) mark) (method_instrs setting free place (text_in args) (method_named o m))

-- the code of expressions of a function, where the slots from this one on are free
module _ (setting : Setting) (free : ℕ) where
  abbrev mutual
    -- an expression at a place, under a mark: it leaves its value
    pub expression_code : Mark → (place : ℕ) → Expression → List CodeLine
    expression_code mark place (integer n) = line mark (I.Const (pos n)) ∷ []
    expression_code mark place true_literal = line mark (I.Const (pos 1)) ∷ []
    expression_code mark place false_literal = line mark (I.Const (pos 0)) ∷ []
    expression_code mark place (variable x) = line mark (load_instr setting x (look_up setting.scope.names x)) ∷ []
    expression_code mark place (element x i) =
        expression_code mark place i ++ line (raised 1 mark) (I.LoadAt (slot_of setting x) (length_of setting x)) ∷ []
    expression_code mark place (group e) = expression_code mark place e
    expression_code mark place (unary op e) =
        unary_lines
        mark
        (negated op (literal e))
        (expression_code mark place e)
        (unary_instrs op (type_of setting.scope e))
    expression_code mark place (binary op a b) =
        expression_code mark place a
        ++ expression_code (raised 1 mark) (place + expression_size setting a) b
        ++ straight (raised 2 mark) (operator_instrs op (wrapped_type op (literal a) (literal b) (type_of setting.scope (binary op a b))))
    expression_code mark place (compare op a b) =
        expression_code mark place a
        ++ expression_code (raised 1 mark) (place + expression_size setting a) b
        ++ straight (raised 2 mark) (comparison_instrs op)
    expression_code mark place (negation e) = expression_code mark place e ++ straight (raised 1 mark) not_instrs
    expression_code mark place (conjunction a b) =
        expression_code mark place a
        ++ line (raised 1 mark) (I.JumpZero (place + expression_size setting a + 1 + expression_size setting b + 1))
        ∷ expression_code mark (place + expression_size setting a + 1) b
        ++ line (raised 1 mark) (I.Jump (place + expression_size setting a + 1 + expression_size setting b + 2))
        ∷ line mark (I.Const (pos 0))
        ∷ []
    expression_code mark place (disjunction a b) =
        expression_code mark place a
        ++ line (raised 1 mark) (I.JumpZero (place + expression_size setting a + 3))
        ∷ line mark (I.Const (pos 1))
        ∷ line (raised 1 mark) (I.Jump (place + expression_size setting a + 3 + expression_size setting b))
        ∷ expression_code mark (place + expression_size setting a + 3) b
    expression_code mark place (call f args) =
        call_lines setting mark f args (arguments_code mark place args)
        ++ filled mark (call_has_value setting f (builtin_named f))
    expression_code mark place (method o m args) =
        method_lines setting free mark (place + arguments_size setting args) o m args (arguments_code mark place args)
        ++ filled mark (method_has_value (method_named o m))

    -- the arguments of a call: each leaves its value
    pub arguments_code : Mark → (place : ℕ) → Arguments → List CodeLine
    arguments_code mark place no_more = []
    arguments_code mark place (value_then e rest) =
        expression_code mark place e ++ arguments_code (raised 1 mark) (place + expression_size setting e) rest
    arguments_code mark place (text_then text rest) = arguments_code mark place rest

  -- a call by name, and of a method: it leaves a value if it has one
  abbrev pub call_code : Mark → (place : ℕ) → (name : Bytes) → Arguments → List CodeLine
  call_code mark place f args = call_lines setting mark f args (arguments_code mark place args)

  abbrev pub method_code : Mark → (place : ℕ) → (object name : Bytes) → Arguments → List CodeLine
  method_code mark place o m args =
      method_lines setting free mark (place + arguments_size setting args) o m args (arguments_code mark place args)

  -- an expression whose value isn't wanted: it leaves nothing
  abbrev pub effect_code : Mark → (place : ℕ) → Expression → List CodeLine
  effect_code mark place (group e) = effect_code mark place e
  effect_code mark place (call f args) =
      call_code mark place f args ++ dropped mark (call_has_value setting f (builtin_named f))
  effect_code mark place (method o m args) =
      method_code mark place o m args ++ dropped mark (method_has_value (method_named o m))
  effect_code mark place e = expression_code mark place e ++ line (raised 1 mark) I.Pop ∷ []
