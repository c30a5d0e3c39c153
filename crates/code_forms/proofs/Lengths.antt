-- The code of an expression has as many instructions as its size says, wherever it stands.
use Rattle.std.proofs.Common.{◌≡◌, ℕ, suc, ◌+◌, List, [], ◌∷◌, ◌++◌, length, Option, Some, None, refl, ap, arith, length-append, if◌then◌else◌}
use Rattle.std.specs.Prelude.{Bool, true, false, pos}
use Rattle.kern_syntax.specs.Tree.{Bytes, Expression, integer, true_literal, false_literal, variable, element, group, unary, binary, compare, negation, conjunction, disjunction, call, method, Arguments, no_more, value_then, text_then}
use Rattle.kern_calls.specs.declared.calls.Operation.{Operation}
use Rattle.kern_calls.specs.declared.calls.Operation.TheVariants.{On, Off, Pulse, Write, GateRising, GateFalling, GateBoth, Timestamp, Count, Counter, BreakRealtime, Reset, WaitUntil, Playback, PlaybackHandle, GetHandle, Erase}
use Rattle.kern_calls.specs.Calls.{builtin_named, method_named}
use Rattle.kern_calls.specs.Types.{type_of}
use Rattle.timeline_sem.specs.Expressions.{text_in}
use Rattle.core_isa.specs.declared.code.CodeLine.{CodeLine}
use Rattle.core_isa.specs.declared.code.Mark.{Mark}
use Rattle.core_isa.specs.declared.instr.Instr.{Instr}
use Rattle.core_isa.specs.declared.instr.Instr.TheVariants as I
use Rattle.code_forms.specs.ExpressionCode.{expression_code, arguments_code, unary_lines, call_lines, method_lines, filled, numbers_in}
use Rattle.code_forms.specs.Lines.{line, raised, straight, mark_after}
use Rattle.code_forms.specs.Operations.{operator_instrs, unary_instrs, literal, negated, comparison_instrs, not_instrs, call_instrs, call_has_value, takes_numbers, array_argument, method_instrs, method_has_value, wrapped_type}
use Rattle.code_forms.specs.Setting.{Setting, slot_of, length_of}
use Rattle.code_forms.specs.Sizes.{expression_size, arguments_size, unary_size, unless}

pub length-straight : (mark : Mark) (is : List Instr) → length (straight mark is) ≡ length is
length-straight mark [] = refl
length-straight mark (i ∷ rest) = ap suc (length-straight (mark_after mark i) rest)

pub length-filled : (mark : Mark) (b : Bool) → length (filled mark b) ≡ unless b
length-filled mark true = refl
length-filled mark false = refl

-- the instructions of a method are as many at any place
pub length-method : (setting : Setting) (free place : ℕ) (text : Bytes) (op : Option Operation) → length (method_instrs setting free place text op) ≡ length (method_instrs setting 0 0 text op)
length-method setting free place text None = refl
length-method setting free place text (Some (On c)) = refl
length-method setting free place text (Some (Off c)) = refl
length-method setting free place text (Some (Pulse c)) = refl
length-method setting free place text (Some (Write c)) = refl
length-method setting free place text (Some (GateRising c)) = refl
length-method setting free place text (Some (GateFalling c)) = refl
length-method setting free place text (Some (GateBoth c)) = refl
length-method setting free place text (Some (Timestamp c)) = refl
length-method setting free place text (Some (Count c)) = refl
length-method setting free place text (Some Counter) = refl
length-method setting free place text (Some BreakRealtime) = refl
length-method setting free place text (Some Reset) = refl
length-method setting free place text (Some WaitUntil) = refl
length-method setting free place text (Some Playback) = refl
length-method setting free place text (Some PlaybackHandle) = refl
length-method setting free place text (Some GetHandle) = refl
length-method setting free place text (Some Erase) = refl

-- a call's code is its arguments' and its own
pub call_length : (mark above : Mark) (numbers : List CodeLine) (is : List Instr) (n : ℕ) (takes : Bool) → length numbers ≡ n → length (if takes then (numbers ++ straight above is) else straight mark is) ≡ (if takes then n else 0) + length is
call_length mark above numbers is n true e =
    omega (arith, length-append numbers (straight above is), length-straight above is, e)
call_length mark above numbers is n false e = omega (arith, length-straight mark is)

-- one operand and what is done with it, or a number alone
unary-length : (mark : Mark) (o : Option ℕ) (operand : List CodeLine) (is : List Instr) (n : ℕ) → length operand ≡ n → length (unary_lines mark o operand is) ≡ unary_size o n (length is)
unary-length mark (Some m) operand is n e = refl
unary-length mark None operand is n e =
    omega (arith, length-append operand (straight (raised 1 mark) is), length-straight (raised 1 mark) is, e)

-- two operands and what is done with them
two-operands : (a b : List CodeLine) (mark : Mark) (is : List Instr) (n m : ℕ) → length a ≡ n → length b ≡ m → length (a ++ b ++ straight mark is) ≡ n + (m + length is)
two-operands a b mark is n m ea eb =
    omega (arith, length-append (a ++ b) (straight mark is), length-append a b, length-straight mark is, ea, eb)

module _ (setting : Setting) (free : ℕ) where
  mutual
    pub length-expression : (mark : Mark) (place : ℕ) (e : Expression) → length (expression_code setting free mark place e) ≡ expression_size setting e
    length-expression mark place (integer n) = refl
    length-expression mark place true_literal = refl
    length-expression mark place false_literal = refl
    length-expression mark place (variable x) = refl
    length-expression mark place (element x i) =
        omega (arith, length-append (expression_code setting free mark place i) (line (raised 1 mark) (I.LoadAt (slot_of setting x) (length_of setting x)) ∷ []), length-expression mark place i)
    length-expression mark place (group e) = length-expression mark place e
    length-expression mark place (unary op e) =
        unary-length mark (negated op (literal e)) (expression_code setting free mark place e) (unary_instrs op (type_of setting.scope e)) (expression_size setting e) (length-expression mark place e)
    length-expression mark place (binary op a b) =
        two-operands (expression_code setting free mark place a) (expression_code setting free (raised 1 mark) (place + expression_size setting a) b) (raised 2 mark) (operator_instrs op (wrapped_type op (literal a) (literal b) (type_of setting.scope (binary op a b)))) (expression_size setting a) (expression_size setting b) (length-expression mark place a) (length-expression (raised 1 mark) (place + expression_size setting a) b)
    length-expression mark place (compare op a b) =
        two-operands (expression_code setting free mark place a) (expression_code setting free (raised 1 mark) (place + expression_size setting a) b) (raised 2 mark) (comparison_instrs op) (expression_size setting a) (expression_size setting b) (length-expression mark place a) (length-expression (raised 1 mark) (place + expression_size setting a) b)
    length-expression mark place (negation e) =
        omega (arith, length-append (expression_code setting free mark place e) (straight (raised 1 mark) not_instrs), length-expression mark place e)
    length-expression mark place (conjunction a b) =
        let second = expression_code setting free mark (place + expression_size setting a + 1) b in
        let test = line (raised 1 mark) (I.JumpZero (place + expression_size setting a + 1 + expression_size setting b + 1)) in
        let last = line (raised 1 mark) (I.Jump (place + expression_size setting a + 1 + expression_size setting b + 2)) ∷ line mark (I.Const (pos 0)) ∷ [] in
        omega (arith, length-append (expression_code setting free mark place a ++ test ∷ second) last, length-append (expression_code setting free mark place a) (test ∷ second), length-expression mark place a, length-expression mark (place + expression_size setting a + 1) b)
    length-expression mark place (disjunction a b) =
        let second = expression_code setting free mark (place + expression_size setting a + 3) b in
        let test = line (raised 1 mark) (I.JumpZero (place + expression_size setting a + 3)) in
        let over = line (raised 1 mark) (I.Jump (place + expression_size setting a + 3 + expression_size setting b)) in
        omega (arith, length-append (expression_code setting free mark place a) (test ∷ line mark (I.Const (pos 1)) ∷ over ∷ second), length-expression mark place a, length-expression mark (place + expression_size setting a + 3) b)
    length-expression mark place (call f args) =
        let numbers = arguments_code setting free mark place args in
        omega (arith, length-append (call_lines setting mark f args numbers) (filled mark (call_has_value setting f (builtin_named f))), length-filled mark (call_has_value setting f (builtin_named f)), call_length mark (raised (numbers_in args) mark) numbers (call_instrs setting f (text_in args) (array_argument setting args) (builtin_named f)) (arguments_size setting args) (takes_numbers (array_argument setting args) (builtin_named f)) (length-arguments mark place args))
    length-expression mark place (method o m args) =
        let numbers = arguments_code setting free mark place args in
        let at = place + arguments_size setting args in
        let own = method_instrs setting free at (text_in args) (method_named o m) in
        omega (arith, length-append (method_lines setting free mark at o m args numbers) (filled mark (method_has_value (method_named o m))), length-filled mark (method_has_value (method_named o m)), length-append numbers (straight (raised (numbers_in args) mark) own), length-straight (raised (numbers_in args) mark) own, length-method setting free at (text_in args) (method_named o m), length-arguments mark place args)

    pub length-arguments : (mark : Mark) (place : ℕ) (args : Arguments) → length (arguments_code setting free mark place args) ≡ arguments_size setting args
    length-arguments mark place no_more = refl
    length-arguments mark place (value_then e rest) =
        let others = arguments_code setting free (raised 1 mark) (place + expression_size setting e) rest in
        omega (arith, length-append (expression_code setting free mark place e) others, length-expression mark place e, length-arguments (raised 1 mark) (place + expression_size setting e) rest)
    length-arguments mark place (text_then text rest) = length-arguments mark place rest
