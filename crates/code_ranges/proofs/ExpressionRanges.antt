-- The code of an expression is in its ranges where it fits.
use Rattle.std.proofs.Common.{◌≡◌, ℕ, zero, suc, ◌+◌, ◌<◌, ◌≤◌, ◌^◌, List, [], ◌∷◌, ◌++◌, length, max, Option, Some, None, refl, subst, arith}
use Rattle.std.specs.Prelude.{Bool, true, false, pos, neg_ℤ, if◌then◌else◌}
use Rattle.std.proofs.lemmas.Bool.{lt-ltb, false≢true}
use Rattle.kern_syntax.specs.Spellable.{IsSpellable, AreSpellable}
use Rattle.kern_syntax.specs.declared.expression.UnaryOperator.{UnaryOperator}
use Rattle.kern_syntax.specs.Tree.{Bytes, Expression, integer, true_literal, false_literal, variable, element, group, unary, binary, compare, negation, conjunction, disjunction, call, method, Arguments, no_more, value_then, text_then}
use Rattle.kern_calls.specs.Calls.{look_up, builtin_named, method_named}
use Rattle.kern_calls.specs.Types.{type_of}
use Rattle.timeline_sem.specs.Expressions.{text_in}
use Rattle.core_isa.specs.declared.code.CodeLine.{CodeLine}
use Rattle.core_isa.specs.declared.code.Mark.{Mark}
use Rattle.core_isa.specs.declared.instr.Instr.{Instr}
use Rattle.core_isa.specs.declared.instr.Instr.TheVariants as I
use Rattle.core_image.specs.Ranges.{is_short}
use Rattle.code_forms.specs.ExpressionCode.{numbers_in, filled, dropped, unary_lines, call_lines, method_lines, expression_code, arguments_code, effect_code}
use Rattle.code_forms.specs.Lines.{line, raised, straight}
use Rattle.code_forms.specs.Operations.{operator_instrs, unary_instrs, literal, negated, comparison_instrs, not_instrs, load_instr, call_instrs, call_has_value, takes_numbers, array_argument, method_instrs, method_has_value, wrapped_type}
use Rattle.code_forms.specs.Setting.{Setting, slot_of, length_of}
use Rattle.code_forms.specs.Sizes.{unless, when, unary_size, expression_size, arguments_size, effect_size}
use Rattle.code_forms.proofs.Literals.{negated_is}
use Rattle.code_ranges.specs.Fits.{SettingFits}
use Rattle.code_ranges.specs.Heights.{expression_height, arguments_height}
use Rattle.code_ranges.proofs.Straight.{LinesFit, no_lines, one_more, both_fit, MarkFits, InstrFits, InstrsFit, line_fits, single, straight_fits}
use Rattle.code_ranges.proofs.Operators.{operator_fits, operator_short, unary_fits, unary_short, comparison_fits, comparison_short, two_fit, load_fits, call_fits, call_short}
use Rattle.code_ranges.proofs.Methods.{method_fits, method_short, method_same}

-- so many operands more have room, and a row of instructions that adds no more
pub record IsRoomy (mark : Mark) (height : ℕ) : Type 0 where
  pub operands : max mark.height 1 + height < 255
  pub handlers : mark.tries + 14 < 255
  pub rec : mark.rec < 256

pub roomy_mark : (mark : Mark) (h : ℕ) → IsRoomy mark h → MarkFits mark
roomy_mark mark h r =
    record { height = omega (arith, r.operands); tries = omega (arith, r.handlers); rec = r.rec }

pub less_roomy : (mark : Mark) (h k : ℕ) → IsRoomy mark h → k ≤ h → IsRoomy mark k
less_roomy mark h k r less = record { operands = omega (arith, less, r.operands); handlers = r.handlers; rec = r.rec }

pub roomy_above : (mark : Mark) (n h k : ℕ) → IsRoomy mark h → n + k ≤ h → IsRoomy (raised n mark) k
roomy_above mark n h k r less = record { operands = omega (arith, less, r.operands); handlers = r.handlers; rec = r.rec }

-- a row of instructions, under so many operands more or none
pub row_fits : (mark : Mark) (h : ℕ) (instrs : List Instr) → IsRoomy mark h → length instrs ≤ h → length instrs ≤ 14 → InstrsFit instrs → LinesFit (straight mark instrs)
row_fits mark h instrs r less few f =
    straight_fits mark instrs (record { operands = omega (arith, less, r.operands); handlers = omega (arith, few, r.handlers); rec = r.rec }) f

pub row_above : (mark : Mark) (n h : ℕ) (instrs : List Instr) → IsRoomy mark h → n + length instrs ≤ h → length instrs ≤ 14 → InstrsFit instrs → LinesFit (straight (raised n mark) instrs)
row_above mark n h instrs r less few f =
    row_fits (raised n mark) (length instrs) instrs (roomy_above mark n h (length instrs) r less) (omega arith) few f

pub line_above : (mark : Mark) (n h : ℕ) (i : Instr) → IsRoomy mark h → n ≤ h → InstrFits i → LinesFit (line (raised n mark) i ∷ [])
line_above mark n h i r less f = single (raised n mark) i (roomy_mark (raised n mark) 0 (roomy_above mark n h 0 r (omega (arith, less)))) f

-- what is put only where a test holds
taken_fits : (b : Bool) (numbers x y : List CodeLine) → (b ≡ true → LinesFit numbers) → LinesFit x → LinesFit y → LinesFit (if b then numbers ++ x else y)
taken_fits true numbers x y n p q = both_fit numbers x (n refl) p
taken_fits false numbers x y n p q = q

filled_fits : (mark : Mark) (b : Bool) → MarkFits mark → LinesFit (filled mark b)
filled_fits mark true m = no_lines
filled_fits mark false m = single mark (I.Const (pos 0)) m refl

dropped_fits : (mark : Mark) (h : ℕ) (b : Bool) → IsRoomy mark h → 1 ≤ h → LinesFit (dropped mark b)
dropped_fits mark h true r one = line_above mark 1 h I.Pop r one refl
dropped_fits mark h false r one = no_lines

-- what is counted only where a test holds
taken_less : (b : Bool) (place n m most : ℕ) → b ≡ true → place + ((if b then n else 0) + m) < most → place + n < most
taken_less true place n m most e less = omega (arith, less)
taken_less false place n m most e less = absurd (false≢true e)

taken_size : (b : Bool) (n : ℕ) → (if b then n else 0) ≤ n
taken_size true n = omega arith
taken_size false n = omega arith

-- two operands and a row of instructions
pair_fits : (mark : Mark) (h : ℕ) (first second : List CodeLine) (own : List Instr) → IsRoomy mark h → 5 ≤ h → length own ≤ 3 → InstrsFit own → LinesFit first → LinesFit second → LinesFit (first ++ second ++ straight (raised 2 mark) own)
pair_fits mark h first second own r five few f p q =
    both_fit (first ++ second) (straight (raised 2 mark) own) (both_fit first second p q) (row_above mark 2 h own r (omega (arith, few, five)) (omega (arith, few)) f)

module _ (setting : Setting) (fits : SettingFits setting) (free : ℕ) (free_fits : is_short free ≡ true) where
  -- the own lines of a call, given its arguments'
  call_ranged : (mark : Mark) (h : ℕ) (f : Bytes) (args : Arguments) (numbers : List CodeLine) → IsRoomy mark h → numbers_in args + 14 ≤ h
      → (takes_numbers (array_argument setting args) (builtin_named f) ≡ true → LinesFit numbers)
      → LinesFit (call_lines setting mark f args numbers)
  call_ranged mark h f args numbers r less n =
      let own = call_instrs setting f (text_in args) (array_argument setting args) (builtin_named f) in
      let few = call_short setting fits f (text_in args) (array_argument setting args) (builtin_named f) in
      let right = call_fits setting fits f (text_in args) (array_argument setting args) (builtin_named f) in
      taken_fits
      (takes_numbers (array_argument setting args) (builtin_named f))
      numbers
      (straight (raised (numbers_in args) mark) own)
      (straight mark own)
      n
      (row_above mark (numbers_in args) h own r (omega (arith, few, less)) (omega (arith, few)) right)
      (row_fits mark h own r (omega (arith, few, less)) (omega (arith, few)) right)

  method_ranged : (mark : Mark) (h place : ℕ) (o m : Bytes) (args : Arguments) (numbers : List CodeLine) → IsRoomy mark h → numbers_in args + 14 ≤ h
      → place + length (method_instrs setting 0 0 (text_in args) (method_named o m)) < 2 ^ 32
      → LinesFit numbers
      → LinesFit (method_lines setting free mark place o m args numbers)
  method_ranged mark h place o m args numbers r less most n =
      let own = method_instrs setting free place (text_in args) (method_named o m) in
      let few = method_short setting free place (text_in args) (method_named o m) in
      let same = method_same setting free place (text_in args) (method_named o m) in
      let right = method_fits setting fits free free_fits o m (text_in args) place (method_named o m) refl (omega (arith, same, most)) in
      both_fit numbers (straight (raised (numbers_in args) mark) own) n (row_above mark (numbers_in args) h own r (omega (arith, few, less)) (omega (arith, few)) right)

  -- a number below 0
  negative_fits : (n : ℕ) → n < 2 ^ 63 → InstrFits (I.Const (neg_ℤ (pos n)))
  negative_fits zero less = refl
  negative_fits (suc n) less = lt-ltb n 9223372036854775808 (omega (arith, less))

  negated_fits : (op : UnaryOperator) (e : Expression) (n : ℕ) → negated op (literal e) ≡ Some n → IsSpellable e → InstrFits (I.Const (neg_ℤ (pos n)))
  negated_fits op e n is s = negative_fits n (subst IsSpellable (negated_is op e n is).operand s)

  -- `-` and `~`, which may be one number
  unary_ranged : (mark : Mark) (place : ℕ) (op : UnaryOperator) (e : Expression) (o : Option ℕ) → negated op (literal e) ≡ o → IsSpellable e → IsRoomy mark (max (expression_height e) 14) → place + unary_size o (expression_size setting e) (length (unary_instrs op (type_of setting.scope e))) < 2 ^ 32 → (place + expression_size setting e < 2 ^ 32 → LinesFit (expression_code setting free mark place e)) → LinesFit (unary_lines mark o (expression_code setting free mark place e) (unary_instrs op (type_of setting.scope e)))
  unary_ranged mark place op e (Some n) is s r p operand =
      single mark (I.Const (neg_ℤ (pos n))) (roomy_mark mark _ r) (negated_fits op e n is s)
  unary_ranged mark place op e None is s r p operand =
      let h = max (expression_height e) 14 in
      let own = unary_instrs op (type_of setting.scope e) in
      let few = unary_short op (type_of setting.scope e) in
      both_fit
      (expression_code setting free mark place e)
      (straight (raised 1 mark) own)
      (operand (omega (arith, p)))
      (row_above mark 1 h own r (omega (arith, few)) (omega (arith, few)) (unary_fits op (type_of setting.scope e)))

  mutual
    pub expression_ranged : (mark : Mark) (place : ℕ) (e : Expression) → IsSpellable e → IsRoomy mark (expression_height e) → place + expression_size setting e < 2 ^ 32 → LinesFit (expression_code setting free mark place e)
    expression_ranged mark place (integer n) s r p = single mark (I.Const (pos n)) (roomy_mark mark _ r) (lt-ltb n 9223372036854775808 (omega (arith, s)))
    expression_ranged mark place true_literal s r p = single mark (I.Const (pos 1)) (roomy_mark mark _ r) refl
    expression_ranged mark place false_literal s r p = single mark (I.Const (pos 0)) (roomy_mark mark _ r) refl
    expression_ranged mark place (variable x) s r p =
        single mark (load_instr setting x (look_up setting.scope.names x)) (roomy_mark mark _ r) (load_fits setting fits x (look_up setting.scope.names x))
    expression_ranged mark place (element x i) s r p =
        let h = max (expression_height i) 14 in
        both_fit
        (expression_code setting free mark place i)
        (line (raised 1 mark) (I.LoadAt (slot_of setting x) (length_of setting x)) ∷ [])
        (expression_ranged mark place i s.1 (less_roomy mark h (expression_height i) r (omega arith)) (omega (arith, p)))
        (line_above mark 1 h (I.LoadAt (slot_of setting x) (length_of setting x)) r (omega arith) (two_fit setting fits x))
    expression_ranged mark place (group e) s r p = expression_ranged mark place e s r p
    expression_ranged mark place (unary op e) s r p =
        unary_ranged mark place op e (negated op (literal e)) refl s r p (λ less. expression_ranged mark place e s (less_roomy mark (max (expression_height e) 14) (expression_height e) r (omega arith)) less)
    expression_ranged mark place (binary op a b) s r p =
        let own = operator_instrs op (wrapped_type op (literal a) (literal b) (type_of setting.scope (binary op a b))) in
        let few = operator_short op (wrapped_type op (literal a) (literal b) (type_of setting.scope (binary op a b))) in
        let h = max (expression_height a) (max (1 + expression_height b) 14) in
        let first = expression_code setting free mark place a in
        let second = expression_code setting free (raised 1 mark) (place + expression_size setting a) b in
        pair_fits
        mark
        h
        first
        second
        own
        r
        (omega arith)
        (omega (arith, few))
        (operator_fits op (wrapped_type op (literal a) (literal b) (type_of setting.scope (binary op a b))))
        (expression_ranged mark place a s.0 (less_roomy mark h (expression_height a) r (omega arith)) (omega (arith, p)))
        (expression_ranged (raised 1 mark) (place + expression_size setting a) b s.1 (roomy_above mark 1 h (expression_height b) r (omega arith)) (omega (arith, p)))
    expression_ranged mark place (compare op a b) s r p =
        let own = comparison_instrs op in
        let few = comparison_short op in
        let h = max (expression_height a) (max (1 + expression_height b) 14) in
        let first = expression_code setting free mark place a in
        let second = expression_code setting free (raised 1 mark) (place + expression_size setting a) b in
        pair_fits
        mark
        h
        first
        second
        own
        r
        (omega arith)
        few
        (comparison_fits op)
        (expression_ranged mark place a s.0 (less_roomy mark h (expression_height a) r (omega arith)) (omega (arith, p)))
        (expression_ranged (raised 1 mark) (place + expression_size setting a) b s.1 (roomy_above mark 1 h (expression_height b) r (omega arith)) (omega (arith, p)))
    expression_ranged mark place (negation e) s r p =
        let h = max (expression_height e) 14 in
        both_fit
        (expression_code setting free mark place e)
        (straight (raised 1 mark) not_instrs)
        (expression_ranged mark place e s (less_roomy mark h (expression_height e) r (omega arith)) (omega (arith, p)))
        (row_above mark 1 h not_instrs r (omega arith) (omega arith) (refl, (refl, tt)))
    expression_ranged mark place (conjunction a b) s r p =
        let h = max (expression_height a) (max (expression_height b) 14) in
        let sa = expression_size setting a in
        let sb = expression_size setting b in
        let first = line (raised 1 mark) (I.JumpZero (place + sa + 1 + sb + 1)) in
        let over = line (raised 1 mark) (I.Jump (place + sa + 1 + sb + 2)) in
        let zero = line mark (I.Const (pos 0)) in
        let high = roomy_mark (raised 1 mark) 0 (roomy_above mark 1 h 0 r (omega arith)) in
        let most : place + (sa + (1 + (sb + 2))) < 4294967296 = omega (arith, p) in
        both_fit
        (expression_code setting free mark place a ++ (first ∷ expression_code setting free mark (place + sa + 1) b))
        (over ∷ (zero ∷ []))
        (both_fit
        (expression_code setting free mark place a)
        (first ∷ expression_code setting free mark (place + sa + 1) b)
        (expression_ranged mark place a s.0 (less_roomy mark h (expression_height a) r (omega arith)) (omega (arith, most)))
        (one_more
        first
        (expression_code setting free mark (place + sa + 1) b)
        (line_fits (raised 1 mark) (I.JumpZero (place + sa + 1 + sb + 1)) high (lt-ltb (place + sa + 1 + sb + 1) 4294967296 (omega (arith, most))))
        (expression_ranged mark (place + sa + 1) b s.1 (less_roomy mark h (expression_height b) r (omega arith)) (omega (arith, most)))))
        (one_more
        over
        (zero ∷ [])
        (line_fits (raised 1 mark) (I.Jump (place + sa + 1 + sb + 2)) high (lt-ltb (place + sa + 1 + sb + 2) 4294967296 (omega (arith, most))))
        (single mark (I.Const (pos 0)) (roomy_mark mark h r) refl))
    expression_ranged mark place (disjunction a b) s r p =
        let h = max (expression_height a) (max (expression_height b) 14) in
        let sa = expression_size setting a in
        let sb = expression_size setting b in
        let first = line (raised 1 mark) (I.JumpZero (place + sa + 3)) in
        let one = line mark (I.Const (pos 1)) in
        let over = line (raised 1 mark) (I.Jump (place + sa + 3 + sb)) in
        let second = expression_code setting free mark (place + sa + 3) b in
        let high = roomy_mark (raised 1 mark) 0 (roomy_above mark 1 h 0 r (omega arith)) in
        let most : place + (sa + (3 + sb)) < 4294967296 = omega (arith, p) in
        both_fit
        (expression_code setting free mark place a)
        (first ∷ (one ∷ (over ∷ second)))
        (expression_ranged mark place a s.0 (less_roomy mark h (expression_height a) r (omega arith)) (omega (arith, most)))
        (one_more
        first
        (one ∷ (over ∷ second))
        (line_fits (raised 1 mark) (I.JumpZero (place + sa + 3)) high (lt-ltb (place + sa + 3) 4294967296 (omega (arith, most))))
        (one_more
        one
        (over ∷ second)
        (line_fits mark (I.Const (pos 1)) (roomy_mark mark h r) refl)
        (one_more
        over
        second
        (line_fits (raised 1 mark) (I.Jump (place + sa + 3 + sb)) high (lt-ltb (place + sa + 3 + sb) 4294967296 (omega (arith, most))))
        (expression_ranged mark (place + sa + 3) b s.1 (less_roomy mark h (expression_height b) r (omega arith)) (omega (arith, most))))))
    expression_ranged mark place (call f args) s r p =
        let h = max (arguments_height args) (numbers_in args + 14) in
        both_fit
        (call_lines setting mark f args (arguments_code setting free mark place args))
        (filled mark (call_has_value setting f (builtin_named f)))
        (call_ranged mark h f args (arguments_code setting free mark place args) r (omega arith) (λ e. arguments_ranged mark place args s.1 (less_roomy mark h (arguments_height args) r (omega arith)) (taken_less (takes_numbers (array_argument setting args) (builtin_named f)) place (arguments_size setting args) (length (call_instrs setting f (text_in args) (array_argument setting args) (builtin_named f)) + unless (call_has_value setting f (builtin_named f))) 4294967296 e (omega (arith, p)))))
        (filled_fits mark (call_has_value setting f (builtin_named f)) (roomy_mark mark h r))
    expression_ranged mark place (method o m args) s r p =
        let h = max (arguments_height args) (numbers_in args + 14) in
        both_fit
        (method_lines setting free mark (place + arguments_size setting args) o m args (arguments_code setting free mark place args))
        (filled mark (method_has_value (method_named o m)))
        (method_ranged mark h (place + arguments_size setting args) o m args (arguments_code setting free mark place args) r (omega arith) (omega (arith, p)) (arguments_ranged mark place args s.2 (less_roomy mark h (arguments_height args) r (omega arith)) (omega (arith, p))))
        (filled_fits mark (method_has_value (method_named o m)) (roomy_mark mark h r))

    pub arguments_ranged : (mark : Mark) (place : ℕ) (args : Arguments) → AreSpellable args → IsRoomy mark (arguments_height args) → place + arguments_size setting args < 2 ^ 32 → LinesFit (arguments_code setting free mark place args)
    arguments_ranged mark place no_more s r p = no_lines
    arguments_ranged mark place (value_then e rest) s r p =
        let h = max (expression_height e) (1 + arguments_height rest) in
        both_fit
        (expression_code setting free mark place e)
        (arguments_code setting free (raised 1 mark) (place + expression_size setting e) rest)
        (expression_ranged mark place e s.0 (less_roomy mark h (expression_height e) r (omega arith)) (omega (arith, p)))
        (arguments_ranged (raised 1 mark) (place + expression_size setting e) rest s.1 (roomy_above mark 1 h (arguments_height rest) r (omega arith)) (omega (arith, p)))
    arguments_ranged mark place (text_then text rest) s r p = arguments_ranged mark place rest s.1 r p

  -- an expression whose value is dropped
  popped_ranged : (mark : Mark) (place : ℕ) (e : Expression) → IsSpellable e → IsRoomy mark (expression_height e) → 1 ≤ expression_height e → place + (expression_size setting e + 1) < 2 ^ 32 → LinesFit (expression_code setting free mark place e ++ line (raised 1 mark) I.Pop ∷ [])
  popped_ranged mark place e s r one p =
      both_fit
      (expression_code setting free mark place e)
      (line (raised 1 mark) I.Pop ∷ [])
      (expression_ranged mark place e s r (omega (arith, p)))
      (line_above mark 1 (expression_height e) I.Pop r one refl)

  pub effect_ranged : (mark : Mark) (place : ℕ) (e : Expression) → IsSpellable e → IsRoomy mark (expression_height e) → place + effect_size setting e < 2 ^ 32 → LinesFit (effect_code setting free mark place e)
  effect_ranged mark place (group e) s r p = effect_ranged mark place e s r p
  effect_ranged mark place (call f args) s r p =
      let h = max (arguments_height args) (numbers_in args + 14) in
      both_fit
      (call_lines setting mark f args (arguments_code setting free mark place args))
      (dropped mark (call_has_value setting f (builtin_named f)))
      (call_ranged mark h f args (arguments_code setting free mark place args) r (omega arith) (λ e. arguments_ranged mark place args s.1 (less_roomy mark h (arguments_height args) r (omega arith)) (taken_less (takes_numbers (array_argument setting args) (builtin_named f)) place (arguments_size setting args) (length (call_instrs setting f (text_in args) (array_argument setting args) (builtin_named f)) + when (call_has_value setting f (builtin_named f))) 4294967296 e (omega (arith, p)))))
      (dropped_fits mark h (call_has_value setting f (builtin_named f)) r (omega arith))
  effect_ranged mark place (method o m args) s r p =
      let h = max (arguments_height args) (numbers_in args + 14) in
      both_fit
      (method_lines setting free mark (place + arguments_size setting args) o m args (arguments_code setting free mark place args))
      (dropped mark (method_has_value (method_named o m)))
      (method_ranged mark h (place + arguments_size setting args) o m args (arguments_code setting free mark place args) r (omega arith) (omega (arith, p)) (arguments_ranged mark place args s.2 (less_roomy mark h (arguments_height args) r (omega arith)) (omega (arith, p))))
      (dropped_fits mark h (method_has_value (method_named o m)) r (omega arith))
  effect_ranged mark place (integer n) s r p = popped_ranged mark place (integer n) s r (omega arith) p
  effect_ranged mark place true_literal s r p = popped_ranged mark place true_literal s r (omega arith) p
  effect_ranged mark place false_literal s r p = popped_ranged mark place false_literal s r (omega arith) p
  effect_ranged mark place (variable x) s r p = popped_ranged mark place (variable x) s r (omega arith) p
  effect_ranged mark place (element x i) s r p = popped_ranged mark place (element x i) s r (omega arith) p
  effect_ranged mark place (unary op e) s r p = popped_ranged mark place (unary op e) s r (omega arith) p
  effect_ranged mark place (binary op a b) s r p = popped_ranged mark place (binary op a b) s r (omega arith) p
  effect_ranged mark place (compare op a b) s r p = popped_ranged mark place (compare op a b) s r (omega arith) p
  effect_ranged mark place (negation e) s r p = popped_ranged mark place (negation e) s r (omega arith) p
  effect_ranged mark place (conjunction a b) s r p = popped_ranged mark place (conjunction a b) s r (omega arith) p
  effect_ranged mark place (disjunction a b) s r p = popped_ranged mark place (disjunction a b) s r (omega arith) p
