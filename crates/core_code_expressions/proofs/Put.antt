-- What is put for an expression is its code, once what is put for its parts is theirs.
use Rattle.std.proofs.Common.{◌≡◌, ℕ, ◌+◌, List, [], ◌∷◌, ◌++◌, length, ap, sym, ◌∙◌, append_assoc, arith, length-append, if◌then◌else◌, refl, Result, Ok, Err, OnOk}
use Rattle.std.proofs.lemmas.Bool.{false≢true}
use Rattle.std.specs.Prelude.{pos, Bool, true, false, Option}
use Rattle.kern_syntax.specs.declared.expression.BinaryOperator.{BinaryOperator}
use Rattle.kern_syntax.specs.declared.expression.Comparison.{Comparison}
use Rattle.kern_syntax.specs.Tree.{Bytes, Expression, integer, true_literal, false_literal, variable, element, group, unary, binary, compare, negation, conjunction, disjunction, call, method, Arguments}
use Rattle.kern_calls.specs.declared.calls.Operation.{Operation}
use Rattle.kern_calls.specs.Calls.{builtin_named, method_named}
use Rattle.kern_calls.specs.declared.types.ValueType.{ValueType}
use Rattle.kern_calls.specs.Types.{binary_type, type_of}
use Rattle.core_isa.specs.declared.code.CodeLine.{CodeLine}
use Rattle.core_isa.specs.declared.code.Mark.{Mark}
use Rattle.timeline_sem.specs.Expressions.{text_in}
use Rattle.core_isa.specs.declared.instr.Instr.{Instr}
use Rattle.core_isa.specs.declared.instr.Instr.TheVariants as I
use Rattle.code_forms.specs.ExpressionCode.{expression_code, arguments_code, call_code, method_code, effect_code, dropped, numbers_in}
use Rattle.code_forms.specs.Lines.{line, raised, straight}
use Rattle.code_forms.specs.Operations.{operator_instrs, comparison_instrs, call_instrs, takes_numbers, array_argument, call_has_value, method_instrs, method_has_value, wrapped_type, literal}
use Rattle.code_forms.specs.Setting.{Setting}
use Rattle.code_forms.specs.Sizes.{expression_size, arguments_size, call_size, method_size, effect_size}
use Rattle.code_forms.proofs.Lengths.{length-expression, length-arguments, length-straight, length-method, call_length}
use Rattle.code_forms.proofs.StatementLengths.{length-effect}

-- the lines after an expression's code are as many more as its size says
pub longer : (setting : Setting) (free : ℕ) (mark : Mark) (place : ℕ) (e : Expression) (before after : List CodeLine) → after ≡ before ++ expression_code setting free mark place e → length after ≡ length before + expression_size setting e
longer setting free mark place e before after eq =
    omega (arith, ap length eq, length-append before (expression_code setting free mark place e), length-expression setting free mark place e)

-- what is put behind what was put
pub then_put : (l0 l1 l2 X Y : List CodeLine) → l1 ≡ l0 ++ X → l2 ≡ l1 ++ Y → l2 ≡ l0 ++ (X ++ Y)
then_put l0 l1 l2 X Y first second = second ∙ ap (λ l. l ++ Y) first ∙ append_assoc l0 X Y

-- the type of an operator's result
pub same_type : (op : BinaryOperator) (first second a b : ValueType) {kind : ValueType} → first ≡ a → second ≡ b → kind ≡ binary_type op first second → kind ≡ binary_type op a b
same_type op first second a b one two is = cc

-- an operand more
pub behind : (n k p sb : ℕ) → n ≡ p → k ≡ n + sb → k ≡ p + sb
behind n k p sb at longer = omega arith

-- one line more
pub one_more : (l1 l2 : List CodeLine) (x : CodeLine) (n : ℕ) → length l1 ≡ n → l2 ≡ l1 ++ x ∷ [] → length l2 ≡ n + 1
one_more l1 l2 x n there put = omega (arith, ap length put, length-append l1 (x ∷ []), there)

-- three lines more
pub three_more : (l1 l2 : List CodeLine) (x y z : CodeLine) (n : ℕ) → length l1 ≡ n → l2 ≡ l1 ++ x ∷ y ∷ z ∷ [] → length l2 ≡ n + 3
three_more l1 l2 x y z n there put = omega (arith, ap length put, length-append l1 (x ∷ y ∷ z ∷ []), there)

-- so of a call by name
pub call_longer : (s : Setting) (free : ℕ) (m : Mark) (p : ℕ) (f : Bytes) (args : Arguments) (before after : List CodeLine) → after ≡ before ++ call_code s free m p f args → length after ≡ length before + call_size s f args
call_longer s free m p f args before after eq =
    omega (arith, ap length eq, length-append before (call_code s free m p f args), call_length m (raised (numbers_in args) m) (arguments_code s free m p args) (call_instrs s f (text_in args) (array_argument s args) (builtin_named f)) (arguments_size s args) (takes_numbers (array_argument s args) (builtin_named f)) (length-arguments s free m p args))

-- and of a method
pub method_longer : (s : Setting) (free : ℕ) (m : Mark) (p : ℕ) (o n : Bytes) (args : Arguments) (before after : List CodeLine) → after ≡ before ++ method_code s free m p o n args → length after ≡ length before + method_size s o n args
method_longer s free m p o n args before after eq =
    let numbers = arguments_code s free m p args in
    let own = method_instrs s free (p + arguments_size s args) (text_in args) (method_named o n) in
    omega (arith, ap length eq, length-append before (method_code s free m p o n args), length-append numbers (straight (raised (numbers_in args) m) own), length-straight (raised (numbers_in args) m) own, length-method s free (p + arguments_size s args) (text_in args) (method_named o n), length-arguments s free m p args)

-- a call whose numbers aren't evaluated
pub call_alone_put : (s : Setting) (free : ℕ) (m : Mark) (l0 l1 : List CodeLine) (f : Bytes) (args : Arguments) (own : List Instr) → own ≡ call_instrs s f (text_in args) (array_argument s args) (builtin_named f) → takes_numbers (array_argument s args) (builtin_named f) ≡ false → l1 ≡ l0 ++ straight m own → l1 ≡ l0 ++ call_code s free m (length l0) f args
call_alone_put s free m l0 l1 f args own is takes put =
    let C = call_instrs s f (text_in args) (array_argument s args) (builtin_named f) in
    let A = arguments_code s free m (length l0) args in
    let T = straight (raised (numbers_in args) m) C in
    put ∙ ap (λ i. l0 ++ straight m i) is ∙ ap (λ b. l0 ++ (if b then (A ++ T) else straight m C)) (sym takes)

module _ (s : Setting) (free : ℕ) (m : Mark) (l0 l1 l2 : List CodeLine) where
  -- a call whose numbers are evaluated
  pub call_taken : (f : Bytes) (args : Arguments) (above : Mark) (own : List Instr) → l1 ≡ l0 ++ arguments_code s free m (length l0) args → above ≡ raised (numbers_in args) m → own ≡ call_instrs s f (text_in args) (array_argument s args) (builtin_named f) → takes_numbers (array_argument s args) (builtin_named f) ≡ true → l2 ≡ l1 ++ straight above own → l2 ≡ l0 ++ call_code s free m (length l0) f args
  call_taken f args above own first same is takes second =
      let C = call_instrs s f (text_in args) (array_argument s args) (builtin_named f) in
      let A = arguments_code s free m (length l0) args in
      let T = straight (raised (numbers_in args) m) C in
      let last : l2 ≡ l1 ++ T = cc in
      then_put l0 l1 l2 A T first last ∙ ap (λ b. l0 ++ (if b then (A ++ T) else straight m C)) (sym takes)

  -- a call of a method
  pub method_put : (o n text : Bytes) (args : Arguments) (above : Mark) (method' : Option Operation) → l1 ≡ l0 ++ arguments_code s free m (length l0) args → length l1 ≡ length l0 + arguments_size s args → above ≡ raised (numbers_in args) m → text ≡ text_in args → method' ≡ method_named o n → l2 ≡ l1 ++ straight above (method_instrs s free (length l1) text method') → l2 ≡ l0 ++ method_code s free m (length l0) o n args
  method_put o n text args above method' first longer_first same words found second =
      let A = arguments_code s free m (length l0) args in
      let T = straight (raised (numbers_in args) m) (method_instrs s free (length l0 + arguments_size s args) (text_in args) (method_named o n)) in
      let last : l2 ≡ l1 ++ T = cc in
      then_put l0 l1 l2 A T first last

module _ (s : Setting) (free : ℕ) (m : Mark) (l0 l1 l2 l3 : List CodeLine) where
  -- an operator behind its operands
  pub binary_put : (op : BinaryOperator) (a b : Expression) (m1 m2 : Mark) (kind : ValueType) → l1 ≡ l0 ++ expression_code s free m (length l0) a → length l1 ≡ length l0 + expression_size s a → m1 ≡ raised 1 m → l2 ≡ l1 ++ expression_code s free m1 (length l1) b → m2 ≡ raised 2 m → kind ≡ wrapped_type op (literal a) (literal b) (type_of s.scope (binary op a b)) → l3 ≡ l2 ++ straight m2 (operator_instrs op kind) → l3 ≡ l0 ++ expression_code s free m (length l0) (binary op a b)
  binary_put op a b m1 m2 kind first longer_first same1 second same2 same_kind last =
      let A = expression_code s free m (length l0) a in
      let B = expression_code s free (raised 1 m) (length l0 + expression_size s a) b in
      let T = straight (raised 2 m) (operator_instrs op (wrapped_type op (literal a) (literal b) (type_of s.scope (binary op a b)))) in
      let all : l3 ≡ ((l0 ++ A) ++ B) ++ T = cc in
      let flat : ((l0 ++ A) ++ B) ++ T ≡ l0 ++ ((A ++ B) ++ T) = simp append_assoc in
      all ∙ flat

  -- a comparison behind its operands
  pub compare_put : (op : Comparison) (a b : Expression) (m1 m2 : Mark) → l1 ≡ l0 ++ expression_code s free m (length l0) a → length l1 ≡ length l0 + expression_size s a → m1 ≡ raised 1 m → l2 ≡ l1 ++ expression_code s free m1 (length l1) b → m2 ≡ raised 2 m → l3 ≡ l2 ++ straight m2 (comparison_instrs op) → l3 ≡ l0 ++ expression_code s free m (length l0) (compare op a b)
  compare_put op a b m1 m2 first longer_first same1 second same2 last =
      let A = expression_code s free m (length l0) a in
      let B = expression_code s free (raised 1 m) (length l0 + expression_size s a) b in
      let T = straight (raised 2 m) (comparison_instrs op) in
      let all : l3 ≡ ((l0 ++ A) ++ B) ++ T = cc in
      let flat : ((l0 ++ A) ++ B) ++ T ≡ l0 ++ ((A ++ B) ++ T) = simp append_assoc in
      all ∙ flat

  -- `or`: the second operand behind the test
  pub or_put : (a b : Expression) (n : ℕ) → l1 ≡ l0 ++ expression_code s free m (length l0) a → length l1 ≡ length l0 + expression_size s a → n ≡ expression_size s b → l2 ≡ l1 ++ line (raised 1 m) (I.JumpZero (length l1 + 3)) ∷ line m (I.Const (pos 1)) ∷ line (raised 1 m) (I.Jump (length l1 + 3 + n)) ∷ [] → l3 ≡ l2 ++ expression_code s free m (length l2) b → l3 ≡ l0 ++ expression_code s free m (length l0) (disjunction a b)
  or_put a b n first longer_first size test second =
      let A = expression_code s free m (length l0) a in
      let B = expression_code s free m (length l0 + expression_size s a + 3) b in
      let x = line (raised 1 m) (I.JumpZero (length l0 + expression_size s a + 3)) in
      let y = line m (I.Const (pos 1)) in
      let z = line (raised 1 m) (I.Jump (length l0 + expression_size s a + 3 + expression_size s b)) in
      let three : l2 ≡ l1 ++ x ∷ y ∷ z ∷ [] = cc in
      let at : length l2 ≡ length l0 + expression_size s a + 3 = omega (arith, ap length three, length-append l1 (x ∷ y ∷ z ∷ []), longer_first) in
      let all : l3 ≡ ((l0 ++ A) ++ x ∷ y ∷ z ∷ []) ++ B = cc in
      let flat : ((l0 ++ A) ++ x ∷ y ∷ z ∷ []) ++ B ≡ l0 ++ (A ++ x ∷ y ∷ z ∷ B) = simp append_assoc in
      all ∙ flat

  -- `and`: the second operand behind the test, and the end
  pub and_put : (a b : Expression) (n : ℕ) (l4 : List CodeLine) → l1 ≡ l0 ++ expression_code s free m (length l0) a → length l1 ≡ length l0 + expression_size s a → n ≡ expression_size s b → l2 ≡ l1 ++ line (raised 1 m) (I.JumpZero (length l1 + 1 + n + 1)) ∷ [] → l3 ≡ l2 ++ expression_code s free m (length l2) b → length l3 ≡ length l2 + expression_size s b → l4 ≡ l3 ++ line (raised 1 m) (I.Jump (length l3 + 2)) ∷ line m (I.Const (pos 0)) ∷ [] → l4 ≡ l0 ++ expression_code s free m (length l0) (conjunction a b)
  and_put a b n l4 first longer_first size test second longer_second end =
      let p = length l0 in
      let sa = expression_size s a in
      let sb = expression_size s b in
      let A = expression_code s free m p a in
      let B = expression_code s free m (p + sa + 1) b in
      let x = line (raised 1 m) (I.JumpZero (p + sa + 1 + sb + 1)) in
      let y = line (raised 1 m) (I.Jump (p + sa + 1 + sb + 2)) in
      let z = line m (I.Const (pos 0)) in
      let one : l2 ≡ l1 ++ x ∷ [] = cc in
      let at : length l2 ≡ p + sa + 1 = omega (arith, ap length one, length-append l1 (x ∷ []), longer_first) in
      let behind : length l3 ≡ p + sa + 1 + sb = omega (arith, longer_second, at) in
      let all : l4 ≡ (((l0 ++ A) ++ x ∷ []) ++ B) ++ y ∷ z ∷ [] = cc in
      let flat : (((l0 ++ A) ++ x ∷ []) ++ B) ++ y ∷ z ∷ [] ≡ l0 ++ ((A ++ x ∷ B) ++ y ∷ z ∷ []) = simp append_assoc in
      all ∙ flat

-- a call, or one in parentheses
abbrev pub is_call : Expression → Bool
is_call (group e) = true
is_call (call f args) = true
is_call (method o n args) = true
is_call e = false

-- the value of any other expression is dropped behind it
other_effect : (s : Setting) (free : ℕ) (m : Mark) (p : ℕ) (e : Expression) → is_call e ≡ false → effect_code s free m p e ≡ expression_code s free m p e ++ dropped m true
other_effect s free m p (integer n) other = refl
other_effect s free m p true_literal other = refl
other_effect s free m p false_literal other = refl
other_effect s free m p (variable x) other = refl
other_effect s free m p (element x i) other = refl
other_effect s free m p (group e) other = absurd (false≢true (sym other))
other_effect s free m p (unary op e) other = refl
other_effect s free m p (binary op a b) other = refl
other_effect s free m p (compare op a b) other = refl
other_effect s free m p (negation e) other = refl
other_effect s free m p (conjunction a b) other = refl
other_effect s free m p (disjunction a b) other = refl
other_effect s free m p (call f args) other = absurd (false≢true (sym other))
other_effect s free m p (method o n args) other = absurd (false≢true (sym other))

-- what holds where a function that is called last succeeds
pub on_ok : {T E : Type 0} (result : Result T E) {P Q : Type 0} → (P → Q) → OnOk result P → OnOk result Q
on_ok (Ok x) next p = next p
on_ok (Err e) next p = p

module _ (s : Setting) (free : ℕ) (m : Mark) (l0 l1 l2 : List CodeLine) where
  -- a call by name whose value isn't wanted
  pub call_dropped : (f : Bytes) (args : Arguments) (has : Bool) → l1 ≡ l0 ++ call_code s free m (length l0) f args → has ≡ call_has_value s f (builtin_named f) → l2 ≡ l1 ++ dropped m has → l2 ≡ l0 ++ effect_code s free m (length l0) (call f args)
  call_dropped f args has first same second =
      then_put l0 l1 l2 (call_code s free m (length l0) f args) (dropped m (call_has_value s f (builtin_named f))) first (second ∙ ap (λ b. l1 ++ dropped m b) same)

  -- a call of a method
  pub method_dropped : (o n : Bytes) (args : Arguments) (has : Bool) → l1 ≡ l0 ++ method_code s free m (length l0) o n args → has ≡ method_has_value (method_named o n) → l2 ≡ l1 ++ dropped m has → l2 ≡ l0 ++ effect_code s free m (length l0) (method o n args)
  method_dropped o n args has first same second =
      then_put l0 l1 l2 (method_code s free m (length l0) o n args) (dropped m (method_has_value (method_named o n))) first (second ∙ ap (λ b. l1 ++ dropped m b) same)

  -- any other expression
  pub value_dropped : (e : Expression) → is_call e ≡ false → l1 ≡ l0 ++ expression_code s free m (length l0) e → l2 ≡ l1 ++ dropped m true → l2 ≡ l0 ++ effect_code s free m (length l0) e
  value_dropped e other first second =
      then_put l0 l1 l2 (expression_code s free m (length l0) e) (dropped m true) first second ∙ ap (λ l. l0 ++ l) (sym (other_effect s free m (length l0) e other))

-- the lines after the code of an effect are as many more as its size says
pub effect_longer : (s : Setting) (free : ℕ) (m : Mark) (p : ℕ) (e : Expression) (before after : List CodeLine) → after ≡ before ++ effect_code s free m p e → length after ≡ length before + effect_size s e
effect_longer s free m p e before after eq =
    omega (arith, ap length eq, length-append before (effect_code s free m p e), length-effect s free m p e)
