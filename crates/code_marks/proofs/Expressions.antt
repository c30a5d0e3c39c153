-- The code of expressions is marked rightly.
use Rattle.std.proofs.Common.{◌≡◌, ℕ, ◌+◌, ◌≤◌, List, [], ◌∷◌, ◌++◌, length, Option, Some, None, refl, ◌∙◌, ap, arith, length-append}
use Rattle.std.specs.Prelude.{Bool, true, false, pos, neg_ℤ, is_some, unwrap_or, if◌then◌else◌}
use Rattle.kern_syntax.specs.declared.expression.UnaryOperator.{UnaryOperator}
use Rattle.kern_syntax.specs.Tree.{Bytes, Expression, integer, true_literal, false_literal, variable, element, group, unary, binary, compare, negation, conjunction, disjunction, call, method, Arguments, no_more, value_then, text_then}
use Rattle.kern_calls.specs.declared.calls.Builtin.{Builtin}
use Rattle.kern_calls.specs.declared.calls.Operation.{Operation}
use Rattle.kern_calls.specs.Calls.{look_up, builtin_named, method_named}
use Rattle.kern_calls.specs.Types.{type_of}
use Rattle.timeline_sem.specs.Expressions.{text_in}
use Rattle.core_isa.specs.declared.code.Code.{Code}
use Rattle.core_isa.specs.declared.code.CodeFunction.{CodeFunction}
use Rattle.core_isa.specs.declared.code.Mark.{Mark}
use Rattle.core_isa.specs.declared.instr.Instr.{Instr}
use Rattle.core_isa.specs.declared.instr.Instr.TheVariants as I
use Rattle.core_isa.specs.Marks.{HasName, after}
use Rattle.code_forms.specs.ExpressionCode.{numbers_in, filled, unary_lines, expression_code, arguments_code, call_code, method_code}
use Rattle.code_forms.specs.Lines.{line, raised, straight}
use Rattle.code_forms.specs.Operations.{unary_instrs, literal, negated, operator_instrs, comparison_instrs, not_instrs, load_instr, call_instrs, call_has_value, takes_numbers, array_argument, method_instrs, method_has_value, wrapped_type}
use Rattle.code_forms.specs.Setting as C
use Rattle.code_forms.specs.Setting.{slot_of, length_of, index_of_text}
use Rattle.code_forms.specs.Sizes.{unless, unary_size, expression_size, arguments_size, call_size, method_size}
use Rattle.code_forms.specs.StatementCode.{result_mark}
use Rattle.code_forms.specs.Suited.{IsSuited, AreSuited, HasWhatItTakes, MethodHasWhatItTakes, operation_numbers, operation_takes_text, call_is_live, method_is_live, IsStill}
use Rattle.code_forms.specs.Texts.{expression_texts, argument_texts}
use Rattle.code_forms.proofs.Lengths.{length-method, length-expression, length-arguments}
use Rattle.code_forms.proofs.StatementLengths.{length-call, length-method_code}
use Rattle.code_marks.proofs.Calls.{numbers_part, array_part}
use Rattle.code_marks.proofs.Channels.{named_fits}
use Rattle.code_marks.proofs.Held.{Held, IsOutside, HasTexts, in_front, in_back, its_name, has_array}
use Rattle.code_marks.proofs.Instructions.{simple, jump, test}
use Rattle.code_marks.proofs.Methods.{method_part}
use Rattle.code_marks.proofs.Operators.{operates, negates, turns_over, compares, loads}
use Rattle.code_marks.proofs.Parts.{HasMark, StandIn, Part, Gives, same_mark, first_lines, second_lines, stand_as, mark_of, has_as, nothing, followed, part_to, one_part, straight_to}

-- an expression's code is marked rightly: it leaves one operand more
module _ (code : Code) (k : ℕ) (f : CodeFunction) (cs : C.Setting) (plain : List Bytes) (held : Held code f cs plain) (free : ℕ) (room : free + 1 ≤ f.slots) (d : Bool) where
  -- a 0 where a call has no value
  pub filled_part : (b : Bool) (place : ℕ) (mark : Mark) → StandIn code k place (filled mark b) → Part code k f place (place + unless b) (result_mark b mark) (raised 1 mark)
  filled_part true place mark s = part_to code k f (omega arith) refl (nothing code k f place (raised 1 mark))
  filled_part false place mark s =
      part_to code k f refl (same_mark _ _ (omega arith) refl refl) (one_part code k f place mark (after mark 0 1) (I.Const (pos 0)) s.0 s.1 (simple code k f (I.Const (pos 0)) refl tt (omega arith)))

  -- a call, given its arguments' code
  pub call_by : (name : Bytes) (args : Arguments) (o : Option Builtin) (place : ℕ) (mark : Mark) (takes : Bool) → takes_numbers (array_argument cs args) o ≡ takes → HasWhatItTakes cs plain d name args (array_argument cs args) o → IsStill d (call_is_live o) → HasTexts cs (argument_texts args) → IsOutside f d mark → (takes ≡ true → StandIn code k place (arguments_code cs free mark place args) → Part code k f place (place + arguments_size cs args) mark (raised (numbers_in args) mark)) → StandIn code k place (if takes then (arguments_code cs free mark place args ++ straight (raised (numbers_in args) mark) (call_instrs cs name (text_in args) (array_argument cs args) o)) else straight mark (call_instrs cs name (text_in args) (array_argument cs args) o)) → Part code k f place (place + ((if takes then arguments_size cs args else 0) + length (call_instrs cs name (text_in args) (array_argument cs args) o))) mark (result_mark (call_has_value cs name o) mark)
  call_by name args o place mark true e has still texts outside numbers s =
      let a = arguments_code cs free mark place args in
      let is = call_instrs cs name (text_in args) (array_argument cs args) o in
      let b = straight (raised (numbers_in args) mark) is in
      let first = numbers refl (first_lines code k place a b s) in
      let second = numbers_part code k f cs plain held d name args texts (array_argument cs args) o (place + arguments_size cs args) mark e has outside still (second_lines code k place (arguments_size cs args) a b (length-arguments cs free mark place args) s) in
      part_to code k f (omega arith) refl (followed code k f refl refl first second)
  call_by name args o place mark false e has still texts outside numbers s =
      part_to code k f (omega arith) refl (array_part code k f cs plain held d name args texts (array_argument cs args) o place mark e has outside still s)

  -- what a method has, by its name
  method_numbers : (args : Arguments) (o : Option Operation) → MethodHasWhatItTakes args o → (op : Operation) → o ≡ Some op → numbers_in args ≡ operation_numbers op
  method_numbers args None has op e = absurd has
  method_numbers args (Some op') has op e = has.0 ∙ ap (λ o. operation_numbers (unwrap_or o op')) e

  method_there : (args : Arguments) (o : Option Operation) → MethodHasWhatItTakes args o → is_some o ≡ true
  method_there args None has = absurd has
  method_there args (Some op) has = refl

  method_named_text : (args : Arguments) (o : Option Operation) → MethodHasWhatItTakes args o → HasTexts cs (argument_texts args) → (op : Operation) → o ≡ Some op → operation_takes_text op ≡ true → HasName code (index_of_text cs (text_in args))
  method_named_text args None has texts op e takes = absurd has
  method_named_text args (Some op') has texts op e takes =
      its_name code f cs plain held args (text_in args) (has.1 (ap (λ o. operation_takes_text (unwrap_or o op')) e ∙ takes)) texts

  pub method_by : (o m : Bytes) (args : Arguments) (place : ℕ) (mark : Mark) → MethodHasWhatItTakes args (method_named o m) → IsStill d (method_is_live (method_named o m)) → HasTexts cs (argument_texts args) → IsOutside f d mark → (StandIn code k place (arguments_code cs free mark place args) → Part code k f place (place + arguments_size cs args) mark (raised (numbers_in args) mark)) → StandIn code k place (method_code cs free mark place o m args) → Part code k f place (place + method_size cs o m args) mark (result_mark (method_has_value (method_named o m)) mark)
  method_by o m args place mark has still texts outside numbers s =
      let at = place + arguments_size cs args in
      let a = arguments_code cs free mark place args in
      let is = method_instrs cs free at (text_in args) (method_named o m) in
      let b = straight (raised (numbers_in args) mark) is in
      let first = numbers (first_lines code k place a b s) in
      let second = method_part code k f cs d free (numbers_in args) (text_in args) room (method_named o m) at mark (method_numbers args (method_named o m) has) (method_there args (method_named o m) has) (λ op e. named_fits o m op e) (method_named_text args (method_named o m) has texts) outside still (second_lines code k place (arguments_size cs args) a b (length-arguments cs free mark place args) s) in
      let long = length-method cs free at (text_in args) (method_named o m) in
      part_to code k f (omega (arith, long)) refl (followed code k f refl refl first second)

  -- what is done with one operand
  pub one_operand : (e : Expression) (place : ℕ) (mark next : Mark) (is : List Instr) → (StandIn code k place (expression_code cs free mark place e) → Part code k f place (place + expression_size cs e) mark (raised 1 mark)) → Gives code k f (place + expression_size cs e) (raised 1 mark) is next → StandIn code k place (expression_code cs free mark place e ++ straight (raised 1 mark) is) → Part code k f place (place + (expression_size cs e + length is)) mark next
  one_operand e place mark next is operand gives s =
      let a = expression_code cs free mark place e in
      let b = straight (raised 1 mark) is in
      let s' = second_lines code k place (expression_size cs e) a b (length-expression cs free mark place e) s in
      let second = straight_to code k f (place + expression_size cs e) (raised 1 mark) next is s' gives in
      part_to code k f (omega arith) refl (followed code k f refl refl (operand (first_lines code k place a b s)) second)

  -- `-` and `~`, which may be one number
  unary_part : (op : UnaryOperator) (e : Expression) (o : Option ℕ) (place : ℕ) (mark : Mark) → (StandIn code k place (expression_code cs free mark place e) → Part code k f place (place + expression_size cs e) mark (raised 1 mark)) → StandIn code k place (unary_lines mark o (expression_code cs free mark place e) (unary_instrs op (type_of cs.scope e))) → Part code k f place (place + unary_size o (expression_size cs e) (length (unary_instrs op (type_of cs.scope e)))) mark (raised 1 mark)
  unary_part op e (Some n) place mark operand s =
      part_to code k f refl (same_mark _ _ (omega arith) refl refl) (one_part code k f place mark (after mark 0 1) (I.Const (neg_ℤ (pos n))) s.0 s.1 (simple code k f (I.Const (neg_ℤ (pos n))) refl tt (omega arith)))
  unary_part op e None place mark operand s =
      let t = type_of cs.scope e in
      let g = negates code k f op t (place + expression_size cs e) (raised 1 mark) (omega arith) in
      one_operand e place mark (raised 1 mark) (unary_instrs op t) operand (g.0, g.1 ∙ same_mark _ _ (omega arith) refl refl) s

  -- and with two
  pub two_operands : (x y : Expression) (place : ℕ) (mark next : Mark) (is : List Instr) → (StandIn code k place (expression_code cs free mark place x) → Part code k f place (place + expression_size cs x) mark (raised 1 mark)) → (StandIn code k (place + expression_size cs x) (expression_code cs free (raised 1 mark) (place + expression_size cs x) y) → Part code k f (place + expression_size cs x) (place + expression_size cs x + expression_size cs y) (raised 1 mark) (raised 1 (raised 1 mark))) → Gives code k f (place + expression_size cs x + expression_size cs y) (raised 2 mark) is next → StandIn code k place (expression_code cs free mark place x ++ expression_code cs free (raised 1 mark) (place + expression_size cs x) y ++ straight (raised 2 mark) is) → Part code k f place (place + (expression_size cs x + (expression_size cs y + length is))) mark next
  two_operands x y place mark next is first second gives s =
      let n = expression_size cs x in
      let m = expression_size cs y in
      let a = expression_code cs free mark place x in
      let b = expression_code cs free (raised 1 mark) (place + n) y in
      let c = straight (raised 2 mark) is in
      let long : length (a ++ b) ≡ n + m = omega (arith, length-append a b, length-expression cs free mark place x, length-expression cs free (raised 1 mark) (place + n) y) in
      let front = first_lines code k place (a ++ b) c s in
      let s' = stand_as code k c (let same : place + (n + m) ≡ place + n + m = omega arith in same) (second_lines code k place (n + m) (a ++ b) c long s) in
      let pa = first (first_lines code k place a b front) in
      let pb = second (second_lines code k place n a b (length-expression cs free mark place x) front) in
      let pc = straight_to code k f (place + n + m) (raised 2 mark) next is s' gives in
      let mark_two : raised 1 (raised 1 mark) ≡ raised 2 mark = same_mark _ _ (omega arith) refl refl in
      part_to code k f (omega arith) refl (followed code k f refl refl pa (followed code k f refl mark_two pb pc))

  -- an `and`: where the first is 0, so is the result
  conjunction_part : (x y : Expression) (place : ℕ) (mark : Mark) → (StandIn code k place (expression_code cs free mark place x) → Part code k f place (place + expression_size cs x) mark (raised 1 mark)) → (StandIn code k (place + expression_size cs x + 1) (expression_code cs free mark (place + expression_size cs x + 1) y) → Part code k f (place + expression_size cs x + 1) (place + expression_size cs x + 1 + expression_size cs y) mark (raised 1 mark)) → StandIn code k place (expression_code cs free mark place (conjunction x y)) → Part code k f place (place + expression_size cs (conjunction x y)) mark (raised 1 mark)
  conjunction_part x y place mark first second s has =
      let n = expression_size cs x in
      let m = expression_size cs y in
      let otherwise = place + n + 1 + m + 1 in
      let end = place + n + 1 + m + 2 in
      let a = expression_code cs free mark place x in
      let b = expression_code cs free mark (place + n + 1) y in
      let test_line = line (raised 1 mark) (I.JumpZero otherwise) in
      let last = line (raised 1 mark) (I.Jump end) ∷ line mark (I.Const (pos 0)) ∷ [] in
      let long : length (a ++ test_line ∷ b) ≡ n + 1 + m = omega (arith, length-append a (test_line ∷ b), length-expression cs free mark place x, length-expression cs free mark (place + n + 1) y) in
      let front = first_lines code k place (a ++ test_line ∷ b) last s in
      let middle = second_lines code k place n a (test_line ∷ b) (length-expression cs free mark place x) front in
      let back = stand_as code k last (let same : place + (n + 1 + m) ≡ place + n + 1 + m = omega arith in same) (second_lines code k place (n + 1 + m) (a ++ test_line ∷ b) last long s) in
      let at_zero : HasMark code k otherwise (after (raised 1 mark) 1 0) = has_as code k refl (same_mark _ _ (omega arith) refl refl) (mark_of code k otherwise mark (I.Const (pos 0)) back.2.0 back.2.1) in
      let at_end : HasMark code k end (raised 1 mark) = has_as code k (omega arith) refl has in
      let pa = first (first_lines code k place a (test_line ∷ b) front) in
      let pt = one_part code k f (place + n) (raised 1 mark) (after (raised 1 mark) 1 0) (I.JumpZero otherwise) middle.0 middle.1 (test code k f otherwise (omega arith) (omega arith) at_zero) in
      let pb = second middle.2 in
      let pj = one_part code k f (place + n + 1 + m) (raised 1 mark) mark (I.Jump end) back.0 back.1 (jump code k f end (omega arith) at_end) in
      let pz = one_part code k f otherwise mark (after mark 0 1) (I.Const (pos 0)) back.2.0 back.2.1 (simple code k f (I.Const (pos 0)) refl tt (omega arith)) in
      let rest = followed code k f refl (same_mark _ _ (omega arith) refl refl) pt (followed code k f refl refl pb (followed code k f refl refl pj pz)) in
      part_to code k f (omega arith) (same_mark _ _ (omega arith) refl refl) (followed code k f refl refl pa rest) has

  -- an `or`: where the first isn't 0, the result is 1
  disjunction_part : (x y : Expression) (place : ℕ) (mark : Mark) → (StandIn code k place (expression_code cs free mark place x) → Part code k f place (place + expression_size cs x) mark (raised 1 mark)) → (StandIn code k (place + expression_size cs x + 3) (expression_code cs free mark (place + expression_size cs x + 3) y) → Part code k f (place + expression_size cs x + 3) (place + expression_size cs x + 3 + expression_size cs y) mark (raised 1 mark)) → StandIn code k place (expression_code cs free mark place (disjunction x y)) → Part code k f place (place + expression_size cs (disjunction x y)) mark (raised 1 mark)
  disjunction_part x y place mark first second s has =
      let n = expression_size cs x in
      let m = expression_size cs y in
      let right = place + n + 3 in
      let end = place + n + 3 + m in
      let a = expression_code cs free mark place x in
      let b = expression_code cs free mark right y in
      let test_line = line (raised 1 mark) (I.JumpZero right) in
      let one_line = line mark (I.Const (pos 1)) in
      let over = line (raised 1 mark) (I.Jump end) in
      let back = second_lines code k place n a (test_line ∷ one_line ∷ over ∷ b) (length-expression cs free mark place x) s in
      let pb = second (stand_as code k b (let same : place + n + 1 + 1 + 1 ≡ right = omega arith in same) back.2.2.2) in
      let at_end : HasMark code k end (raised 1 mark) = has_as code k (omega arith) refl has in
      let at_right = (pb at_end).0 in
      let pa = first (first_lines code k place a (test_line ∷ one_line ∷ over ∷ b) s) in
      let pt = one_part code k f (place + n) (raised 1 mark) (after (raised 1 mark) 1 0) (I.JumpZero right) back.0 back.1 (test code k f right (omega arith) (omega arith) (has_as code k refl (same_mark _ _ (omega arith) refl refl) at_right)) in
      let po = one_part code k f (place + n + 1) mark (after mark 0 1) (I.Const (pos 1)) back.2.0 back.2.1 (simple code k f (I.Const (pos 1)) refl tt (omega arith)) in
      let pj = one_part code k f (place + n + 1 + 1) (raised 1 mark) mark (I.Jump end) back.2.2.0 back.2.2.1 (jump code k f end (omega arith) at_end) in
      let rest = followed code k f refl (same_mark _ _ (omega arith) refl refl) pt (followed code k f refl (same_mark _ _ (omega arith) refl refl) po (followed code k f (omega arith) refl pj pb)) in
      part_to code k f (omega arith) refl (followed code k f refl refl pa rest) has

  mutual
    pub expression_part : (e : Expression) → IsSuited cs plain d e → HasTexts cs (expression_texts e) → (mark : Mark) → IsOutside f d mark → (place : ℕ) → StandIn code k place (expression_code cs free mark place e) → Part code k f place (place + expression_size cs e) mark (raised 1 mark)
    expression_part (integer n) r t mark o place s =
        part_to code k f refl (same_mark _ _ (omega arith) refl refl) (one_part code k f place mark (after mark 0 1) (I.Const (pos n)) s.0 s.1 (simple code k f (I.Const (pos n)) refl tt (omega arith)))
    expression_part true_literal r t mark o place s =
        part_to code k f refl (same_mark _ _ (omega arith) refl refl) (one_part code k f place mark (after mark 0 1) (I.Const (pos 1)) s.0 s.1 (simple code k f (I.Const (pos 1)) refl tt (omega arith)))
    expression_part false_literal r t mark o place s =
        part_to code k f refl (same_mark _ _ (omega arith) refl refl) (one_part code k f place mark (after mark 0 1) (I.Const (pos 0)) s.0 s.1 (simple code k f (I.Const (pos 0)) refl tt (omega arith)))
    expression_part (variable x) r t mark o place s =
        let g = loads code k f cs plain held x (look_up cs.scope.names x) refl place mark in
        part_to code k f refl (same_mark _ _ (omega arith) refl refl) (straight_to code k f place mark (after mark 0 1) (load_instr cs x (look_up cs.scope.names x) ∷ []) s g)
    expression_part (element x i) r t mark o place s =
        let a = expression_code cs free mark place i in
        let b = line (raised 1 mark) (I.LoadAt (slot_of cs x) (length_of cs x)) ∷ [] in
        let first = expression_part i r.2 t mark o place (first_lines code k place a b s) in
        let s' = second_lines code k place (expression_size cs i) a b (length-expression cs free mark place i) s in
        let second = one_part code k f (place + expression_size cs i) (raised 1 mark) (after (raised 1 mark) 1 1) (I.LoadAt (slot_of cs x) (length_of cs x)) s'.0 s'.1 (simple code k f (I.LoadAt (slot_of cs x) (length_of cs x)) refl (has_array code f cs plain held x r.0 r.1) (omega arith)) in
        part_to code k f (omega arith) (same_mark _ _ (omega arith) refl refl) (followed code k f refl refl first second)
    expression_part (group e) r t mark o place s = expression_part e r t mark o place s
    expression_part (unary op e) r t mark o place s =
        unary_part op e (negated op (literal e)) place mark (expression_part e r t mark o place) s
    expression_part (binary op x y) r t mark o place s =
        let t' = wrapped_type op (literal x) (literal y) (type_of cs.scope (binary op x y)) in
        let g = operates code k f op t' (place + expression_size cs x + expression_size cs y) (raised 2 mark) (omega arith) in
        two_operands x y place mark (raised 1 mark) (operator_instrs op t') (expression_part x r.0 (in_front cs (expression_texts x) (expression_texts y) t) mark o place) (expression_part y r.1 (in_back cs (expression_texts x) (expression_texts y) t) (raised 1 mark) o (place + expression_size cs x)) (g.0, g.1 ∙ same_mark _ _ (omega arith) refl refl) s
    expression_part (compare op x y) r t mark o place s =
        let g = compares code k f op (place + expression_size cs x + expression_size cs y) (raised 2 mark) (omega arith) in
        two_operands x y place mark (raised 1 mark) (comparison_instrs op) (expression_part x r.0 (in_front cs (expression_texts x) (expression_texts y) t) mark o place) (expression_part y r.1 (in_back cs (expression_texts x) (expression_texts y) t) (raised 1 mark) o (place + expression_size cs x)) (g.0, g.1 ∙ same_mark _ _ (omega arith) refl refl) s
    expression_part (negation e) r t mark o place s =
        one_operand e place mark (raised 1 mark) not_instrs (expression_part e r t mark o place) (turns_over code k f (place + expression_size cs e) (raised 1 mark) (omega arith)) s
    expression_part (conjunction x y) r t mark o place s =
        conjunction_part x y place mark (expression_part x r.0 (in_front cs (expression_texts x) (expression_texts y) t) mark o place) (expression_part y r.1 (in_back cs (expression_texts x) (expression_texts y) t) mark o (place + expression_size cs x + 1)) s
    expression_part (disjunction x y) r t mark o place s =
        disjunction_part x y place mark (expression_part x r.0 (in_front cs (expression_texts x) (expression_texts y) t) mark o place) (expression_part y r.1 (in_back cs (expression_texts x) (expression_texts y) t) mark o (place + expression_size cs x + 3)) s
    expression_part (call name args) r t mark o place s =
        let b = call_has_value cs name (builtin_named name) in
        let c = call_code cs free mark place name args in
        let first = call_by name args (builtin_named name) place mark (takes_numbers (array_argument cs args) (builtin_named name)) refl r.1 r.3 t o (λ e. arguments_part args (r.2 e) t mark o place) (first_lines code k place c (filled mark b) s) in
        let second = filled_part b (place + call_size cs name args) mark (second_lines code k place (call_size cs name args) c (filled mark b) (length-call cs free mark place name args) s) in
        part_to code k f (omega arith) refl (followed code k f refl refl first second)
    expression_part (method ob m args) r t mark o place s =
        let b = method_has_value (method_named ob m) in
        let c = method_code cs free mark place ob m args in
        let first = method_by ob m args place mark r.1 r.3 t o (arguments_part args r.2 t mark o place) (first_lines code k place c (filled mark b) s) in
        let second = filled_part b (place + method_size cs ob m args) mark (second_lines code k place (method_size cs ob m args) c (filled mark b) (length-method_code cs free mark place ob m args) s) in
        part_to code k f (omega arith) refl (followed code k f refl refl first second)

    pub arguments_part : (args : Arguments) → AreSuited cs plain d args → HasTexts cs (argument_texts args) → (mark : Mark) → IsOutside f d mark → (place : ℕ) → StandIn code k place (arguments_code cs free mark place args) → Part code k f place (place + arguments_size cs args) mark (raised (numbers_in args) mark)
    arguments_part no_more r t mark o place s = part_to code k f (omega arith) (same_mark _ _ (omega arith) refl refl) (nothing code k f place mark)
    arguments_part (value_then e rest) r t mark o place s =
        let n = expression_size cs e in
        let a = expression_code cs free mark place e in
        let b = arguments_code cs free (raised 1 mark) (place + n) rest in
        let first = expression_part e r.0 (in_front cs (expression_texts e) (argument_texts rest) t) mark o place (first_lines code k place a b s) in
        let second = arguments_part rest r.1 (in_back cs (expression_texts e) (argument_texts rest) t) (raised 1 mark) o (place + n) (second_lines code k place n a b (length-expression cs free mark place e) s) in
        part_to code k f (omega arith) (same_mark _ _ (omega arith) refl refl) (followed code k f refl refl first second)
    arguments_part (text_then text rest) r t mark o place s = arguments_part rest r (λ some. t (omega (arith, some))) mark o place s
