-- The code of an expression whose value isn't wanted is marked rightly.
use Rattle.std.proofs.Common.{ℕ, ◌+◌, ◌≤◌, List, [], ◌∷◌, ◌++◌, refl, arith}
use Rattle.std.specs.Prelude.{Bool, true, false}
use Rattle.kern_syntax.specs.Tree.{Bytes, Expression, integer, true_literal, false_literal, variable, element, group, unary, binary, compare, negation, conjunction, disjunction, call, method}
use Rattle.kern_calls.specs.Calls.{builtin_named, method_named}
use Rattle.core_isa.specs.declared.code.Code.{Code}
use Rattle.core_isa.specs.declared.code.CodeFunction.{CodeFunction}
use Rattle.core_isa.specs.declared.code.Mark.{Mark}
use Rattle.core_isa.specs.declared.instr.Instr.TheVariants as I
use Rattle.core_isa.specs.Marks.{after}
use Rattle.code_forms.specs.ExpressionCode.{dropped, expression_code, call_code, method_code, effect_code}
use Rattle.code_forms.specs.Lines.{line, raised}
use Rattle.code_forms.specs.Operations.{call_has_value, takes_numbers, array_argument, method_has_value}
use Rattle.code_forms.specs.Setting as C
use Rattle.code_forms.specs.Sizes.{when, expression_size, call_size, method_size, effect_size}
use Rattle.code_forms.specs.StatementCode.{result_mark}
use Rattle.code_forms.specs.Suited.{IsSuited, IsSuitedAlone}
use Rattle.code_forms.specs.Texts.{expression_texts}
use Rattle.code_forms.proofs.StatementLengths.{length-call, length-method_code}
use Rattle.code_marks.proofs.Expressions.{one_operand, call_by, method_by, expression_part, arguments_part}
use Rattle.code_marks.proofs.Held.{Held, IsOutside, HasTexts}
use Rattle.code_marks.proofs.Instructions.{simple}
use Rattle.code_marks.proofs.Parts.{StandIn, Part, same_mark, first_lines, second_lines, nothing, followed, part_to, one_part}

module _ (code : Code) (k : ℕ) (f : CodeFunction) (cs : C.Setting) (plain : List Bytes) (held : Held code f cs plain) (free : ℕ) (room : free + 1 ≤ f.slots) (d : Bool) where
  -- a value that isn't wanted is dropped
  dropped_part : (b : Bool) (place : ℕ) (mark : Mark) → StandIn code k place (dropped mark b) → Part code k f place (place + when b) (result_mark b mark) mark
  dropped_part true place mark s =
      part_to code k f refl (same_mark _ _ (omega arith) refl refl) (one_part code k f place (raised 1 mark) (after (raised 1 mark) 1 0) I.Pop s.0 s.1 (simple code k f I.Pop refl tt (omega arith)))
  dropped_part false place mark s = part_to code k f (omega arith) refl (nothing code k f place mark)

  popped : (e : Expression) → IsSuited cs plain d e → HasTexts cs (expression_texts e) → (mark : Mark) → IsOutside f d mark → (place : ℕ) → StandIn code k place (expression_code cs free mark place e ++ line (raised 1 mark) I.Pop ∷ []) → Part code k f place (place + (expression_size cs e + 1)) mark mark
  popped e r t mark o place s =
      one_operand code k f cs plain held free room d e place mark mark (I.Pop ∷ []) (expression_part code k f cs plain held free room d e r t mark o place) ((simple code k f I.Pop refl tt (omega arith), tt), same_mark _ _ (omega arith) refl refl) s

  pub effect_part : (e : Expression) → IsSuitedAlone cs plain d e → HasTexts cs (expression_texts e) → (mark : Mark) → IsOutside f d mark → (place : ℕ) → StandIn code k place (effect_code cs free mark place e) → Part code k f place (place + effect_size cs e) mark mark
  effect_part (group e) r t mark o place s = effect_part e r t mark o place s
  effect_part (call name args) r t mark o place s =
      let b = call_has_value cs name (builtin_named name) in
      let c = call_code cs free mark place name args in
      let first = call_by code k f cs plain held free room d name args (builtin_named name) place mark (takes_numbers (array_argument cs args) (builtin_named name)) refl r.0 r.2 t o (λ e. arguments_part code k f cs plain held free room d args (r.1 e) t mark o place) (first_lines code k place c (dropped mark b) s) in
      let second = dropped_part b (place + call_size cs name args) mark (second_lines code k place (call_size cs name args) c (dropped mark b) (length-call cs free mark place name args) s) in
      part_to code k f (omega arith) refl (followed code k f refl refl first second)
  effect_part (method ob m args) r t mark o place s =
      let b = method_has_value (method_named ob m) in
      let c = method_code cs free mark place ob m args in
      let first = method_by code k f cs plain held free room d ob m args place mark r.0 r.2 t o (arguments_part code k f cs plain held free room d args r.1 t mark o place) (first_lines code k place c (dropped mark b) s) in
      let second = dropped_part b (place + method_size cs ob m args) mark (second_lines code k place (method_size cs ob m args) c (dropped mark b) (length-method_code cs free mark place ob m args) s) in
      part_to code k f (omega arith) refl (followed code k f refl refl first second)
  effect_part (integer n) r t mark o place s = popped (integer n) r t mark o place s
  effect_part true_literal r t mark o place s = popped true_literal r t mark o place s
  effect_part false_literal r t mark o place s = popped false_literal r t mark o place s
  effect_part (variable x) r t mark o place s = popped (variable x) r t mark o place s
  effect_part (element x i) r t mark o place s = popped (element x i) r t mark o place s
  effect_part (unary op e) r t mark o place s = popped (unary op e) r t mark o place s
  effect_part (binary op a b) r t mark o place s = popped (binary op a b) r t mark o place s
  effect_part (compare op a b) r t mark o place s = popped (compare op a b) r t mark o place s
  effect_part (negation e) r t mark o place s = popped (negation e) r t mark o place s
  effect_part (conjunction a b) r t mark o place s = popped (conjunction a b) r t mark o place s
  effect_part (disjunction a b) r t mark o place s = popped (disjunction a b) r t mark o place s
