-- An expression as a statement: its value, if it has one, is dropped.
use Rattle.std.proofs.Common.{◌≡◌, ℕ, ◌+◌, List, [], ◌∷◌, ◌++◌, length, refl, arith}
use Rattle.std.specs.Prelude.{Bool, true, false, ℤ, ⊤}
use Rattle.rtio_types.specs.declared.request.Reply.{Reply}
use Rattle.kern_syntax.specs.Tree.{Bytes, Expression, integer, true_literal, false_literal, variable, element, group, unary, binary, compare, negation, conjunction, disjunction, call, method}
use Rattle.kern_calls.specs.Calls.{builtin_named, method_named}
use Rattle.timeline_sem.specs.Actions.{Action, skip, ◌>>=◌}
use Rattle.timeline_sem.specs.Expressions.{Callee, expression, text_in}
use Rattle.core_isa.specs.declared.code.Code.{Code}
use Rattle.core_isa.specs.declared.code.CodeLine.{CodeLine}
use Rattle.core_isa.specs.declared.code.Mark.{Mark}
use Rattle.core_isa.specs.declared.instr.Instr.TheVariants as I
use Rattle.code_forms.specs.Setting as C
use Rattle.code_forms.specs.ExpressionCode.{expression_code, arguments_code, effect_code, call_code, method_code, dropped, numbers_in}
use Rattle.code_forms.specs.Lines.{line, raised}
use Rattle.code_forms.specs.Operations.{call_has_value, method_has_value, takes_numbers, array_argument}
use Rattle.code_forms.specs.Sizes.{expression_size, effect_size, arguments_size, call_size, method_size, when}
use Rattle.code_forms.specs.Texts.{expression_texts}
use Rattle.code_forms.proofs.Lengths.{length-expression, length-arguments}
use Rattle.code_forms.proofs.StatementLengths.{length-call, length-method_code}
use Rattle.code_follows.specs.Stands.{holding, Setting, Fits64, result_operands}
use Rattle.code_follows.specs.Parts.{Follows, alone}
use Rattle.code_follows.proofs.Compose.{follows_bind}
use Rattle.code_follows.proofs.Flow.{follows_give}
use Rattle.code_follows.proofs.Instructions.{follows_pop}
use Rattle.code_follows.proofs.Lines.{LinesStand, first_part, second_part, one_line}
use Rattle.code_forms.specs.Suited.{IsSuited, IsSuitedAlone}
use Rattle.code_meaning.proofs.Known.{TextsIn, Known, At, follows_to}
use Rattle.code_meaning.proofs.NamedCalls.{call_text, follows_call_by}
use Rattle.code_meaning.proofs.Expressions.{follows_expression, follows_arguments, follows_method}

module _ (given : List Reply) (code : Code) (cs : C.Setting) (plain : List Bytes) (callee : Callee) (room free : ℕ) (d : Bool) (known : Known given code cs plain callee room) (most : ℕ) where
  -- what has a value or not, and then nothing
  drops : (setting : Setting) (mark : Mark) (place n : ℕ) (value : Bool) (lines : List CodeLine) (action : Action ℤ) → length lines ≡ n → (LinesStand code.lines place lines → Follows given code ⊤ most (alone setting) place (place + n) (holding []) Fits64 (λ v. holding (result_operands value v)) action) → LinesStand code.lines place (lines ++ dropped mark value) → Follows given code ⊤ most (alone setting) place (place + (n + when value)) (holding []) (λ v. ⊤) (λ v. holding []) (action >>= λ a. skip)
  drops setting mark place n true lines action long fc s =
      let pop = line (raised 1 mark) I.Pop ∷ [] in
      let past : place + n + 1 ≡ place + (n + 1) = omega arith in
      let stands = one_line code.lines (place + n) (raised 1 mark) I.Pop [] (second_part code.lines place n lines pop long s) in
      follows_to given code past (follows_bind given code (fc (first_part code.lines place lines pop s)) (λ v. follows_pop given code [] [] v stands))
  drops setting mark place n false lines action long fc s =
      let past : place + n ≡ place + (n + 0) = omega arith in
      follows_to given code past (follows_bind given code (fc (first_part code.lines place lines [] s)) (λ v. follows_give given code {results = λ v. holding []} tt (λ p. tt)))

  -- an expression that has a value
  popped : (e : Expression) → IsSuited cs plain d e → TextsIn cs.texts (expression_texts e) → (mark : Mark) (place : ℕ) → LinesStand code.lines place (expression_code cs free mark place e ++ line (raised 1 mark) I.Pop ∷ []) → (setting : Setting) → At cs room free d setting → Follows given code ⊤ most (alone setting) place (place + (expression_size cs e + 1)) (holding []) (λ v. ⊤) (λ v. holding []) (expression cs.scope callee e >>= λ a. skip)
  popped e r t mark place s setting at =
      drops setting mark place (expression_size cs e) true (expression_code cs free mark place e) (expression cs.scope callee e) (length-expression cs free mark place e) (λ se. follows_expression given code cs plain callee room free d known most e r t mark place se setting at) s

  pub follows_effect : (e : Expression) → IsSuitedAlone cs plain d e → TextsIn cs.texts (expression_texts e) → (mark : Mark) (place : ℕ) → LinesStand code.lines place (effect_code cs free mark place e) → (setting : Setting) → At cs room free d setting → Follows given code ⊤ most (alone setting) place (place + effect_size cs e) (holding []) (λ v. ⊤) (λ v. holding []) (expression cs.scope callee e >>= λ a. skip)
  follows_effect (integer n) r t mark place s setting at = popped (integer n) r t mark place s setting at
  follows_effect true_literal r t mark place s setting at = popped true_literal r t mark place s setting at
  follows_effect false_literal r t mark place s setting at = popped false_literal r t mark place s setting at
  follows_effect (variable x) r t mark place s setting at = popped (variable x) r t mark place s setting at
  follows_effect (element x i) r t mark place s setting at = popped (element x i) r t mark place s setting at
  follows_effect (group e) r t mark place s setting at = follows_effect e r t mark place s setting at
  follows_effect (unary op e) r t mark place s setting at = popped (unary op e) r t mark place s setting at
  follows_effect (binary op a b) r t mark place s setting at = popped (binary op a b) r t mark place s setting at
  follows_effect (compare op a b) r t mark place s setting at = popped (compare op a b) r t mark place s setting at
  follows_effect (negation e) r t mark place s setting at = popped (negation e) r t mark place s setting at
  follows_effect (conjunction a b) r t mark place s setting at = popped (conjunction a b) r t mark place s setting at
  follows_effect (disjunction a b) r t mark place s setting at = popped (disjunction a b) r t mark place s setting at
  follows_effect (call f args) r t mark place s setting at =
      let numbers = arguments_code cs free mark place args in
      let array = array_argument cs args in
      let b = builtin_named f in
      drops setting mark place (call_size cs f args) (call_has_value cs f b) (call_code cs free mark place f args) (expression cs.scope callee (call f args)) (length-call cs free mark place f args) (λ sc. follows_call_by given code cs plain callee room free d known setting at most f args mark (raised (numbers_in args) mark) place (arguments_size cs args) numbers (length-arguments cs free mark place args) array b refl r.0 (λ b' e takes. known.named (text_in args) (call_text cs plain d f args array b r.0 t b' e takes)) (takes_numbers array b) refl (λ e sn. follows_arguments given code cs plain callee room free d known most args (r.1 e) t mark place sn setting at) sc) s
  follows_effect (method o m args) r t mark place s setting at =
      drops setting mark place (method_size cs o m args) (method_has_value (method_named o m)) (method_code cs free mark place o m args) (expression cs.scope callee (method o m args)) (length-method_code cs free mark place o m args) (λ sc. follows_method given code cs plain callee room free d known most setting at mark place args (method_named o m) r.0 t (λ sn. follows_arguments given code cs plain callee room free d known most args r.1 t mark place sn setting at) sc) s
