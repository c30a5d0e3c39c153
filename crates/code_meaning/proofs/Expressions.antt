-- The code of every expression leaves its value, as it is meant.
use Rattle.std.proofs.Common.{◌≡◌, ℕ, ◌+◌, List, [], ◌∷◌, ◌++◌, length, reverse, Option, Some, None, refl, sym, ◌∙◌, ap, subst, arith, length-append}
use Rattle.std.specs.Prelude.{Bool, true, false, ℤ, pos, neg_ℤ, ⊤}
use Rattle.std.proofs.lemmas.Bool.{false≢true}
use Rattle.std.proofs.lemmas.Grind.{reverse_onto}
use Rattle.rtio_types.specs.declared.request.Reply.{Reply}
use Rattle.kern_syntax.specs.declared.expression.UnaryOperator.{UnaryOperator}
use Rattle.kern_syntax.specs.Tree.{Bytes, Expression, integer, true_literal, false_literal, variable, element, group, unary, binary, compare, negation, conjunction, disjunction, call, method, Arguments, no_more, value_then, text_then}
use Rattle.kern_calls.specs.declared.types.ValueType.{ValueType}
use Rattle.kern_calls.specs.declared.types.ValueType.TheVariants as V
use Rattle.kern_calls.specs.declared.calls.Operation.{Operation}
use Rattle.kern_calls.specs.Calls.{look_up, builtin_named, method_named}
use Rattle.kern_calls.specs.Types.{type_of}
use Rattle.timeline_sem.specs.Actions.{Action, give, ◌>>=◌}
use Rattle.timeline_sem.specs.Expressions.{Callee, expression, arguments, text_in, perform_method}
use Rattle.timeline_sem.proofs.Keeps.{keeps_perform}
use Rattle.core_isa.specs.declared.code.Code.{Code}
use Rattle.core_isa.specs.declared.code.CodeLine.{CodeLine}
use Rattle.core_isa.specs.declared.code.Mark.{Mark}
use Rattle.core_isa.specs.declared.instr.Instr.{Instr}
use Rattle.core_isa.specs.declared.instr.Instr.TheVariants as I
use Rattle.code_forms.specs.Setting as C
use Rattle.code_forms.specs.ExpressionCode.{expression_code, arguments_code, unary_lines, call_lines, filled, numbers_in}
use Rattle.code_forms.specs.Lines.{line, raised, straight}
use Rattle.code_forms.specs.Operations.{operator_instrs, unary_instrs, literal, negated, comparison_instrs, not_instrs, wrapping, load_instr, call_has_value, takes_numbers, array_argument, method_instrs, method_has_value, wrapped_type}
use Rattle.code_forms.specs.Sizes.{expression_size, arguments_size, unary_size, call_size, method_size, unless}
use Rattle.code_forms.specs.Texts.{expression_texts, argument_texts}
use Rattle.code_forms.proofs.Lengths.{length-expression, length-arguments}
use Rattle.code_follows.specs.Stands.{Local, holding, Setting, Fits64, AllFit64, result_operands}
use Rattle.code_follows.specs.Parts.{Moved, Follows, Stand, deeper, alone}
use Rattle.code_follows.proofs.Compose.{moved, moves_of, follows_bind, follows_if, follows_same, by_fits}
use Rattle.code_follows.proofs.Beneath.{follows_beneath}
use Rattle.code_follows.proofs.Choices.{follows_conjunction, follows_disjunction, small_fits}
use Rattle.code_follows.proofs.Comparisons.{follows_not, follows_unary, follows_comparison}
use Rattle.code_follows.proofs.Elements.{follows_load_at}
use Rattle.code_follows.proofs.Flow.{follows_give}
use Rattle.code_follows.proofs.Instructions.{follows_const}
use Rattle.code_follows.proofs.Lines.{LinesStand, first_part, second_part, one_line, straight_stands}
use Rattle.code_follows.proofs.Operators.{follows_operator}
use Rattle.code_follows.proofs.Variables.{IsScalar, follows_load}
use Rattle.code_forms.specs.Suited.{is_scalar, MethodHasWhatItTakes, IsSuited, AreSuited}
use Rattle.code_meaning.proofs.Bounded.{wrapped_means}
use Rattle.code_meaning.proofs.Known.{TextsIn, in_front, in_back, its_text, Known, At, at_deeper, follows_to}
use Rattle.code_meaning.proofs.Methods.{follows_operation}
use Rattle.code_meaning.proofs.Negated.{negated_means, negated_fits}
use Rattle.code_meaning.proofs.NamedCalls.{call_text, follows_call_by}

pub scalar : (t : ValueType) → is_scalar t ≡ true → IsScalar t
scalar V.Int32 e = tt
scalar V.Int64 e = tt
scalar V.Bool e = tt
scalar (V.Array n) e = false≢true e

loads : (cs : C.Setting) (x : Bytes) (t : ValueType) → IsScalar t → load_instr cs x (Some t) ≡ I.Load (C.slot_of cs x)
loads cs x V.Int32 i = refl
loads cs x V.Int64 i = refl
loads cs x V.Bool i = refl
loads cs x (V.Array n) i = absurd i

module _ (given : List Reply) (code : Code) (cs : C.Setting) (plain : List Bytes) (callee : Callee) (room free : ℕ) (in_record : Bool) (known : Known given code cs plain callee room) (most : ℕ) where
  -- an expression's code, and its arguments'
  abbrev pub Gives : Setting → ℕ → Expression → Type 0
  Gives setting place e =
      Follows given code ⊤ most (alone setting) place (place + expression_size cs e) (holding []) Fits64 (λ v. holding (v ∷ [])) (expression cs.scope callee e)

  abbrev pub GivesAll : Setting → ℕ → Arguments → Type 0
  GivesAll setting place args =
      Follows given code ⊤ most (alone setting) place (place + arguments_size cs args) (holding []) (λ ns. (length ns ≡ numbers_in args) × AllFit64 ns) (λ ns. holding (reverse ns)) (arguments cs.scope callee args)

  -- an expression with an operand beneath it
  pub over : (setting : Setting) (place : ℕ) (e : Expression) (v : ℤ) → Gives (deeper [] setting) place e → Follows given code ⊤ most (alone setting) place (place + expression_size cs e) (holding (v ∷ [])) Fits64 (λ w. holding (w ∷ v ∷ [])) (expression cs.scope callee e)
  over setting place e v fe =
      follows_beneath given code {setting = alone setting} (holding (v ∷ [])) (tt, λ e. absurd (false≢true e)) fe

  -- one operand, and what is done with it
  pub unary_part : {B : Type 0} (setting : Setting) (mark above : Mark) (place : ℕ) (e : Expression) (is : List Instr) (good : B → Type 0) (results : B → Local) (action : ℤ → Action B) → (LinesStand code.lines place (expression_code cs free mark place e) → Gives setting place e) → ((v : ℤ) → Stand code.lines (place + expression_size cs e) is → Follows given code (⊤ × Fits64 v) most (alone setting) (place + expression_size cs e) (place + expression_size cs e + length is) (holding (v ∷ [])) good results (action v)) → LinesStand code.lines place (expression_code cs free mark place e ++ straight above is) → Follows given code ⊤ most (alone setting) place (place + (expression_size cs e + length is)) (holding []) good results (expression cs.scope callee e >>= action)
  unary_part setting mark above place e is good results action fe fi s =
      let n = expression_size cs e in
      let ce = expression_code cs free mark place e in
      let se = first_part code.lines place ce (straight above is) s in
      let si = straight_stands code.lines (place + n) above is (second_part code.lines place n ce (straight above is) (length-expression cs free mark place e) s) in
      let past : place + n + length is ≡ place + (n + length is) = omega arith in
      follows_to given code past (follows_bind given code (fe se) (λ v. fi v si))

  -- `-` and `~`, which may be one number
  unary_or_number : (setting : Setting) (mark : Mark) (place : ℕ) (op : UnaryOperator) (e : Expression) (o : Option ℕ) → negated op (literal e) ≡ o → IsSuited cs plain in_record e → (LinesStand code.lines place (expression_code cs free mark place e) → Gives setting place e) → LinesStand code.lines place (unary_lines mark o (expression_code cs free mark place e) (unary_instrs op (type_of cs.scope e))) → Follows given code ⊤ most (alone setting) place (place + unary_size o (expression_size cs e) (length (unary_instrs op (type_of cs.scope e)))) (holding []) Fits64 (λ v. holding (v ∷ [])) (expression cs.scope callee (unary op e))
  unary_or_number setting mark place op e (Some n) is r fe s =
      follows_same given code (negated_means cs plain in_record op e n is r callee) (follows_const given code [] [] (neg_ℤ (pos n)) (negated_fits cs plain in_record op e n is r) (one_line code.lines place mark (I.Const (neg_ℤ (pos n))) [] s))
  unary_or_number setting mark place op e None is r fe s =
      unary_part setting mark (raised 1 mark) place e (unary_instrs op (type_of cs.scope e)) Fits64 (λ w. holding (w ∷ [])) _ fe (λ v st. follows_unary given code [] [] op (type_of cs.scope e) v st) s

  -- two operands, and what is done with them
  pub binary_part : {B : Type 0} (setting : Setting) (mark above : Mark) (place : ℕ) (a b : Expression) (is : List Instr) (good : B → Type 0) (results : B → Local) (action : ℤ → ℤ → Action B) → (LinesStand code.lines place (expression_code cs free mark place a) → Gives setting place a) → (LinesStand code.lines (place + expression_size cs a) (expression_code cs free (raised 1 mark) (place + expression_size cs a) b) → Gives (deeper [] setting) (place + expression_size cs a) b) → ((v w : ℤ) → Stand code.lines (place + expression_size cs a + expression_size cs b) is → Follows given code ((⊤ × Fits64 v) × Fits64 w) most (alone setting) (place + expression_size cs a + expression_size cs b) (place + expression_size cs a + expression_size cs b + length is) (holding (w ∷ v ∷ [])) good results (action v w)) → LinesStand code.lines place (expression_code cs free mark place a ++ expression_code cs free (raised 1 mark) (place + expression_size cs a) b ++ straight above is) → Follows given code ⊤ most (alone setting) place (place + (expression_size cs a + (expression_size cs b + length is))) (holding []) good results (expression cs.scope callee a >>= λ v. expression cs.scope callee b >>= action v)
  binary_part setting mark above place a b is good results action fa fb fi s =
      let na = expression_size cs a in
      let nb = expression_size cs b in
      let ca = expression_code cs free mark place a in
      let cb = expression_code cs free (raised 1 mark) (place + na) b in
      let ci = straight above is in
      let front = first_part code.lines place (ca ++ cb) ci s in
      let sa = first_part code.lines place ca cb front in
      let sb = second_part code.lines place na ca cb (length-expression cs free mark place a) front in
      let both : length (ca ++ cb) ≡ na + nb = length-append ca cb ∙ ap (λ n. n + length cb) (length-expression cs free mark place a) ∙ ap (λ n. na + n) (length-expression cs free (raised 1 mark) (place + na) b) in
      let si = second_part code.lines place (na + nb) (ca ++ cb) ci both s in
      let mid : place + (na + nb) ≡ place + na + nb = omega arith in
      let stands = subst (λ p. Stand code.lines p is) mid (straight_stands code.lines (place + (na + nb)) above is si) in
      let past : place + na + nb + length is ≡ place + (na + (nb + length is)) = omega arith in
      follows_to given code past (follows_bind given code (fa sa) (λ v. follows_bind given code (follows_if given code (λ p. tt) (over setting (place + na) b v (fb sb))) (λ w. fi v w stands)))

  -- a call that has a value
  valued : (mark : Mark) (place n : ℕ) (value : Bool) (lines : List CodeLine) (setting : Setting) (action : Action ℤ) → value ≡ true → (LinesStand code.lines place lines → Follows given code ⊤ most (alone setting) place (place + n) (holding []) Fits64 (λ v. holding (result_operands value v)) action) → LinesStand code.lines place (lines ++ filled mark value) → Follows given code ⊤ most (alone setting) place (place + (n + unless value)) (holding []) Fits64 (λ v. holding (v ∷ [])) action
  valued mark place n true lines setting action e fc s =
      let past : place + n ≡ place + (n + 0) = omega arith in
      follows_to given code past (fc (first_part code.lines place lines [] s))
  valued mark place n false lines setting action e fc s = absurd (false≢true e)

  -- a method, once its numbers are there
  module _ (setting : Setting) (at : At cs room free in_record setting) (mark : Mark) (place : ℕ) (args : Arguments) where
    pub follows_method : (op : Option Operation) → MethodHasWhatItTakes args op → TextsIn cs.texts (argument_texts args) → (LinesStand code.lines place (arguments_code cs free mark place args) → GivesAll setting place args) → LinesStand code.lines place (arguments_code cs free mark place args ++ straight (raised (numbers_in args) mark) (method_instrs cs free (place + arguments_size cs args) (text_in args) op)) → Follows given code ⊤ most (alone setting) place (place + (arguments_size cs args + length (method_instrs cs 0 0 (text_in args) op))) (holding []) Fits64 (λ v. holding (result_operands (method_has_value op) v)) (arguments cs.scope callee args >>= λ ns. perform_method op ns (text_in args))
    follows_method None has texts fn s = absurd has
    follows_method (Some op) has texts fn s =
        let n = arguments_size cs args in
        let text = text_in args in
        let is = method_instrs cs free (place + n) text (Some op) in
        let ca = arguments_code cs free mark place args in
        let ci = straight (raised (numbers_in args) mark) is in
        let sa = first_part code.lines place ca ci s in
        let si = straight_stands code.lines (place + n) (raised (numbers_in args) mark) is (second_part code.lines place n ca ci (length-arguments cs free mark place args) s) in
        let k = length (method_instrs cs 0 0 text (Some op)) in
        let past : place + n + k ≡ place + (n + k) = omega arith in
        follows_to given code past (follows_bind given code (fn sa) (λ ns. by_fits given code (moves_of (keeps_perform Moved Moved moved op ns text)) (λ p. p.1) (λ good. follows_if given code (λ p. tt) (follows_operation given code cs room free in_record setting at text most (place + n) op ns (good.0 ∙ has.0) good.1 (λ e. known.named text (its_text cs.texts args (has.1 e) texts)) si))))

  mutual
    pub follows_expression : (e : Expression) → IsSuited cs plain in_record e → TextsIn cs.texts (expression_texts e) → (mark : Mark) (place : ℕ) → LinesStand code.lines place (expression_code cs free mark place e) → (setting : Setting) → At cs room free in_record setting → Gives setting place e
    follows_expression (integer n) r t mark place s setting at =
        let fits : Fits64 (pos n) = grind (arith, r) in
        follows_const given code [] [] (pos n) fits (one_line code.lines place mark (I.Const (pos n)) [] s)
    follows_expression true_literal r t mark place s setting at =
        follows_const given code [] [] (pos 1) (small_fits 1 (omega arith)) (one_line code.lines place mark (I.Const (pos 1)) [] s)
    follows_expression false_literal r t mark place s setting at =
        follows_const given code [] [] (pos 0) (small_fits 0 (omega arith)) (one_line code.lines place mark (I.Const (pos 0)) [] s)
    follows_expression (variable x) r t mark place s setting at =
        let one = scalar r.0 r.2 in
        let stands = one_line code.lines place mark (load_instr cs x (look_up cs.scope.names x)) [] s in
        let is : load_instr cs x (look_up cs.scope.names x) ≡ I.Load (C.slot_in setting.names x) = ap (λ o. load_instr cs x o) r.1 ∙ loads cs x r.0 one ∙ ap (λ ns. I.Load (C.slot_in ns x)) (sym at.names) in
        follows_load given code {setting = alone setting} [] [] x r.0 (subst (λ ns. look_up ns x ≡ Some r.0) (sym at.names) r.1) one (subst (λ i. Stand code.lines place (i ∷ [])) is stands)
    follows_expression (element x i) r t mark place s setting at =
        let n = r.0 in
        let k = expression_size cs i in
        let here : look_up setting.names x ≡ Some (V.Array n) = subst (λ ns. look_up ns x ≡ Some (V.Array n)) (sym at.names) r.1 in
        let ce = expression_code cs free mark place i in
        let last = line (raised 1 mark) (I.LoadAt (C.slot_of cs x) (C.length_of cs x)) ∷ [] in
        let se = first_part code.lines place ce last s in
        let s0 = one_line code.lines (place + k) (raised 1 mark) (I.LoadAt (C.slot_of cs x) (C.length_of cs x)) [] (second_part code.lines place k ce last (length-expression cs free mark place i) s) in
        let s1 = subst (λ m. Stand code.lines (place + k) (I.LoadAt (C.slot_of cs x) m ∷ [])) (ap C.length_in r.1) s0 in
        let s2 = subst (λ ns. Stand code.lines (place + k) (I.LoadAt (C.slot_in ns x) n ∷ [])) (sym at.names) s1 in
        let past : place + k + 1 ≡ place + (k + 1) = omega arith in
        follows_to given code past (follows_bind given code (follows_expression i r.2 t mark place se setting at) (λ v. follows_load_at given code {setting = alone setting} [] [] x n v here s2))
    follows_expression (group e) r t mark place s setting at = follows_expression e r t mark place s setting at
    follows_expression (unary op e) r t mark place s setting at =
        unary_or_number setting mark place op e (negated op (literal e)) refl r (λ se. follows_expression e r t mark place se setting at) s
    follows_expression (binary op a b) r t mark place s setting at =
        let ty = wrapped_type op (literal a) (literal b) (type_of cs.scope (binary op a b)) in
        let na = expression_size cs a in
        let p = place + na + expression_size cs b in
        let past : p + 1 + length (wrapping ty) ≡ p + length (operator_instrs op ty) = omega arith in
        follows_same given code (wrapped_means cs.scope callee op a b) (binary_part setting mark (raised 2 mark) place a b (operator_instrs op ty) Fits64 (λ w. holding (w ∷ [])) _ (λ sa. follows_expression a r.0 (in_front cs.texts (expression_texts a) (expression_texts b) t) mark place sa setting at) (λ sb. follows_expression b r.1 (in_back cs.texts (expression_texts a) (expression_texts b) t) (raised 1 mark) (place + na) sb (deeper [] setting) (at_deeper cs room free in_record setting at)) (λ v w st. follows_to given code past (follows_operator given code op ty [] [] v w st)) s)
    follows_expression (compare op a b) r t mark place s setting at =
        let na = expression_size cs a in
        binary_part setting mark (raised 2 mark) place a b (comparison_instrs op) Fits64 (λ w. holding (w ∷ [])) _ (λ sa. follows_expression a r.0 (in_front cs.texts (expression_texts a) (expression_texts b) t) mark place sa setting at) (λ sb. follows_expression b r.1 (in_back cs.texts (expression_texts a) (expression_texts b) t) (raised 1 mark) (place + na) sb (deeper [] setting) (at_deeper cs room free in_record setting at)) (λ v w st. follows_comparison given code [] [] op v w st) s
    follows_expression (negation e) r t mark place s setting at =
        unary_part setting mark (raised 1 mark) place e not_instrs Fits64 (λ w. holding (w ∷ [])) _ (λ se. follows_expression e r t mark place se setting at) (λ v st. follows_not given code [] [] v st) s
    follows_expression (conjunction a b) r t mark place s setting at =
        let na = expression_size cs a in
        let nb = expression_size cs b in
        let test = place + na in
        let mid = test + 1 + nb in
        let jump = line (raised 1 mark) (I.JumpZero (mid + 1)) in
        let ca = expression_code cs free mark place a in
        let cb = expression_code cs free mark (test + 1) b in
        let ends = line (raised 1 mark) (I.Jump (mid + 2)) ∷ line mark (I.Const (pos 0)) ∷ [] in
        let front = first_part code.lines place (ca ++ jump ∷ cb) ends s in
        let sa = first_part code.lines place ca (jump ∷ cb) front in
        let sj = second_part code.lines place na ca (jump ∷ cb) (length-expression cs free mark place a) front in
        let long : length (ca ++ jump ∷ cb) ≡ na + 1 + nb = length-append ca (jump ∷ cb) ∙ omega (arith, length-expression cs free mark place a, length-expression cs free mark (test + 1) b) in
        let se = second_part code.lines place (na + 1 + nb) (ca ++ jump ∷ cb) ends long s in
        let at_mid : place + (na + 1 + nb) ≡ mid = omega arith in
        let two : mid + 2 ≡ mid + 1 + 1 = omega arith in
        let jumps = one_line code.lines test (raised 1 mark) (I.JumpZero (mid + 1)) cb sj in
        let both : Stand code.lines (place + (na + 1 + nb)) (I.Jump (mid + 2) ∷ I.Const (pos 0) ∷ []) = (line (raised 1 mark) (I.Jump (mid + 2)), se.0, refl, (line mark (I.Const (pos 0)), se.1.0, refl, tt)) in
        let leaves : Stand code.lines mid (I.Jump (mid + 1 + 1) ∷ I.Const (pos 0) ∷ []) = subst (λ e. Stand code.lines mid (I.Jump e ∷ I.Const (pos 0) ∷ [])) two (subst (λ p. Stand code.lines p (I.Jump (mid + 2) ∷ I.Const (pos 0) ∷ [])) at_mid both) in
        let past : mid + 1 + 1 ≡ place + expression_size cs (conjunction a b) = omega arith in
        follows_to given code past (follows_conjunction given code {premise = ⊤} {most = most} {setting = alone setting} {first = place} {test = test} {mid = mid} jumps leaves (follows_expression a r.0 (in_front cs.texts (expression_texts a) (expression_texts b) t) mark place sa setting at) (follows_expression b r.1 (in_back cs.texts (expression_texts a) (expression_texts b) t) mark (test + 1) sj.1 setting at))
    follows_expression (disjunction a b) r t mark place s setting at =
        let na = expression_size cs a in
        let nb = expression_size cs b in
        let test = place + na in
        let second = test + 3 in
        let past = second + nb in
        let jz = line (raised 1 mark) (I.JumpZero second) in
        let one = line mark (I.Const (pos 1)) in
        let jump = line (raised 1 mark) (I.Jump past) in
        let ca = expression_code cs free mark place a in
        let cb = expression_code cs free mark second b in
        let sa = first_part code.lines place ca (jz ∷ one ∷ jump ∷ cb) s in
        let sj = second_part code.lines place na ca (jz ∷ one ∷ jump ∷ cb) (length-expression cs free mark place a) s in
        let three : second ≡ test + 1 + 1 + 1 = omega arith in
        let tests : Stand code.lines test (I.JumpZero second ∷ I.Const (pos 1) ∷ I.Jump past ∷ []) = (jz, sj.0, refl, (one, sj.1.0, refl, (jump, sj.1.1.0, refl, tt))) in
        let at_test = subst (λ p. Stand code.lines test (I.JumpZero p ∷ I.Const (pos 1) ∷ I.Jump past ∷ [])) three tests in
        let sb = subst (λ p. LinesStand code.lines p cb) (sym three) sj.1.1.1 in
        let fb = subst (λ p. Follows given code ⊤ most (alone setting) p past (holding []) Fits64 (λ v. holding (v ∷ [])) (expression cs.scope callee b)) three (follows_expression b r.1 (in_back cs.texts (expression_texts a) (expression_texts b) t) mark second sb setting at) in
        let end : past ≡ place + (na + (3 + nb)) = omega arith in
        follows_to given code end (follows_disjunction given code at_test (follows_expression a r.0 (in_front cs.texts (expression_texts a) (expression_texts b) t) mark place sa setting at) fb)
    follows_expression (call f args) r t mark place s setting at =
        let numbers = arguments_code cs free mark place args in
        valued mark place (call_size cs f args) (call_has_value cs f (builtin_named f)) (call_lines cs mark f args numbers) setting _ r.0 (λ sc. follows_call_by given code cs plain callee room free in_record known setting at most f args mark (raised (numbers_in args) mark) place (arguments_size cs args) numbers (length-arguments cs free mark place args) (array_argument cs args) (builtin_named f) refl r.1 (λ b e takes. known.named (text_in args) (call_text cs plain in_record f args (array_argument cs args) (builtin_named f) r.1 t b e takes)) (takes_numbers (array_argument cs args) (builtin_named f)) refl (λ e sn. follows_arguments args (r.2 e) t mark place sn setting at) sc) s
    follows_expression (method o m args) r t mark place s setting at =
        let numbers = arguments_code cs free mark place args in
        valued mark place (method_size cs o m args) (method_has_value (method_named o m)) (numbers ++ straight (raised (numbers_in args) mark) (method_instrs cs free (place + arguments_size cs args) (text_in args) (method_named o m))) setting _ r.0 (λ sc. follows_method setting at mark place args (method_named o m) r.1 t (λ sn. follows_arguments args r.2 t mark place sn setting at) sc) s

    pub follows_arguments : (args : Arguments) → AreSuited cs plain in_record args → TextsIn cs.texts (argument_texts args) → (mark : Mark) (place : ℕ) → LinesStand code.lines place (arguments_code cs free mark place args) → (setting : Setting) → At cs room free in_record setting → GivesAll setting place args
    follows_arguments no_more r t mark place s setting at =
        let same : place ≡ place + 0 = omega arith in
        follows_to given code same (follows_give given code {results = λ ns. holding (reverse ns)} [] (λ p. (refl, tt)))
    follows_arguments (text_then text rest) r t mark place s setting at = follows_arguments rest r t.1 mark place s setting at
    follows_arguments (value_then e rest) r t mark place s setting at =
        let n = expression_size cs e in
        let ce = expression_code cs free mark place e in
        let cr = arguments_code cs free (raised 1 mark) (place + n) rest in
        let se = first_part code.lines place ce cr s in
        let sr = second_part code.lines place n ce cr (length-expression cs free mark place e) s in
        let past : place + n + arguments_size cs rest ≡ place + (n + arguments_size cs rest) = omega arith in
        let fr = follows_arguments rest r.1 (in_back cs.texts (expression_texts e) (argument_texts rest) t) (raised 1 mark) (place + n) sr (deeper [] setting) (at_deeper cs room free in_record setting at) in
        let others : (a : ℤ) → Follows given code ⊤ most (alone setting) (place + n) (place + n + arguments_size cs rest) (holding (a ∷ [])) (λ ns. (length ns ≡ numbers_in rest) × AllFit64 ns) (λ ns. holding (reverse ns ++ a ∷ [])) (arguments cs.scope callee rest) = λ a. follows_beneath given code {setting = alone setting} (holding (a ∷ [])) (tt, λ e. absurd (false≢true e)) fr in
        let last : (a : ℤ) (ns : List ℤ) → Follows given code ((⊤ × Fits64 a) × ((length ns ≡ numbers_in rest) × AllFit64 ns)) most (alone setting) (place + n + arguments_size cs rest) (place + n + arguments_size cs rest) (holding (reverse ns ++ a ∷ [])) (λ ns. (length ns ≡ numbers_in (value_then e rest)) × AllFit64 ns) (λ ns. holding (reverse ns)) (give (a ∷ ns)) = λ a ns. subst (λ l. Follows given code ((⊤ × Fits64 a) × ((length ns ≡ numbers_in rest) × AllFit64 ns)) most (alone setting) (place + n + arguments_size cs rest) (place + n + arguments_size cs rest) (holding l) (λ ns. (length ns ≡ numbers_in (value_then e rest)) × AllFit64 ns) (λ ns. holding (reverse ns)) (give (a ∷ ns))) (reverse_onto ns a []) (follows_give given code {results = λ ns. holding (reverse ns)} (a ∷ ns) (λ p. (omega (arith, p.1.0), (p.0.1, p.1.1)))) in
        follows_to given code past (follows_bind given code (follows_expression e r.0 (in_front cs.texts (expression_texts e) (argument_texts rest) t) mark place se setting at) (λ a. follows_bind given code (follows_if given code (λ p. tt) (others a)) (last a)))
