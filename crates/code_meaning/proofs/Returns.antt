-- A `return`: its value, if it has one, and then the end of the function.
use Rattle.std.proofs.Common.{◌≡◌, ℕ, ◌+◌, ◌≤◌, List, [], ◌∷◌, ◌++◌, length, Option, Some, None, refl, sym, ◌∙◌, subst, arith, length-append}
use Rattle.std.specs.Prelude.{Bool, true, false, ℤ, pos, ⊤, replicate, is_some}
use Rattle.std.proofs.lemmas.Bool.{false≢true}
use Rattle.rtio_types.specs.declared.request.Reply.{Reply}
use Rattle.kern_syntax.specs.Tree as T
use Rattle.kern_syntax.specs.Tree.{Bytes, Expression}
use Rattle.timeline_sem.specs.Actions.{return, stop}
use Rattle.timeline_sem.specs.Expressions.{Callee}
use Rattle.timeline_sem.specs.Statements.{statement}
use Rattle.core_isa.specs.declared.code.Code.{Code}
use Rattle.core_isa.specs.declared.code.Mark.{Mark}
use Rattle.core_isa.specs.declared.instr.Instr.TheVariants as I
use Rattle.code_forms.specs.Setting as C
use Rattle.code_forms.specs.ExpressionCode.{expression_code}
use Rattle.code_forms.specs.Lines.{raised, straight}
use Rattle.code_forms.specs.Sizes.{expression_size, statement_size}
use Rattle.code_forms.specs.StatementCode.{Inside, statement_code, no_value, no_result, result_mark, returning}
use Rattle.code_forms.specs.Texts.{option_texts}
use Rattle.code_forms.proofs.Lengths.{length-expression}
use Rattle.code_follows.specs.Stands.{holding, Setting, Fits64, result_operands}
use Rattle.code_follows.specs.Parts.{Follows, Stand}
use Rattle.code_follows.proofs.Compose.{follows_bind, follows_same}
use Rattle.code_follows.proofs.Beneath.{follows_anywhere}
use Rattle.code_follows.proofs.Choices.{small_fits}
use Rattle.code_follows.proofs.Lines.{LinesStand, first_part, second_part, straight_stands}
use Rattle.code_follows.proofs.Returning.{follows_stop_return}
use Rattle.code_forms.specs.Suited.{IfThereSuited}
use Rattle.code_meaning.proofs.Known.{TextsIn, Known}
use Rattle.code_meaning.proofs.Expressions.{follows_expression}
use Rattle.code_meaning.proofs.Places.{Placed, at_of}

module _ (given : List Reply) (code : Code) (cs : C.Setting) (plain : List Bytes) (callee : Callee) (room : ℕ) (known : Known given code cs plain callee room) (most : ℕ) (l may d : Bool) (inside : Inside) (place : ℕ) (setting : Setting) (g : Placed cs room l may d inside setting) where
  -- the end of the function, with a value as an operand, or with none
  ends_here : (value : Bool) → cs.value ≡ value → (p past : ℕ) (mark : Mark) (v : ℤ) (fits : Fits64 v) → mark.tries ≡ inside.mark.tries → setting.may_return ≡ true → LinesStand code.lines p (returning mark) → {premise : Type 0} → Follows given code premise most setting p past (holding (result_operands value v)) (λ a. ⊤) (λ a. holding []) (stop {A = ⊤} (return v))
  ends_here value is p past mark v fits same may_here s {premise} =
      let st = straight_stands code.lines p mark (replicate mark.tries I.EndTry ++ I.Return ∷ []) s in
      let st' = subst (λ n. Stand code.lines p (replicate n I.EndTry ++ I.Return ∷ [])) (same ∙ sym g.tries) st in
      subst (λ b. Follows given code premise most setting p past (holding (result_operands b v)) (λ a. ⊤) (λ a. holding []) (stop {A = ⊤} (return v))) (g.value ∙ is) (follows_stop_return given code {setting = setting} v may_here (λ q. fits) st')

  by_value : (value : Bool) → cs.value ≡ value → (e : Option Expression) → is_some e ≡ value → IfThereSuited cs plain d e → TextsIn cs.texts (option_texts e) → setting.may_return ≡ true → length setting.temporaries + 1 ≤ setting.limit → LinesStand code.lines place (statement_code cs inside place (T.return e)) → Follows given code ⊤ most setting place (place + statement_size cs inside.mark.tries inside.loop.tries (T.return e)) (holding []) (λ v. ⊤) (λ v. holding []) (statement cs.scope callee (T.return e))
  by_value false is None fit r t may_here limit s =
      let s0 = subst (λ b. LinesStand code.lines place (straight inside.mark (no_result b) ++ returning (result_mark b inside.mark))) is s in
      follows_same given code (λ st. refl) (ends_here false is place _ inside.mark (pos 0) (small_fits 0 (omega arith)) refl may_here s0)
  by_value true is (Some e) fit r t may_here limit s =
      let n = expression_size cs e in
      let ce = expression_code cs inside.free inside.mark place e in
      let s0 = subst (λ b. LinesStand code.lines place (ce ++ straight (raised 1 inside.mark) (no_value b) ++ returning (result_mark b inside.mark))) is s in
      let front = first_part code.lines place (ce ++ []) (returning (raised 1 inside.mark)) s0 in
      let se = first_part code.lines place ce [] front in
      let long : length (ce ++ []) ≡ n = length-append ce [] ∙ omega (arith, length-expression cs inside.free inside.mark place e) in
      let sr = second_part code.lines place n (ce ++ []) (returning (raised 1 inside.mark)) long s0 in
      follows_bind given code (follows_anywhere given code (follows_expression given code cs plain callee room inside.free d known most e r t inside.mark place se setting (at_of cs room l may d inside setting g limit))) (λ v. by_premise v sr)
    where
      by_premise : (v : ℤ) → LinesStand code.lines (place + expression_size cs e) (returning (raised 1 inside.mark)) → Follows given code (⊤ × Fits64 v) most setting (place + expression_size cs e) (place + statement_size cs inside.mark.tries inside.loop.tries (T.return (Some e))) (holding (v ∷ [])) (λ a. ⊤) (λ a. holding []) (stop {A = ⊤} (return v))
      by_premise v sr = Rattle.code_follows.proofs.Compose.by_fits given code (λ s. Rattle.code_follows.proofs.Compose.moved_same s) (λ p. p.1) (λ fits. ends_here true is (place + expression_size cs e) _ (raised 1 inside.mark) v fits refl may_here sr)
  by_value true is None fit r t may_here limit s = absurd (false≢true fit)
  by_value false is (Some e) fit r t may_here limit s = absurd (false≢true (sym fit))

  pub follows_return : (e : Option Expression) → (may ≡ true) × IfThereSuited cs plain d e × (is_some e ≡ cs.value) → TextsIn cs.texts (option_texts e) → length setting.temporaries + 1 ≤ setting.limit → LinesStand code.lines place (statement_code cs inside place (T.return e)) → Follows given code ⊤ most setting place (place + statement_size cs inside.mark.tries inside.loop.tries (T.return e)) (holding []) (λ v. ⊤) (λ v. holding []) (statement cs.scope callee (T.return e))
  follows_return e r t limit s = by_value cs.value refl e r.2 r.1 t (g.may_return r.0) limit s
