-- A `while`.
use Rattle.std.proofs.Common.{◌≡◌, ℕ, ◌+◌, ◌≤◌, List, [], ◌∷◌, ◌++◌, length, refl, sym, ◌∙◌, subst, arith, length-append}
use Rattle.std.specs.Prelude.{Bool, ⊤}
use Rattle.rtio_types.specs.declared.request.Reply.{Reply}
use Rattle.kern_syntax.specs.Tree.{Bytes, Expression, while_do, Block}
use Rattle.timeline_sem.specs.Expressions.{Callee, expression}
use Rattle.timeline_sem.specs.Statements.{statement, block}
use Rattle.core_isa.specs.declared.code.Code.{Code}
use Rattle.core_isa.specs.declared.instr.Instr.TheVariants as I
use Rattle.code_forms.specs.declared.test_kind.TestKind.TheVariants.{LoopEnd}
use Rattle.code_forms.specs.Conditions.{is_turned, asked, loop_instrs, loop_size}
use Rattle.code_forms.specs.Setting as C
use Rattle.code_forms.specs.ExpressionCode.{expression_code}
use Rattle.code_forms.specs.Lines.{line, raised, straight}
use Rattle.code_forms.specs.Sizes.{expression_size, statement_size, block_size}
use Rattle.code_forms.specs.StatementCode.{Inside, in_loop, statement_code, block_code}
use Rattle.code_forms.specs.Texts.{expression_texts}
use Rattle.code_forms.proofs.Asked.{asked_suited, asked_texts}
use Rattle.code_forms.proofs.Lengths.{length-expression}
use Rattle.code_forms.proofs.StatementLengths.{length-block}
use Rattle.code_follows.specs.Stands.{holding, Setting}
use Rattle.code_follows.specs.Parts.{Follows, Stand}
use Rattle.code_follows.proofs.Conditions.{asked_tells}
use Rattle.code_follows.proofs.Lines.{LinesStand, first_part, second_part, one_line, straight_stands}
use Rattle.code_follows.proofs.Flow.{follows_jump}
use Rattle.code_follows.proofs.Loops.{body_setting, follows_while}
use Rattle.code_forms.specs.Suited.{IsSuited}
use Rattle.code_meaning.proofs.Known.{TextsIn, Known, follows_from}
use Rattle.code_meaning.proofs.Expressions.{follows_expression}
use Rattle.code_meaning.proofs.Places.{Placed, at_of}

module _ (given : List Reply) (code : Code) (cs : C.Setting) (plain : List Bytes) (callee : Callee) (room : ℕ) (known : Known given code cs plain callee room) (most : ℕ) (l may d : Bool) (inside : Inside) (place : ℕ) (setting : Setting) (g : Placed cs room l may d inside setting) where
  pub follows_while_do : (c : Expression) (b : Block) → IsSuited cs plain d c → TextsIn cs.texts (expression_texts c) → length setting.temporaries + 1 ≤ setting.limit → ((k again past p : ℕ) → LinesStand code.lines p (block_code cs (in_loop again past inside) p b) → Follows given code ⊤ k (body_setting setting [] again past) p (p + block_size cs inside.mark.tries inside.mark.tries b) (holding []) (λ v. ⊤) (λ v. holding []) (block cs.scope callee b)) → LinesStand code.lines place (statement_code cs inside place (while_do c b)) → Follows given code ⊤ most setting place (place + statement_size cs inside.mark.tries inside.loop.tries (while_do c b)) (holding []) (λ v. ⊤) (λ v. holding []) (statement cs.scope callee (while_do c b))
  follows_while_do c b r t limit body s =
      let nb = block_size cs inside.mark.tries inside.mark.tries b in
      let turned = is_turned LoopEnd c in
      let nc = expression_size cs (asked LoopEnd c) in
      let cond = place + 2 + nb in
      let past = cond + nc + loop_size turned in
      let within = in_loop cond past inside in
      let jump = line inside.mark (I.Jump cond) in
      let turn = line inside.mark I.Turn in
      let cb = block_code cs within (place + 2) b in
      let cc = expression_code cs inside.free inside.mark cond (asked LoopEnd c) in
      let tests = loop_instrs turned (place + 1) past in
      let ends = straight (raised 1 inside.mark) tests in
      let front = first_part code.lines place (jump ∷ turn ∷ cb ++ cc) ends s in
      let top_part = first_part code.lines place (jump ∷ turn ∷ cb) cc front in
      let long_b : length (jump ∷ turn ∷ cb) ≡ 2 + nb = omega (arith, length-block cs within (place + 2) b) in
      let sc = second_part code.lines place (2 + nb) (jump ∷ turn ∷ cb) cc long_b front in
      let long_c : length (jump ∷ turn ∷ cb ++ cc) ≡ 2 + nb + nc = length-append (jump ∷ turn ∷ cb) cc ∙ omega (arith, long_b, length-expression cs inside.free inside.mark cond (asked LoopEnd c)) in
      let sl = second_part code.lines place (2 + nb + nc) (jump ∷ turn ∷ cb ++ cc) ends long_c s in
      let at_cond : place + (2 + nb) ≡ cond = omega arith in
      let at_late : place + (2 + nb + nc) ≡ cond + nc = omega arith in
      let at_body : place + 1 + 1 ≡ place + 2 = omega arith in
      let at_past : past ≡ place + statement_size cs inside.mark.tries inside.loop.tries (while_do c b) = omega arith in
      let body_past : place + 2 + nb ≡ cond = refl in
      let sb = subst (λ p. LinesStand code.lines p cb) at_body top_part.1.1 in
      let late = subst (λ p. Stand code.lines p tests) at_late (straight_stands code.lines (place + (2 + nb + nc)) (raised 1 inside.mark) tests sl) in
      let first_jump = one_line code.lines place inside.mark (I.Jump cond) (turn ∷ cb) top_part in
      let at_turn = one_line code.lines (place + 1) inside.mark I.Turn cb top_part.1 in
      let asks = subst (TextsIn cs.texts) (asked_texts LoopEnd c) t in
      let fc = λ (k : ℕ). follows_expression given code cs plain callee room inside.free d known k (asked LoopEnd c) (asked_suited cs plain d LoopEnd c r) asks inside.mark cond (subst (λ p. LinesStand code.lines p cc) at_cond sc) setting (at_of cs room l may d inside setting g limit) in
      let fb = λ (k : ℕ). follows_from given code (sym at_body) (body k cond past (place + 2) sb) in
      let whole = follows_jump given code first_jump (follows_while given code setting (place + 1) cond (cond + nc) past turned (expression cs.scope callee (asked LoopEnd c)) (expression cs.scope callee c) (block cs.scope callee b) (asked_tells cs.scope callee LoopEnd c) at_turn late refl fc fb most) in
      subst (λ p. Follows given code ⊤ most setting place p (holding []) (λ v. ⊤) (λ v. holding []) (statement cs.scope callee (while_do c b))) at_past whole
