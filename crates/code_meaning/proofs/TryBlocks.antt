-- A `try` with its handlers.
use Rattle.std.proofs.Common.{◌≡◌, ℕ, ◌+◌, List, [], ◌∷◌, ◌++◌, length, ◌∙◌, subst, arith, length-append}
use Rattle.std.specs.Prelude.{Bool, ⊤}
use Rattle.rtio_types.specs.declared.request.Reply.{Reply}
use Rattle.kern_syntax.specs.Tree.{Bytes, try_do, Block, Handlers}
use Rattle.timeline_sem.specs.Expressions.{Callee}
use Rattle.timeline_sem.specs.Statements.{statement, block, handler}
use Rattle.core_isa.specs.declared.code.Code.{Code}
use Rattle.core_isa.specs.declared.instr.Instr.TheVariants as I
use Rattle.code_forms.specs.Setting as C
use Rattle.code_forms.specs.Lines.{line, straight, with_handler}
use Rattle.code_forms.specs.Sizes.{statement_size, block_size, handlers_size}
use Rattle.code_forms.specs.StatementCode.{Inside, under, statement_code, block_code, handlers_code}
use Rattle.code_forms.proofs.StatementLengths.{length-block}
use Rattle.code_follows.specs.Stands.{holding, Setting}
use Rattle.code_follows.specs.Parts.{Follows, Stand}
use Rattle.code_follows.proofs.Lines.{LinesStand, first_part, second_part, one_line, straight_stands}
use Rattle.rtio_types.specs.declared.outcome.Exc.{Exc}
use Rattle.core_isa.specs.Machine.{code_of}
use Rattle.code_follows.proofs.Tries.{in_try, follows_attempt}
use Rattle.code_meaning.proofs.Known.{Known}
use Rattle.code_meaning.proofs.Places.{Placed}

module _ (given : List Reply) (code : Code) (cs : C.Setting) (plain : List Bytes) (callee : Callee) (room : ℕ) (known : Known given code cs plain callee room) (most : ℕ) (l may d : Bool) (inside : Inside) (place : ℕ) (setting : Setting) (g : Placed cs room l may d inside setting) where
  pub follows_try_do : (b : Block) (handlers : Handlers) → (LinesStand code.lines (place + 1) (block_code cs (under (with_handler inside.mark) inside) (place + 1) b) → Follows given code ⊤ most (in_try setting) (place + 1) (place + 1 + block_size cs (inside.mark.tries + 1) inside.loop.tries b) (holding []) (λ v. ⊤) (λ v. holding []) (block cs.scope callee b)) → ((p end : ℕ) → LinesStand code.lines p (handlers_code cs inside p end handlers) → (x : Exc) → Follows given code ⊤ most setting p end (holding (code_of x ∷ [])) (λ v. ⊤) (λ v. holding []) (handler cs.scope callee handlers x)) → LinesStand code.lines place (statement_code cs inside place (try_do b handlers)) → Follows given code ⊤ most setting place (place + statement_size cs inside.mark.tries inside.loop.tries (try_do b handlers)) (holding []) (λ v. ⊤) (λ v. holding []) (statement cs.scope callee (try_do b handlers))
  follows_try_do b handlers body handle s =
      let nb = block_size cs (inside.mark.tries + 1) inside.loop.tries b in
      let nh = handlers_size cs inside.mark.tries inside.loop.tries handlers in
      let mark = with_handler inside.mark in
      let within = under mark inside in
      let h = place + 1 + nb + 2 in
      let end = h + nh in
      let tries = line inside.mark (I.Try h) in
      let cb = block_code cs within (place + 1) b in
      let ends = straight mark (I.EndTry ∷ I.Jump end ∷ []) in
      let ch = handlers_code cs inside h end handlers in
      let front = first_part code.lines place (tries ∷ cb ++ ends) ch s in
      let top = first_part code.lines place (tries ∷ cb) ends front in
      let long : length (tries ∷ cb) ≡ 1 + nb = omega (arith, length-block cs within (place + 1) b) in
      let se = second_part code.lines place (1 + nb) (tries ∷ cb) ends long front in
      let longer : length (tries ∷ cb ++ ends) ≡ 1 + nb + 2 = length-append (tries ∷ cb) ends ∙ omega (arith, long) in
      let sh = second_part code.lines place (1 + nb + 2) (tries ∷ cb ++ ends) ch longer s in
      let at_mid : place + (1 + nb) ≡ place + 1 + nb = omega arith in
      let at_h : place + (1 + nb + 2) ≡ h = omega arith in
      let mid = subst (λ p. Stand code.lines p (I.EndTry ∷ I.Jump end ∷ [])) at_mid (straight_stands code.lines (place + (1 + nb)) mark (I.EndTry ∷ I.Jump end ∷ []) se) in
      let past : end ≡ place + (1 + (nb + (2 + nh))) = omega arith in
      let whole = follows_attempt given code setting place (place + 1 + nb) h end (block cs.scope callee b) (handler cs.scope callee handlers) (one_line code.lines place inside.mark (I.Try h) cb top) mid (body top.1) (λ x. handle h end (subst (λ p. LinesStand code.lines p ch) at_h sh) x) in
      subst (λ p. Follows given code ⊤ most setting place p (holding []) (λ v. ⊤) (λ v. holding []) (statement cs.scope callee (try_do b handlers))) past whole
