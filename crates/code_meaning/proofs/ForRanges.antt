-- A `for` over a range.
use Rattle.std.proofs.Common.{◌≡◌, ℕ, ◌+◌, ◌≤◌, List, [], ◌∷◌, ◌++◌, length, Option, Some, None, sym, ◌∙◌, subst, arith, length-append}
use Rattle.std.specs.Prelude.{Bool, ℤ, pos, ⊤}
use Rattle.rtio_types.specs.declared.request.Reply.{Reply}
use Rattle.kern_syntax.specs.Tree.{Bytes, Expression, Block, for_range}
use Rattle.kern_calls.specs.Calls.{look_up}
use Rattle.timeline_sem.specs.Expressions.{Callee, expression}
use Rattle.timeline_sem.specs.Statements.{statement, block, optional_value, for_turns}
use Rattle.timeline_sem.specs.Laws.{final}
use Rattle.timeline_sem.proofs.KeepsWhole.{keeps_for_turns, keeps_block}
use Rattle.core_isa.specs.declared.code.Code.{Code}
use Rattle.core_isa.specs.declared.instr.Instr.TheVariants as I
use Rattle.code_forms.specs.Setting as C
use Rattle.code_forms.specs.ExpressionCode.{expression_code}
use Rattle.code_forms.specs.Lines.{raised, straight}
use Rattle.code_forms.specs.Sizes.{expression_size, from_size, block_size, statement_size}
use Rattle.code_forms.specs.StatementCode.{Inside, in_loop, keeping, from_code, block_code, statement_code, for_begins, for_goes_on}
use Rattle.code_forms.specs.Texts.{expression_texts, option_texts}
use Rattle.code_forms.proofs.Lengths.{length-expression}
use Rattle.code_forms.proofs.StatementLengths.{length-from, length-block}
use Rattle.code_follows.specs.Stands.{holding, Setting, Fits64}
use Rattle.code_follows.specs.Parts.{Moved, Follows, Stand, deeper, alone}
use Rattle.code_follows.proofs.Compose.{moved, moves_of, follows_bind, follows_if, by_fits}
use Rattle.code_follows.proofs.Beneath.{follows_anywhere}
use Rattle.code_follows.proofs.Choices.{small_fits}
use Rattle.code_follows.proofs.ForLoops.{follows_for_begin}
use Rattle.code_follows.proofs.Instructions.{follows_const}
use Rattle.code_follows.proofs.Lines.{LinesStand, first_part, second_part, one_line, straight_stands}
use Rattle.code_follows.proofs.Loops.{body_setting}
use Rattle.code_follows.proofs.Variables.{own_slot}
use Rattle.code_forms.specs.Suited.{IsScalarName, IsSuited, IfThereSuited}
use Rattle.code_meaning.proofs.Known.{TextsIn, Known, At, at_deeper, follows_to, follows_from}
use Rattle.code_meaning.proofs.Expressions.{scalar, over, follows_expression}
use Rattle.code_meaning.proofs.Places.{Placed, at_of}

module _ (given : List Reply) (code : Code) (cs : C.Setting) (plain : List Bytes) (callee : Callee) (room : ℕ) (known : Known given code cs plain callee room) (most : ℕ) (l may d : Bool) (inside : Inside) (place : ℕ) (setting : Setting) (g : Placed cs room l may d inside setting) where
  -- where the range begins
  follows_start : (from : Option Expression) → IfThereSuited cs plain d from → TextsIn cs.texts (option_texts from) → LinesStand code.lines place (from_code cs inside place from) → At cs room inside.free d setting → Follows given code ⊤ most (alone setting) place (place + from_size cs from) (holding []) Fits64 (λ v. holding (v ∷ [])) (optional_value cs.scope callee from)
  follows_start None r t s at = follows_const given code [] [] (pos 0) (small_fits 0 (omega arith)) (one_line code.lines place inside.mark (I.Const (pos 0)) [] s)
  follows_start (Some e) r t s at = follows_expression given code cs plain callee room inside.free d known most e r t inside.mark place s setting at

  pub follows_for : (x : Bytes) (from : Option Expression) (to : Expression) (b : Block) → IsScalarName cs x → IfThereSuited cs plain d from → IsSuited cs plain d to → TextsIn cs.texts (option_texts from) → TextsIn cs.texts (expression_texts to) → length setting.temporaries + 3 ≤ setting.limit → ((n : ℕ) (i e : ℤ) (again past p : ℕ) → LinesStand code.lines p (block_code cs (in_loop again past (keeping 2 inside)) p b) → Follows given code ⊤ n (body_setting setting (i ∷ e ∷ []) again past) p (p + block_size cs inside.mark.tries inside.mark.tries b) (holding []) (λ v. ⊤) (λ v. holding []) (block cs.scope callee b)) → LinesStand code.lines place (statement_code cs inside place (for_range x from to b)) → Follows given code ⊤ most setting place (place + statement_size cs inside.mark.tries inside.loop.tries (for_range x from to b)) (holding []) (λ v. ⊤) (λ v. holding []) (statement cs.scope callee (for_range x from to b))
  follows_for x from to b named rf rt tf tt' limit fb s =
      let nf = from_size cs from in
      let nt = expression_size cs to in
      let nb = block_size cs inside.mark.tries inside.mark.tries b in
      let free = inside.free in
      let first = place + nf + nt in
      let again = first + 10 + nb in
      let within = in_loop again (again + 4) (keeping 2 inside) in
      let cf = from_code cs inside place from in
      let ct = expression_code cs free (raised 1 inside.mark) (place + nf) to in
      let begins = for_begins cs inside x again in
      let cb = straight (raised 2 inside.mark) begins in
      let body = block_code cs within (first + 10) b in
      let ends = for_goes_on inside (first + 3) in
      let ce = straight inside.mark ends in
      let f4 = first_part code.lines place (cf ++ ct ++ cb ++ body) ce s in
      let f3 = first_part code.lines place (cf ++ ct ++ cb) body f4 in
      let f2 = first_part code.lines place (cf ++ ct) cb f3 in
      let sf = first_part code.lines place cf ct f2 in
      let st = second_part code.lines place nf cf ct (length-from cs inside place from) f2 in
      let l2 : length (cf ++ ct) ≡ nf + nt = length-append cf ct ∙ omega (arith, length-from cs inside place from, length-expression cs free (raised 1 inside.mark) (place + nf) to) in
      let l3 : length (cf ++ ct ++ cb) ≡ nf + nt + 10 = length-append (cf ++ ct) cb ∙ omega (arith, l2) in
      let l4 : length (cf ++ ct ++ cb ++ body) ≡ nf + nt + 10 + nb = length-append (cf ++ ct ++ cb) body ∙ omega (arith, l3, length-block cs within (first + 10) b) in
      let p2 : place + (nf + nt) ≡ first = omega arith in
      let p3 : place + (nf + nt + 10) ≡ first + 10 = omega arith in
      let p4 : place + (nf + nt + 10 + nb) ≡ again = omega arith in
      let sb = subst (λ p. Stand code.lines p begins) p2 (straight_stands code.lines (place + (nf + nt)) (raised 2 inside.mark) begins (second_part code.lines place (nf + nt) (cf ++ ct) cb l2 f3)) in
      let sbody = subst (λ p. LinesStand code.lines p body) p3 (second_part code.lines place (nf + nt + 10) (cf ++ ct ++ cb) body l3 f4) in
      let se = subst (λ p. Stand code.lines p ends) p4 (straight_stands code.lines (place + (nf + nt + 10 + nb)) inside.mark ends (second_part code.lines place (nf + nt + 10 + nb) (cf ++ ct ++ cb ++ body) ce l4 s)) in
      let zero_slot : free ≡ own_slot given code setting 0 = omega (arith, g.free) in
      let one_slot : free + 1 ≡ own_slot given code setting 1 = omega (arith, g.free) in
      let z = own_slot given code setting 0 in
      let o = own_slot given code setting 1 in
      let top = first + 1 + 1 + 1 in
      let at_top : first + 3 ≡ top = omega arith in
      let slot = C.slot_in setting.names x in
      let is : (a c k : ℕ) → List _ = λ a c k. I.Store c ∷ I.Store a ∷ I.Jump again ∷ I.Turn ∷ I.Load a ∷ I.Dup ∷ I.Store k ∷ I.Const (pos 1) ∷ I.Add ∷ I.Store a ∷ [] in
      let b1 = subst (λ c. Stand code.lines first (is free c (C.slot_of cs x))) one_slot sb in
      let b2 = subst (λ a. Stand code.lines first (is a o (C.slot_of cs x))) zero_slot b1 in
      let b3 = subst (λ ns. Stand code.lines first (is z o (C.slot_in ns x))) (sym g.names) b2 in
      let s_begin : Stand code.lines first (I.Store o ∷ I.Store z ∷ I.Jump again ∷ []) = (b3.0, b3.1, b3.2, (b3.3.0, b3.3.1, b3.3.2, (b3.3.3.0, b3.3.3.1, b3.3.3.2, tt))) in
      let s_top : Stand code.lines top (I.Turn ∷ I.Load z ∷ I.Dup ∷ I.Store slot ∷ I.Const (pos 1) ∷ I.Add ∷ I.Store z ∷ []) = b3.3.3.3 in
      let es : (a c t : ℕ) → List _ = λ a c t. I.Load c ∷ I.Load a ∷ I.Le ∷ I.JumpZero t ∷ [] in
      let e1 = subst (λ c. Stand code.lines again (es free c (first + 3))) one_slot se in
      let e2 = subst (λ a. Stand code.lines again (es a o (first + 3))) zero_slot e1 in
      let s_cond = subst (λ t. Stand code.lines again (es z o t)) at_top e2 in
      let here = subst (λ ns. look_up ns x ≡ Some named.0) (sym g.names) named.1 in
      let four : again + 4 ≡ again + 1 + 1 + 1 + 1 = omega arith in
      let at_body : first + 10 ≡ top + 1 + 1 + 1 + 1 + 1 + 1 + 1 = omega arith in
      let fbody : (n : ℕ) (i e : ℤ) → Follows given code ⊤ n (body_setting setting (i ∷ e ∷ []) again (again + 1 + 1 + 1 + 1)) (top + 1 + 1 + 1 + 1 + 1 + 1 + 1) again (holding []) (λ v. ⊤) (λ v. holding []) (block cs.scope callee b) = λ n i e. follows_from given code at_body (subst (λ q. Follows given code ⊤ n (body_setting setting (i ∷ e ∷ []) again q) (first + 10) again (holding []) (λ v. ⊤) (λ v. holding []) (block cs.scope callee b)) four (fb n i e again (again + 4) (first + 10) sbody)) in
      let at = at_of cs room l may d inside setting g (omega (arith, limit)) in
      let fs = follows_anywhere given code {setting = setting} (follows_start from rf tf sf at) in
      let ft : (i : ℤ) → Follows given code ⊤ most setting (place + nf) first (holding (i ∷ [])) Fits64 (λ e. holding (e ∷ i ∷ [])) (expression cs.scope callee to) = λ i. follows_anywhere given code {setting = setting} (over given code cs plain callee room free d known most setting (place + nf) to i (follows_expression given code cs plain callee room free d known most to rt tt' (raised 1 inside.mark) (place + nf) st (deeper [] setting) (at_deeper cs room free d setting at))) in
      let turns : (i e : ℤ) (s : _) → Moved s (final (for_turns (Rattle.std.specs.Int.int_gap i e) x i (block cs.scope callee b) s)) = λ i e. moves_of (keeps_for_turns Moved Moved moved (Rattle.std.specs.Int.int_gap i e) x i (block cs.scope callee b) (keeps_block Moved Moved moved cs.scope callee known.moves b)) in
      let last : (i e : ℤ) → Follows given code ((⊤ × Fits64 i) × Fits64 e) most setting first (again + 1 + 1 + 1 + 1) (holding (e ∷ i ∷ [])) (λ v. ⊤) (λ v. holding []) (for_turns (Rattle.std.specs.Int.int_gap i e) x i (block cs.scope callee b)) = λ i e. by_fits given code {known = Fits64 i × Fits64 e} (turns i e) (λ p. (p.0.1, p.1)) (λ fits. follows_if given code (λ p. tt) (follows_for_begin given code setting top again x named.0 (block cs.scope callee b) here (scalar named.0 named.2) s_top s_cond fbody most first i e fits.0 fits.1 (omega (arith, limit)) s_begin)) in
      let past : again + 1 + 1 + 1 + 1 ≡ place + (nf + (nt + (10 + (nb + 4)))) = omega arith in
      follows_to given code past (follows_bind given code fs (λ i. follows_bind given code (follows_if given code (λ p. tt) (ft i)) (λ e. last i e)))
