-- An `except` branch, and those behind it.
use Rattle.std.proofs.Common.{◌≡◌, ℕ, ◌+◌, List, [], ◌∷◌, ◌++◌, length, refl, ◌∙◌, subst, arith, length-append}
use Rattle.std.specs.Prelude.{Bool, true, false, ℤ, ⊤, if◌then◌else◌}
use Rattle.rtio_types.specs.declared.request.Reply.{Reply}
use Rattle.kern_syntax.specs.Tree.{Bytes, Block, Handlers, except_then}
use Rattle.timeline_sem.specs.Expressions.{Callee}
use Rattle.timeline_sem.specs.Statements.{block, handler}
use Rattle.core_isa.specs.declared.code.Code.{Code}
use Rattle.core_isa.specs.declared.instr.Instr.TheVariants as I
use Rattle.code_forms.specs.Setting as C
use Rattle.code_forms.specs.Lines.{line, raised, straight}
use Rattle.code_forms.specs.Sizes.{block_size}
use Rattle.code_forms.specs.StatementCode.{Inside, code_of_name, block_code, handlers_code}
use Rattle.code_forms.proofs.StatementLengths.{length-block}
use Rattle.code_follows.specs.Stands.{holding, Setting, Fits64}
use Rattle.code_follows.specs.Parts.{Follows}
use Rattle.code_follows.proofs.Lines.{LinesStand, first_part, second_part, one_line, straight_stands}
use Rattle.rtio_types.specs.declared.outcome.Exc.{Exc}
use Rattle.core_isa.specs.Machine.{code_of}
use Rattle.code_follows.proofs.Choices.{small_fits, follows_handler}
use Rattle.code_meaning.proofs.Known.{Known}
use Rattle.code_meaning.proofs.Places.{Placed}

if_fits : (t : Bool) (a b : ℤ) → Fits64 a → Fits64 b → Fits64 (if t then a else b)
if_fits true a b f h = f
if_fits false a b f h = h

code_fits : (name : Bytes) → Fits64 (code_of_name name)
code_fits name =
    if_fits _ _ _ (small_fits 1 (omega arith)) (if_fits _ _ _ (small_fits 2 (omega arith)) (if_fits _ _ _ (small_fits 3 (omega arith)) (if_fits _ _ _ (small_fits 4 (omega arith)) (if_fits _ _ _ (small_fits 5 (omega arith)) (if_fits _ _ _ (small_fits 6 (omega arith)) (small_fits 0 (omega arith)))))))

module _ (given : List Reply) (code : Code) (cs : C.Setting) (plain : List Bytes) (callee : Callee) (room : ℕ) (known : Known given code cs plain callee room) (most : ℕ) (l may d : Bool) (inside : Inside) (place : ℕ) (setting : Setting) (g : Placed cs room l may d inside setting) where
  pub follows_except : (ln : ℕ) (name : Bytes) (b : Block) (rest : Handlers) (end : ℕ) (x : Exc) → ((p : ℕ) → LinesStand code.lines p (block_code cs inside p b) → Follows given code ⊤ most setting p (p + block_size cs inside.mark.tries inside.loop.tries b) (holding []) (λ v. ⊤) (λ v. holding []) (block cs.scope callee b)) → ((p : ℕ) → LinesStand code.lines p (handlers_code cs inside p end rest) → Follows given code ⊤ most setting p end (holding (code_of x ∷ [])) (λ v. ⊤) (λ v. holding []) (handler cs.scope callee rest x)) → LinesStand code.lines place (handlers_code cs inside place end (except_then ln name b rest)) → Follows given code ⊤ most setting place end (holding (code_of x ∷ [])) (λ v. ⊤) (λ v. holding []) (handler cs.scope callee (except_then ln name b rest) x)
  follows_except ln name b rest end x body others s =
      let nb = block_size cs inside.mark.tries inside.loop.tries b in
      let mid = place + 5 + nb in
      let is = I.Dup ∷ I.Const (code_of_name name) ∷ I.Eq ∷ I.JumpZero (mid + 1) ∷ I.Pop ∷ [] in
      let ci = straight (raised 1 inside.mark) is in
      let cb = block_code cs inside (place + 5) b in
      let jump = line inside.mark (I.Jump end) in
      let cr = handlers_code cs inside (mid + 1) end rest in
      let front = first_part code.lines place (ci ++ cb) (jump ∷ cr) s in
      let si = straight_stands code.lines place (raised 1 inside.mark) is (first_part code.lines place ci cb front) in
      let sb = second_part code.lines place 5 ci cb refl front in
      let long : length (ci ++ cb) ≡ 5 + nb = length-append ci cb ∙ omega (arith, length-block cs inside (place + 5) b) in
      let sj = second_part code.lines place (5 + nb) (ci ++ cb) (jump ∷ cr) long s in
      let at_mid : place + (5 + nb) ≡ mid = omega arith in
      let tail = subst (λ p. LinesStand code.lines p (jump ∷ cr)) at_mid sj in
      let at_body : place + 5 ≡ place + 1 + 1 + 1 + 1 + 1 = omega arith in
      let fb = subst (λ p. Follows given code ⊤ most setting p mid (holding []) (λ v. ⊤) (λ v. holding []) (block cs.scope callee b)) at_body (body (place + 5) sb) in
      follows_handler given code name x (block cs.scope callee b) (handler cs.scope callee rest x) si (code_fits name) (one_line code.lines mid inside.mark (I.Jump end) cr tail) fb (others (mid + 1) tail.1)
