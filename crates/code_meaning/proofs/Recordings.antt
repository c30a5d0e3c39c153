-- A record block.
use Rattle.std.proofs.Common.{◌≡◌, ℕ, ◌+◌, List, [], ◌∷◌, length, slice_get, Some, subst, arith}
use Rattle.std.specs.Prelude.{Bool, true, ⊤}
use Rattle.rtio_types.specs.declared.request.Reply.{Reply}
use Rattle.kern_syntax.specs.Tree.{Bytes, record_as, Block}
use Rattle.timeline_sem.specs.Expressions.{Callee}
use Rattle.timeline_sem.specs.Statements.{statement, block}
use Rattle.core_isa.specs.declared.code.Code.{Code}
use Rattle.core_isa.specs.declared.instr.Instr.TheVariants as I
use Rattle.code_forms.specs.Setting as C
use Rattle.code_forms.specs.Lines.{line, with_recording}
use Rattle.code_forms.specs.Sizes.{statement_size, block_size}
use Rattle.code_forms.specs.StatementCode.{Inside, under, statement_code, block_code}
use Rattle.code_forms.proofs.StatementLengths.{length-block}
use Rattle.code_follows.specs.Stands.{holding, Setting}
use Rattle.code_follows.specs.Parts.{Follows, Stand}
use Rattle.code_follows.proofs.Lines.{LinesStand, first_part, second_part, one_line}
use Rattle.code_follows.proofs.Records.{in_record, follows_recorded}
use Rattle.code_meaning.proofs.Known.{Known}
use Rattle.code_meaning.proofs.Places.{Placed}

module _ (given : List Reply) (code : Code) (cs : C.Setting) (plain : List Bytes) (callee : Callee) (room : ℕ) (known : Known given code cs plain callee room) (most : ℕ) (l may d : Bool) (inside : Inside) (place : ℕ) (setting : Setting) (g : Placed cs room l may d inside setting) where
  pub follows_record_as : (name : Bytes) (b : Block) → setting.outside ≡ true → slice_get code.names (C.index_of_text cs name) ≡ Some name → (LinesStand code.lines (place + 1) (block_code cs (under (with_recording inside.mark) inside) (place + 1) b) → Follows given code ⊤ most (in_record setting) (place + 1) (place + 1 + block_size cs inside.mark.tries inside.loop.tries b) (holding []) (λ v. ⊤) (λ v. holding []) (block cs.scope callee b)) → LinesStand code.lines place (statement_code cs inside place (record_as name b)) → Follows given code ⊤ most setting place (place + statement_size cs inside.mark.tries inside.loop.tries (record_as name b)) (holding []) (λ v. ⊤) (λ v. holding []) (statement cs.scope callee (record_as name b))
  follows_record_as name b outside named body s =
      let n = block_size cs inside.mark.tries inside.loop.tries b in
      let mark = with_recording inside.mark in
      let within = under mark inside in
      let k = C.index_of_text cs name in
      let opens = line inside.mark (I.Record k) in
      let cb = block_code cs within (place + 1) b in
      let saves = line mark I.Save ∷ [] in
      let front = first_part code.lines place (opens ∷ cb) saves s in
      let long : length (opens ∷ cb) ≡ 1 + n = omega (arith, length-block cs within (place + 1) b) in
      let back = second_part code.lines place (1 + n) (opens ∷ cb) saves long s in
      let at_save : place + (1 + n) ≡ place + 1 + n = omega arith in
      let save = subst (λ p. Stand code.lines p (I.Save ∷ [])) at_save (one_line code.lines (place + (1 + n)) mark I.Save [] back) in
      let past : place + 1 + n + 1 ≡ place + (1 + (n + 1)) = omega arith in
      let whole = follows_recorded given code setting name k place (place + 1 + n) (block cs.scope callee b) outside named (one_line code.lines place inside.mark (I.Record k) cb front) save (body front.1) in
      subst (λ p. Follows given code ⊤ most setting place p (holding []) (λ v. ⊤) (λ v. holding []) (statement cs.scope callee (record_as name b))) past whole
