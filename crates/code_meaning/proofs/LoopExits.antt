-- `break` and `continue`.
use Rattle.std.proofs.Common.{◌≡◌, ℕ, ◌+◌, ◌-◌, List, [], ◌∷◌, ◌++◌, Some, sym, subst}
use Rattle.std.specs.Prelude.{Bool, true, ⊤, replicate}
use Rattle.rtio_types.specs.declared.request.Reply.{Reply}
use Rattle.kern_syntax.specs.Tree as T
use Rattle.kern_syntax.specs.Tree.{Bytes, Expression, Statement, pass, assign, assign_element, augment, augment_element, assign_repeated, assign_list, evaluate, while_do, for_range, sequential, parallel, record_as, try_do, if_then, Block, done, line_then, Otherwise, no_else, else_do, elif_then, Handlers, no_handler, except_then}
use Rattle.timeline_sem.specs.Expressions.{Callee}
use Rattle.timeline_sem.specs.Statements.{statement}
use Rattle.core_isa.specs.declared.code.Code.{Code}
use Rattle.core_isa.specs.declared.instr.Instr.TheVariants as I
use Rattle.code_forms.specs.Setting as C
use Rattle.code_forms.specs.Sizes.{statement_size}
use Rattle.code_forms.specs.StatementCode.{Inside, statement_code}
use Rattle.code_follows.specs.Stands.{holding, Setting}
use Rattle.code_follows.specs.Parts.{Follows, Stand}
use Rattle.code_follows.proofs.Lines.{LinesStand, straight_stands}
use Rattle.code_follows.proofs.Leaving.{follows_break, follows_continue}
use Rattle.code_meaning.proofs.Known.{Known}
use Rattle.code_meaning.proofs.Places.{LoopIs, Placed}

module _ (given : List Reply) (code : Code) (cs : C.Setting) (plain : List Bytes) (callee : Callee) (room : ℕ) (known : Known given code cs plain callee room) (most : ℕ) (l may d : Bool) (inside : Inside) (place : ℕ) (setting : Setting) (g : Placed cs room l may d inside setting) where
  pub follows_break_here : l ≡ true → LinesStand code.lines place (statement_code cs inside place T.break) → Follows given code ⊤ most setting place (place + statement_size cs inside.mark.tries inside.loop.tries T.break) (holding []) (λ v. ⊤) (λ v. holding []) (statement cs.scope callee T.break)
  follows_break_here r s =
      let l = g.in_a_loop r in
      let n = inside.mark.tries - inside.loop.tries in
      let is : LoopIs inside (Some l.0) = subst (λ o. LoopIs inside o) l.1 g.loop in
      let stands : Stand code.lines place (replicate n I.EndTry ++ I.Jump inside.loop.past ∷ []) = straight_stands code.lines place inside.mark (replicate n I.EndTry ++ I.Jump inside.loop.past ∷ []) s in
      let counted = subst (λ k. Stand code.lines place (replicate k I.EndTry ++ I.Jump inside.loop.past ∷ [])) (sym is.2) stands in
      follows_break given code l.0 l.1 (subst (λ k. Stand code.lines place (replicate l.0.handlers_inside I.EndTry ++ I.Jump k ∷ [])) (sym is.1) counted)

  pub follows_continue_here : l ≡ true → LinesStand code.lines place (statement_code cs inside place T.continue) → Follows given code ⊤ most setting place (place + statement_size cs inside.mark.tries inside.loop.tries T.continue) (holding []) (λ v. ⊤) (λ v. holding []) (statement cs.scope callee T.continue)
  follows_continue_here r s =
      let l = g.in_a_loop r in
      let n = inside.mark.tries - inside.loop.tries in
      let is : LoopIs inside (Some l.0) = subst (λ o. LoopIs inside o) l.1 g.loop in
      let stands : Stand code.lines place (replicate n I.EndTry ++ I.Jump inside.loop.again ∷ []) = straight_stands code.lines place inside.mark (replicate n I.EndTry ++ I.Jump inside.loop.again ∷ []) s in
      let counted = subst (λ k. Stand code.lines place (replicate k I.EndTry ++ I.Jump inside.loop.again ∷ [])) (sym is.2) stands in
      follows_continue given code l.0 l.1 (subst (λ k. Stand code.lines place (replicate l.0.handlers_inside I.EndTry ++ I.Jump k ∷ [])) (sym is.0) counted)
