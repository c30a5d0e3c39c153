use Rattle.std.proofs.Common.{rules, ◌≡◌, ◌+◌, ◌<◌, ◌^◌, [], ◌∷◌, ◌++◌, drop, length, None, Some, option_map, refl, ap, subst, sym, ◌∙◌, arith}
use Rattle.std.proofs.lemmas.Grind.{common_steps}
use Rattle.std.proofs.lemmas.List.{take_rest}
use Rattle.kern_syntax.specs.declared.statement.Elif.{out-Elif}
use Rattle.kern_syntax.specs.declared.statement.StmtKind.TheFolds.{the_lemmas}
use Rattle.kern_syntax.specs.Tree.{Statement, Otherwise, if_then, for_range, record_as, try_do, elif_then}
use Rattle.kern_syntax.specs.TreeOf.{expression_of, block_of, statement_of, branches_of, elif_of, else_of, handlers_of}
use Rattle.kern_expression_types.proofs.Lists.{drop-item}
use Rattle.core_isa.specs.declared.instr.Instr.TheVariants as I
use Rattle.code_forms.specs.declared.test_kind.TestKind.TheVariants.{Branch, LoopEnd}
use Rattle.code_forms.specs.Lines.{line, straight}
use Rattle.code_forms.specs.Setting.{index_of_text}
use Rattle.code_forms.specs.Sizes.{statement_size, block_size}
use Rattle.code_forms.specs.StatementCode.{for_goes_on, statement_code, handlers_code}
use Rattle.code_ranges.specs.ReadyStatements.{StatementFits, OtherwiseFits}
use Rattle.code_ranges.proofs.Asked.{asked_fits}
use Rattle.core_code_names.specs.SettingOf.{setting_of}
use Rattle.core_code_sizes.specs.Parts.{followed_size}
use Rattle.core_code_simple.specs.InsideOf.{inside_of}
use Rattle.core_code_statements.specs.Parts.{is_followed, followed_code, turns_code}
use Rattle.core_code_statements.proofs.Forms.{on_ok, for_put, turns_put, record_put, try_put, if_put, elif_put, else_fits}
use Rattle.core_code_statements.proofs.+statements.Goals as goal

pub branches::put_branch-put_asked-requires : goal.branches::put_branch-put_asked-requires
branches::put_branch-put_asked-requires t c =
    record {
      fits = asked_fits Branch c.args.inside.mark (expression_of c.args.condition.now) c.requires.condition;
      places = omega (arith, c.requires.places);
    }

pub loops::put_while-put_asked-requires : goal.loops::put_while-put_asked-requires
loops::put_while-put_asked-requires t c =
    record {
      fits = asked_fits LoopEnd c.args.inside.mark (expression_of c.args.condition.now) c.requires.fits.0;
      places = omega (arith, c.requires.places, c.in_ok-put_all.ensures.longer, c.in_ok-put_block.ensures.longer);
    }

pub branches::put_branches-loop-index-preserved : goal.branches::put_branches-loop-index-preserved
branches::put_branches-loop-index-preserved t c =
    let s = setting_of c.args.setting.now in
    let inside = inside_of c.args.inside in
    let i = c.loop-index.index in
    let item = c.index-branches-index.result in
    let end = c.args.end in
    let last = c.args.last.now in
    let l0 = c.loop-index.lines.items in
    let l1 = c.put.new.lines.items in
    let l2 = c.put_branch.new.lines.items in
    let condition = expression_of (out-Elif item).condition in
    let body = block_of (out-Elif item).body in
    let rest = branches_of (drop (i + 1) c.args.branches.now) last in
    let step : elif_of item rest ≡ elif_then (out-Elif item).line condition body rest = search (rules, the_lemmas) in
    let next : branches_of (drop i c.args.branches.now) last ≡ elif_then (out-Elif item).line condition body rest = ap (λ bs. branches_of bs last) (drop-item c.args.branches.now i item c.loop-index-test.true c.index-branches-index.is) ∙ step in
    let at : end ≡ length l0 + followed_size s inside.mark.tries inside.loop.tries (elif_then (out-Elif item).line condition body rest) = c.loop-index.invariant.1 ∙ ap (λ bs. length l0 + followed_size s inside.mark.tries inside.loop.tries bs) next in
    let followed : c.is_followed-followed.result ≡ is_followed rest = c.is_followed-followed.ensures ∙ ap (λ bs. is_followed (branches_of bs last)) (take_rest c.args.branches.now (i + 1)) in
    let put = elif_put s inside end (out-Elif item).line condition body rest c.is_followed-followed.result l0 l1 l2 followed at c.in_ok-put.ensures.code c.in_ok-put.ensures.longer c.in_ok-put_branch.ensures.code c.in_ok-put_branch.ensures.longer in
    let fits : OtherwiseFits s inside.mark inside.free (elif_then (out-Elif item).line condition body rest) = subst (λ (bs : Otherwise). OtherwiseFits s inside.mark inside.free bs) next c.loop-index.invariant.2 in
    let code : l2 ++ followed_code s inside (length l2) end rest ≡ c.args.lines.now.items ++ followed_code s inside (length c.args.lines.now.items) end (branches_of c.args.branches.now last) = put ∙ ap (λ bs. l0 ++ followed_code s inside (length l0) end bs) (sym next) ∙ c.loop-index.invariant.0 in
    let after : end ≡ length l2 + followed_size s inside.mark.tries inside.loop.tries rest = omega (arith, at, c.in_ok-put.ensures.longer, c.in_ok-put_branch.ensures.longer) in
    (code, after, fits.2)

pub blocks::put_statement-put_else-requires : goal.blocks::put_statement-put_else-requires
blocks::put_statement-put_else-requires t c =
    let arm = c.in-If in
    let s = setting_of c.args.setting.now in
    let inside = inside_of c.args.inside in
    let last = else_of (option_map block_of arm.last) in
    let tree : statement_of c.args.statement.now ≡ if_then (expression_of arm.condition) (block_of arm.body) (branches_of arm.branches.items arm.last) = search (rules, the_lemmas) in
    let whole : StatementFits s inside.mark inside.free (if_then (expression_of arm.condition) (block_of arm.body) (branches_of arm.branches.items arm.last)) = subst (λ (x : Statement). StatementFits s inside.mark inside.free x) tree c.requires.fits in
    let fits : OtherwiseFits s inside.mark inside.free last = else_fits s inside.mark inside.free arm.branches.items arm.last whole.2 in
    let places : length c.put_branches.new.lines.items + followed_size s inside.mark.tries inside.loop.tries last < 2 ^ 31 = omega (arith, c.in_ok-put_branches-in-If.ensures.end, c.end_of-end.ensures, c.len.ensures, c.args.lines.now.ok.0, c.requires.places) in
    (first_of (search (rules, the_lemmas), grind (the_lemmas, arith, common_steps)), (c.requires.space, (fits, places)))

pub blocks::put_statement-returns-in_ok-put_branches-in-If-clause-code :
    goal.blocks::put_statement-returns-in_ok-put_branches-in-If-clause-code
blocks::put_statement-returns-in_ok-put_branches-in-If-clause-code t c =
    let arm = c.in-If in
    let s = setting_of c.args.setting.now in
    let inside = inside_of c.args.inside in
    let end = c.end_of-end.result in
    let l0 = c.args.lines.now.items in
    let l1 = c.put_branch.new.lines.items in
    let l2 = c.put_branches.new.lines.items in
    let l3 = c.put_else.new.lines.items in
    let condition = expression_of arm.condition in
    let body = block_of arm.body in
    let rest = branches_of arm.branches.items arm.last in
    let last = else_of (option_map block_of arm.last) in
    let tree : statement_of c.args.statement.now ≡ if_then condition body rest = search (rules, the_lemmas) in
    let followed : c.is_followed-followed.result ≡ is_followed rest = c.is_followed-followed.ensures ∙ ap (λ bs. is_followed (branches_of bs arm.last)) c.deref.ensures.value in
    let at : end ≡ length l0 + statement_size s inside.mark.tries inside.loop.tries (if_then condition body rest) = c.end_of-end.ensures ∙ ap (λ p. p + statement_size s inside.mark.tries inside.loop.tries (statement_of c.args.statement.now)) (c.len.ensures ∙ c.args.lines.now.ok.0) ∙ ap (λ x. length l0 + statement_size s inside.mark.tries inside.loop.tries x) tree in
    let others : l2 ++ followed_code s inside (length l2) end last ≡ l1 ++ followed_code s inside (length l1) end rest = c.in_ok-put_branches-in-If.ensures.code ∙ ap (λ bs. l1 ++ followed_code s inside (length l1) end (branches_of bs arm.last)) c.deref-in-If.ensures.value in
    on_ok c.put_else.result (l3 ≡ l2 ++ followed_code s inside (length l2) end last) (l3 ≡ l0 ++ statement_code s inside (length l0) (statement_of c.args.statement.now)) (λ e3. if_put s inside end condition body rest last c.is_followed-followed.result l0 l1 l2 l3 followed at c.in_ok-put_branch-in-If.ensures.code c.in_ok-put_branch-in-If.ensures.longer others e3 ∙ ap (λ x. l0 ++ statement_code s inside (length l0) x) (sym tree)) c.put_else.ensures.code

pub blocks::put_statement-returns-in_ok-put-in-ForTo-clause-code : goal.blocks::put_statement-returns-in_ok-put-in-ForTo-clause-code
blocks::put_statement-returns-in_ok-put-in-ForTo-clause-code t c =
    let arm = c.in-ForTo in
    let s = setting_of c.args.setting.now in
    let inside = inside_of c.args.inside in
    let l0 = c.args.lines.now.items in
    let l1 = c.put.new.lines.items in
    let l2 = c.put_turns.new.lines.items in
    let to = expression_of arm.to in
    let body = block_of arm.body in
    let tree : statement_of c.args.statement.now ≡ for_range arm.name None to body = search (rules, the_lemmas) in
    on_ok c.put_turns.result (l2 ≡ l1 ++ turns_code s inside (length l1) c.bytes.result.now to body) (l2 ≡ l0 ++ statement_code s inside (length l0) (statement_of c.args.statement.now)) (λ e2. for_put s inside arm.name None to body l0 l1 l2 c.in_ok-put-in-ForTo.ensures.code c.in_ok-put-in-ForTo.ensures.longer (e2 ∙ ap (λ x. l1 ++ turns_code s inside (length l1) x to body) c.bytes.ensures) ∙ ap (λ x. l0 ++ statement_code s inside (length l0) x) (sym tree)) c.put_turns.ensures.code

pub blocks::put_statement-returns-in_ok-put_expression-in-ForFromTo-clause-code :
    goal.blocks::put_statement-returns-in_ok-put_expression-in-ForFromTo-clause-code
blocks::put_statement-returns-in_ok-put_expression-in-ForFromTo-clause-code t c =
    let arm = c.in-ForFromTo in
    let s = setting_of c.args.setting.now in
    let inside = inside_of c.args.inside in
    let l0 = c.args.lines.now.items in
    let l1 = c.put_expression.new.lines.items in
    let l2 = c.put_turns-in-ForFromTo.new.lines.items in
    let from = Some (expression_of arm.from) in
    let to = expression_of arm.to in
    let body = block_of arm.body in
    let tree : statement_of c.args.statement.now ≡ for_range arm.name from to body = search (rules, the_lemmas) in
    on_ok c.put_turns-in-ForFromTo.result (l2 ≡ l1 ++ turns_code s inside (length l1) c.bytes-in-ForFromTo.result.now to body) (l2 ≡ l0 ++ statement_code s inside (length l0) (statement_of c.args.statement.now)) (λ e2. for_put s inside arm.name from to body l0 l1 l2 c.in_ok-put_expression-in-ForFromTo.ensures.code c.in_ok-put_expression-in-ForFromTo.ensures.longer (e2 ∙ ap (λ x. l1 ++ turns_code s inside (length l1) x to body) c.bytes-in-ForFromTo.ensures) ∙ ap (λ x. l0 ++ statement_code s inside (length l0) x) (sym tree)) c.put_turns-in-ForFromTo.ensures.code

pub blocks::put_statement-returns-in_ok-put_block-in-Record-clause-code :
    goal.blocks::put_statement-returns-in_ok-put_block-in-Record-clause-code
blocks::put_statement-returns-in_ok-put_block-in-Record-clause-code t c =
    let arm = c.in-Record in
    let s = setting_of c.args.setting.now in
    let inside = inside_of c.args.inside in
    let l0 = c.args.lines.now.items in
    let l1 = c.put-in-Record.new.lines.items in
    let l2 = c.put_block-in-Record.new.lines.items in
    let l3 = c.put-in-Record-2.new.lines.items in
    let body = block_of arm.body in
    let tree : statement_of c.args.statement.now ≡ record_as arm.name body = search (rules, the_lemmas) in
    let name : c.text_index-name.result ≡ index_of_text s arm.name = c.text_index-name.ensures ∙ ap (index_of_text s) c.bytes-in-Record.ensures.value in
    let put : l3 ≡ l2 ++ line c.with_recording-mark.result I.Save ∷ [] → l3 ≡ l0 ++ statement_code s inside (length l0) (statement_of c.args.statement.now) = λ e3. record_put s inside c.with_recording-mark.result c.text_index-name.result arm.name body l0 l1 l2 l3 c.with_recording-mark.ensures name c.in_ok-put-in-Record.ensures.code c.in_ok-put-in-Record.ensures.longer c.in_ok-put_block-in-Record.ensures.code e3 ∙ ap (λ x. l0 ++ statement_code s inside (length l0) x) (sym tree) in
    on_ok c.put-in-Record-2.result (l3 ≡ l2 ++ line c.with_recording-mark.result I.Save ∷ []) (l3 ≡ l0 ++ statement_code s inside (length l0) (statement_of c.args.statement.now)) put c.put-in-Record-2.ensures.code

pub blocks::put_statement-returns-in_ok-put_tried-in-Try-clause-code :
    goal.blocks::put_statement-returns-in_ok-put_tried-in-Try-clause-code
blocks::put_statement-returns-in_ok-put_tried-in-Try-clause-code t c =
    let arm = c.in-Try in
    let s = setting_of c.args.setting.now in
    let inside = inside_of c.args.inside in
    let end = c.end_of-end-in-Try.result in
    let l0 = c.args.lines.now.items in
    let l1 = c.put_tried.new.lines.items in
    let l2 = c.put_handlers.new.lines.items in
    let body = block_of arm.body in
    let handlers = handlers_of arm.handlers.items in
    let tree : statement_of c.args.statement.now ≡ try_do body handlers = search (rules, the_lemmas) in
    let at : end ≡ length l0 + statement_size s inside.mark.tries inside.loop.tries (try_do body handlers) = c.end_of-end-in-Try.ensures ∙ ap (λ p. p + statement_size s inside.mark.tries inside.loop.tries (statement_of c.args.statement.now)) (c.len-in-Try.ensures ∙ c.args.lines.now.ok.0) ∙ ap (λ x. length l0 + statement_size s inside.mark.tries inside.loop.tries x) tree in
    on_ok c.put_handlers.result (l2 ≡ l1 ++ handlers_code s inside (length l1) end (handlers_of c.deref-in-Try.result.now)) (l2 ≡ l0 ++ statement_code s inside (length l0) (statement_of c.args.statement.now)) (λ e2. try_put s inside end body handlers l0 l1 l2 at c.in_ok-put_tried-in-Try.ensures.code c.in_ok-put_tried-in-Try.ensures.longer (e2 ∙ ap (λ hs. l1 ++ handlers_code s inside (length l1) end (handlers_of hs)) c.deref-in-Try.ensures.value) ∙ ap (λ x. l0 ++ statement_code s inside (length l0) x) (sym tree)) c.put_handlers.ensures.code

pub loops::put_turns-returns-clause-code : goal.loops::put_turns-returns-clause-code
loops::put_turns-returns-clause-code t c =
    let s = setting_of c.args.setting.now in
    let inside = inside_of c.args.inside in
    let place = c.len-place.result in
    let again = place + 10 + c.turn_size.result in
    let l0 = c.args.lines.now.items in
    let l1 = c.put_expression.new.lines.items in
    let l2 = c.put_turn_begin.new.lines.items in
    let l3 = c.put_block.new.lines.items in
    let l4 = c.put_turn_end.new.lines.items in
    let to = expression_of c.args.to.now in
    let body = block_of c.args.body.now in
    let here : place ≡ length l1 = c.len-place.ensures ∙ c.put_expression.new.lines.ok.0 in
    let at : again ≡ length l1 + 10 + block_size s inside.mark.tries inside.mark.tries body = omega (arith, here, c.turn_size.ensures) in
    let turn : place + 3 ≡ length l1 + 3 = omega (arith, here) in
    let put : l4 ≡ l3 ++ straight inside.mark (for_goes_on inside (place + 3)) → l4 ≡ l0 ++ turns_code s inside (length l0) c.args.name.now to body = λ e4. turns_put s inside c.raised.result c.args.name.now to body again (again + 4) (place + 3) l0 l1 l2 l3 l4 c.in_ok-put_expression.ensures.code c.raised.ensures c.in_ok-put_expression.ensures.longer at refl c.in_ok-put_turn_begin.ensures.code c.in_ok-put_turn_begin.ensures.longer c.in_ok-put_block.ensures.code turn e4 in
    on_ok c.put_turn_end.result (l4 ≡ l3 ++ straight inside.mark (for_goes_on inside (place + 3))) (l4 ≡ l0 ++ turns_code s inside (length l0) c.args.name.now to body) put c.put_turn_end.ensures.code
