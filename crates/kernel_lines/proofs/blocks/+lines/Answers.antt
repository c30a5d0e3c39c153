use Rattle.std.proofs.Common.{rules, ◌≡◌, ◌+◌, ◌<◌, ◌^◌, ◌++◌, option_map, drop, length, ap, sym, ◌∙◌, arith}
use Rattle.std.proofs.lemmas.Bool.Decides.{nat_tests}
use Rattle.std.proofs.lemmas.Grind.{common_steps}
use Rattle.std.proofs.lemmas.List.{take_rest}
use Rattle.std.proofs.lemmas.Result.{on_ok_weaker}
use Rattle.kern_syntax.specs.declared.statement.Elif.{out-Elif}
use Rattle.kern_syntax.specs.declared.statement.Stmt.{out-Stmt}
use Rattle.kern_syntax.specs.declared.statement.StmtKind.TheFolds.{the_lemmas}
use Rattle.kern_syntax.specs.Tree.{line_then, if_then, elif_then, try_do}
use Rattle.kern_syntax.specs.TreeOf.{expression_of, block_of, statement_of, lines_of, line_of, branches_of, elif_of, else_of, handlers_of}
use Rattle.kern_expression_types.proofs.Lists.{drop-item}
use Rattle.code_forms.specs.Sizes.{exit_size, statement_size, otherwise_size}
use Rattle.core_code_names.specs.SettingOf.{setting_of}
use Rattle.core_code_sizes.specs.Parts.{left_size}
use Rattle.kernel_lines.specs.KernelLines.{statement_lines, parallel_lines, otherwise_lines, handlers_lines}
use Rattle.kernel_lines.specs.Parts.{left_lines}
use Rattle.kernel_lines.proofs.Forms.{else_within, elif_put, if_put, try_put, first_put, next_put, left_within, none_left}
use Rattle.kernel_lines.proofs.blocks.+lines.Goals as goal
use Rattle.kernel_lines.proofs.blocks.+lines.Goals.{put_together-then-number-gt0+in_ok-put_line, put_together-else-number-gt0}

pub put_together-loop-number-preserved : goal.put_together-loop-number-preserved
put_together-loop-number-preserved t c =
    let s = setting_of c.args.setting.now in
    let n = c.args.tries in
    let k = c.args.kept in
    let h = c.args.header in
    let i = c.loop-number.number in
    let items = c.deref-statement-items.result.now in
    let item = c.statement-item.result in
    let line = (out-Stmt item).line in
    let kind = statement_of (out-Stmt item).kind in
    let rest = lines_of (drop (i + 1) items) in
    let l0 = c.loop-number.lines.items in
    let l2 = c.put_statement.new.lines.items in
    let step : line_of item rest ≡ line_then line kind rest = search (rules, the_lemmas) in
    let next : lines_of (drop i items) ≡ line_then line kind rest = ap lines_of (drop-item items i item c.loop-number-test.true c.statement-item.is) ∙ step in
    let put : l2 ++ left_lines s n k h (i + 1) rest ≡ l0 ++ left_lines s n k h i (line_then line kind rest) =
    elim c.if-number-gt0.branch [
      | put_together-then-number-gt0+in_ok-put_line w ↦ next_put s n k h line kind rest i l0 c.if-number-gt0.lines.items l2 w.if-number-gt0.true (ap (λ v. v.items) w.lines-is ∙ w.in_ok-put_line.ensures) c.in_ok-put_statement.ensures
      | put_together-else-number-gt0 w ↦ first_put s n k h line kind rest i l0 l2 (omega (arith, w.if-number-gt0.false)) (c.in_ok-put_statement.ensures ∙ ap (λ v. v.items ++ statement_lines s n k line kind) w.lines-is)
    ] in
    let small : n + left_size s n k (i + 1) rest < 2 ^ 32 = omega (arith, left_within s n k h line kind rest i, ap (left_size s n k i) next, c.loop-number.invariant.1) in
    (put ∙ ap (λ b. l0 ++ left_lines s n k h i b) (sym next) ∙ c.loop-number.invariant.0, small)

pub put_together-returns-then-is_empty : goal.put_together-returns-then-is_empty
put_together-returns-then-is_empty t c =
    let s = setting_of c.args.setting.now in
    let items = c.deref-statement-items.result.now in
    let whole = c.args.lines.now.items ++ parallel_lines s c.args.tries c.args.kept c.args.header (block_of c.args.body.now) in
    let none : length items ≡ 0 = grind (arith, nat_tests) in
    none_left s c.args.tries c.args.kept c.args.header items c.loop-number.number c.loop-number.lines.items whole (omega (arith, c.loop-number.auto.number-end)) none c.loop-number.invariant.0

pub put_branches-loop-index-preserved : goal.put_branches-loop-index-preserved
put_branches-loop-index-preserved t c =
    let s = setting_of c.args.setting.now in
    let n = c.args.tries in
    let k = c.args.kept in
    let branches = c.args.branches.now in
    let last = c.args.last.now in
    let i = c.loop-index.index in
    let item = c.index-branches-index.result in
    let line = (out-Elif item).line in
    let condition = expression_of (out-Elif item).condition in
    let body = block_of (out-Elif item).body in
    let rest = branches_of (drop (i + 1) branches) last in
    let l0 = c.loop-index.lines.items in
    let l1 = c.put_branch.new.lines.items in
    let l2 = c.put_line.new.lines.items in
    let step : elif_of item rest ≡ elif_then line condition body rest = search (rules, the_lemmas) in
    let next : branches_of (drop i branches) last ≡ elif_then line condition body rest = ap (λ bs. branches_of bs last) (drop-item branches i item c.loop-index-test.true c.index-branches-index.is) ∙ step in
    let exit : c.exit_size.result ≡ exit_size s rest = c.exit_size.ensures s ∙ ap (λ bs. exit_size s (branches_of bs last)) (take_rest branches (i + 1)) in
    let put : l2 ++ otherwise_lines s n k rest ≡ l0 ++ otherwise_lines s n k (elif_then line condition body rest) = elif_put s n k line condition body rest c.exit_size.result l0 l1 l2 exit c.in_ok-put_branch.ensures c.in_ok-put_line.ensures in
    let small : n + otherwise_size s n k rest < 2 ^ 32 = omega (arith, ap (otherwise_size s n k) next, c.loop-index.invariant.1) in
    (put ∙ ap (λ bs. l0 ++ otherwise_lines s n k bs) (sym next) ∙ c.loop-index.invariant.0, small)

pub put_statement-put_else-requires : goal.put_statement-put_else-requires
put_statement-put_else-requires t c =
    let arm = c.in-If in
    let s = setting_of c.args.setting.now in
    let n = c.args.tries in
    let k = c.args.kept in
    let rest = branches_of arm.branches.items arm.last in
    let last = else_of (option_map block_of arm.last) in
    let tree : statement_of c.args.statement.now ≡ if_then (expression_of arm.condition) (block_of arm.body) rest = search (rules, the_lemmas) in
    let small : n + otherwise_size s n k last < 2 ^ 32 = omega (arith, ap (statement_size s n k) tree, else_within s n k arm.branches.items arm.last, c.requires) in
    (first_of (search (rules, the_lemmas), grind (the_lemmas, arith, common_steps)), small)

pub put_statement-returns-in_ok-put_branches-in-If :
    goal.put_statement-returns-in_ok-put_branches-in-If
put_statement-returns-in_ok-put_branches-in-If t c =
    let arm = c.in-If in
    let s = setting_of c.args.setting.now in
    let n = c.args.tries in
    let k = c.args.kept in
    let line = c.args.line in
    let condition = expression_of arm.condition in
    let body = block_of arm.body in
    let rest = branches_of arm.branches.items arm.last in
    let last = else_of (option_map block_of arm.last) in
    let l0 = c.args.lines.now.items in
    let l1 = c.put_branch.new.lines.items in
    let l2 = c.put_line.new.lines.items in
    let l3 = c.put_branches.new.lines.items in
    let l4 = c.put_else.new.lines.items in
    let tree : statement_of c.args.statement.now ≡ if_then condition body rest = search (rules, the_lemmas) in
    let exit : c.exit_size.result ≡ exit_size s rest = c.exit_size.ensures s ∙ ap (λ bs. exit_size s (branches_of bs arm.last)) c.deref.ensures.value in
    let others : l3 ++ otherwise_lines s n k last ≡ l2 ++ otherwise_lines s n k rest = c.in_ok-put_branches-in-If.ensures ∙ ap (λ bs. l2 ++ otherwise_lines s n k (branches_of bs arm.last)) c.deref-in-If.ensures.value in
    let put : l4 ≡ l3 ++ otherwise_lines s n k last → l4 ≡ l0 ++ statement_lines s n k line (statement_of c.args.statement.now) = λ e4. if_put s n k line condition body rest last c.exit_size.result l0 l1 l2 l3 l4 exit c.in_ok-put_branch-in-If.ensures c.in_ok-put_line-in-If.ensures others e4 ∙ ap (λ x. l0 ++ statement_lines s n k line x) (sym tree) in
    on_ok_weaker c.put_else.result put c.put_else.ensures

pub put_statement-returns-in_ok-put_tried-in-Try : goal.put_statement-returns-in_ok-put_tried-in-Try
put_statement-returns-in_ok-put_tried-in-Try t c =
    let arm = c.in-Try in
    let s = setting_of c.args.setting.now in
    let n = c.args.tries in
    let k = c.args.kept in
    let line = c.args.line in
    let body = block_of arm.body in
    let handlers = handlers_of arm.handlers.items in
    let l0 = c.args.lines.now.items in
    let l1 = c.put_tried.new.lines.items in
    let l2 = c.put_handlers.new.lines.items in
    let tree : statement_of c.args.statement.now ≡ try_do body handlers = search (rules, the_lemmas) in
    let put : l2 ≡ l1 ++ handlers_lines s n k (handlers_of c.deref-in-Try.result.now) → l2 ≡ l0 ++ statement_lines s n k line (statement_of c.args.statement.now) = λ e2. try_put s n k line body handlers l0 l1 l2 c.in_ok-put_tried-in-Try.ensures (e2 ∙ ap (λ hs. l1 ++ handlers_lines s n k (handlers_of hs)) c.deref-in-Try.ensures.value) ∙ ap (λ x. l0 ++ statement_lines s n k line x) (sym tree) in
    on_ok_weaker c.put_handlers.result put c.put_handlers.ensures
