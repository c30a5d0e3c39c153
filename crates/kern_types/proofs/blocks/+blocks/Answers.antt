use Rattle.std.proofs.Common.{rules, ◌≡◌, ◌+◌, None, drop, ap, subst, sym, ◌∙◌}
use Rattle.std.proofs.lemmas.Result.{err_from_is_err_and}
use Rattle.kern_syntax.specs.declared.statement.StmtKind.TheFolds.{the_lemmas}
use Rattle.kern_syntax.specs.Tree.{for_range, if_then}
use Rattle.kern_syntax.specs.TreeOf.{expression_of, block_of, line_of, lines_of, branches_of, elif_of, statement_of}
use Rattle.kern_expression_types.specs.Answers.{Leaves}
use Rattle.kern_expression_types.specs.KnownOf.{functions_of}
use Rattle.kern_types.specs.Statements.{at_line, block_verdict, branches_verdict, inside_loop, loop_verdict, statement_verdict}
use Rattle.kern_expression_types.specs.Verdicts.{well, fault}
use Rattle.kern_types.proofs.Branches.{leaves-same, leaves-then, branch-read, branch-faulted, if-faulted, if-then}
use Rattle.kern_types.proofs.Lines.{line-read, line-faulted}
use Rattle.kern_expression_types.proofs.Lists.{drop-item}
use Rattle.kern_types.proofs.blocks.+blocks.Goals as goal

pub check_branches-returns-in_err-check_elif : goal.check_branches-returns-in_err-check_elif
check_branches-returns-in_err-check_elif t c =
    let functions = functions_of c.args.known.now in
    let place = c.args.place in
    let names = c.loop-branch.names in
    let i = c.loop-branch.branch-index in
    let item = c.branch-item.result in
    let found = c.in_err-check_elif.field-0.0 in
    let rest = branches_of (drop (i + 1) c.args.branches.now) None in
    let next : branches_of (drop i c.args.branches.now) None ≡ elif_of item rest = ap (λ branches. branches_of branches None) (drop-item c.args.branches.now i item c.loop-branch-test.true c.branch-item.is) in
    let whole = branch-faulted functions place found names item rest _ (c.loop-branch.invariant ∙ ap (λ branches. branches_verdict functions branches place names) next) c.in_err-check_elif.ensures in
    let p = err_from_is_err_and c.from_residual.result c.from_residual.ensures.1 in
    rw (p.1, p.2) whole

pub check_branches-loop-branch-preserved : goal.check_branches-loop-branch-preserved
check_branches-loop-branch-preserved t c =
    let functions = functions_of c.args.known.now in
    let place = c.args.place in
    let names = c.loop-branch.names in
    let i = c.loop-branch.branch-index in
    let item = c.branch-item.result in
    let rest = branches_of (drop (i + 1) c.args.branches.now) None in
    let next : branches_of (drop i c.args.branches.now) None ≡ elif_of item rest = ap (λ branches. branches_of branches None) (drop-item c.args.branches.now i item c.loop-branch-test.true c.branch-item.is) in
    branch-read functions place names c.check_elif.new.names item rest _ (c.loop-branch.invariant ∙ ap (λ branches. branches_verdict functions branches place names) next) c.in_ok-check_elif.ensures

pub check_statement-returns-in_err-check_branches-in-If :
    goal.check_statement-returns-in_err-check_branches-in-If
check_statement-returns-in_err-check_branches-in-If t c =
    let arm = c.in-If in
    let functions = functions_of c.args.known.now in
    let place = c.args.place in
    let names = c.args.names.now in
    let one = c.check_block.new.names in
    let found = c.in_err-check_branches-in-If.field-0.0 in
    let tree : statement_of c.args.statement.now ≡ if_then (expression_of arm.condition) (block_of arm.body) (branches_of arm.branches.items arm.last) = search (rules, the_lemmas) in
    let faulted : branches_verdict functions (branches_of arm.branches.items None) place one ≡ fault found.line found.kind = subst (λ branches. branches_verdict functions (branches_of branches None) place one ≡ fault found.line found.kind) c.deref.ensures.value c.in_err-check_branches-in-If.ensures in
    let whole : statement_verdict functions (statement_of c.args.statement.now) place names ≡ fault found.line found.kind = ap (λ s. statement_verdict functions s place names) tree ∙ if-faulted functions place found names one (expression_of arm.condition) (block_of arm.body) arm.branches.items arm.last c.in_ok-check_condition-in-If.ensures c.in_ok-check_block-in-If.ensures faulted in
    let p = err_from_is_err_and c.from_residual-in_err-check_branches-in-If.result c.from_residual-in_err-check_branches-in-If.ensures.1 in
    rw (p.1, p.2) whole

pub check_statement-returns-in_ok-check_branches-in-If :
    goal.check_statement-returns-in_ok-check_branches-in-If
check_statement-returns-in_ok-check_branches-in-If t c =
    let arm = c.in-If in
    let functions = functions_of c.args.known.now in
    let place = c.args.place in
    let names = c.args.names.now in
    let one = c.check_block.new.names in
    let two = c.check_branches.new.names in
    let r = c.check_else.result in
    let left = c.check_else.new.names in
    let tree : statement_of c.args.statement.now ≡ if_then (expression_of arm.condition) (block_of arm.body) (branches_of arm.branches.items arm.last) = search (rules, the_lemmas) in
    let front : branches_verdict functions (branches_of arm.branches.items None) place one ≡ well two = ap (λ branches. branches_verdict functions (branches_of branches None) place one) (sym c.deref.ensures.value) ∙ c.in_ok-check_branches-in-If.ensures in
    leaves-same r left _ _ (ap (λ s. statement_verdict functions s place names) (sym tree)) (if-then functions place r left names one two (expression_of arm.condition) (block_of arm.body) arm.branches.items arm.last c.in_ok-check_condition-in-If.ensures c.in_ok-check_block-in-If.ensures front c.check_else.ensures)

pub check_statement-returns-in_ok-check_loop_to-in-ForTo :
    goal.check_statement-returns-in_ok-check_loop_to-in-ForTo
check_statement-returns-in_ok-check_loop_to-in-ForTo t c =
    let arm = c.in-ForTo in
    let functions = functions_of c.args.known.now in
    let place = c.args.place in
    let names = c.args.names.now in
    let after = c.check_loop_to.new.names in
    let r = c.check_block-in-ForTo.result in
    let left = c.check_block-in-ForTo.new.names in
    let tree : statement_of c.args.statement.now ≡ for_range arm.x None (expression_of arm.to) (block_of arm.body) = search (rules, the_lemmas) in
    let header : loop_verdict functions place names arm.x None (expression_of arm.to) ≡ well after = ap (λ x. loop_verdict functions place names x None (expression_of arm.to)) (sym c.bytes.ensures) ∙ c.in_ok-check_loop_to-in-ForTo.ensures in
    let body : Leaves r left (block_verdict functions (block_of arm.body) (inside_loop place) after) = leaves-same r left _ _ (ap (λ p. block_verdict functions (block_of arm.body) p after) c.inside_loop-in-ForTo.ensures) c.check_block-in-ForTo.ensures in
    leaves-same r left _ _ (ap (λ s. statement_verdict functions s place names) (sym tree)) (leaves-then r left (loop_verdict functions place names arm.x None (expression_of arm.to)) after (λ after. block_verdict functions (block_of arm.body) (inside_loop place) after) header body)

pub check_block-returns-in_err-check_statement : goal.check_block-returns-in_err-check_statement
check_block-returns-in_err-check_statement t c =
    let functions = functions_of c.args.known.now in
    let place = c.args.place in
    let names = c.loop-statement.names in
    let items = c.deref-statement-items.result.now in
    let i = c.loop-statement.statement-index in
    let item = c.statement-item.result in
    let found = c.in_err-check_statement.field-0.0 in
    let next : lines_of (drop i items) ≡ line_of item (lines_of (drop (i + 1) items)) = ap lines_of (drop-item items i item c.loop-statement-test.true c.statement-item.is) in
    let faulted : statement_verdict functions (statement_of item.kind) (at_line place item.line) names ≡ fault found.line found.kind = subst (λ p. statement_verdict functions (statement_of item.kind) p names ≡ fault found.line found.kind) c.at_line-place.ensures c.in_err-check_statement.ensures in
    let whole = line-faulted functions place found names item (lines_of (drop (i + 1) items)) _ (c.loop-statement.invariant ∙ ap (λ lines. block_verdict functions lines place names) next) faulted in
    let p = err_from_is_err_and c.from_residual.result c.from_residual.ensures.1 in
    rw (p.1, p.2) whole

pub check_block-loop-statement-preserved : goal.check_block-loop-statement-preserved
check_block-loop-statement-preserved t c =
    let functions = functions_of c.args.known.now in
    let place = c.args.place in
    let names = c.loop-statement.names in
    let items = c.deref-statement-items.result.now in
    let i = c.loop-statement.statement-index in
    let item = c.statement-item.result in
    let next : lines_of (drop i items) ≡ line_of item (lines_of (drop (i + 1) items)) = ap lines_of (drop-item items i item c.loop-statement-test.true c.statement-item.is) in
    let read : statement_verdict functions (statement_of item.kind) (at_line place item.line) names ≡ well c.check_statement.new.names = ap (λ p. statement_verdict functions (statement_of item.kind) p names) (sym c.at_line-place.ensures) ∙ c.in_ok-check_statement.ensures in
    line-read functions place names c.check_statement.new.names item (lines_of (drop (i + 1) items)) _ (c.loop-statement.invariant ∙ ap (λ lines. block_verdict functions lines place names) next) read
