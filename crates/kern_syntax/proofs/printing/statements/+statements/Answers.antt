use Rattle.std.proofs.Common.{rules, ◌≡◌, ◌++◌, suc, None, Some, option_map, codes, append_assoc}
use Rattle.kern_syntax.specs.declared.statement.StmtKind.TheFolds.{the_lemmas}
use Rattle.kern_syntax.specs.Tree.{if_then, while_do, for_range, parallel, sequential, record_as, try_do}
use Rattle.kern_syntax.specs.Print.{statement_text, block_text, otherwise_text, handlers_text, expression_text, indent}
use Rattle.kern_syntax.specs.TreeOf.{statement_of, block_of, branches_of, else_of, handlers_of, expression_of}
use Rattle.kern_syntax.proofs.Appended.{on_ok_same, closed_header}
use Rattle.kern_syntax.proofs.Branches.{otherwise_text-else}
use Rattle.kern_syntax.proofs.printing.statements.+statements.Goals as goal

pub put_statement-returns-in_ok-put_branches-in-If :
    goal.put_statement-returns-in_ok-put_branches-in-If
put_statement-returns-in_ok-put_branches-in-If t c =
    let arm = c.in-If in
    let level = c.args.level in
    let tree : statement_of c.args.statement.now ≡ if_then (expression_of arm.condition) (block_of arm.body) (branches_of arm.branches.items arm.last) = search (rules, the_lemmas) in
    let others = c.deref-in-If.ensures.value in
    on_ok_same
    c.put_else.result
    c.put_else.new.text.items
    (c.put_branches.new.text.items ++ otherwise_text (else_of (option_map block_of arm.last)) level)
    (c.args.text.now.items ++ statement_text (statement_of c.args.statement.now) level)
    (rw (c.in_ok-put_branches-in-If.ensures, others, c.in_ok-put_body-in-If.ensures, c.in_ok-put_after-in-If.ensures, c.in_ok-put_indent.ensures, tree, otherwise_text-else arm.branches.items arm.last level) (simp append_assoc))
    c.put_else.ensures

pub put_statement-returns-in_ok-put_after-in-While :
    goal.put_statement-returns-in_ok-put_after-in-While
put_statement-returns-in_ok-put_after-in-While t c =
    let arm = c.in-While in
    let level = c.args.level in
    let tree : statement_of c.args.statement.now ≡ while_do (expression_of arm.condition) (block_of arm.body) = search (rules, the_lemmas) in
    on_ok_same
    c.put_body-in-While.result
    c.put_body-in-While.new.text.items
    (c.put_after-in-While.new.text.items ++ codes ":\n" ++ block_text (block_of arm.body) (suc level))
    (c.args.text.now.items ++ statement_text (statement_of c.args.statement.now) level)
    (rw (c.in_ok-put_after-in-While.ensures, c.in_ok-put_indent.ensures, tree) (simp append_assoc))
    c.put_body-in-While.ensures

pub put_statement-returns-in_ok-put_for_to-in-ForTo :
    goal.put_statement-returns-in_ok-put_for_to-in-ForTo
put_statement-returns-in_ok-put_for_to-in-ForTo t c =
    let arm = c.in-ForTo in
    let level = c.args.level in
    let tree : statement_of c.args.statement.now ≡ for_range arm.name None (expression_of arm.to) (block_of arm.body) = search (rules, the_lemmas) in
    on_ok_same
    c.put_body-in-ForTo.result
    c.put_body-in-ForTo.new.text.items
    (c.put_for_to.new.text.items ++ codes ":\n" ++ block_text (block_of arm.body) (suc level))
    (c.args.text.now.items ++ statement_text (statement_of c.args.statement.now) level)
    (rw (c.in_ok-put_for_to-in-ForTo.ensures, c.in_ok-put_indent.ensures, tree) (simp append_assoc))
    c.put_body-in-ForTo.ensures

pub put_statement-returns-in_ok-put_for_from_to-in-ForFromTo :
    goal.put_statement-returns-in_ok-put_for_from_to-in-ForFromTo
put_statement-returns-in_ok-put_for_from_to-in-ForFromTo t c =
    let arm = c.in-ForFromTo in
    let level = c.args.level in
    let tree : statement_of c.args.statement.now ≡ for_range arm.name (Some (expression_of arm.from)) (expression_of arm.to) (block_of arm.body) = search (rules, the_lemmas) in
    on_ok_same
    c.put_body-in-ForFromTo.result
    c.put_body-in-ForFromTo.new.text.items
    (c.put_for_from_to.new.text.items ++ codes ":\n" ++ block_text (block_of arm.body) (suc level))
    (c.args.text.now.items ++ statement_text (statement_of c.args.statement.now) level)
    (rw (c.in_ok-put_for_from_to-in-ForFromTo.ensures, c.in_ok-put_indent.ensures, tree) (closed_header c.args.text.now.items (indent level) (codes "for " ++ arm.name ++ codes " in range(" ++ (expression_text (expression_of arm.from) ++ codes ", " ++ expression_text (expression_of arm.to))) (block_text (block_of arm.body) (suc level))))
    c.put_body-in-ForFromTo.ensures

pub put_statement-returns-in_ok-put-in-Parallel :
    goal.put_statement-returns-in_ok-put-in-Parallel
put_statement-returns-in_ok-put-in-Parallel t c =
    let arm = c.in-Parallel in
    let level = c.args.level in
    let tree : statement_of c.args.statement.now ≡ parallel (block_of arm.body) = search (rules, the_lemmas) in
    on_ok_same
    c.put_body-in-Parallel.result
    c.put_body-in-Parallel.new.text.items
    (c.put-in-Parallel.new.text.items ++ codes ":\n" ++ block_text (block_of arm.body) (suc level))
    (c.args.text.now.items ++ statement_text (statement_of c.args.statement.now) level)
    (rw (c.in_ok-put-in-Parallel.ensures, c.in_ok-put_indent.ensures, tree) (simp append_assoc))
    c.put_body-in-Parallel.ensures

pub put_statement-returns-in_ok-put-in-Sequential :
    goal.put_statement-returns-in_ok-put-in-Sequential
put_statement-returns-in_ok-put-in-Sequential t c =
    let arm = c.in-Sequential in
    let level = c.args.level in
    let tree : statement_of c.args.statement.now ≡ sequential (block_of arm.body) = search (rules, the_lemmas) in
    on_ok_same
    c.put_body-in-Sequential.result
    c.put_body-in-Sequential.new.text.items
    (c.put-in-Sequential.new.text.items ++ codes ":\n" ++ block_text (block_of arm.body) (suc level))
    (c.args.text.now.items ++ statement_text (statement_of c.args.statement.now) level)
    (rw (c.in_ok-put-in-Sequential.ensures, c.in_ok-put_indent.ensures, tree) (simp append_assoc))
    c.put_body-in-Sequential.ensures

pub put_statement-returns-in_ok-put_record-in-Record :
    goal.put_statement-returns-in_ok-put_record-in-Record
put_statement-returns-in_ok-put_record-in-Record t c =
    let arm = c.in-Record in
    let level = c.args.level in
    let tree : statement_of c.args.statement.now ≡ record_as arm.name (block_of arm.body) = search (rules, the_lemmas) in
    on_ok_same
    c.put_body-in-Record.result
    c.put_body-in-Record.new.text.items
    (c.put_record.new.text.items ++ codes ":\n" ++ block_text (block_of arm.body) (suc level))
    (c.args.text.now.items ++ statement_text (statement_of c.args.statement.now) level)
    (rw (c.in_ok-put_record-in-Record.ensures, c.in_ok-put_indent.ensures, tree) (simp append_assoc))
    c.put_body-in-Record.ensures

pub put_statement-returns-in_ok-put_body-in-Try :
    goal.put_statement-returns-in_ok-put_body-in-Try
put_statement-returns-in_ok-put_body-in-Try t c =
    let arm = c.in-Try in
    let level = c.args.level in
    let tree : statement_of c.args.statement.now ≡ try_do (block_of arm.body) (handlers_of arm.handlers.items) = search (rules, the_lemmas) in
    let others = c.deref-in-Try.ensures.value in
    on_ok_same
    c.put_handlers.result
    c.put_handlers.new.text.items
    (c.put_body-in-Try.new.text.items ++ handlers_text (handlers_of c.deref-in-Try.result.now) level)
    (c.args.text.now.items ++ statement_text (statement_of c.args.statement.now) level)
    (rw (others, c.in_ok-put_body-in-Try.ensures, c.in_ok-put-in-Try.ensures, c.in_ok-put_indent.ensures, tree) (simp append_assoc))
    c.put_handlers.ensures
