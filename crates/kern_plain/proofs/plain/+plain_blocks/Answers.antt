use Rattle.std.proofs.Common.{rules, ◌≡◌, ℕ, List, Bor, map, ◌+◌, ◌++◌, [], ◌∷◌, true, false, None, drop, refl, ap, sym, ◌∙◌}
use Rattle.kern_syntax.specs.declared.statement.StmtKind.TheFolds.{the_lemmas}
use Rattle.kern_syntax.specs.Tree.{if_then}
use Rattle.kern_syntax.specs.TreeOf.{expression_of, block_of, line_of, lines_of, branches_of, elif_of, statement_of}
use Rattle.kern_plain.specs.Plain.{is_plain_expression, is_plain_block, is_plain_otherwise, is_plain_statement}
use Rattle.kern_expression_types.proofs.Lists.{drop-item}
use Rattle.kern_plain.proofs.PlainLines.{line-plain, line-live}
use Rattle.kern_plain.proofs.PlainNames.{branch-plain, branch-live, if-values}
use Rattle.kern_plain.proofs.plain.+plain_blocks.Goals as goal
use Rattle.kern_plain.proofs.plain.+plain_blocks.Goals.{is_plain_statement-then-is_plain_expression, is_plain_statement-else-is_plain_expression, is_plain_statement-then-is_plain_block, is_plain_statement-else-is_plain_block}

pub is_plain_block-returns-then-not-is_plain_statement :
    goal.is_plain_block-returns-then-not-is_plain_statement
is_plain_block-returns-then-not-is_plain_statement t c =
    let plain = map (λ (n : Bor (List ℕ)). n.now) c.args.plain.now ++ c.args.own.now ∷ [] in
    let items = c.deref-statement-items.result.now in
    let i = c.loop-statement.statement-index in
    let item = c.statement-item.result in
    let rest = lines_of (drop (i + 1) items) in
    let next : lines_of (drop i items) ≡ line_of item rest = ap lines_of (drop-item items i item c.loop-statement-test.true c.statement-item.is) in
    line-live plain item rest _ (c.loop-statement.invariant ∙ ap (is_plain_block plain) next) (sym c.is_plain_statement.ensures ∙ c.if-not-is_plain_statement.true)

pub is_plain_block-loop-statement-preserved : goal.is_plain_block-loop-statement-preserved
is_plain_block-loop-statement-preserved t c =
    let plain = map (λ (n : Bor (List ℕ)). n.now) c.args.plain.now ++ c.args.own.now ∷ [] in
    let items = c.deref-statement-items.result.now in
    let i = c.loop-statement.statement-index in
    let item = c.statement-item.result in
    let rest = lines_of (drop (i + 1) items) in
    let next : lines_of (drop i items) ≡ line_of item rest = ap lines_of (drop-item items i item c.loop-statement-test.true c.statement-item.is) in
    line-plain plain item rest _ (c.loop-statement.invariant ∙ ap (is_plain_block plain) next) (sym c.is_plain_statement.ensures ∙ c.if-not-is_plain_statement.false)

pub are_plain_branches-returns-then-not-is_plain_elif :
    goal.are_plain_branches-returns-then-not-is_plain_elif
are_plain_branches-returns-then-not-is_plain_elif t c =
    let plain = map (λ (n : Bor (List ℕ)). n.now) c.args.plain.now ++ c.args.own.now ∷ [] in
    let i = c.loop-branch.branch-index in
    let item = c.branch-item.result in
    let rest = branches_of (drop (i + 1) c.args.branches.now) None in
    let next : branches_of (drop i c.args.branches.now) None ≡ elif_of item rest = ap (λ branches. branches_of branches None) (drop-item c.args.branches.now i item c.loop-branch-test.true c.branch-item.is) in
    branch-live plain item rest _ (c.loop-branch.invariant ∙ ap (is_plain_otherwise plain) next) (sym c.is_plain_elif.ensures ∙ c.if-not-is_plain_elif.true)

pub are_plain_branches-loop-branch-preserved : goal.are_plain_branches-loop-branch-preserved
are_plain_branches-loop-branch-preserved t c =
    let plain = map (λ (n : Bor (List ℕ)). n.now) c.args.plain.now ++ c.args.own.now ∷ [] in
    let i = c.loop-branch.branch-index in
    let item = c.branch-item.result in
    let rest = branches_of (drop (i + 1) c.args.branches.now) None in
    let next : branches_of (drop i c.args.branches.now) None ≡ elif_of item rest = ap (λ branches. branches_of branches None) (drop-item c.args.branches.now i item c.loop-branch-test.true c.branch-item.is) in
    branch-plain plain item rest _ (c.loop-branch.invariant ∙ ap (is_plain_otherwise plain) next) (sym c.is_plain_elif.ensures ∙ c.if-not-is_plain_elif.false)

pub is_plain_statement-returns-then-are_plain_branches :
    goal.is_plain_statement-returns-then-are_plain_branches
is_plain_statement-returns-then-are_plain_branches t c =
    let plain = map (λ (n : Bor (List ℕ)). n.now) c.args.plain.now ++ c.args.own.now ∷ [] in
    let arm = c.in-If in
    let condition = expression_of arm.condition in
    let body = block_of arm.body in
    let branches = arm.branches.items in
    let last = arm.last in
    let tree : statement_of c.args.statement.now ≡ if_then condition body (branches_of branches last) = search (rules, the_lemmas) in
    elim c.if-is_plain_block.branch [
      | is_plain_statement-then-is_plain_block w ↦
          elim c.if-is_plain_expression.branch [
            | is_plain_statement-then-is_plain_expression v ↦
                let holds : is_plain_expression plain condition ≡ true = sym c.is_plain_expression.ensures ∙ v.if-is_plain_expression.true in
                let body_holds : is_plain_block plain body ≡ true = sym v.is_plain_block.ensures ∙ sym v.value-is ∙ w.if-is_plain_block.true in
                let rest : is_plain_otherwise plain (branches_of branches None) ≡ true = ap (λ bs. is_plain_otherwise plain (branches_of bs None)) (sym w.deref-then-is_plain_block.ensures.value) ∙ sym w.are_plain_branches.ensures ∙ sym w.value-is ∙ c.if-are_plain_branches.true in
                c.is_plain_else.ensures ∙ sym (ap (is_plain_statement plain) tree ∙ if-values plain condition body branches last true true true _ holds body_holds rest refl)
            | is_plain_statement-else-is_plain_expression v ↦ cc
          ]
      | is_plain_statement-else-is_plain_block w ↦ cc
    ]

pub is_plain_statement-returns-else-are_plain_branches :
    goal.is_plain_statement-returns-else-are_plain_branches
is_plain_statement-returns-else-are_plain_branches t c =
    let plain = map (λ (n : Bor (List ℕ)). n.now) c.args.plain.now ++ c.args.own.now ∷ [] in
    let arm = c.in-If in
    let condition = expression_of arm.condition in
    let body = block_of arm.body in
    let branches = arm.branches.items in
    let last = arm.last in
    let tree : statement_of c.args.statement.now ≡ if_then condition body (branches_of branches last) = search (rules, the_lemmas) in
    elim c.if-is_plain_block.branch [
      | is_plain_statement-then-is_plain_block w ↦
          elim c.if-is_plain_expression.branch [
            | is_plain_statement-then-is_plain_expression v ↦
                let holds : is_plain_expression plain condition ≡ true = sym c.is_plain_expression.ensures ∙ v.if-is_plain_expression.true in
                let body_holds : is_plain_block plain body ≡ true = sym v.is_plain_block.ensures ∙ sym v.value-is ∙ w.if-is_plain_block.true in
                let rest : is_plain_otherwise plain (branches_of branches None) ≡ false = ap (λ bs. is_plain_otherwise plain (branches_of bs None)) (sym w.deref-then-is_plain_block.ensures.value) ∙ sym w.are_plain_branches.ensures ∙ sym w.value-is ∙ c.if-are_plain_branches.false in
                c.if-are_plain_branches.false ∙ sym (ap (is_plain_statement plain) tree ∙ if-values plain condition body branches last true true false _ holds body_holds rest refl)
            | is_plain_statement-else-is_plain_expression v ↦ cc
          ]
      | is_plain_statement-else-is_plain_block w ↦
          elim c.if-is_plain_expression.branch [
            | is_plain_statement-then-is_plain_expression v ↦
                let holds : is_plain_expression plain condition ≡ true = sym c.is_plain_expression.ensures ∙ v.if-is_plain_expression.true in
                let body_fails : is_plain_block plain body ≡ false = sym v.is_plain_block.ensures ∙ sym v.value-is ∙ w.if-is_plain_block.false in
                c.if-are_plain_branches.false ∙ sym (ap (is_plain_statement plain) tree ∙ if-values plain condition body branches last true false _ _ holds body_fails refl refl)
            | is_plain_statement-else-is_plain_expression v ↦
                let fails : is_plain_expression plain condition ≡ false = sym c.is_plain_expression.ensures ∙ v.if-is_plain_expression.false in
                c.if-are_plain_branches.false ∙ sym (ap (is_plain_statement plain) tree ∙ if-values plain condition body branches last false _ _ _ fails refl refl refl)
          ]
    ]
