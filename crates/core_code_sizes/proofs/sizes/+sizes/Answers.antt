use Rattle.std.proofs.Common.{rules, ◌≡◌, ◌+◌, ◌<◌, ◌^◌, ◌∙◌, None, option_map, arith, ap}
use Rattle.std.proofs.lemmas.Grind.{common_steps}
use Rattle.kern_syntax.specs.declared.statement.StmtKind.TheFolds.{the_lemmas}
use Rattle.kern_syntax.specs.Tree.{if_then}
use Rattle.kern_syntax.specs.TreeOf.{expression_of, block_of, branches_of, else_of, statement_of}
use Rattle.code_forms.specs.Sizes.{statement_size}
use Rattle.core_code_names.specs.SettingOf.{setting_of}
use Rattle.core_code_sizes.specs.Parts.{followed_size, branch_size}
use Rattle.core_code_sizes.proofs.Branches.{if_size}
use Rattle.core_code_sizes.proofs.sizes.+sizes.Goals as goal

pub statement_size-branches_size-requires : goal.statement_size-branches_size-requires
statement_size-branches_size-requires t c =
    let arm = c.in-If in
    let s = setting_of c.args.setting.now in
    let n = c.args.tries in
    let k = c.args.kept in
    let tree : statement_of c.args.statement.now ≡ if_then (expression_of arm.condition) (block_of arm.body) (branches_of arm.branches.items arm.last) = search (rules, the_lemmas) in
    let whole : statement_size s n k (statement_of c.args.statement.now) ≡ branch_size s n k (expression_of arm.condition) (block_of arm.body) + (followed_size s n k (branches_of arm.branches.items None) + followed_size s n k (else_of (option_map block_of arm.last))) = ap (statement_size s n k) tree ∙ if_size s n k (expression_of arm.condition) (block_of arm.body) arm.branches.items arm.last in
    let others : followed_size s n k (branches_of c.deref.result.now None) ≡ followed_size s n k (branches_of arm.branches.items None) = ap (λ bs. followed_size s n k (branches_of bs None)) c.deref.ensures.value in
    let small : n + followed_size s n k (branches_of c.deref.result.now None) < 2 ^ 32 = omega (arith, whole, others, c.requires) in
    (first_of (search (rules, the_lemmas), grind (the_lemmas, arith, common_steps)), small)

pub statement_size-overflow_add-result : goal.statement_size-overflow_add-result
statement_size-overflow_add-result t c =
    let arm = c.in-If in
    let s = setting_of c.args.setting.now in
    let n = c.args.tries in
    let k = c.args.kept in
    let tree : statement_of c.args.statement.now ≡ if_then (expression_of arm.condition) (block_of arm.body) (branches_of arm.branches.items arm.last) = search (rules, the_lemmas) in
    let whole : statement_size s n k (statement_of c.args.statement.now) ≡ branch_size s n k (expression_of arm.condition) (block_of arm.body) + (followed_size s n k (branches_of arm.branches.items None) + followed_size s n k (else_of (option_map block_of arm.last))) = ap (statement_size s n k) tree ∙ if_size s n k (expression_of arm.condition) (block_of arm.body) arm.branches.items arm.last in
    let others : followed_size s n k (branches_of c.deref.result.now None) ≡ followed_size s n k (branches_of arm.branches.items None) = ap (λ bs. followed_size s n k (branches_of bs None)) c.deref.ensures.value in
    omega (arith, whole, others, c.requires, c.branch_size.ensures, c.branches_size.ensures)

pub statement_size-else_size-requires : goal.statement_size-else_size-requires
statement_size-else_size-requires t c =
    let arm = c.in-If in
    let s = setting_of c.args.setting.now in
    let n = c.args.tries in
    let k = c.args.kept in
    let tree : statement_of c.args.statement.now ≡ if_then (expression_of arm.condition) (block_of arm.body) (branches_of arm.branches.items arm.last) = search (rules, the_lemmas) in
    let whole : statement_size s n k (statement_of c.args.statement.now) ≡ branch_size s n k (expression_of arm.condition) (block_of arm.body) + (followed_size s n k (branches_of arm.branches.items None) + followed_size s n k (else_of (option_map block_of arm.last))) = ap (statement_size s n k) tree ∙ if_size s n k (expression_of arm.condition) (block_of arm.body) arm.branches.items arm.last in
    let others : followed_size s n k (branches_of c.deref.result.now None) ≡ followed_size s n k (branches_of arm.branches.items None) = ap (λ bs. followed_size s n k (branches_of bs None)) c.deref.ensures.value in
    let small : n + followed_size s n k (else_of (option_map block_of arm.last)) < 2 ^ 32 = omega (arith, whole, c.requires) in
    (first_of (search (rules, the_lemmas), grind (the_lemmas, arith, common_steps)), small)

pub statement_size-overflow_add-result-in-If : goal.statement_size-overflow_add-result-in-If
statement_size-overflow_add-result-in-If t c =
    let arm = c.in-If in
    let s = setting_of c.args.setting.now in
    let n = c.args.tries in
    let k = c.args.kept in
    let tree : statement_of c.args.statement.now ≡ if_then (expression_of arm.condition) (block_of arm.body) (branches_of arm.branches.items arm.last) = search (rules, the_lemmas) in
    let whole : statement_size s n k (statement_of c.args.statement.now) ≡ branch_size s n k (expression_of arm.condition) (block_of arm.body) + (followed_size s n k (branches_of arm.branches.items None) + followed_size s n k (else_of (option_map block_of arm.last))) = ap (statement_size s n k) tree ∙ if_size s n k (expression_of arm.condition) (block_of arm.body) arm.branches.items arm.last in
    let others : followed_size s n k (branches_of c.deref.result.now None) ≡ followed_size s n k (branches_of arm.branches.items None) = ap (λ bs. followed_size s n k (branches_of bs None)) c.deref.ensures.value in
    omega (arith, whole, others, c.requires, c.branch_size.ensures, c.branches_size.ensures, c.else_size.ensures)

pub statement_size-returns-in-If : goal.statement_size-returns-in-If
statement_size-returns-in-If t c =
    let arm = c.in-If in
    let s = setting_of c.args.setting.now in
    let n = c.args.tries in
    let k = c.args.kept in
    let tree : statement_of c.args.statement.now ≡ if_then (expression_of arm.condition) (block_of arm.body) (branches_of arm.branches.items arm.last) = search (rules, the_lemmas) in
    let whole : statement_size s n k (statement_of c.args.statement.now) ≡ branch_size s n k (expression_of arm.condition) (block_of arm.body) + (followed_size s n k (branches_of arm.branches.items None) + followed_size s n k (else_of (option_map block_of arm.last))) = ap (statement_size s n k) tree ∙ if_size s n k (expression_of arm.condition) (block_of arm.body) arm.branches.items arm.last in
    let others : followed_size s n k (branches_of c.deref.result.now None) ≡ followed_size s n k (branches_of arm.branches.items None) = ap (λ bs. followed_size s n k (branches_of bs None)) c.deref.ensures.value in
    omega (arith, whole, others, c.branch_size.ensures, c.branches_size.ensures, c.else_size.ensures)
