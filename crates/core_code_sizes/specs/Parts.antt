-- Parts of the sizes of statements, as they are counted.
use Rattle.std.specs.Prelude.{ℕ, zero, suc, ◌+◌}
use Rattle.kern_syntax.specs.Tree.{Expression, Statement, if_then, while_do, for_range}
use Rattle.kern_syntax.specs.Tree.{parallel, sequential, record_as, try_do, Block, Otherwise}
use Rattle.code_forms.specs.declared.test_kind.TestKind.TheVariants.{Branch}
use Rattle.code_forms.specs.Conditions.{is_turned, asked, test_size}
use Rattle.code_forms.specs.Setting.{Setting}
use Rattle.code_forms.specs.Sizes.{block_size, exit_size, expression_size, others_size}
use Rattle.code_forms.specs.Sizes.{otherwise_size, parallel_size, statement_size}

-- how many instructions a statement without a block has; 0 for one with a block
abbrev pub simple_size : Setting → (tries kept : ℕ) → Statement → ℕ
simple_size setting tries kept (if_then c b rest) = 0
simple_size setting tries kept (while_do c b) = 0
simple_size setting tries kept (for_range x from to b) = 0
simple_size setting tries kept (parallel b) = 0
simple_size setting tries kept (sequential b) = 0
simple_size setting tries kept (record_as name b) = 0
simple_size setting tries kept (try_do b handlers) = 0
simple_size setting tries kept s = statement_size setting tries kept s

-- of a branch: what is asked for its condition, the test and its body, without the jump past what follows
abbrev pub branch_size : Setting → (tries kept : ℕ) → Expression → Block → ℕ
branch_size setting tries kept c b =
    expression_size setting (asked Branch c) + (test_size (is_turned Branch c) + block_size setting tries kept b)

-- of what follows a branch, with the jump past it
abbrev pub followed_size : Setting → (tries kept : ℕ) → Otherwise → ℕ
followed_size setting tries kept rest = exit_size setting rest + otherwise_size setting tries kept rest

-- of the statements of a parallel block that are left behind so many
abbrev pub left_size : Setting → (tries kept done : ℕ) → Block → ℕ
left_size setting tries kept zero b = parallel_size setting tries kept b
left_size setting tries kept (suc done) b = others_size setting tries kept b
