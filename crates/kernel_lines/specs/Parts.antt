-- Parts of the lines, as they are put.
use Rattle.std.specs.Prelude.{ℕ, zero, suc, ◌+◌, List, ◌++◌}
use Rattle.kern_syntax.specs.Tree.{Expression, Block}
use Rattle.code_forms.specs.declared.test_kind.TestKind.TheVariants.{Branch}
use Rattle.code_forms.specs.Conditions.{is_turned, asked, test_size}
use Rattle.code_forms.specs.Setting.{Setting}
use Rattle.code_forms.specs.Sizes.{expression_size}
use Rattle.kernel_lines.specs.KernelLines.{of_line, block_lines, others_lines, parallel_lines}

module _ (setting : Setting) where
  -- of a branch, without the jump past what follows: what is asked for its condition, the test and its body
  abbrev pub branch_lines : (tries kept line : ℕ) → Expression → Block → List ℕ
  branch_lines tries kept line c b =
      of_line line (expression_size setting (asked Branch c) + test_size (is_turned Branch c))
      ++ block_lines setting tries kept b

  -- of a `for` whose bounds take so many instructions
  abbrev pub turns_lines : (tries line bounds : ℕ) → Block → List ℕ
  turns_lines tries line bounds b = of_line line (bounds + 10) ++ block_lines setting tries tries b ++ of_line line 4

  -- of the body of a `try`, up to its handlers
  abbrev pub tried_lines : (tries kept line : ℕ) → Block → List ℕ
  tried_lines tries kept line b = of_line line 1 ++ block_lines setting (tries + 1) kept b ++ of_line line 2

  -- of the statements of a parallel block that are left behind so many
  abbrev pub left_lines : (tries kept header done : ℕ) → Block → List ℕ
  left_lines tries kept header zero b = parallel_lines setting tries kept header b
  left_lines tries kept header (suc done) b = others_lines setting tries kept header b

  -- of a recording
  abbrev pub recorded_lines : (tries kept line : ℕ) → Block → List ℕ
  recorded_lines tries kept line b = of_line line 1 ++ block_lines setting tries kept b ++ of_line line 1
