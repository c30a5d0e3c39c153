-- What is told of a kernel that is checked for outputs that may come too late.
use Rattle.std.specs.Prelude.{◌≡◌, ℕ, List}
use Rattle.kern_syntax.specs.Tree.{ProgramTree}
use Rattle.slack_meaning.specs.declared.verdict.Verdict.TheVariants.{Yes}
use Rattle.slack_check.specs.Lines.{slack_line}
use Rattle.slack_check.specs.Mains.{MainNeverUnderflows, verdict_of_main}
use Rattle.kern_accepted.specs.Texts.{IsKernelText}

-- the bytes are the line of the verdict on the kernel that the text is, at a cost of a request and for lanes that take
-- so many events at least. Where it is a yes, no output of the kernel's first session on such a core comes too late
pub record TellsSlack (cost depth : ℕ) (text written : List ℕ) : Type 0 where
  pub program : ProgramTree
  pub is_kernel : IsKernelText text program
  pub line : written ≡ slack_line (verdict_of_main program cost depth)
  pub yes : (outs : ℕ) → verdict_of_main program cost depth ≡ Yes outs → MainNeverUnderflows program cost depth
