-- The verdicts on the statements of a block, one after another.
use Rattle.std.proofs.Common.{◌≡◌, ap, ◌∙◌}
use Rattle.kern_syntax.specs.declared.statement.Stmt.{Stmt}
use Rattle.kern_syntax.specs.Tree.{Block}
use Rattle.kern_syntax.specs.TreeOf.{line_of, statement_of}
use Rattle.kern_calls.specs.Types.{Names}
use Rattle.kern_expression_types.specs.declared.fault.TypeFault.{TypeFault}
use Rattle.kern_expression_types.specs.declared.place.Place.{Place}
use Rattle.kern_expression_types.specs.Before.{Functions}
use Rattle.kern_expression_types.specs.Verdicts.{Verdict, well, fault, ◌>>=◌}
use Rattle.kern_plain.proofs.PlainLines.{line-is}
use Rattle.kern_types.specs.Statements.{at_line, block_verdict, statement_verdict}
use Rattle.kern_types.proofs.Branches.{fault-then}

module _ (functions : Functions) (place : Place) where
  -- a statement without a fault is behind
  pub line-read : (names after : Names) (s : Stmt) (rest : Block) (whole : Verdict Names) → whole ≡ block_verdict functions (line_of s rest) place names → statement_verdict functions (statement_of s.kind) (at_line place s.line) names ≡ well after → whole ≡ block_verdict functions rest place after
  line-read names after s rest whole is first =
      is ∙ ap (λ lines. block_verdict functions lines place names) (line-is s rest) ∙ ap (λ v. v >>= (λ after. block_verdict functions rest place after)) first

  -- the fault of a statement is that of all
  pub line-faulted : (found : TypeFault) (names : Names) (s : Stmt) (rest : Block) (whole : Verdict Names) → whole ≡ block_verdict functions (line_of s rest) place names → statement_verdict functions (statement_of s.kind) (at_line place s.line) names ≡ fault found.line found.kind → whole ≡ fault found.line found.kind
  line-faulted found names s rest whole is faulted =
      is ∙ ap (λ lines. block_verdict functions lines place names) (line-is s rest) ∙ fault-then found (statement_verdict functions (statement_of s.kind) (at_line place s.line) names) (λ after. block_verdict functions rest place after) faulted
