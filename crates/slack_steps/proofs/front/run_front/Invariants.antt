use Rattle.std.proofs.Common.{◌≡◌, drop}
use Rattle.kern_syntax.specs.TreeOf.{lines_of}
use Rattle.kern_names.specs.ScopeOf.{scope_of}
use Rattle.meaning_steps.specs.RunnableStatements.{IsRunnableBlock}
use Rattle.slack_meaning.specs.Expressions.{Callee}
use Rattle.slack_meaning.specs.Statements.{block}
use Rattle.slack_steps.proofs.front.run_front.Given as goal

abbrev pub invariant-loop-i : goal.invariant-loop-i
invariant-loop-i l =
    record {
      ran : (callee : Callee) → block (scope_of l.fn.scope) callee (lines_of l.fn.lines) l.fn.state ≡ block (scope_of l.fn.scope) callee (lines_of (drop l.i l.fn.lines)) l.state;
      runnable : IsRunnableBlock (lines_of (drop l.i l.fn.lines));
    }
