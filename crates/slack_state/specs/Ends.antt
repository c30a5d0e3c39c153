-- How a run of a part is told, against what the part does.
use Rattle.slack_state.specs.declared.early.Reason.{Reason}
use Rattle.slack_state.specs.declared.early.Reason.TheVariants as R
use Rattle.slack_meaning.specs.Actions as A

-- the reason as the definitions have it
abbrev pub reason_of : Reason → A.Reason
reason_of R.Break = A.break
reason_of R.Continue = A.continue
reason_of (R.Return value) = A.return value
reason_of (R.Raised x) = A.raised x
reason_of R.Budget = A.budget
reason_of (R.Decided stopped) = A.decided stopped
