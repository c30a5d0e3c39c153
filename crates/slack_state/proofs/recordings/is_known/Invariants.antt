use Rattle.std.proofs.Common.{◌≡◌, drop}
use Rattle.slack_meaning.specs.Answers.{is_known}
use Rattle.slack_state.proofs.recordings.is_known.Given as goal

abbrev pub invariant-loop-entry : goal.invariant-loop-entry
invariant-loop-entry l = is_known l.fn.saved l.fn.name ≡ is_known (drop l.entry-index l.fn.saved) l.fn.name
