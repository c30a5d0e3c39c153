use Rattle.std.proofs.Common.{◌≡◌, drop}
use Rattle.slack_meaning.specs.Answers.{at_hand}
use Rattle.slack_state.proofs.recordings.at_hand.Given as goal

abbrev pub invariant-loop-entry : goal.invariant-loop-entry
invariant-loop-entry l = at_hand l.fn.saved l.fn.name ≡ at_hand (drop l.entry-index l.fn.saved) l.fn.name
