use Rattle.std.proofs.Common.{◌≡◌, ◌++◌, take, drop}
use Rattle.std.specs.Prelude.{Option}
use Rattle.slack_meaning.specs.Actions.{SpanRecording}
use Rattle.slack_meaning.specs.Answers.{is_known, with_recording}
use Rattle.slack_state.proofs.recordings.place_of.Given as goal

abbrev pub invariant-loop-i : goal.invariant-loop-i
invariant-loop-i l =
    ((new : Option SpanRecording) → with_recording l.fn.saved l.fn.name new ≡ take l.i l.fn.saved ++ with_recording (drop l.i l.fn.saved) l.fn.name new)
    × (is_known l.fn.saved l.fn.name ≡ is_known (drop l.i l.fn.saved) l.fn.name)
