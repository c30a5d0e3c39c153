use Rattle.std.proofs.Common.{◌≡◌, ◌∙◌, Some, ap, sym, false}
use Rattle.slack_meaning.specs.Answers.{is_known}
use Rattle.slack_state.proofs.Recorded.{recorded_last}
use Rattle.slack_state.proofs.recordings.remember.Goals as goal

pub returns-in_ok-push-in-None : goal.returns-in_ok-push-in-None
returns-in_ok-push-in-None c =
    let new : is_known c.args.saved.now.items c.args.name ≡ false = ap (λ xs. is_known xs c.args.name) (sym c.as_slice.ensures.value) ∙ c.in-None.ensures in
    c.in_ok-push-in-None.ensures.items ∙ sym (recorded_last c.args.saved.now.items c.args.name (Some c.args.recording) new)
