use Rattle.std.proofs.Common.{subst}
use Rattle.slack_meaning.specs.Actions as A
use Rattle.slack_meaning.specs.Answers.{submit}
use Rattle.slack_state.specs.Does.{DoesAlways}
use Rattle.slack_state.specs.contracts.state.State.{the_view}
use Rattle.slack_state.proofs.Metered.{always}
use Rattle.slack_state.proofs.state.State.submit.Goals as goal

pub returns : goal.returns
returns c =
    let old : A.State = the_view c.self.inside in
    let new : A.State = the_view (record c.self.inside { meter = c.submit.new.self }) in
    subst (λ (s : A.State). DoesAlways c.submit.result new (submit c.args.event.now s)) c.self.view_is (always c.submit.result old new (submit c.args.event.now old) (c.submit.ensures.does old))
