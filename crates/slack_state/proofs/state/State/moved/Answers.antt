use Rattle.std.proofs.Common.{subst}
use Rattle.slack_meaning.specs.Actions as A
use Rattle.slack_meaning.specs.Timeline.{moved}
use Rattle.slack_state.specs.Does.{DoesAlways}
use Rattle.slack_state.specs.contracts.state.State.{the_view}
use Rattle.slack_state.proofs.state.State.moved.Goals as goal

pub returns : goal.returns
returns c =
    subst (λ (s : A.State). DoesAlways c.moved.result s (moved c.args.moment c.args.time s)) c.self.view_is (c.moved.ensures (the_view c.self.inside))
