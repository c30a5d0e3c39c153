use Rattle.std.proofs.Common.{subst}
use Rattle.slack_meaning.specs.Actions as A
use Rattle.slack_state.specs.Does.{DoesAlways}
use Rattle.slack_state.specs.contracts.state.State.{the_view}
use Rattle.slack_state.proofs.Metered.{always}
use Rattle.slack_state.proofs.state.State.take_unit.Goals as goal

pub returns-clause-does : goal.returns-clause-does
returns-clause-does c =
    let old : A.State = the_view c.self.inside in
    let new : A.State = the_view (record c.self.inside { meter = c.take_unit.new.self }) in
    subst (λ (s : A.State). DoesAlways c.take_unit.result new (A.take_unit s)) c.self.view_is (always c.take_unit.result old new (A.take_unit old) (c.take_unit.ensures.does old))
