use Rattle.std.proofs.Common.{subst}
use Rattle.slack_meaning.specs.Actions as A
use Rattle.slack_meaning.specs.Answers.{read_lead}
use Rattle.slack_state.specs.Does.{DoesAlways}
use Rattle.slack_state.specs.contracts.state.State.{the_view}
use Rattle.slack_state.proofs.Metered.{always}
use Rattle.slack_state.proofs.state.State.read_lead.Goals as goal

pub returns : goal.returns
returns c =
    let old : A.State = the_view c.self.inside in
    let new : A.State = the_view (record c.self.inside { meter = c.read_lead.new.self }) in
    subst (λ (s : A.State). DoesAlways c.read_lead.result new (read_lead s)) c.self.view_is (always c.read_lead.result old new (read_lead old) (c.read_lead.ensures.does old))
