use Rattle.std.proofs.Common.{◌≡◌, subst}
use Rattle.slack_meaning.specs.Actions as A
use Rattle.slack_meaning.specs.Answers.{answered}
use Rattle.slack_state.specs.contracts.state.State.{the_view}
use Rattle.slack_state.proofs.state.State.answer.Goals as goal

pub returns : goal.returns
returns c =
    let old : A.State = the_view c.self.inside in
    let new : A.State = the_view (record c.self.inside { meter = c.answer.new.self }) in
    subst (λ (s : A.State). answered s ≡ A.normal tt new) c.self.view_is (c.answer.ensures.does old)
