use Rattle.std.proofs.Common.{◌≡◌, subst, ℤ, w64}
use Rattle.std.proofs.lemmas.Int.{to_z-of_z}
use Rattle.slack_meaning.specs.Actions as A
use Rattle.slack_meaning.specs.Answers.{await}
use Rattle.slack_state.specs.contracts.state.State.{the_view}
use Rattle.slack_state.proofs.state.State.await_moment.Goals as goal

pub returns : goal.returns
returns c =
    let old : A.State = the_view c.self.inside in
    let new : A.State = the_view (record c.self.inside { meter = c.await_moment.new.self }) in
    subst (λ (s : A.State). await c.args.moment s ≡ A.normal tt new) c.self.view_is (subst (λ (m : ℤ). await m old ≡ A.normal tt new) (to_z-of_z w64 c.args.moment c.ranges.moment) (c.await_moment.ensures.does old))
