use Rattle.std.proofs.Common.{◌∙◌}
use Rattle.sched_driver.proofs.Own.{kept}
use Rattle.sched_driver.proofs.driver.Driver.next.Goals as goal

-- what is taken is taken by chair 0
pub invariant_of-self : goal.invariant_of-self
invariant_of-self c =
    let keeps = kept c.self.inside.sched c.next.new.self c.next.result c.next.ensures.ok c.next.ensures.err c.self.invariant.own in
    record { session = keeps.session ∙ c.self.invariant.session; own = keeps.own }
