use Rattle.std.proofs.Common.{subst, ◌≤◌}
use Rattle.rtio_core.proofs.Tops.{waits-rise}
use Rattle.rtio_core.proofs.one_core.Core.goes_on.Goals as goal

pub returns-else-self-whole_cycles : goal.returns-else-self-whole_cycles
returns-else-self-whole_cycles c =
    let far = subst (λ n. n ≤ c.self.inside.count) c.whole_cycles.ensures c.if-self-whole_cycles.false in
    waits-rise c.self.inside c.args.self.now _ c.waits.result c.self.view_is c.self.invariant c.in-Some.is far c.requires c.waits.ensures
