use Rattle.std.proofs.Common.{ap}
use Rattle.std.proofs.lemmas.List.{drop-set-add}
use Rattle.core_cpu.proofs.stack.Stack.set.Goals as goal

pub returns : goal.returns
returns g c =
    rw
    (← c.self.view_is)
    (ap (λ items. (items, c.self.inside.free)) (drop-set-add c.self.inside.free c.self.inside.items.items c.args.index c.args.item))
