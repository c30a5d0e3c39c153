use Rattle.std.proofs.Common.{◌∙◌}
use Rattle.desk_rule.proofs.Known.{puts_at, put_after}
use Rattle.desk_rule.proofs.steps.put_home.Goals as goal

-- the store keeps the rule
pub store-requires : goal.store-requires
store-requires g c =
    let left = c.exchange-left.ensures in (
      left.0 ∙ c.requires.of.0,
      c.requires.of.1,
      puts_at g.T.Booked.history g.T.Booked.fixed _ _ _ _ _ c.args.seat.now.me.0 _ _ _ c.requires.grew.1 c.requires.holder.0 c.requires.holder.1 left.3 c.requires.grew.2 c.requires.fixed,
    )

pub returns : goal.returns
returns g c =
    let left = c.exchange-left.ensures in
    (c.store.ensures.0 ∙ left.0, put_after g.T.Booked.history _ _ _ _ _ left.3 c.requires.holder.1 c.store.ensures.2)
