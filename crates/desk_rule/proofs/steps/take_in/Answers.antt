use Rattle.desk_rule.proofs.Merging.{merges}
use Rattle.desk_rule.proofs.steps.take_in.Goals as goal

-- taking in another chair's records keeps the rule
pub join_seat-requires : goal.join_seat-requires
join_seat-requires g c = (c.requires.of.0, c.requires.of.1, c.requires.free.1, c.requires.of.2, merges g.T.Booked.history g.T.Booked.fixed _ _ _ c.args.seat.now.me.0 _ c.args.other.me.0 c.requires.free.0)
