use Rattle.desk_rule.proofs.Known.{makes_at}
use Rattle.desk_rule.proofs.steps.make_chair.Goals as goal

-- a chair more keeps the rule
pub split_seat-requires : goal.split_seat-requires
split_seat-requires g c = (c.requires.of.0, c.requires.of.1, makes_at g.T.Booked.history g.T.Booked.fixed _ _ _ _ c.requires.first c.requires.more)
