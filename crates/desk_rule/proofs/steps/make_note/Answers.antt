use Rattle.desk_rule.proofs.Known.{tells_at}
use Rattle.desk_rule.proofs.steps.make_note.Goals as goal

-- a note keeps the rule
pub split_seat-requires : goal.split_seat-requires
split_seat-requires g c = (c.requires.of.0, c.requires.of.1, tells_at g.T.Booked.history g.T.Booked.fixed _ _ _ _ _ c.requires.chair.1)
