use Rattle.std.proofs.Common.{ap, ◌∙◌}
use Rattle.desk_rule.proofs.Merging.{merges}
use Rattle.desk_rule.proofs.Known.{settles_at}
use Rattle.desk_rule.proofs.steps.hear_note.Goals as goal

-- the join keeps the rule
pub join_seat-requires : goal.join_seat-requires
join_seat-requires g c = (
  c.requires.of.0,
  c.requires.of.1,
  c.requires.note.1,
  c.requires.of.2,
  merges g.T.Booked.history g.T.Booked.fixed _ _ _ c.args.seat.now.me.0 _ c.args.note.me.0 (ap (λ v. v.pass) c.requires.note.0),
)

-- the load after it keeps the rule
pub load-requires : goal.load-requires
load-requires g c = (
  c.join_seat.ensures.0 ∙ c.requires.of.0,
  c.requires.of.2,
  settles_at g.T.Booked.history g.T.Booked.fixed _ _ _ _ _ c.args.seat.now.me.0 c.args.note.me.0 _ _ c.requires.chair.1 c.requires.note.0 c.join_seat.ensures.2,
)
