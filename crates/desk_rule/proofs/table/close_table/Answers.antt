use Rattle.desk_rule.proofs.Closing.{ends, ends_at}
use Rattle.desk_rule.proofs.table.close_table.Goals as goal

-- the value is at home
pub unreachable-requires : goal.unreachable-requires
unreachable-requires g c =
    let e = ends g.T.Booked.history g.T.Booked.fixed _ _ _ c.args.seat.me.0 _ _ _ c.close_with-closed.ensures.values.2 c.requires.free c.requires.all c.take-value.ensures.value in
    c.in_default.not-Some e.0 e.1

pub returns : goal.returns
returns g c = ends_at g.T.Booked.history g.T.Booked.fixed _ _ _ c.args.seat.me.0 _ _ _ _ c.close_with-closed.ensures.values.2 c.requires.free c.requires.all c.take-value.ensures.value c.in-Some.is
