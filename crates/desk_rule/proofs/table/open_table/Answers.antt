use Rattle.std.proofs.Common.{sym, ap, arith}
use Rattle.desk_rule.proofs.Making.{opens}
use Rattle.desk_rule.proofs.table.open_table.Goals as goal

-- the rule holds of a new desk
pub new-requires : goal.new-requires
new-requires g c =
    let some = c.requires.some in
    let few = c.ranges.chairs.fits in
    rw (c.in_default.ensures.items, c.new-slots.ensures.items) (opens _ _ _ _ c.args.value c.requires.new (ap g.T.Booked.fixed (sym c.of.ensures)) (omega arith) (omega arith))
