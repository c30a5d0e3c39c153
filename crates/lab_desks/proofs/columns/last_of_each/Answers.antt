use Rattle.std.proofs.Common.{◌≡◌, ◌<◌, length, arith}
use Rattle.lab_desks.proofs.Taking.{taken-more}
use Rattle.lab_desks.proofs.columns.last_of_each.Goals as goal

pub loop-row-preserved : goal.loop-row-preserved
loop-row-preserved g c =
    let there : c.loop-row.row-index < length c.loop-row.rows = omega arith in
    let same : length c.loop-row.rows ≡ length c.args.rows.now = omega arith in (
      taken-more c.args.rows.now c.loop-row.rows c.loop-row.row-index c.loop-row.column.items c.push.new.self.items c.row-item.result c.pop.new.self c.in-Some.last there same c.loop-row.invariant.0 c.in-Some.ensures.items c.in-Some.ensures.capacity c.in-Ok.ensures.items,
      omega (arith, c.in-Ok.ensures.len, c.loop-row.invariant.1),
      omega (arith, c.in-Ok.ensures.capacity, c.loop-row.invariant.2),
    )
