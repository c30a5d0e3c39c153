use Rattle.sed_lanes.proofs.NextCycles.{next-more}
use Rattle.sed_lanes.proofs.lanes.Lanes.next_cycle.Goals as goal

pub loop-lane-preserved : goal.loop-lane-preserved
loop-lane-preserved c =
    rw c.min-least.ensures (next-more _ _ c.loop-lane.lane-index c.self.inside.lanes.items c.deref-lane-items.result.now c.lane-item.result c.loop-lane.least c.first.result c.self.invariant c.deref-lane-items.ensures.value c.loop-lane-test.true c.lane-item.is c.loop-lane.invariant c.first.ensures)
