use Rattle.std.proofs.Common.{◌≡◌, ◌+◌, ◌≤◌, arith, rules}
use Rattle.std.proofs.lemmas.Grind.{common_steps}
use Rattle.sed_lanes.proofs.Counting.{held_in, held-few, held-all}
use Rattle.sed_lanes.proofs.lanes.Lanes.held.Goals as goal

pub overflow_add-held : goal.overflow_add-held
overflow_add-held c =
    let few = held-few _ _ c.loop-lane.lane-index c.self.inside.lanes.items c.deref-lane-items.result.now c.lane-item.result c.self.invariant c.deref-lane-items.ensures.value c.loop-lane-test.true c.lane-item.is in
    let long : c.len.result ≡ held_in c.lane-item.result = search rules in
    let sum : c.loop-lane.held + c.len.result ≤ 32768 = omega (arith, few.lanes, few.events, long, c.loop-lane.invariant.1) in
    search (rules, sum)

pub loop-lane-preserved : goal.loop-lane-preserved
loop-lane-preserved c =
    let few = held-few _ _ c.loop-lane.lane-index c.self.inside.lanes.items c.deref-lane-items.result.now c.lane-item.result c.self.invariant c.deref-lane-items.ensures.value c.loop-lane-test.true c.lane-item.is in
    let long : c.len.result ≡ held_in c.lane-item.result = search rules in
    (grind (arith, common_steps, long, c.loop-lane.invariant.0), omega (arith, few.events, long, c.loop-lane.invariant.1))

pub returns : goal.returns
returns c = held-all _ _ c.loop-lane.lane-index _ c.self.inside.lanes.items c.deref-lane-items.result.now c.args.self.now c.self.view_is c.deref-lane-items.ensures.value c.loop-lane-test.false c.loop-lane.invariant.0
