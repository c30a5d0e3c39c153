use Rattle.std.proofs.Common.{◌≡◌, [], sym, subst, arith}
use Rattle.sed_lanes.specs.Calls.{LanesStandFor}
use Rattle.sed_lanes.specs.Lanes.{LanesState}
use Rattle.sed_lanes.proofs.Made.{empty-are, empty-view}
use Rattle.sed_lanes.proofs.Standing.{stands-new}
use Rattle.sed_lanes.proofs.lanes.Lanes.new.Goals as goal

pub invariant_of-result : goal.invariant_of-result
invariant_of-result c =
    let count : c.loop-lane._lane ≡ c.args.lanes = omega arith in
    empty-are c.loop-lane._lane c.args.depth c.loop-lane.all.items (c.requires.depth.0) (c.requires.depth.1) (rw count c.requires.lanes.0) (rw count c.requires.lanes.1) c.loop-lane.invariant.0 c.loop-lane.invariant.1

pub returns-clause-stands : goal.returns-clause-stands
returns-clause-stands c = λ counter.
    let count : c.loop-lane._lane ≡ c.args.lanes = omega arith in
    subst (λ (x : LanesState). LanesStandFor x [] counter) (sym (empty-view c.loop-lane._lane c.args.depth c.loop-lane.all.items c.loop-lane.invariant.0)) (stands-new c.loop-lane._lane c.args.depth counter)
