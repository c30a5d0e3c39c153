use Rattle.std.proofs.Common.{◌≡◌, ◌≤◌, ◌<◌, get_or, length, map, sym, subst, ap, ◌∙◌, arith}
use Rattle.std.proofs.lemmas.List.{get_or_default, length-map, with_items_is}
use Rattle.std.specs.Vec.{with_items}
use Rattle.sed_lanes.specs.Calls.{LanesStandFor, without}
use Rattle.sed_lanes.specs.Lanes.{LanesState}
use Rattle.sed_lanes.specs.Rows.{AreLanes, row_state}
use Rattle.sed_lanes.proofs.Accepting.{state_of}
use Rattle.sed_lanes.proofs.Emptying.{GaveOf, drained-items, drained-lanes, drained-more, drained-seen, next-from, whole}
use Rattle.sed_lanes.proofs.Standing.{stands-drained}
use Rattle.sed_lanes.proofs.lanes.Lanes.drain.Goals as goal

pub invariant_of-self : goal.invariant_of-self
invariant_of-self c =
    let done : length c.deref_mut-lane-items.result.now ≤ c.loop-lane.lane-index = omega arith in
    let le : c.loop-lane.lane-index ≤ length c.deref_mut-lane-items.result.now = omega arith in
    let same : length c.loop-lane.lane-items ≡ c.self.inside.lanes.len = omega arith in
    subst (AreLanes c.self.inside.depth c.self.inside.current) (sym (whole c.self.inside.lanes.len c.loop-lane.lane-items _ same))
    (drained-lanes c.self.inside.depth c.self.inside.current c.args.cycle c.loop-lane.lane-index c.self.inside.lanes.items c.deref_mut-lane-items.result.now c.loop-lane.lane-items c.args.self.now c.loop-lane.into.items c.loop-lane.into.room c.args.into.now.room c.self.view_is c.deref_mut-lane-items.ensures.value c.self.invariant done le c.loop-lane.invariant)

pub drain_into-requires-clause-none_earlier : goal.drain_into-requires-clause-none_earlier
drain_into-requires-clause-none_earlier c =
    let lt : c.loop-lane.lane-index < length c.deref_mut-lane-items.result.now = omega arith in
    let there : c.loop-lane.lane-index < length c.loop-lane.lane-items = omega arith in
    next-from c.self.inside.depth c.self.inside.current c.args.cycle c.loop-lane.lane-index c.self.inside.lanes.items c.deref_mut-lane-items.result.now c.loop-lane.lane-items c.args.self.now (get_or c.loop-lane.lane-items c.loop-lane.lane-index c.lane-item.result) c.loop-lane.into.items c.loop-lane.into.room c.args.into.now.room c.self.view_is c.deref_mut-lane-items.ensures.value c.requires.none_earlier lt there (get_or_default c.loop-lane.lane-items c.loop-lane.lane-index _ _ there) c.loop-lane.invariant

pub loop-lane-preserved : goal.loop-lane-preserved
loop-lane-preserved c =
    let lt : c.loop-lane.lane-index < length (map row_state c.deref_mut-lane-items.result.now) = rw (length-map c.deref_mut-lane-items.result.now row_state) (omega arith) in
    let there : c.loop-lane.lane-index < length c.loop-lane.lane-items = omega arith in
    let gave : GaveOf c.args.cycle (get_or c.loop-lane.lane-items c.loop-lane.lane-index c.lane-item.result) c.drain_into.new.self =
    record { left = c.drain_into.ensures.left; last = c.drain_into.ensures.last; room = c.drain_into.ensures.room } in
    drained-more c.args.self.now.depth c.args.cycle (map row_state c.deref_mut-lane-items.result.now) c.loop-lane.lane-index c.loop-lane.lane-items (get_or c.loop-lane.lane-items c.loop-lane.lane-index c.lane-item.result) c.drain_into.new.self c.loop-lane.into.items c.drain_into.new.into.items c.loop-lane.into.room c.drain_into.new.into.room c.args.into.now.room lt there (get_or_default c.loop-lane.lane-items c.loop-lane.lane-index _ _ there) c.loop-lane.invariant gave c.drain_into.ensures.moved c.drain_into.ensures.space c.drain_into.ensures.few

pub returns-clause-moved : goal.returns-clause-moved
returns-clause-moved c =
    let done : length c.deref_mut-lane-items.result.now ≤ c.loop-lane.lane-index = omega arith in
    drained-items c.self.inside.depth c.self.inside.current c.args.cycle c.loop-lane.lane-index c.self.inside.lanes.items c.deref_mut-lane-items.result.now c.loop-lane.lane-items c.args.self.now c.loop-lane.into.items c.loop-lane.into.room c.args.into.now.room c.self.view_is c.deref_mut-lane-items.ensures.value done c.loop-lane.invariant

pub returns-clause-stands : goal.returns-clause-stands
returns-clause-stands c = λ steps counter le stands.
    let done : length c.deref_mut-lane-items.result.now ≤ c.loop-lane.lane-index = omega arith in
    let same : length c.loop-lane.lane-items ≡ c.self.inside.lanes.len = omega arith in
    let seen : state_of c.self.inside.depth c.self.inside.current c.loop-lane.lane-items ≡ without c.args.cycle c.args.self.now =
    drained-seen c.self.inside.depth c.self.inside.current c.args.cycle c.loop-lane.lane-index c.self.inside.lanes.items c.deref_mut-lane-items.result.now c.loop-lane.lane-items c.args.self.now c.loop-lane.into.items c.loop-lane.into.room c.args.into.now.room c.self.view_is c.deref_mut-lane-items.ensures.value done c.loop-lane.invariant in
    let whole_seen : state_of c.self.inside.depth c.self.inside.current (with_items c.self.inside.lanes c.loop-lane.lane-items).items ≡ without c.args.cycle c.args.self.now =
    ap (state_of c.self.inside.depth c.self.inside.current) (with_items_is c.self.inside.lanes c.loop-lane.lane-items same) ∙ seen in
    subst (λ (x : LanesState). LanesStandFor x steps c.args.cycle) (sym whole_seen)
    (stands-drained c.args.self.now steps counter c.args.cycle le c.requires.none_earlier stands)
