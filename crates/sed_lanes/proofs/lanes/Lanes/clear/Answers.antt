use Rattle.std.proofs.Common.{◌≡◌, ◌≤◌, ◌<◌, ◌+◌, ◌++◌, ◌∷◌, [], get_or, length, map, sym, subst, ap, ◌∙◌, arith}
use Rattle.std.specs.Vec.{with_items}
use Rattle.std.proofs.lemmas.List.{get_or_default, length-map, with_items_is}
use Rattle.sed_lanes.specs.Calls.{LanesStandFor}
use Rattle.sed_lanes.specs.Lanes.{LanesState, empty_lanes, held_events}
use Rattle.sed_lanes.specs.Heads.{HeadsState}
use Rattle.sed_lanes.specs.Judged.{Clear}
use Rattle.sed_lanes.specs.Rows.{AreLanes, row_state}
use Rattle.sed_lanes.proofs.Accepting.{state_of}
use Rattle.sed_lanes.proofs.Clearing.{cleared-lanes, cleared-more, cleared-room, cleared-seen, seen-held}
use Rattle.sed_lanes.proofs.Emptying.{whole}
use Rattle.sed_lanes.proofs.Standing.{stands-cleared}
use Rattle.sed_lanes.proofs.lanes.Lanes.clear.Goals as goal

pub invariant_of-self : goal.invariant_of-self
invariant_of-self c =
    let done : length c.deref_mut-lane-items.result.now ≤ c.loop-lane.lane-index = omega arith in
    let le : c.loop-lane.lane-index ≤ length c.deref_mut-lane-items.result.now = omega arith in
    let same : length c.loop-lane.lane-items ≡ c.self.inside.lanes.len = omega arith in
    subst (AreLanes c.self.inside.depth 0) (sym (whole c.self.inside.lanes.len c.loop-lane.lane-items _ same))
    (cleared-lanes c.self.inside.depth c.self.inside.current c.loop-lane.lane-index c.self.inside.lanes.items c.deref_mut-lane-items.result.now c.loop-lane.lane-items c.args.self.now c.loop-lane.into.items c.loop-lane.into.room c.args.into.now.room c.self.view_is c.deref_mut-lane-items.ensures.value c.self.invariant done le c.loop-lane.invariant)

pub empty_into-requires : goal.empty_into-requires
empty_into-requires c =
    let lt : c.loop-lane.lane-index < length (map row_state c.deref_mut-lane-items.result.now) = rw (length-map c.deref_mut-lane-items.result.now row_state) (omega arith) in
    let there : c.loop-lane.lane-index < length c.loop-lane.lane-items = omega arith in
    let enough : length (held_events c.args.self.now) ≤ c.args.into.now.room = c.requires.room in
    cleared-room c.args.self.now.depth (map row_state c.deref_mut-lane-items.result.now) c.loop-lane.lane-index c.loop-lane.lane-items (get_or c.loop-lane.lane-items c.loop-lane.lane-index c.lane-item.result) c.loop-lane.into.items c.loop-lane.into.room c.args.into.now.room lt there (get_or_default c.loop-lane.lane-items c.loop-lane.lane-index _ _ there) c.loop-lane.invariant
    (seen-held c.self.inside.depth c.self.inside.current c.self.inside.lanes.items c.deref_mut-lane-items.result.now c.args.self.now c.args.into.now.room c.self.view_is c.deref_mut-lane-items.ensures.value enough)

pub loop-lane-preserved : goal.loop-lane-preserved
loop-lane-preserved c =
    let lt : c.loop-lane.lane-index < length (map row_state c.deref_mut-lane-items.result.now) = rw (length-map c.deref_mut-lane-items.result.now row_state) (omega arith) in
    let there : c.loop-lane.lane-index < length c.loop-lane.lane-items = omega arith in
    cleared-more c.args.self.now.depth (map row_state c.deref_mut-lane-items.result.now) c.loop-lane.lane-index c.loop-lane.lane-items (get_or c.loop-lane.lane-items c.loop-lane.lane-index c.lane-item.result) c.empty_into.new.self c.loop-lane.into.items c.empty_into.new.into.items c.loop-lane.into.room c.empty_into.new.into.room c.args.into.now.room lt there (get_or_default c.loop-lane.lane-items c.loop-lane.lane-index _ _ there) c.loop-lane.invariant c.empty_into.ensures.state c.empty_into.ensures.room c.empty_into.ensures.moved c.empty_into.ensures.left

pub returns-clause-room : goal.returns-clause-room
returns-clause-room c =
    let space : c.loop-lane.into.room + length c.loop-lane.into.items ≡ c.args.into.now.room = c.loop-lane.invariant.space in
    let room : c.sort_by_number.new.self.room ≡ c.loop-lane.into.room = ap (λ (h : HeadsState). h.room) c.sort_by_number.ensures.order in
    let len = c.sort_by_number.ensures.len in
    omega (arith, space, room, len)

pub returns-clause-after : goal.returns-clause-after
returns-clause-after c =
    let done : length c.deref_mut-lane-items.result.now ≤ c.loop-lane.lane-index = omega arith in
    let same : length c.loop-lane.lane-items ≡ c.self.inside.lanes.len = omega arith in
    ap (state_of c.self.inside.depth 0) (with_items_is c.self.inside.lanes c.loop-lane.lane-items same)
    ∙ cleared-seen c.self.inside.depth c.self.inside.current c.loop-lane.lane-index c.self.inside.lanes.items c.deref_mut-lane-items.result.now c.loop-lane.lane-items c.args.self.now c.loop-lane.into.items c.loop-lane.into.room c.args.into.now.room c.self.view_is c.deref_mut-lane-items.ensures.value done c.loop-lane.invariant

pub returns-clause-stands : goal.returns-clause-stands
returns-clause-stands c = λ steps counter at stands.
    let done : length c.deref_mut-lane-items.result.now ≤ c.loop-lane.lane-index = omega arith in
    let same : length c.loop-lane.lane-items ≡ c.self.inside.lanes.len = omega arith in
    let seen : state_of c.self.inside.depth 0 (with_items c.self.inside.lanes c.loop-lane.lane-items).items ≡ empty_lanes (length c.args.self.now.lanes) c.args.self.now.depth =
    ap (state_of c.self.inside.depth 0) (with_items_is c.self.inside.lanes c.loop-lane.lane-items same)
    ∙ cleared-seen c.self.inside.depth c.self.inside.current c.loop-lane.lane-index c.self.inside.lanes.items c.deref_mut-lane-items.result.now c.loop-lane.lane-items c.args.self.now c.loop-lane.into.items c.loop-lane.into.room c.args.into.now.room c.self.view_is c.deref_mut-lane-items.ensures.value done c.loop-lane.invariant in
    subst (λ (x : LanesState). LanesStandFor x (steps ++ Clear at ∷ []) counter) (sym seen)
    (stands-cleared (length c.args.self.now.lanes) c.args.self.now.depth steps at counter)
