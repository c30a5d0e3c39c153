use Rattle.std.proofs.Common.{◌≡◌, ap, ◌∙◌}
use Rattle.sed_lanes.specs.Lanes.{LanesState, is_full_lane, may_enter, with_accepted}
use Rattle.sed_lanes.specs.Calls.{is_new_number}
use Rattle.sed_lanes.proofs.Accepting.{Took, state_of, lane-there, took-lanes, took-view}
use Rattle.sed_lanes.proofs.lanes.Lanes.accept.Goals as goal

pub invariant_of-self : goal.invariant_of-self
invariant_of-self c =
    let see : state_of c.self.inside.depth c.self.inside.current c.self.inside.lanes.items ≡ c.args.self.now = c.self.view_is in
    let took : Took c.index_mut.result.now c.accept.new.self c.args.number c.args.event =
    record { held = c.accept.ensures.held; last = c.accept.ensures.last; small = c.accept.ensures.small; room = c.accept.ensures.room } in
    took-lanes c.self.inside.depth c.self.inside.current c.args.lane c.self.inside.lanes.items c.index_mut.result.now c.accept.new.self c.args.number c.args.event c.self.invariant
    (lane-there _ _ c.args.lane c.self.inside.lanes.items c.args.self.now see c.requires.lane)
    c.index_mut.ensures.value took
    (ap (λ (x : LanesState). is_full_lane x c.args.lane) see ∙ c.requires.room)
    (ap (λ (x : LanesState). may_enter x c.args.lane c.args.event) see ∙ c.requires.later)
    (ap (λ (x : LanesState). is_new_number c.args.number x) see ∙ c.requires.number)

pub returns : goal.returns
returns c =
    let see : state_of c.self.inside.depth c.self.inside.current c.self.inside.lanes.items ≡ c.args.self.now = c.self.view_is in
    let took : Took c.index_mut.result.now c.accept.new.self c.args.number c.args.event =
    record { held = c.accept.ensures.held; last = c.accept.ensures.last; small = c.accept.ensures.small; room = c.accept.ensures.room } in
    took-view c.self.inside.depth c.self.inside.current c.args.lane c.self.inside.lanes.items c.index_mut.result.now c.accept.new.self c.args.number c.args.event
    (lane-there _ _ c.args.lane c.self.inside.lanes.items c.args.self.now see c.requires.lane)
    c.index_mut.ensures.value took
    ∙ ap (λ (x : LanesState). with_accepted x c.args.lane c.args.number c.args.event) see
