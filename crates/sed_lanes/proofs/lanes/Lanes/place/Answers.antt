use Rattle.std.proofs.Common.{rules, ◌≡◌}
use Rattle.sed_lanes.specs.Calls.{after_verdict}
use Rattle.sed_lanes.specs.Verdict.{verdict}
use Rattle.sed_lanes.proofs.Accepting.{current-seen, next-seen}
use Rattle.sed_lanes.proofs.Standing.{stands-behind}
use Rattle.sed_lanes.proofs.lanes.Lanes.place.Goals as goal

pub returns-then-may_enter-clause-stands : goal.returns-then-may_enter-clause-stands
returns-then-may_enter-clause-stands c = λ steps stands is decided.
    let after : c.accept.new.self ≡ after_verdict c.args.self.now c.args.number c.args.event.now (verdict c.args.self.now c.args.event.now c.args.counter) = search rules in
    let below = current-seen _ _ c.self.inside.lanes.items c.args.self.now c.self.invariant c.self.view_is in
    stands-behind c.args.self.now c.accept.new.self steps c.args.counter c.args.number c.args.event.now c.requires.later below (next-seen c.args.self.now below) stands is after

pub returns-then-not-may_enter-clause-stands : goal.returns-then-not-may_enter-clause-stands
returns-then-not-may_enter-clause-stands c = λ steps stands is decided.
    let after : c.args.self.now ≡ after_verdict c.args.self.now c.args.number c.args.event.now (verdict c.args.self.now c.args.event.now c.args.counter) = search rules in
    let below = current-seen _ _ c.self.inside.lanes.items c.args.self.now c.self.invariant c.self.view_is in
    stands-behind c.args.self.now c.args.self.now steps c.args.counter c.args.number c.args.event.now c.requires.later below (next-seen c.args.self.now below) stands is after

pub returns-clause-stands : goal.returns-clause-stands
returns-clause-stands c = λ steps stands is decided.
    let after : c.accept-2.new.self ≡ after_verdict c.args.self.now c.args.number c.args.event.now (verdict c.args.self.now c.args.event.now c.args.counter) = search rules in
    let below = current-seen _ _ c.self.inside.lanes.items c.args.self.now c.self.invariant c.self.view_is in
    stands-behind c.args.self.now c.accept-2.new.self steps c.args.counter c.args.number c.args.event.now c.requires.later below (next-seen c.args.self.now below) stands is after
