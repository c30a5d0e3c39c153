use Rattle.std.proofs.Common.{ap}
use Rattle.std.specs.Prelude.{None}
use Rattle.sed_lanes.proofs.Takings.{IsTaken, taken-first, taken-none}
use Rattle.sed_lanes.proofs.lane.Lane.take_at.Goals as goal

pub returns-then-first-cycle-clause-taken : goal.returns-then-first-cycle-clause-taken
returns-then-first-cycle-clause-taken c =
    let t : IsTaken c.args.cycle c.args.self.now.held.items c.pop_front.new.self.items c.pop_front.result =
    taken-first c.args.cycle c.first.result c.args.self.now.held.items c.pop_front.new.self.items c.pop_front.result c.requires.rising c.first.ensures c.if-first-cycle.true c.pop_front.ensures.value (ap (λ held. held.items) c.pop_front.ensures.items) in
    t.taken

pub returns-then-first-cycle-clause-left : goal.returns-then-first-cycle-clause-left
returns-then-first-cycle-clause-left c =
    let t : IsTaken c.args.cycle c.args.self.now.held.items c.pop_front.new.self.items c.pop_front.result =
    taken-first c.args.cycle c.first.result c.args.self.now.held.items c.pop_front.new.self.items c.pop_front.result c.requires.rising c.first.ensures c.if-first-cycle.true c.pop_front.ensures.value (ap (λ held. held.items) c.pop_front.ensures.items) in
    t.kept

pub returns-else-first-cycle-clause-taken : goal.returns-else-first-cycle-clause-taken
returns-else-first-cycle-clause-taken c =
    let t : IsTaken c.args.cycle c.args.self.now.held.items c.args.self.now.held.items None =
    taken-none c.args.cycle c.first.result c.args.self.now.held.items c.requires.rising c.requires.none_earlier c.first.ensures c.if-first-cycle.false in
    t.taken

pub returns-else-first-cycle-clause-left : goal.returns-else-first-cycle-clause-left
returns-else-first-cycle-clause-left c =
    let t : IsTaken c.args.cycle c.args.self.now.held.items c.args.self.now.held.items None =
    taken-none c.args.cycle c.first.result c.args.self.now.held.items c.requires.rising c.requires.none_earlier c.first.ensures c.if-first-cycle.false in
    t.kept
