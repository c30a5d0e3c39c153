use Rattle.std.proofs.Common.{sym, ◌∙◌}
use Rattle.lab_crew.proofs.Dealt.{dealing-first, dealing-more, dealing-some, dealt-columns, dealt-free, dealt-frees}
use Rattle.lab_crew.proofs.dealing.seat_workers.Goals as goal

pub loop-sched-init : goal.loop-sched-init
loop-sched-init c = dealing-first c.args.desks.now c.args.scheds.now c.args.columns.now c.in_ok-crew.crew.items c.requires c.in_ok-crew.ensures.items

pub last_of_each-requires-clause-some : goal.last_of_each-requires-clause-some
last_of_each-requires-clause-some c =
    dealing-some c.args.desks.now _ c.loop-sched.scheds c.pop.new.self c.in-Some.sched c.loop-sched.columns c.loop-sched.crew.items c.loop-sched.invariant c.in-Some.ensures.items

pub new-requires-clause-sched : goal.new-requires-clause-sched
new-requires-clause-sched c =
    dealt-free c.args.desks.now _ c.loop-sched.scheds c.pop.new.self c.in-Some.sched c.loop-sched.columns c.loop-sched.crew.items c.loop-sched.invariant c.in-Some.ensures.items
    c.number-number.result c.number-number.ensures

pub new-requires-clause-cores : goal.new-requires-clause-cores
new-requires-clause-cores c =
    dealt-frees c.args.desks.now _ c.loop-sched.scheds c.pop.new.self c.in-Some.sched c.loop-sched.columns c.loop-sched.crew.items c.loop-sched.invariant c.in-Some.ensures.items
    c.last_of_each.new.rows c.last_of_each.new.column.items c.number-number.result c.last_of_each.ensures c.number-number.ensures

pub loop-sched-preserved : goal.loop-sched-preserved
loop-sched-preserved c =
    dealing-more c.args.desks.now _ c.loop-sched.scheds c.pop.new.self c.in-Some.sched c.loop-sched.columns c.loop-sched.crew.items c.loop-sched.invariant c.in-Some.ensures.items
    c.last_of_each.new.rows c.last_of_each.new.column.items c.number-number.result _ c.push.new.self.items c.last_of_each.ensures c.number-number.ensures c.in-Some.ensures.capacity
    c.new.ensures c.in_ok-push.ensures.items

pub returns-clause-columns : goal.returns-clause-columns
returns-clause-columns c =
    dealt-columns c.args.desks.now _ c.loop-sched.scheds c.pop.new.self c.loop-sched.columns c.loop-sched.crew.items c.loop-sched.invariant c.in_default.ensures.items
    (sym c.loop-sched.scheds.ok.0 ∙ c.in_default.ensures.cases.0)
