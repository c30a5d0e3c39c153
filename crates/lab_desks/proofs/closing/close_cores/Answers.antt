use Rattle.std.proofs.Common.{rules, ◌≡◌, []}
use Rattle.lab_desks.proofs.Behind.{closing-chairs, closing-first, closing_last, closing-more, closing-room, closing-some}
use Rattle.lab_desks.proofs.closing.close_cores.Goals as goal

pub loop-desk-init : goal.loop-desk-init
loop-desk-init c =
    closing-first c.args.rows.now c.args.desks.items c.args.rooms.items c.args.room.items _ c.requires.rows c.requires.count c.requires.rooms c.requires.room.0 c.requires.room.1

pub last_of_each-requires-clause-some : goal.last_of_each-requires-clause-some
last_of_each-requires-clause-some c =
    closing-some _ c.args.desks.items c.loop-desk.desks.items c.pop.new.self.items c.in-Some.desk c.loop-desk.rows c.loop-desk.rooms.items c.loop-desk.cores.items _ c.loop-desk.invariant c.in-Some.ensures.items

pub last_of_each-requires-clause-room : goal.last_of_each-requires-clause-room
last_of_each-requires-clause-room c =
    closing-room _ c.args.desks.items c.loop-desk.desks.items c.pop.new.self.items c.in-Some.desk c.loop-desk.rows c.loop-desk.rooms.items c.loop-desk.cores.items _ c.loop-desk.invariant c.in-Some.ensures.items
    c.pop-in-Some.new.self.items c.in-Some-pop.chairs c.in-Some-pop.ensures.items

pub close_core-requires : goal.close_core-requires
close_core-requires c =
    closing-chairs _ c.args.desks.items c.loop-desk.desks.items c.pop.new.self.items c.in-Some.desk c.loop-desk.rows c.loop-desk.rooms.items c.loop-desk.cores.items _ c.loop-desk.invariant c.in-Some.ensures.items
    c.last_of_each.new.rows c.last_of_each.new.column.items c.last_of_each.ensures c.requires.chairs

pub loop-desk-preserved : goal.loop-desk-preserved
loop-desk-preserved c =
    closing-more _ c.args.desks.items c.loop-desk.desks.items c.pop.new.self.items c.in-Some.desk c.loop-desk.rows c.loop-desk.rooms.items c.loop-desk.cores.items _ c.loop-desk.invariant c.in-Some.ensures.items
    c.last_of_each.new.rows c.pop-in-Some.new.self.items c.in-Some-pop.chairs c.last_of_each.new.column.items c.close_core.result c.push.new.self.items _
    c.last_of_each.ensures c.last_of_each.auto.rows c.in-Some-pop.ensures.items c.close_core.ensures c.in-Ok.ensures.items c.in-Ok.ensures.capacity

pub returns-clause-rows : goal.returns-clause-rows
returns-clause-rows c =
    let none : c.loop-desk.desks.items ≡ [] = first_of (search (rules), cc) in
    closing_last _ c.args.desks.items c.loop-desk.desks.items c.loop-desk.rows c.loop-desk.rooms.items c.loop-desk.cores.items _ c.loop-desk.invariant none
