use Rattle.core_session.proofs.Steps.{ticked-cpu, ticked-first, ticked-more, ticked-nearer}
use Rattle.core_session.proofs.stepping.tick_on.Goals as goal

pub loop-core-init : goal.loop-core-init
loop-core-init c = ticked-first c.args.core.now c.args.schedule.now

pub returns-in-Cpu : goal.returns-in-Cpu
returns-in-Cpu c =
    ticked-cpu c.args.core.now c.loop-core.core c.args.schedule.now c.loop-core.schedule c.next.new.self c.stopped.result c.next.result c.loop-core.invariant c.stopped.ensures c.next.ensures.step c.next.ensures.after c.in-Cpu.is

pub loop-core-preserved : goal.loop-core-preserved
loop-core-preserved c =
    ticked-more c.args.core.now c.loop-core.core c.args.schedule.now c.loop-core.schedule c.next.new.self c.stopped.result c.next.result c.loop-core.invariant c.stopped.ensures c.next.ensures.step c.next.ensures.after
    c.leap.new.self c.ticks_in_a_row.result c.leap.result c.history-known.ensures.core c.in-Tick.is c.next.ensures.still_bound c.next.ensures.nearer c.ticks_in_a_row.ensures c.leap.ensures.count c.leap.ensures.after

pub loop-core-smaller : goal.loop-core-smaller
loop-core-smaller c =
    ticked-nearer c.args.core.now c.loop-core.core c.args.schedule.now c.loop-core.schedule c.next.new.self c.stopped.result c.next.result c.loop-core.invariant c.stopped.ensures c.next.ensures.step c.next.ensures.after
    c.leap.new.self c.ticks_in_a_row.result c.leap.result c.history-known.ensures.core c.in-Tick.is c.next.ensures.still_bound c.next.ensures.nearer c.ticks_in_a_row.ensures c.leap.ensures.count c.leap.ensures.after
