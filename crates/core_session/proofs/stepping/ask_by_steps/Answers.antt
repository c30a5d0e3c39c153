use Rattle.std.proofs.Common.{of_z, subst, to_z}
use Rattle.std.specs.Int.{w64}
use Rattle.std.proofs.lemmas.Int.{to_z-of_z}
use Rattle.core_session.specs.declared.turn.Turn.{Turn}
use Rattle.core_session.specs.Stepping.{IsAskedByStep}
use Rattle.core_session.proofs.Lent.{on-err}
use Rattle.core_session.proofs.Steps.{again-nearer, again-still, asked-first, free-mid, open-mid, over-by-steps, replied-by-steps, stopped-by-steps}
use Rattle.core_session.proofs.stepping.ask_by_steps.Goals as goal

pub loop-reply-init : goal.loop-reply-init
loop-reply-init c = asked-first c.args.core.now c.args.schedule.now c.args.request c.requires.free

pub ask_once-requires-clause-open : goal.ask_once-requires-clause-open
ask_once-requires-clause-open c =
    open-mid c.args.core.now c.loop-reply.core c.tick_on.new.core c.args.schedule.now c.loop-reply.schedule c.tick_on.new.schedule c.args.request c.loop-reply.asked c.loop-reply.invariant c.tick_on.ensures c.requires.open

pub ask_once-requires-clause-free : goal.ask_once-requires-clause-free
ask_once-requires-clause-free c =
    free-mid c.args.core.now c.loop-reply.core c.tick_on.new.core c.args.schedule.now c.loop-reply.schedule c.tick_on.new.schedule c.args.request c.loop-reply.asked c.loop-reply.invariant c.tick_on.ensures

pub returns-in-Replied-clause-asked : goal.returns-in-Replied-clause-asked
returns-in-Replied-clause-asked c =
    replied-by-steps c.args.core.now c.loop-reply.core c.tick_on.new.core c.args.schedule.now c.loop-reply.schedule c.tick_on.new.schedule c.args.request c.loop-reply.asked c.loop-reply.invariant c.tick_on.ensures
    (to_z w64 (of_z w64 c.args.cursor)) c.ask_once.new.core c.in-Replied.reply
    (subst (λ (t : Turn). IsAskedByStep c.tick_on.new.core c.loop-reply.asked (to_z w64 (of_z w64 c.args.cursor)) t c.ask_once.new.core) c.in-Replied.is c.in_ok-reply.ensures.asked)

pub returns-in-Over-clause-asked : goal.returns-in-Over-clause-asked
returns-in-Over-clause-asked c =
    over-by-steps c.args.core.now c.loop-reply.core c.tick_on.new.core c.args.schedule.now c.loop-reply.schedule c.tick_on.new.schedule c.args.request c.loop-reply.asked c.loop-reply.invariant c.tick_on.ensures
    (to_z w64 (of_z w64 c.args.cursor)) c.ask_once.new.core c.args.cursor (to_z-of_z w64 c.args.cursor c.ranges.cursor)
    (subst (λ (t : Turn). IsAskedByStep c.tick_on.new.core c.loop-reply.asked (to_z w64 (of_z w64 c.args.cursor)) t c.ask_once.new.core) c.in-Over.is c.in_ok-reply.ensures.asked)

pub loop-reply-preserved : goal.loop-reply-preserved
loop-reply-preserved c =
    again-still c.args.core.now c.loop-reply.core c.tick_on.new.core c.args.schedule.now c.loop-reply.schedule c.tick_on.new.schedule c.args.request c.loop-reply.asked c.loop-reply.invariant c.tick_on.ensures
    (to_z w64 (of_z w64 c.args.cursor)) c.ask_once.new.core c.in-Again.back
    (subst (λ (t : Turn). IsAskedByStep c.tick_on.new.core c.loop-reply.asked (to_z w64 (of_z w64 c.args.cursor)) t c.ask_once.new.core) c.in-Again.is c.in_ok-reply.ensures.asked)

pub loop-reply-smaller : goal.loop-reply-smaller
loop-reply-smaller c =
    again-nearer c.args.core.now c.loop-reply.core c.tick_on.new.core c.args.schedule.now c.loop-reply.schedule c.tick_on.new.schedule c.args.request c.loop-reply.asked c.loop-reply.invariant c.tick_on.ensures
    (to_z w64 (of_z w64 c.args.cursor)) c.ask_once.new.core c.in-Again.back
    (subst (λ (t : Turn). IsAskedByStep c.tick_on.new.core c.loop-reply.asked (to_z w64 (of_z w64 c.args.cursor)) t c.ask_once.new.core) c.in-Again.is c.in_ok-reply.ensures.asked)

pub returns-in_err-reply-clause-err : goal.returns-in_err-reply-clause-err
returns-in_err-reply-clause-err c =
    on-err _ _
    (stopped-by-steps c.args.core.now c.loop-reply.core c.tick_on.new.core c.args.schedule.now c.loop-reply.schedule c.tick_on.new.schedule c.args.request c.loop-reply.asked c.loop-reply.invariant c.tick_on.ensures
    (to_z w64 (of_z w64 c.args.cursor)) c.ask_once.new.core c.in_err-reply.ensures.err)
