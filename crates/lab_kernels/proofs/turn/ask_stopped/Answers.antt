use Rattle.std.proofs.Common.{rules, subst}
use Rattle.rtio_core.specs.declared.data.Ask.{Ask}
use Rattle.rtio_core.specs.Calls.{AnswersAsk}
use Rattle.lab_kernels.proofs.Turned.{due-so, goes-on, leapt, replied-so, waits-so}
use Rattle.lab_kernels.proofs.turn.ask_stopped.Goals as goal

pub returns-then-not-stopped-clause-turn : goal.returns-then-not-stopped-clause-turn
returns-then-not-stopped-clause-turn c =
    goes-on c.args.core.now c.leap.new.self c.args.who c.args.request c.stopped.result
    (leapt c.args.core.now c.leap.new.self c.leap.result c.leap.ensures.count c.leap.ensures.after)
    (search rules) c.stopped.ensures c.history-known.ensures.core.bounded

pub returns-in-Ok-Reply-clause-turn : goal.returns-in-Ok-Reply-clause-turn
returns-in-Ok-Reply-clause-turn c =
    replied-so c.args.core.now c.leap.new.self c.ask.new.self c.args.who c.args.request
    (leapt c.args.core.now c.leap.new.self c.leap.result c.leap.ensures.count c.leap.ensures.after)
    (search rules) c.history-known.ensures.core c.requires.open c.in-Ok-Reply.reply
    (subst (λ (a : Ask). AnswersAsk c.leap.new.self c.args.who c.args.request a c.ask.new.self) c.in-Ok-Reply.field-0-is c.in-Ok-Reply.ensures.answer)

pub returns-in-Ok-NotYet-clause-turn : goal.returns-in-Ok-NotYet-clause-turn
returns-in-Ok-NotYet-clause-turn c =
    waits-so c.args.core.now c.leap.new.self c.ask.new.self c.args.who c.args.request
    (leapt c.args.core.now c.leap.new.self c.leap.result c.leap.ensures.count c.leap.ensures.after)
    (search rules) c.history-known.ensures.core c.requires.open c.in-Ok-NotYet.field-0-0 c.in-Ok-NotYet.waiting
    (subst (λ (a : Ask). AnswersAsk c.leap.new.self c.args.who c.args.request a c.ask.new.self) c.in-Ok-NotYet.field-0-is c.in-Ok-NotYet.ensures.answer)
    c.what_is_decided_stays_decided.ensures
    (search rules) c.request.result c.request.ensures

pub returns-clause-at_top : goal.returns-clause-at_top
returns-clause-at_top c =
    due-so c.args.core.now c.leap.new.self c.ask.new.self c.args.who c.args.request
    (leapt c.args.core.now c.leap.new.self c.leap.result c.leap.ensures.count c.leap.ensures.after)
    (search rules) c.history-known.ensures.core c.requires.open c.in-Err.ensures.memory.0 c.in-Err.ensures.memory.1
