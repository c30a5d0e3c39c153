use Rattle.std.proofs.Common.{sym, ◌∙◌, subst}
use Rattle.core_cpu.specs.Settled.{IsSettled}
use Rattle.core_cpu.proofs.Settling.{number_fits, reply_settles}
use Rattle.core_cpu.proofs.cpu.Cpu.reply.Goals as goal

pub answer-requires-clause-room : goal.answer-requires-clause-room
answer-requires-clause-room c =
    number_fits
    c.self.inside.code.now
    c.self.inside.state
    c.in-Asking.purpose
    (subst
    (IsSettled c.self.inside.code.now c.self.inside.state)
    (sym c.replace-phase.ensures.value ∙ c.in-Asking.is)
    c.self.invariant)

pub invariant_of-self : goal.invariant_of-self
invariant_of-self c =
    reply_settles
    c.self.inside.code.now
    c.self.inside.state
    c.answer.new.state
    c.in-Asking.purpose
    c.args.reply
    c.answer.result
    (subst
    (IsSettled c.self.inside.code.now c.self.inside.state)
    (sym c.replace-phase.ensures.value ∙ c.in-Asking.is)
    c.self.invariant)
    c.answer.ensures.takes
    c.answer.ensures.proper
    c.answer.ensures.width
