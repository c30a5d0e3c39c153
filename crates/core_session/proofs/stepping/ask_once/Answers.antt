use Rattle.std.proofs.Common.{ap, subst, ◌∙◌}
use Rattle.std.specs.Prelude.{ℤ}
use Rattle.std.specs.Int.{w64}
use Rattle.std.proofs.lemmas.Int.{to_z-of_z}
use Rattle.rtio_types.specs.declared.outcome.Outcome.TheVariants as outcome
use Rattle.rtio_core.specs.declared.data.Ask.{Ask}
use Rattle.rtio_core.specs.declared.data.Tick.{Tick}
use Rattle.rtio_core.specs.Calls.{AnswersAsk, AnswersTick, ended}
use Rattle.core_session.proofs.Lent.{on-err}
use Rattle.core_session.proofs.Once.{not-held, open-still, over-once, replied-once, vainly-once, went-once}
use Rattle.core_session.proofs.stepping.ask_once.Goals as goal

pub returns-in-Ok-Reply-clause-asked : goal.returns-in-Ok-Reply-clause-asked
returns-in-Ok-Reply-clause-asked c =
    replied-once c.args.core.now c.ask.new.self c.args.request c.args.cursor c.in-Ok-Reply.reply
    (subst (λ (a : Ask). AnswersAsk c.args.core.now 0 c.args.request a c.ask.new.self) c.in-Ok-Reply.field-0-is c.in-Ok-Reply.ensures.answer)

pub returns-in-Went-clause-asked : goal.returns-in-Went-clause-asked
returns-in-Went-clause-asked c =
    went-once c.args.core.now c.ask.new.self c.args.request c.in-Ok-NotYet.field-0-0 c.in-Ok-NotYet.waiting
    (subst (λ (a : Ask). AnswersAsk c.args.core.now 0 c.args.request a c.ask.new.self) c.in-Ok-NotYet.field-0-is c.in-Ok-NotYet.ensures.answer)
    c.tick.new.self c.args.cursor c.request.result c.request.ensures
    (subst (λ (t : Tick). AnswersTick c.ask.new.self t c.tick.new.self) c.in-Went.is c.tick.ensures)

pub unreachable-requires : goal.unreachable-requires
unreachable-requires c =
    not-held c.args.core.now c.ask.new.self c.args.request c.in-Ok-NotYet.field-0-0 c.in-Ok-NotYet.waiting
    (subst (λ (a : Ask). AnswersAsk c.args.core.now 0 c.args.request a c.ask.new.self) c.in-Ok-NotYet.field-0-is c.in-Ok-NotYet.ensures.answer)
    c.what_is_decided_stays_decided.ensures c.history-known.ensures.core c.requires.open c.in-Held.limit c.tick.new.self
    (subst (λ (t : Tick). AnswersTick c.ask.new.self t c.tick.new.self) c.in-Held.is c.tick.ensures)

pub end-requires-clause-open : goal.end-requires-clause-open
end-requires-clause-open c =
    open-still c.args.core.now c.ask.new.self c.args.request c.in-Ok-NotYet.field-0-0 c.in-Ok-NotYet.waiting
    (subst (λ (a : Ask). AnswersAsk c.args.core.now 0 c.args.request a c.ask.new.self) c.in-Ok-NotYet.field-0-is c.in-Ok-NotYet.ensures.answer)
    c.requires.open c.tick.new.self
    (subst (λ (t : Tick). AnswersTick c.ask.new.self t c.tick.new.self) c.in-Horizon.is c.tick.ensures)

pub returns-in-Ok-NotYet-clause-asked : goal.returns-in-Ok-NotYet-clause-asked
returns-in-Ok-NotYet-clause-asked c =
    over-once c.args.core.now c.ask.new.self c.args.request c.in-Ok-NotYet.field-0-0 c.in-Ok-NotYet.waiting
    (subst (λ (a : Ask). AnswersAsk c.args.core.now 0 c.args.request a c.ask.new.self) c.in-Ok-NotYet.field-0-is c.in-Ok-NotYet.ensures.answer)
    c.tick.new.self c.end.new.self _
    (subst (λ (t : Tick). AnswersTick c.ask.new.self t c.tick.new.self) c.in-Horizon.is c.tick.ensures)
    (c.in_ok-end-in-Horizon.ensures.ok ∙ ap (λ (z : ℤ). ended c.tick.new.self 0 outcome.Horizon z) (to_z-of_z w64 c.args.cursor c.ranges.cursor))

pub returns-in_err-end-in-Horizon-clause-err : goal.returns-in_err-end-in-Horizon-clause-err
returns-in_err-end-in-Horizon-clause-err c =
    on-err _ _
    (vainly-once c.args.core.now c.ask.new.self c.args.request c.in-Ok-NotYet.field-0-0 c.in-Ok-NotYet.waiting
    (subst (λ (a : Ask). AnswersAsk c.args.core.now 0 c.args.request a c.ask.new.self) c.in-Ok-NotYet.field-0-is c.in-Ok-NotYet.ensures.answer)
    c.tick.new.self c.end.new.self
    (subst (λ (t : Tick). AnswersTick c.ask.new.self t c.tick.new.self) c.in-Horizon.is c.tick.ensures)
    c.in_err-end-in-Horizon.ensures.err)
