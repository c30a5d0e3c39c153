use Rattle.std.proofs.Common.{ℕ, List, inl, refl, subst}
use Rattle.lab_program.specs.Answers.{laboratory, report_of_session}
use Rattle.lab_program.proofs.Words.{no-words, some-words}
use Rattle.top_calls.specs.Sayings.{IsAnswerTo, of_none, of_one}
use Rattle.top_calls.proofs.Saying.{answered, passed-on, unanswered}
use Rattle.lab_program.proofs.top.answer_of.Goals as goal

pub returns-then-not-is_empty : goal.returns-then-not-is_empty
returns-then-not-is_empty g c =
    of_none (some-words c.args.words.now c.is_empty.result c.is_empty.ensures c.if-not-is_empty.true) (inl refl) refl

pub returns-in_err-text : goal.returns-in_err-text
returns-in_err-text g c =
    of_one tt (no-words c.args.words.now c.is_empty.result c.is_empty.ensures c.if-not-is_empty.false)
    (passed-on (laboratory.command_of tt) _ c.from_residual.result c.in_err-text.field-0.0 c.from_residual.ensures.1 c.in_err-text.ensures.got)

pub returns-in_err-answer_to : goal.returns-in_err-answer_to
returns-in_err-answer_to g c =
    of_one tt (no-words c.args.words.now c.is_empty.result c.is_empty.ensures c.if-not-is_empty.false)
    (unanswered (laboratory.command_of tt) _ c.in_ok-text.text c.from_residual-in_err-answer_to.result c.from_residual-in_err-answer_to.ensures.1 c.in_ok-text.ensures.got)

pub returns : goal.returns
returns g c =
    of_one tt (no-words c.args.words.now c.is_empty.result c.is_empty.ensures c.if-not-is_empty.false)
    (answered (laboratory.command_of tt) _ c.in_ok-text.text c.in_ok-answer_to.field-0 c.in_ok-text.ensures.got (subst (λ (t : List ℕ). IsAnswerTo report_of_session t c.in_ok-answer_to.field-0) c.deref.ensures.value c.in_ok-answer_to.ensures))
