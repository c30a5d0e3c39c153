use Rattle.std.proofs.Common.{ap, inl, refl}
use Rattle.std.specs.Prelude.{Err}
use Rattle.sim_program.specs.Answers.{command_of, simulator}
use Rattle.top_calls.specs.Sayings.{of_none, of_one}
use Rattle.top_calls.proofs.Saying.{answered, passed-on, unanswered, words-unread}
use Rattle.sim_program.proofs.top.answer_of.Goals as goal

pub returns-in-Err-Refused : goal.returns-in-Err-Refused
returns-in-Err-Refused g c = of_none (c.in-Err-Refused.ensures.refused (ap Err c.in-Err-Refused.field-0-is)) (inl refl) refl

pub returns-in-Err-Memory : goal.returns-in-Err-Memory
returns-in-Err-Memory g c = words-unread simulator _ _ refl refl

pub returns-in_err-text : goal.returns-in_err-text
returns-in_err-text g c =
    of_one c.in-Ok.asked c.in-Ok.ensures.ok
    (passed-on (command_of c.in-Ok.asked) _ c.from_residual.result c.in_err-text.field-0.0 c.from_residual.ensures.1 c.in_err-text.ensures.got)

pub returns-in_err-answer_to : goal.returns-in_err-answer_to
returns-in_err-answer_to g c =
    of_one c.in-Ok.asked c.in-Ok.ensures.ok
    (unanswered (command_of c.in-Ok.asked) _ c.in_ok-text.text c.from_residual-in_err-answer_to.result c.from_residual-in_err-answer_to.ensures.1 c.in_ok-text.ensures.got)

pub returns : goal.returns
returns g c =
    of_one c.in-Ok.asked c.in-Ok.ensures.ok
    (answered (command_of c.in-Ok.asked) _ c.in_ok-text.text c.in_ok-answer_to.field-0 c.in_ok-text.ensures.got c.in_ok-answer_to.ensures)
