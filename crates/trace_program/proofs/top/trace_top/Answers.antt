use Rattle.top_calls.proofs.Calls.{answers-words}
use Rattle.trace_program.specs.Answers.{tracer}
use Rattle.trace_program.proofs.top.trace_top.Goals as goal

pub returns : goal.returns
returns g c = answers-words tracer _ _ _ _ c.answer_of.result _ c.answer_of.ensures c.tell.ensures
