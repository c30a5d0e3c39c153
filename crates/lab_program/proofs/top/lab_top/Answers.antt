use Rattle.lab_program.specs.Answers.{laboratory}
use Rattle.top_calls.proofs.Calls.{answers-words}
use Rattle.lab_program.proofs.top.lab_top.Goals as goal

pub returns : goal.returns
returns g c = answers-words laboratory _ _ _ _ c.answer_of-said.result _ c.answer_of-said.ensures c.tell.ensures
