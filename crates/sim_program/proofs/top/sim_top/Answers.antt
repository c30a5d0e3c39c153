use Rattle.sim_program.specs.Answers.{simulator}
use Rattle.top_calls.proofs.Calls.{answers-words}
use Rattle.sim_program.proofs.top.sim_top.Goals as goal

pub returns : goal.returns
returns g c = answers-words simulator _ _ _ _ c.answer_of.result _ c.answer_of.ensures c.tell.ensures
