use Rattle.kern_judgement.proofs.ProgramsFound.{found_program}
use Rattle.kern_judgement.proofs.ProgramsJudged.{judged_program}
use Rattle.kern_judgement.proofs.laws.programs_are_typed_as_judged.Goals as goal

pub returns : goal.returns
returns c = λ program. (judged_program program, found_program program)
