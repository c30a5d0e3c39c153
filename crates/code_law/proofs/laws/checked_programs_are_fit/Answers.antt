use Rattle.code_law.proofs.Whole.{is_fit}
use Rattle.code_law.proofs.laws.checked_programs_are_fit.Goals as goal

pub returns : goal.returns
returns c = is_fit
