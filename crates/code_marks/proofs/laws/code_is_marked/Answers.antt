use Rattle.code_marks.proofs.Functions.{checked_is_marked}
use Rattle.code_marks.proofs.laws.code_is_marked.Goals as goal

pub returns : goal.returns
returns c = checked_is_marked
