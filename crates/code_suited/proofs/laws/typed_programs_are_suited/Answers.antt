use Rattle.code_suited.proofs.Functions.{typed_is_suited}
use Rattle.code_suited.proofs.laws.typed_programs_are_suited.Goals as goal

pub returns : goal.returns
returns c = typed_is_suited
