use Rattle.code_suited.proofs.Functions.{typed_is_suited}
use Rattle.code_meaning.proofs.Functions.{agrees}
use Rattle.code_meaning.proofs.laws.code_does_what_the_program_means.Goals as goal

pub returns : goal.returns
returns c program checked = agrees program (typed_is_suited program checked.spellable checked.typed)
