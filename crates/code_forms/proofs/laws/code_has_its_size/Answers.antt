use Rattle.code_forms.proofs.StatementLengths.{has_its_size, functions_have_their_size}
use Rattle.code_forms.proofs.laws.code_has_its_size.Goals as goal

pub returns-clause-parts : goal.returns-clause-parts
returns-clause-parts c = has_its_size

pub returns-clause-functions : goal.returns-clause-functions
returns-clause-functions c = functions_have_their_size
