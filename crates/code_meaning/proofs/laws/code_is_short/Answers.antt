use Rattle.code_meaning.proofs.Short.{is_short}
use Rattle.code_meaning.proofs.laws.code_is_short.Goals as goal

pub returns : goal.returns
returns c = is_short
