use Rattle.typed_runs.proofs.Arguments.{fitting_typed}
use Rattle.typed_runs.proofs.laws.fitting_arguments_are_typed.Goals as goal

pub returns : goal.returns
returns c = fitting_typed
