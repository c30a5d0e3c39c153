use Rattle.typed_runs.proofs.Whole.{typed_keep}
use Rattle.typed_runs.proofs.laws.values_keep_their_types.Goals as goal

pub returns : goal.returns
returns c = typed_keep
