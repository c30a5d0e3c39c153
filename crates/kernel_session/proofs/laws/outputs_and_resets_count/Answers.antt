use Rattle.kernel_session.proofs.Counted.{outputs_and_resets_count}
use Rattle.kernel_session.proofs.laws.outputs_and_resets_count.Goals as goal

pub returns : goal.returns
returns c = outputs_and_resets_count
