use Rattle.core_image.proofs.Verifiable.{is_safe}
use Rattle.core_image.proofs.laws.marked_code_in_range_is_never_stuck.Goals as goal

pub returns : goal.returns
returns c = is_safe
