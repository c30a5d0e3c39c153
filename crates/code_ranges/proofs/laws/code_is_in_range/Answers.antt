use Rattle.code_ranges.proofs.InRange.{in_range}
use Rattle.code_ranges.proofs.laws.code_is_in_range.Goals as goal

pub returns : goal.returns
returns c = in_range
