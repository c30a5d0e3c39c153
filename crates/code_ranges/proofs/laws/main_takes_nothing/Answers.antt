use Rattle.code_ranges.proofs.InRange.{main_takes_nothing}
use Rattle.code_ranges.proofs.laws.main_takes_nothing.Goals as goal

pub returns : goal.returns
returns c = main_takes_nothing
