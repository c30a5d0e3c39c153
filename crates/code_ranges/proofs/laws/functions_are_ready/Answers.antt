use Rattle.code_ranges.proofs.Functions.{functions_are_ready}
use Rattle.code_ranges.proofs.laws.functions_are_ready.Goals as goal

pub returns : goal.returns
returns c = functions_are_ready
