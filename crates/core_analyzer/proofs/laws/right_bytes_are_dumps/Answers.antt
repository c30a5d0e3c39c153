use Rattle.core_analyzer.proofs.DumpSpelled.{right-spells}
use Rattle.core_analyzer.proofs.laws.right_bytes_are_dumps.Goals as goal

pub returns : goal.returns
returns c = right-spells
