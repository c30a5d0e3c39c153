use Rattle.kernel_lines.proofs.Bare.{askers_have_lines}
use Rattle.kernel_lines.proofs.Begins.{firsts_have_lines}
use Rattle.kernel_lines.proofs.Texts.{texts_have_lines}
use Rattle.kernel_lines.proofs.laws.what_asks_has_a_line.Goals as goal

pub returns-clause-texts : goal.returns-clause-texts
returns-clause-texts c = texts_have_lines

pub returns-clause-asks : goal.returns-clause-asks
returns-clause-asks c = askers_have_lines

pub returns-clause-begins : goal.returns-clause-begins
returns-clause-begins c = firsts_have_lines
