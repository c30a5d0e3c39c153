use Rattle.core_isa.proofs.Decided.{decides-right_place}
use Rattle.core_isa.proofs.laws.tests_decide_marks.Goals as goal

pub returns : goal.returns
returns c = decides-right_place
