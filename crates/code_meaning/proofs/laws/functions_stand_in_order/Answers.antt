use Rattle.code_meaning.proofs.Order.{has_order}
use Rattle.code_meaning.proofs.laws.functions_stand_in_order.Goals as goal

pub returns : goal.returns
returns c = has_order
