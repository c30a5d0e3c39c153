use Rattle.core_isa.proofs.Safe.{never_stuck}
use Rattle.core_isa.proofs.laws.marked_code_is_never_stuck.Goals as goal

pub returns : goal.returns
returns c = never_stuck
