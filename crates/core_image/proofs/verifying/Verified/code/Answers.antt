use Rattle.core_image.proofs.Verifiable.{has_order, is_marked, takes_nothing}
use Rattle.core_image.proofs.verifying.Verified.code.Goals as goal

pub returns-clause-order : goal.returns-clause-order
returns-clause-order c = has_order _ c.self.invariant.in_range

pub returns-clause-marked : goal.returns-clause-marked
returns-clause-marked c = is_marked _ c.self.invariant

pub returns-clause-main : goal.returns-clause-main
returns-clause-main c = takes_nothing _ c.self.invariant
