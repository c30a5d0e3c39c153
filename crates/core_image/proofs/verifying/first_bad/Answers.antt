use Rattle.std.proofs.Common.{◌+◌, length, ap, arith}
use Rattle.core_image.proofs.Spots.{good_none, good_behind, good_all, starts_within}
use Rattle.core_image.proofs.verifying.first_bad.Goals as goal

pub loop-index-init : goal.loop-index-init
loop-index-init c = good_none c.args.code.now c.requires

pub returns-in-Some-clause-within : goal.returns-in-Some-clause-within
returns-in-Some-clause-within c = omega (arith, c.in-Some.ensures.within, starts_within c.args.code.now (c.loop-index.index + 1) c.requires)

pub returns-in-Some-clause-least : goal.returns-in-Some-clause-least
returns-in-Some-clause-least c = good_behind c.args.code.now _ _ _ c.loop-index.invariant c.in-Some.ensures.least

pub loop-index-preserved : goal.loop-index-preserved
loop-index-preserved c = good_behind c.args.code.now _ _ _ c.loop-index.invariant c.in_default.ensures.none

pub returns-clause-none : goal.returns-clause-none
returns-clause-none c = good_all c.args.code.now _ (omega (arith, ap length c.items-index-end.ensures)) c.loop-index.invariant
