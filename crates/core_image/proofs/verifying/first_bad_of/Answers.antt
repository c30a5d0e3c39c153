use Rattle.std.proofs.Common.{arith, sym, ◌∙◌}
use Rattle.core_image.proofs.Spots.{spot_of, good_more}
use Rattle.core_image.proofs.verifying.first_bad_of.Goals as goal

pub is_good-requires : goal.is_good-requires
is_good-requires c =
    spot_of c.args.code.now c.items.result.now c.args.index c.loop-place.place c.start-begin.result c.start-end.result _ c.requires.in_range c.items.ensures c.requires.there
    c.start-begin.ensures c.start-end.ensures (omega arith) c.loop-place-test.true

pub loop-place-preserved : goal.loop-place-preserved
loop-place-preserved c = good_more c.args.code.now _ _ c.loop-place.invariant (sym c.is_good.ensures ∙ c.if-not-is_good.false)
