use Rattle.std.proofs.Common.{◌∙◌, sym}
use Rattle.output_merge.specs.Places.{stands_before}
use Rattle.output_merge.proofs.Placing.{place-more, place-stop}
use Rattle.output_merge.proofs.place.place_of.Goals as goal

pub returns-then-not-is_before-clause-splits : goal.returns-then-not-is_before-clause-splits
returns-then-not-is_before-clause-splits c =
    place-stop (stands_before c.args.order) c.args.into.now.items c.loop-at.at c.item.result c.args.pair c.item.ensures (sym c.is_before.ensures ∙ c.if-not-is_before.true)
    ∙ c.loop-at.invariant

pub loop-at-preserved : goal.loop-at-preserved
loop-at-preserved c =
    place-more (stands_before c.args.order) c.args.into.now.items c.loop-at.at c.item.result c.args.pair c.item.ensures (sym c.is_before.ensures ∙ c.if-not-is_before.false)
    ∙ c.loop-at.invariant
