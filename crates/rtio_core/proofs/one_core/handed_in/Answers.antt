use Rattle.std.proofs.Common.{◌∙◌}
use Rattle.rtio_core.proofs.Handing.{handed-next, item-at, may-come}
use Rattle.rtio_core.proofs.one_core.handed_in.Goals as goal

pub hand_in-requires-clause-epoch : goal.hand_in-requires-clause-epoch
hand_in-requires-clause-epoch c =
    (may-come c.loop-named.store c.args.kept.now c.loop-named.named-index c.named-item.result c.requires (item-at c.args.kept.now c.loop-named.named-index c.named-item.result c.loop-named-test.true c.named-item.is) c.loop-named.invariant).epoch

pub hand_in-requires-clause-new : goal.hand_in-requires-clause-new
hand_in-requires-clause-new c =
    (may-come c.loop-named.store c.args.kept.now c.loop-named.named-index c.named-item.result c.requires (item-at c.args.kept.now c.loop-named.named-index c.named-item.result c.loop-named-test.true c.named-item.is) c.loop-named.invariant).new

pub hand_in-requires-clause-place : goal.hand_in-requires-clause-place
hand_in-requires-clause-place c =
    (may-come c.loop-named.store c.args.kept.now c.loop-named.named-index c.named-item.result c.requires (item-at c.args.kept.now c.loop-named.named-index c.named-item.result c.loop-named-test.true c.named-item.is) c.loop-named.invariant).place

pub loop-named-preserved : goal.loop-named-preserved
loop-named-preserved c =
    c.in_ok-hand_in.ensures.ok
    ∙ handed-next c.loop-named.store c.args.kept.now c.loop-named.named-index c.named-item.result (item-at c.args.kept.now c.loop-named.named-index c.named-item.result c.loop-named-test.true c.named-item.is) c.loop-named.invariant
