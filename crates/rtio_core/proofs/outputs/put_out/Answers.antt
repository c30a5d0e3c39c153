use Rattle.std.proofs.Common.{arith}
use Rattle.rtio_core.proofs.Moves.{moved-more}
use Rattle.rtio_core.proofs.outputs.put_out.Goals as goal

pub loop-i-preserved : goal.loop-i-preserved
loop-i-preserved c = (
  moved-more (λ p. p.1) c.args.from.now.items c.loop-i.i c.item.result c.args.into.now.items c.loop-i.into.items _ (omega (arith, c.loop-i-test.true, c.len-i-end.ensures)) c.item.ensures c.loop-i.invariant.0 c.push_reserved.ensures.items,
  omega (arith, c.push_reserved.ensures.len, c.loop-i.invariant.1),
  omega (arith, c.push_reserved.ensures.capacity, c.loop-i.invariant.2),
)
