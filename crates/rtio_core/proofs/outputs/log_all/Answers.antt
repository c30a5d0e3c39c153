use Rattle.std.proofs.Common.{◌≡◌, ◌-◌, ◌<◌, ap, arith, length}
use Rattle.rtio_log.specs.Lines.{LogState}
use Rattle.rtio_core.proofs.Moves.{moved-more}
use Rattle.rtio_core.proofs.outputs.log_all.Goals as goal

pub loop-i-preserved : goal.loop-i-preserved
loop-i-preserved c =
    let lt : c.loop-i.i < length c.args.from.now.items = omega (arith, c.loop-i-test.true, c.len-i-end.ensures) in
    let less : c.add.new.self.room ≡ c.loop-i.log.room - 1 = ap (λ (l : LogState). l.room) c.add.ensures in (
      moved-more (λ p. record { kind = c.args.kind; number = p.0; event = p.1 }) c.args.from.now.items c.loop-i.i c.item-number.result c.args.log.now.lines c.loop-i.log.lines _ lt c.item-number.ensures c.loop-i.invariant.0 (ap (λ (l : LogState). l.lines) c.add.ensures),
      omega (arith, less, lt, c.loop-i.invariant.1, c.requires),
    )
