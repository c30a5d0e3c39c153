use Rattle.std.proofs.Common.{arith}
use Rattle.rtio_input.proofs.Undecided.{passes-next}
use Rattle.rtio_core.proofs.Cycled.{put-out-longer, put-out-of-cycle, tick_keeps}
use Rattle.rtio_core.proofs.one_core.Core.go.Goals as goal

pub put_out_after-kept-requires : goal.put_out_after-kept-requires
put_out_after-kept-requires c =
    let longer = put-out-longer c.self.inside c.advance.new.self c.self.invariant (c.advance.ensures _ _ _ _ c.self.invariant.played) in
    omega (arith, longer, c.count-before.ensures)

pub cycle-requires-clause-none_skipped : goal.cycle-requires-clause-none_skipped
cycle-requires-clause-none_skipped c = passes-next c.self.inside.inputs _ _ _ c.self.inside.count c.self.invariant.inputs

pub cycle-requires-clause-put_out : goal.cycle-requires-clause-put_out
cycle-requires-clause-put_out c =
    put-out-of-cycle c.self.inside c.advance.new.self c.count-before.result c.put_out_after-kept.result.now c.self.invariant (c.advance.ensures _ _ _ _ c.self.invariant.played) c.count-before.ensures c.put_out_after-kept.ensures

pub invariant_of-self : goal.invariant_of-self
invariant_of-self c =
    tick_keeps c.self.inside c.args.self.now c.advance.new.self c.cycle.new.self c.count-before.result c.put_out_after-kept.result.now c.self.view_is c.self.invariant c.requires
    (c.advance.ensures _ _ _ _ c.self.invariant.played) c.count-before.ensures c.put_out_after-kept.ensures c.cycle.ensures.stands
