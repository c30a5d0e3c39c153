use Rattle.std.proofs.Common.{◌≡◌, ◌+◌, ◌-◌, ◌<◌, ℕ, sym, subst, length, drop, arith}
use Rattle.trace_fates.specs.Passes.{known}
use Rattle.trace_fates.proofs.Backwards.{IsTold, Knows, knows_more, knows_same, told_step}
use Rattle.trace_fates.proofs.overriding.tell_overridden.Goals as goal

pub loop-i-preserved-in-Continue-1 : goal.loop-i-preserved-in-Continue-1
loop-i-preserved-in-Continue-1 c =
    let one : c.loop-i.i ≡ c.loop-i.i - 1 + 1 = omega arith in
    let below : c.loop-i.i - 1 < length c.args.outputs.now = omega arith in
    let told : IsTold c.args.outputs.now c.loop-i.outputs (c.loop-i.i - 1 + 1) = subst (IsTold c.args.outputs.now c.loop-i.outputs) one c.loop-i.invariant.told in
    let knows : Knows (known c.loop-i.later) (drop (c.loop-i.i - 1 + 1) c.args.outputs.now) = subst (λ (n : ℕ). Knows (known c.loop-i.later) (drop n c.args.outputs.now)) one c.loop-i.invariant.knows in
    record {
      told = told_step c.args.outputs.now c.loop-i.outputs (c.loop-i.i - 1) _ (known c.loop-i.later) c.known-by.result c.over_fate.result below told knows c.known-by.ensures c.over_fate.ensures;
      knows = knows_more c.args.outputs.now c.loop-i.outputs (c.loop-i.i - 1) _ (known c.loop-i.later) (known c.keep.new.later) below told knows (sym c.if-may_override.ensures) c.in_ok-keep.ensures;
    }

pub loop-i-preserved : goal.loop-i-preserved
loop-i-preserved c =
    let one : c.loop-i.i ≡ c.loop-i.i - 1 + 1 = omega arith in
    let below : c.loop-i.i - 1 < length c.args.outputs.now = omega arith in
    let told : IsTold c.args.outputs.now c.loop-i.outputs (c.loop-i.i - 1 + 1) = subst (IsTold c.args.outputs.now c.loop-i.outputs) one c.loop-i.invariant.told in
    let knows : Knows (known c.loop-i.later) (drop (c.loop-i.i - 1 + 1) c.args.outputs.now) = subst (λ (n : ℕ). Knows (known c.loop-i.later) (drop n c.args.outputs.now)) one c.loop-i.invariant.knows in
    record {
      told = told_step c.args.outputs.now c.loop-i.outputs (c.loop-i.i - 1) _ (known c.loop-i.later) c.known-by.result c.over_fate.result below told knows c.known-by.ensures c.over_fate.ensures;
      knows = knows_same c.args.outputs.now c.loop-i.outputs (c.loop-i.i - 1) _ (known c.loop-i.later) below told knows (sym c.if-may_override.ensures);
    }
