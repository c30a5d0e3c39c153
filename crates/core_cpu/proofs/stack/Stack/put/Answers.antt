use Rattle.std.proofs.Common.{◌≡◌, ◌-◌, ◌∷◌, [], ◌++◌, length, map, reverse, ap, arith}
use Rattle.std.proofs.lemmas.Iterator.Adapters.{YieldsList-from_rev_slice}
use Rattle.std.proofs.lemmas.Iterator.Consumers.{YieldsList-turn, YieldsList-end}
use Rattle.std.proofs.lemmas.List.{length-map, length-reverse, length_push, reverse-reverse}
use Rattle.core_cpu.proofs.Pieces.{put_more}
use Rattle.core_cpu.proofs.stack.Stack.put.Goals as goal

pub push-requires : goal.push-requires
push-requires g c =
    let turn = YieldsList-turn (YieldsList-from_rev_slice c.args.items.now cc) c.loop-item.yielded _ c.loop-item.yielded_by _ _ c.in-Some.item c.in-Some.is c.next.ensures.steps in
    rw c.loop-item.invariant (omega (arith, length-map c.loop-item.yielded (λ y. y.now), length-reverse c.args.items.now, turn.0))

pub loop-item-preserved : goal.loop-item-preserved
loop-item-preserved g c =
    let ys = c.loop-item.yielded in
    let more : c.args.self.now.1 - length (map (λ y. y.now) ys) - 1 ≡ c.args.self.now.1 - length (map (λ y. y.now) (ys ++ c.in-Some.item ∷ [])) =
    omega (arith, length-map ys (λ y. y.now), length-map (ys ++ c.in-Some.item ∷ []) (λ y. y.now), length_push ys c.in-Some.item)
    in
    rw
    (c.push.ensures, c.loop-item.invariant, ← put_more (λ y. y.now) ys c.in-Some.item c.args.self.now.0)
    (ap (λ free. (c.in-Some.item.now ∷ (reverse (map (λ y. y.now) ys) ++ c.args.self.now.0), free)) more)

pub returns : goal.returns
returns g c =
    let end = YieldsList-end (YieldsList-from_rev_slice c.args.items.now cc) c.loop-item.yielded _ c.loop-item.yielded_by _ _ c.in-None.is c.next.ensures.steps in
    rw (c.loop-item.invariant, end.0, reverse-reverse, length-reverse)
