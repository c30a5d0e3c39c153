use Rattle.std.proofs.Common.{length, true≢false, refl, sym, ap, ◌∙◌, arith}
use Rattle.desk_rule.specs.Steps.{first_made, counted}
use Rattle.desk_rule.specs.Steps as kinds
use Rattle.desk.proofs.Seating.{length-new_chairs, one_more, first_in_front, turned_round}
use Rattle.desk.proofs.opening.seat_all.Goals as goal

-- fewer chairs were made than there are to be, and the first one has counted them
pub make_chair-seat-requires-clause-more : goal.make_chair-seat-requires-clause-more
make_chair-seat-requires-clause-more g c =
    let i = c.loop-made.invariant in
    let more = c.loop-made-test.true in
    let count = c.requires.count.1 in
    let counted_all = ap (λ m. first_made m.0.records) i.0 in
    omega arith

pub make_chair-seat-requires-clause-first : goal.make_chair-seat-requires-clause-first
make_chair-seat-requires-clause-first g c = rw c.loop-made.invariant.0 refl

-- there is room
pub unreachable-requires : goal.unreachable-requires
unreachable-requires g c =
    let i = c.loop-made.invariant in
    let more = c.loop-made-test.true in
    true≢false (sym (c.in_default.ensures.succeeds (omega (arith, c.loop-made.room.ok.0, ap length i.2 ∙ length-new_chairs _ _ _ _))))

pub loop-made-preserved : goal.loop-made-preserved
loop-made-preserved g c =
    let i = c.loop-made.invariant in
    let more = c.loop-made-test.true in
    let split = c.make_chair-seat.ensures in
    let pushed = c.in-Ok.ensures in
    let room = pushed.capacity in (
      split.first.1 ∙ ap (λ m. (counted m.0, m.1)) i.0,
      split.first.0 ∙ i.1,
      one_more _ _ c.loop-made.made _ _ _ _ _ (omega arith) i.2 (split.chair.0 ∙ i.1) c.none.ensures (ap (λ m. m.0) split.chair.1 ∙ ap (λ m. kinds.new_chair m.0) i.0) pushed.items,
      omega arith,
      omega arith,
      omega arith,
    )

-- and for the first chair too
pub unreachable-requires-in_default-push : goal.unreachable-requires-in_default-push
unreachable-requires-in_default-push g c =
    let i = c.loop-made.invariant in
    let all = c.loop-made-test.false in
    true≢false (sym (c.in_default-push.ensures.succeeds (omega (arith, c.loop-made.room.ok.0, ap length i.2 ∙ length-new_chairs _ _ _ _))))

pub returns : goal.returns
returns g c =
    let i = c.loop-made.invariant in
    let all = c.loop-made-test.false in
    let pushed = c.in-Ok-push.ensures in
    let lent = c.as_mut_slice.ensures in
    let whole = lent.value ∙ pushed.items in
    let len = c.push-2.new.self.ok.0 in
    turned_round _ _ _ _ _ pushed.items (rw (← lent.value) c.rotate_right.ensures.after) (omega arith) ∙ first_in_front _ _ c.loop-made.made _ _ _ _ _ (omega arith) (omega arith) i.2 i.1 c.none-2.ensures (ap (λ m. m.0) i.0)
