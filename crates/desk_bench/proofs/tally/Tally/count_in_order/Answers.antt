use Rattle.std.proofs.Common.{◌≡◌, ◌+◌, ◌∙◌, sym, subst, take}
use Rattle.std.specs.List.{range_with_len}
use Rattle.desk_rule.specs.Histories.{acts_of}
use Rattle.desk_bench.proofs.Counting.{own_counted, other_counted}
use Rattle.desk_bench.proofs.tally.Tally.count_in_order.Goals as goal
use Rattle.desk_bench.proofs.tally.Tally.count_in_order.Goals.{then-chair-by+else-number-count+in_ok-count, else-chair-by}

pub loop-entry-preserved : goal.loop-entry-preserved
loop-entry-preserved c = elim c.if-chair-by.branch [
  | then-chair-by+else-number-count+in_ok-count w ↦
      subst (λ count. acts_of c.args.by (take (c.loop-entry.entry-index + 1) c.deref-entry-items.result.now) ≡ range_with_len 0 count)
      (sym (w.count-is ∙ w.in_ok-count.ensures.1))
      (own_counted c.args.by c.loop-entry.entry-index c.deref-entry-items.result.now (0, 0) c.loop-entry-test.true c.loop-entry.count w.if-chair-by.true w.if-number-count.false c.loop-entry.invariant)
  | else-chair-by w ↦
      subst (λ count. acts_of c.args.by (take (c.loop-entry.entry-index + 1) c.deref-entry-items.result.now) ≡ range_with_len 0 count)
      (sym w.count-is)
      (other_counted c.args.by c.loop-entry.entry-index c.deref-entry-items.result.now (0, 0) c.loop-entry-test.true c.loop-entry.count w.if-chair-by.false c.loop-entry.invariant)
]
