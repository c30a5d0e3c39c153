use Rattle.std.proofs.Common.{◌≡◌, ◌≤◌, ◌+◌, ◌++◌, drop, length, take}
use Rattle.std.specs.Prelude.{filter, not}
use Rattle.output_merge.specs.Groups.{is_logged_before}
use Rattle.output_merge.specs.Sieve.{is_held}
use Rattle.output_merge.proofs.SortedOut.{Behind}
use Rattle.output_merge.proofs.holds.take_busy.Given as goal

abbrev pub invariant-loop-left : goal.invariant-loop-left
invariant-loop-left l = record {
  within : l.left ≤ length l.initial.kept.items;
  stay : l.kept.items ≡ take l.left l.initial.kept.items ++ filter (λ p. not (is_held l.free_from l.cycle p.1)) (drop l.left l.initial.kept.items);
  leave : Behind is_logged_before (λ p. is_held l.free_from l.cycle p.1) l.initial.busy.items l.initial.kept.items l.left l.busy.items;
  kept_room : l.kept.room + length l.kept.items ≡ l.initial.kept.room + length l.initial.kept.items;
  busy_room : l.busy.room + length l.busy.items ≡ l.initial.busy.room + length l.initial.busy.items;
  few : length l.busy.items + l.left ≤ length l.initial.busy.items + length l.initial.kept.items;
}

abbrev pub decreases-loop-left : goal.decreases-loop-left
decreases-loop-left l = l.left
