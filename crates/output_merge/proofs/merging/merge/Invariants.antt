use Rattle.std.proofs.Common.{◌≡◌, ◌≤◌, ◌+◌, length}
use Rattle.output_merge.specs.Groups.{is_collision, is_keeper, is_logged_before, is_put_out_before, part_of}
use Rattle.output_merge.proofs.SortedOut.{Behind}
use Rattle.output_merge.proofs.merging.merge.Given as goal

abbrev pub invariant-loop-left : goal.invariant-loop-left
invariant-loop-left l = record {
  heads_stay : l.heads ≡ l.initial.heads;
  within : l.left ≤ length l.heads.items;
  kept_behind : Behind is_put_out_before (λ p. is_keeper (part_of l.heads.items p)) l.initial.kept.items l.heads.items l.left l.kept.items;
  collided_behind : Behind is_logged_before (λ p. is_collision (part_of l.heads.items p)) l.initial.collided.items l.heads.items l.left l.collided.items;
  kept_room : l.kept.room + length l.kept.items ≡ l.initial.kept.room + length l.initial.kept.items;
  collided_room : l.collided.room + length l.collided.items ≡ l.initial.collided.room + length l.initial.collided.items;
  kept_few : length l.kept.items + l.left ≤ length l.initial.kept.items + length l.heads.items;
  collided_few : length l.collided.items + l.left ≤ length l.initial.collided.items + length l.heads.items;
}

abbrev pub decreases-loop-left : goal.decreases-loop-left
decreases-loop-left l = l.left
