use Rattle.std.proofs.Common.{◌≡◌, ◌-◌, length}
use Rattle.lab_workers.specs.Idling.{HaveWaited}
use Rattle.lab_workers.proofs.idling.let_all_tick.Given as goal

-- those before this place have waited, and the others are as they were
abbrev pub invariant-loop-place : goal.invariant-loop-place
invariant-loop-place g l = record {
  count : length l.chairs ≡ length l.fn.desks;
  waited : HaveWaited l.fn.chairs l.chairs;
}

abbrev pub decreases-loop-place : goal.decreases-loop-place
decreases-loop-place g l = length l.initial.chairs - l.place
