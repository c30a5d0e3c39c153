use Rattle.std.proofs.Common.{◌≡◌, ◌+◌, ◌++◌, length}
use Rattle.std.specs.Prelude.{None}
use Rattle.sed_lanes.proofs.lane.Lane.empty_into.Given as goal

abbrev pub invariant-loop-number : goal.invariant-loop-number
invariant-loop-number l =
    (l.self.last ≡ None)
    × (l.into.items ++ l.self.held.items ≡ l.initial.into.items ++ l.initial.self.held.items)
    × (l.into.room + length l.initial.self.held.items ≡ l.initial.into.room + length l.self.held.items)
    × (l.self.held.capacity ≡ l.initial.self.held.capacity)

abbrev pub decreases-loop-number : goal.decreases-loop-number
decreases-loop-number l = length l.self.held.items
