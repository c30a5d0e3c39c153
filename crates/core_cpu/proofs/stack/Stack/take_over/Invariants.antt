use Rattle.std.proofs.Common.{◌≡◌, ◌+◌, ◌-◌, ◌++◌, take, drop, reverse}
use Rattle.core_cpu.proofs.stack.Stack.take_over.Given as goal

abbrev pub invariant-loop-index : goal.invariant-loop-index
invariant-loop-index g l =
    (l.self ≡ (reverse (take l._index l.initial.from.0) ++ l.initial.self.0, l.initial.self.1 - l._index))
    × (l.from ≡ (drop l._index l.initial.from.0, l.initial.from.1 + l._index))
