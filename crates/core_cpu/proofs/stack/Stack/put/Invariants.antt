use Rattle.std.proofs.Common.{◌≡◌, ◌-◌, ◌++◌, length, map, reverse}
use Rattle.core_cpu.proofs.stack.Stack.put.Given as goal

abbrev pub invariant-loop-item : goal.invariant-loop-item
invariant-loop-item g l =
    l.self ≡ (reverse (map (λ y. y.now) l.yielded) ++ l.initial.self.0, l.initial.self.1 - length (map (λ y. y.now) l.yielded))
