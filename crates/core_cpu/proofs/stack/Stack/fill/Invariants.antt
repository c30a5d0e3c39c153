use Rattle.std.proofs.Common.{◌≡◌, ◌-◌, ◌++◌, replicate}
use Rattle.core_cpu.proofs.stack.Stack.fill.Given as goal

abbrev pub invariant-loop-index : goal.invariant-loop-index
invariant-loop-index g l = l.self ≡ (replicate l._index l.item ++ l.initial.self.0, l.initial.self.1 - l._index)
