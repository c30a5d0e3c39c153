use Rattle.std.proofs.Common.{◌≡◌, Some, map}
use Rattle.lab_program.proofs.telling.to_be_told.Given as goal

-- the cores so far
abbrev pub invariant-loop-core : goal.invariant-loop-core
invariant-loop-core l = map (λ telling. telling.core) l.tellings.items ≡ map (λ core. Some core) l.yielded
