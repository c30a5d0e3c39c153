-- What a frame goes on with once its call has ended.
use Rattle.std.specs.Prelude.{ℕ, ◌+◌, ◌<◌, ◌≤◌, ◌^◌, List, [], ◌∷◌, length}
use Rattle.core_isa.specs.Machine.{Frame}

-- the nearest caller has room for so many values and a next place
abbrev pub CanLeave : (values : ℕ) → List Frame → Type 0
CanLeave values [] = Unit {0}
CanLeave values (caller ∷ callers) =
    (length caller.operands + values ≤ 255) × (caller.place + 1 < 2 ^ 32)
