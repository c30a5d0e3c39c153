-- What a box is after a write through `lend`.
use Rattle.std.specs.Borrow.{Lends, MutBor, Fml}
use denote.RattleType.{RattleType}
use Rattle.desk.specs.contracts.boxed.Boxed.{the_row}

-- what is in it is what was written last
abbrev pub LendsInside : (T : RattleType) → MutBor T.Denot → MutBor T.Denot → Fml
LendsInside T s r = Lends (the_row T) T s r (λ x. x)
