-- What is known of a chair after it has put.
use Rattle.std.specs.Prelude.{◌≡◌, false}
use Rattle.desk.specs.Seated.{DeskId, Seated}

-- the chair is the same one, and holds nothing
abbrev pub IsSame : {A F : Type 0} → Seated A F → Seated A F → Type 0
IsSame c d = (d.desk ≡ c.desk) × (d.number ≡ c.number) × (d.holds ≡ false)

-- the chair is of this desk, and holds nothing
abbrev pub IsFree : {A F : Type 0} → DeskId F → Seated A F → Type 0
IsFree id c = (c.desk ≡ id) × (c.holds ≡ false)
