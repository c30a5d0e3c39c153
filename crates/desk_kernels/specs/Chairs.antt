-- A chair at the desk of a core.
use Rattle.std.specs.Prelude.{◌≡◌, ℕ, List, map, false}
use Rattle.desk.specs.Seated.{Opened, Seated}
use Rattle.desk_rule.specs.Histories.{acts_of}
use Rattle.rtio_core.specs.declared.data.Act.{Act}
use Rattle.rtio_core.specs.declared.data.Config.{Config}
use Rattle.rtio_core.specs.declared.data.Entry.{Entry}

abbrev pub CoreChair : Type 0
CoreChair = Seated Act Config

-- a history of a core as a desk has it, in the core's own words
abbrev pub core_entries : List (ℕ × Act) → List Entry
core_entries seen = map (λ (e : ℕ × Act). record { chair = e.0; act = e.1 }) seen

module _ {A F : Type 0} where
  -- the chair is at this desk and holds nothing
  abbrev pub IsAt : Opened F → Seated A F → Type 0
  IsAt desk c = (c.desk ≡ desk.id) × (c.holds ≡ false)

  -- it is the same chair, and holds nothing
  abbrev pub IsSameChair : Seated A F → Seated A F → Type 0
  IsSameChair c d = (d.desk ≡ c.desk) × (d.number ≡ c.number) × (d.holds ≡ false)

  -- what it has seen has just the acts of its own that it put
  abbrev pub KnowsItsOwn : Seated A F → Type 0
  KnowsItsOwn c = acts_of c.number c.seen ≡ c.own
