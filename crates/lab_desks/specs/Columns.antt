-- Rows, and the columns that they make.
use Rattle.std.specs.Prelude.{◌≡◌, ℕ, ◌≤◌, List, [], ◌∷◌, ◌++◌, Vec, vec_capacity, map, filter_map, take, slice_get}
use Rattle.std.specs.declared.alloc.Global.{Global}
use Rattle.desk.specs.Seated.{Opened, Seated, new_chairs}
use Rattle.rtio_core.specs.declared.data.Config.{Config}
use Rattle.rtio_core.specs.Core.{CoreState}

abbrev pub Row : Type 0 → Type 0
Row X = Vec X Global

module _ {X : Type 0} where
  abbrev pub items_of : Row X → List X
  items_of column = column.items

  -- the last of each row was taken, in order, and the room of each row stayed
  abbrev pub TakesLast : List (Row X) → List (Row X) → List X → Type 0
  TakesLast [] [] [] = Unit {0}
  TakesLast (old ∷ olds) (new ∷ news) (x ∷ xs) = (old.items ≡ new.items ++ x ∷ []) × (vec_capacity new ≡ vec_capacity old) × TakesLast olds news xs
  TakesLast olds news xs = ⊥

  -- it is empty, and has room for so many
  abbrev pub HasRoom : ℕ → Row X → Type 0
  HasRoom count room = (room.items ≡ []) × (count ≤ vec_capacity room)

  -- what stands at a place of each row
  abbrev pub column : ℕ → List (List X) → List X
  column place rows = filter_map (λ row. slice_get row place) rows

  -- the rows up to a place
  abbrev pub fronts : ℕ → List (List X) → List (List X)
  fronts place rows = map (take place) rows

-- the desk is a core's, with so many chairs
abbrev pub IsDeskOf : ℕ → CoreState → Opened Config → Type 0
IsDeskOf chairs core desk = (desk.fixed ≡ core.config) × (desk.chairs ≡ chairs)

-- so many new chairs of each desk, by number
abbrev pub columns_of : {A F : Type 0} → ℕ → List (Opened F) → List (List (Seated A F))
columns_of {A} n desks = map (λ desk. new_chairs desk.id 0 n) desks
