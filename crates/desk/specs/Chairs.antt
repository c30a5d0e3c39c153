-- What a chair's fields say.
use Rattle.std.specs.Prelude.{◌≡◌, ℕ, ◌<◌, List, [], ◌∷◌, length, Bool, true, false, Option, None}
use Rattle.atomic_table.specs.Seated.{TableId}
use Rattle.desk_rule.specs.declared.view.View.{View}
use Rattle.desk_rule.specs.Steps.{first_seen, first_own, first_lost, first_won}
use Rattle.desk_rule.specs.Views.{IsOwn}
use Rattle.desk.specs.Seated.{Seated}
use Rattle.desk.specs.declared.chair.Chair.TheInside.{Inside}

-- the slot belongs to the seat where it has the pass, and is empty while the value is out
abbrev pub Carries : {T : Type 0} → Bool → List (ℕ × Option T) → Type 0
Carries true slots = slots ≡ (0, None) ∷ []
Carries false slots = slots ≡ []

-- where the chair has taken, its takings have found something
abbrev pub HasFound : {X : Type 0} → Bool → List X → Type 0
HasFound true found = 0 < length found
HasFound false found = found ≡ []

module _ {A F : Type 0} where
  -- the chair of this table with this number and these takings, as the view has it
  abbrev pub seated_by : TableId → ℕ → List (List (ℕ × A)) → View A F → Seated A F
  seated_by table k found v = record {
    desk = record { table = table; fixed = v.fixed };
    number = k;
    seen = first_seen v.records;
    own = first_own v.records;
    lost = first_lost v.records;
    takings = found;
    holds = v.pass;
  }

module _ {T A F : Type 0} where
  -- the chair as its seat's view and its takings have it
  abbrev pub seated : Inside T A F → Seated A F
  seated c = seated_by c.seat.table_id c.number c.takings c.seat.me.0

  -- the view is the chair's own record, which says whether it has taken, and the seat has the slot where it holds the value
  abbrev pub IsSeated : Inside T A F → Type 0
  IsSeated c =
      IsOwn c.number c.seat.me.0
      × Carries c.seat.me.0.pass c.seat.me.1
      × HasFound (first_won c.seat.me.0.records) c.takings
