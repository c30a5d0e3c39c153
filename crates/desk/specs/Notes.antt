-- What a note's seat says.
use Rattle.std.specs.Prelude.{◌≡◌, []}
use Rattle.desk_rule.specs.Steps.{first_seen}
use Rattle.desk_rule.specs.Views.{IsNote}
use Rattle.desk.specs.Seated.{Telling}
use Rattle.desk.specs.declared.chair.Note.TheInside.{Inside}

module _ {T A F : Type 0} where
  -- the note as its seat's view has it
  abbrev pub telling : Inside T A F → Telling A F
  telling n = record { desk = record { table = n.seat.table_id; fixed = n.seat.me.0.fixed }; seen = first_seen n.seat.me.0.records }

  -- the view is one record without a number, and the seat has no slot
  abbrev pub IsTelling : Inside T A F → Type 0
  IsTelling n = IsNote n.seat.me.0 × (n.seat.me.1 ≡ [])
