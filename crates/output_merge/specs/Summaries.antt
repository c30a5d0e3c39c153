-- What decides the parts of a group's events.
use Rattle.std.specs.Prelude.{ℕ, List, [], ◌∷◌, ◌==◌, if◌then◌else◌, Option, Some, None}
use Rattle.std.specs.Ordering.{int_eq}
use Rattle.rtio_types.specs.declared.event.Event.{Event}
use Rattle.rtio_types.specs.Board.{replaces}
use Rattle.output_merge.specs.Groups.{last_with}
use Rattle.output_merge.specs.declared.group.Group.{Group}
use Rattle.output_merge.specs.declared.group.Part.{Part}
use Rattle.output_merge.specs.declared.group.Part.TheVariants.{Keeper, Overridden, Collision}

-- the number and the stamp of the first, and the number of the last that has that stamp
abbrev pub summary_of : List (ℕ × Event) → Option Group
summary_of [] = None
summary_of (first ∷ rest) =
    Some (record { first = first.0; stamp = first.1.stamp; last = last_with first.1.stamp first.0 rest })

-- the part of an event of such a group
abbrev pub part_by : Option Group → ℕ → Event → Part
part_by None number e = Keeper
part_by (Some group) number e =
    if replaces e.channel
    then (if int_eq e.stamp group.stamp
    then (if number == group.last then Keeper else Overridden)
    else Collision)
    else (if number == group.first then Keeper else Collision)
