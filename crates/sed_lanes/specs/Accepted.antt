-- The accepted events since the last clearing, whichever lane took them.
use Rattle.std.specs.Prelude.{ℕ, List, filter_map, Option, Some, None}
use Rattle.rtio_types.specs.declared.event.Event.{Event}
use Rattle.sed_lanes.specs.Verdict.{Lane}
use Rattle.sed_lanes.specs.Judged.{Judged, Submitted, since_clearing}

-- the event with its number, if a lane took it
abbrev pub taken : Judged → Option (ℕ × Event)
taken (Submitted number at e (Lane k)) = Some (number, e)
taken j = None

abbrev pub accepted_since_clearing : List Judged → List (ℕ × Event)
accepted_since_clearing judged = filter_map taken (since_clearing judged)
