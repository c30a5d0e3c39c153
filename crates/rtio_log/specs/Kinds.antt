-- The lines of each kind.
use Rattle.std.specs.Prelude.{ℕ, Bool, true, false, List, map, filter}
use Rattle.rtio_types.specs.declared.event.Event.{Event}
use Rattle.rtio_log.specs.declared.LogLine.{LogLine}
use Rattle.rtio_log.specs.declared.LogKind.{LogKind}
use Rattle.rtio_log.specs.declared.LogKind.TheVariants.{Sequence, Collision, Busy, Cleared}

abbrev pub is_kind : LogKind → LogKind → Bool
is_kind Sequence Sequence = true
is_kind Collision Collision = true
is_kind Busy Busy = true
is_kind Cleared Cleared = true
is_kind kind other = false

-- the events of the lines of a kind, with their numbers, in order
abbrev pub lines_of : LogKind → List LogLine → List (ℕ × Event)
lines_of kind lines = map (λ (l : LogLine). (l.number, l.event)) (filter (λ l. is_kind kind l.kind) lines)
