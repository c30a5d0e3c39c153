-- The lines that events get in the log.
use Rattle.std.specs.Prelude.{ℕ, List, map}
use Rattle.rtio_types.specs.declared.event.Event.{Event}
use Rattle.rtio_log.specs.declared.LogLine.{LogLine}
use Rattle.rtio_log.specs.declared.LogKind.{LogKind}

abbrev pub lines_for : LogKind → List (ℕ × Event) → List LogLine
lines_for kind pairs = map (λ p. record { kind = kind; number = p.0; event = p.1 }) pairs
