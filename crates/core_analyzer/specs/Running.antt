-- The lines of events one after another, as they are written.
use Rattle.std.specs.Prelude.{ℤ, ℕ, List, [], ◌∷◌, ◌++◌, if◌then◌else◌}
use Rattle.std.specs.Ordering.{int_eq}
use Rattle.rtio_types.specs.declared.event.Event.{Event}
use Rattle.core_analyzer.specs.Waveform.{data_line, moment_line}

-- the line of a stamp that differs from the one before
abbrev pub moment_behind : ℤ → ℤ → List (List ℕ)
moment_behind before stamp = if int_eq stamp before then [] else moment_line stamp ∷ []

-- the lines of events that follow one with this stamp
abbrev pub lines_behind : ℤ → List Event → List (List ℕ)
lines_behind before [] = []
lines_behind before (event ∷ events) =
    moment_behind before event.stamp ++ (data_line event.channel event.value ∷ lines_behind event.stamp events)
