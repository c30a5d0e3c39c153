-- Which dumps have a waveform.
use Rattle.std.specs.Prelude.{Bool, ◌&&◌, List, int_le, pos, None}
use Rattle.std.specs.List.{list_all}
use Rattle.rtio_types.specs.Time.{mu_per_cycle}
use Rattle.rtio_types.specs.declared.event.Event.{Event}
use Rattle.core_analyzer.specs.Dumps.{are_put_out_behind}

-- the event's stamp is at least 8, so behind the first cycle
abbrev pub is_behind_first_cycle : Event → Bool
is_behind_first_cycle event = int_le (pos mu_per_cycle) event.stamp

-- each event's stamp is
abbrev pub are_behind_first_cycle : List Event → Bool
are_behind_first_cycle events = list_all is_behind_first_cycle events

-- events of the board's channels that rise strictly by stamp and channel, from a stamp of at least 8 on
abbrev pub are_rising : List Event → Bool
are_rising events = are_put_out_behind None events && are_behind_first_cycle events
