-- Which recordings have bytes.
use Rattle.std.specs.Prelude.{◌^◌, Bool, ◌&&◌, length, nat_lt}
use Rattle.rtio_types.specs.Board.{are_of_board}
use Rattle.rtio_types.specs.Recordings.{Recorded}

-- what may be kept: fewer than 2^32 events, each of the board
abbrev pub is_playable : Recorded → Bool
is_playable recording = nat_lt (length recording.events) (2 ^ 32) && are_of_board recording.events
