-- A source in memory that gives its bytes a piece at a time and fails at chosen calls.
use Rattle.std.specs.Prelude.{ℕ, min, List, length, drop, if◌then◌else◌}
use Rattle.lab_io.specs.Causes.{raised, is_chosen}

-- what a tape is seen as
pub record TapeState : Type 0 where
  -- the bytes still to come
  pub left : List ℕ
  -- how many of them a call gives at most
  pub piece : ℕ
  -- the numbers of the calls that fail
  pub fails : List ℕ
  -- how many calls were made, and how many failed
  pub calls : ℕ
  pub faults : ℕ

-- how many bytes a read into so much room moves
abbrev pub read_count : TapeState → ℕ → ℕ
read_count tape room = min room (min tape.piece (length tape.left))

-- the tape after a read into so much room
abbrev pub after_read : TapeState → ℕ → TapeState
after_read tape room =
    if is_chosen tape.fails tape.calls
    then record tape { calls = raised tape.calls; faults = raised tape.faults }
    else record tape { calls = raised tape.calls; left = drop (read_count tape room) tape.left }
