-- The lines of a log computed on a small history.
use Rattle.std.proofs.Common.{◌≡◌, ℕ, List, [], ◌∷◌, refl}
use Rattle.std.specs.Prelude.{pos}
use Rattle.rtio_types.specs.declared.event.Event.{Event}
use Rattle.rtio_log.specs.declared.LogLine.{LogLine}
use Rattle.rtio_log.specs.declared.LogKind.{LogKind}
use Rattle.rtio_log.specs.declared.LogKind.TheVariants.{Sequence, Collision, Cleared}
use Rattle.sed_lanes.specs.Judged.{LaneStep, Submit, Clear, judged}
use Rattle.rtio_core.specs.LogOrder.{log_lines}

abbrev event : ℕ → ℕ → Event
event channel stamp = record { channel = channel; address = 0; value = 0; stamp = pos stamp }

abbrev line : LogKind → ℕ → Event → LogLine
line kind number e = record { kind = kind; number = number; event = e }

-- at counter 0 two events that collide in cycle 3, and one out of sequence; at counter 3 two events of cycle 9, and one
-- out of sequence; at counter 4 a reset
abbrev mixed : List LaneStep
mixed =
    Submit 0 (event 0 24) ∷ Submit 0 (event 0 25) ∷ Submit 0 (event 0 16) ∷ Submit 3 (event 0 72) ∷ Submit 3 (event 1 72)
    ∷ Submit 3 (event 2 64) ∷ Clear 4 ∷ []

-- the kinds stand among one another
mixed_log : log_lines [] (judged 2 128 mixed) 4 ≡ line Sequence 2 (event 0 16) ∷ line Collision 1 (event 0 25) ∷ line Sequence 5 (event 2 64) ∷ line Cleared 3 (event 0 72) ∷ line Cleared 4 (event 1 72) ∷ []
mixed_log = refl

-- a later counter adds nothing, where nothing is asked and no event is of its cycle
mixed_later : log_lines [] (judged 2 128 mixed) 9 ≡ log_lines [] (judged 2 128 mixed) 4
mixed_later = refl

-- at one counter the collisions stand before what is asked at it
abbrev at_once : List LaneStep
at_once = Submit 0 (event 0 24) ∷ Submit 0 (event 0 25) ∷ Submit 3 (event 0 72) ∷ Submit 3 (event 0 72) ∷ Submit 3 (event 0 64) ∷ []

at_once_log : log_lines [] (judged 2 128 at_once) 3 ≡ line Collision 1 (event 0 25) ∷ line Sequence 4 (event 0 64) ∷ []
at_once_log = refl
