-- Which accepted events were cleared by a reset.
use Rattle.std.specs.Prelude.{ℕ, Bool, false, List, [], ◌∷◌, fold, max, nat_lt, if◌then◌else◌}
use Rattle.std.specs.List.{list_any}
use Rattle.rtio_types.specs.declared.event.Event.{Event}
use Rattle.rtio_types.specs.Time.{cycle_of}
use Rattle.sed_lanes.specs.Verdict.{Lane, Sequence}
use Rattle.sed_lanes.specs.Judged.{Judged, Submitted, Cleared}

-- a clearing at a counter before the cycle
abbrev pub clears : ℕ → Judged → Bool
clears cycle (Submitted number at e v) = false
clears cycle (Cleared at) = nat_lt at cycle

-- the accepted events that no later clearing took away, in the order of submission
abbrev pub live : List Judged → List (ℕ × Event)
live [] = []
live (Submitted number at e (Lane k) ∷ rest) = if list_any (clears (cycle_of e)) rest then live rest else (number, e) ∷ live rest
live (j ∷ rest) = live rest

-- the accepted events that a later clearing took away, in the order of submission
abbrev pub cleared : List Judged → List (ℕ × Event)
cleared [] = []
cleared (Submitted number at e (Lane k) ∷ rest) = if list_any (clears (cycle_of e)) rest then (number, e) ∷ cleared rest else cleared rest
cleared (j ∷ rest) = cleared rest

-- the events out of sequence, in the order of submission
abbrev pub out_of_sequence : List Judged → List (ℕ × Event)
out_of_sequence [] = []
out_of_sequence (Submitted number at e Sequence ∷ rest) = (number, e) ∷ out_of_sequence rest
out_of_sequence (j ∷ rest) = out_of_sequence rest

-- the greatest cycle of the events, 0 if there is none
abbrev pub greatest_cycle : List (ℕ × Event) → ℕ
greatest_cycle events = fold (λ greatest p. max greatest (cycle_of p.1)) 0 events
