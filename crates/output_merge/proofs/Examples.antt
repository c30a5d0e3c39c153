-- The definitions computed on small histories.
use Rattle.std.proofs.Common.{◌≡◌, ℕ, List, [], ◌∷◌, refl}
use Rattle.std.specs.Prelude.{pos, map}
use Rattle.rtio_types.specs.declared.event.Event.{Event}
use Rattle.sed_lanes.specs.Judged.{LaneStep, Submit, Clear, judged}
use Rattle.output_merge.specs.Outputs.{outputs, logged}

abbrev event : ℕ → ℕ → ℕ → Event
event channel value stamp = record { channel = channel; address = 0; value = value; stamp = pos stamp }

-- the same stamp twice on a channel that replaces: the later one is put out, and nothing is logged
abbrev replaced : List LaneStep
replaced = Submit 0 (event 0 0 1000) ∷ Submit 0 (event 0 1 1000) ∷ []

replaced_outputs : outputs [] (judged 8 128 replaced) 125 ≡ event 0 1 1000 ∷ []
replaced_outputs = refl

replaced_log : logged [] (judged 8 128 replaced) 125 ≡ record { sequence = []; collided = []; busy = []; cleared = [] }
replaced_log = refl

-- another stamp of the same cycle collides
abbrev collided_stamps : List LaneStep
collided_stamps = Submit 0 (event 0 1 1000) ∷ Submit 0 (event 0 0 1001) ∷ []

collided_outputs : outputs [] (judged 8 128 collided_stamps) 125 ≡ event 0 1 1000 ∷ []
collided_outputs = refl

collided_log : logged [] (judged 8 128 collided_stamps) 125 ≡ record { sequence = []; collided = (1, event 0 0 1001) ∷ []; busy = []; cleared = [] }
collided_log = refl

-- on a raw channel the first is kept, even at one stamp
abbrev raw : List LaneStep
raw = Submit 0 (event 16 1 1000) ∷ Submit 0 (event 16 1 1000) ∷ []

raw_outputs : outputs [] (judged 8 128 raw) 125 ≡ event 16 1 1000 ∷ []
raw_outputs = refl

raw_log : logged [] (judged 8 128 raw) 125 ≡ record { sequence = []; collided = (1, event 16 1 1000) ∷ []; busy = []; cleared = [] }
raw_log = refl

-- nothing is put out before its cycle
raw_before : outputs [] (judged 8 128 raw) 124 ≡ []
raw_before = refl

-- a reset clears what wasn't put out
abbrev cleared_once : List LaneStep
cleared_once = Submit 0 (event 0 1 1000) ∷ Clear 0 ∷ Submit 0 (event 0 0 125000) ∷ []

cleared_outputs : outputs [] (judged 8 128 cleared_once) 15625 ≡ event 0 0 125000 ∷ []
cleared_outputs = refl

cleared_log : logged [] (judged 8 128 cleared_once) 15625 ≡ record { sequence = []; collided = []; busy = []; cleared = (0, event 0 1 1000) ∷ [] }
cleared_log = refl

-- the ninth event of one cycle on eight lanes is told as out of sequence, and the others are put out by channel
abbrev nine : List LaneStep
nine =
    Submit 0 (event 0 1 1000) ∷ Submit 0 (event 1 1 1000) ∷ Submit 0 (event 2 1 1000) ∷ Submit 0 (event 3 1 1000) ∷ Submit 0 (event 4 1 1000)
    ∷ Submit 0 (event 5 1 1000) ∷ Submit 0 (event 6 1 1000) ∷ Submit 0 (event 7 1 1000) ∷ Submit 0 (event 8 1 1000) ∷ []

nine_outputs : map (λ (e : Event). e.channel) (outputs [] (judged 8 128 nine) 125) ≡ 0 ∷ 1 ∷ 2 ∷ 3 ∷ 4 ∷ 5 ∷ 6 ∷ 7 ∷ []
nine_outputs = refl

nine_log : logged [] (judged 8 128 nine) 125 ≡ record { sequence = (8, event 8 1 1000) ∷ []; collided = []; busy = []; cleared = [] }
nine_log = refl

-- with a hold of 4 cycles on channel 0 the event of cycle 128 finds the channel busy since cycle 125, and doesn't renew the hold: that
-- of cycle 129 is put out
abbrev held_three : List LaneStep
held_three = Submit 0 (event 0 1 1000) ∷ Submit 0 (event 0 0 1024) ∷ Submit 0 (event 0 1 1032) ∷ []

held_outputs : outputs (4 ∷ []) (judged 8 128 held_three) 129 ≡ event 0 1 1000 ∷ event 0 1 1032 ∷ []
held_outputs = refl

held_log : logged (4 ∷ []) (judged 8 128 held_three) 129 ≡ record { sequence = []; collided = []; busy = (1, event 0 0 1024) ∷ []; cleared = [] }
held_log = refl

-- with a hold of 3 the event of cycle 128 is put out, and that of cycle 129 is busy; it is told from its cycle on
shorter_outputs : outputs (3 ∷ []) (judged 8 128 held_three) 129 ≡ event 0 1 1000 ∷ event 0 0 1024 ∷ []
shorter_outputs = refl

shorter_log : logged (3 ∷ []) (judged 8 128 held_three) 129 ≡ record { sequence = []; collided = []; busy = (2, event 0 1 1032) ∷ []; cleared = [] }
shorter_log = refl

shorter_before : logged (3 ∷ []) (judged 8 128 held_three) 128 ≡ record { sequence = []; collided = []; busy = []; cleared = [] }
shorter_before = refl

-- a hold of 1 keeps nothing busy, and nor does the hold of another channel
one_outputs : outputs (1 ∷ []) (judged 8 128 held_three) 129 ≡ event 0 1 1000 ∷ event 0 0 1024 ∷ event 0 1 1032 ∷ []
one_outputs = refl

other_outputs : outputs (0 ∷ 4 ∷ []) (judged 8 128 held_three) 129 ≡ event 0 1 1000 ∷ event 0 0 1024 ∷ event 0 1 1032 ∷ []
other_outputs = refl

-- a reset doesn't end a hold: the event that was put out in cycle 125 keeps the one of cycle 127 busy behind a reset at 126
abbrev held_over : List LaneStep
held_over = Submit 0 (event 0 1 1000) ∷ Clear 126 ∷ Submit 126 (event 0 0 1016) ∷ []

held_over_log : logged (4 ∷ []) (judged 8 128 held_over) 127 ≡ record { sequence = []; collided = []; busy = (1, event 0 0 1016) ∷ []; cleared = [] }
held_over_log = refl

-- but one that a reset cleared keeps nothing busy
abbrev cleared_hold : List LaneStep
cleared_hold = Submit 0 (event 0 1 1000) ∷ Clear 0 ∷ Submit 0 (event 0 0 1016) ∷ []

cleared_hold_outputs : outputs (4 ∷ []) (judged 8 128 cleared_hold) 127 ≡ event 0 0 1016 ∷ []
cleared_hold_outputs = refl
