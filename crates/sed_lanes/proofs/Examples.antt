-- The definitions computed on small histories.
use Rattle.std.proofs.Common.{◌≡◌, ℕ, List, [], ◌∷◌, refl}
use Rattle.std.specs.Prelude.{pos, map}
use Rattle.rtio_types.specs.declared.event.Event.{Event}
use Rattle.sed_lanes.specs.Verdict.{Verdict, Underflow, Lane, Sequence, Undecided, verdict, until}
use Rattle.sed_lanes.specs.Judged.{LaneStep, Submit, Clear, Judged, Submitted, Cleared, judged, lanes_after}
use Rattle.sed_lanes.specs.Peaks.{peaks_of}

-- an output at a stamp
abbrev on : ℕ → ℕ → Event
on channel stamp = record { channel = channel; address = 0; value = 1; stamp = pos stamp }

abbrev verdict_of : Judged → Verdict
verdict_of (Submitted number at e v) = v
verdict_of (Cleared at) = Undecided

-- two lanes of depth 1, three rising outputs: the third is asked again at counter 125
abbrev shallow : List LaneStep
shallow = Submit 0 (on 0 1000) ∷ Submit 0 (on 0 2000) ∷ Submit 125 (on 0 3000) ∷ []

shallow_verdicts : map verdict_of (judged 2 1 shallow) ≡ Lane 0 ∷ Lane 1 ∷ Lane 0 ∷ []
shallow_verdicts = refl

shallow_peaks : peaks_of 2 (judged 2 1 shallow) ≡ 1 ∷ 1 ∷ []
shallow_peaks = refl

abbrev shallow_before : List LaneStep
shallow_before = Submit 0 (on 0 1000) ∷ Submit 0 (on 0 2000) ∷ []

third_waits : verdict (lanes_after 2 1 (judged 2 1 shallow_before) 0) (on 0 3000) 0 ≡ Undecided
third_waits = refl

third_until : until (lanes_after 2 1 (judged 2 1 shallow_before) 0) (on 0 3000) ≡ 125
third_until = refl

-- nine outputs of one cycle on eight lanes: the ninth is out of sequence
abbrev nine : List LaneStep
nine =
    Submit 0 (on 0 1000) ∷ Submit 0 (on 1 1000) ∷ Submit 0 (on 2 1000) ∷ Submit 0 (on 3 1000) ∷ Submit 0 (on 4 1000)
    ∷ Submit 0 (on 5 1000) ∷ Submit 0 (on 6 1000) ∷ Submit 0 (on 7 1000) ∷ Submit 0 (on 8 1000) ∷ []

nine_verdicts : map verdict_of (judged 8 128 nine) ≡ Lane 0 ∷ Lane 1 ∷ Lane 2 ∷ Lane 3 ∷ Lane 4 ∷ Lane 5 ∷ Lane 6 ∷ Lane 7 ∷ Sequence ∷ []
nine_verdicts = refl

nine_peaks : peaks_of 8 (judged 8 128 nine) ≡ 1 ∷ 1 ∷ 1 ∷ 1 ∷ 1 ∷ 1 ∷ 1 ∷ 1 ∷ []
nine_peaks = refl

-- an event whose cycle the counter has reached
late : map verdict_of (judged 8 128 (Submit 200 (on 0 1600) ∷ [])) ≡ Underflow ∷ []
late = refl

-- after a clearing lane 0 is the current one again
cleared_lanes : map verdict_of (judged 8 128 (Submit 0 (on 0 1000) ∷ Submit 0 (on 1 1000) ∷ Clear 0 ∷ Submit 0 (on 0 125000) ∷ [])) ≡ Lane 0 ∷ Lane 1 ∷ Undecided ∷ Lane 0 ∷ []
cleared_lanes = refl
