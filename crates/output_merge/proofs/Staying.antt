-- What was put out stays: later steps change nothing up to a counter.
use Rattle.std.proofs.Common.{◌≡◌, ◌≤◌, ℕ, List, [], ◌∷◌, ◌++◌, refl, ap, ◌∙◌, sym, arith, append_assoc, append-nil}
use Rattle.sed_lanes.specs.Counters.{NeverFall, lane_step_at}
use Rattle.sed_lanes.specs.Judged.{Judged, LaneStep, Submit, Clear, Submitted, judged, lanes_after, next_number}
use Rattle.sed_lanes.specs.Verdict.{Verdict, Underflow, Lane, Sequence, Undecided, verdict}
use Rattle.sed_lanes.proofs.Histories.{judged-clear, judged-submit}
use Rattle.sed_lanes.proofs.RisingLanes.{takes-in-time}
use Rattle.output_merge.specs.Busy.{busy}
use Rattle.output_merge.specs.Groups.{collisions, keepers}
use Rattle.output_merge.specs.Live.{live}
use Rattle.output_merge.specs.Outputs.{outputs, up_to}
use Rattle.output_merge.proofs.Parts.{busy-same, collided-same, live-up_to-accepted, live-up_to-cleared, outputs-same}
use Rattle.output_merge.proofs.Steps.{live-unplaced}

-- a step at a counter or a later one leaves the live events up to it
pub live-stays-step : (lanes depth : ℕ) (steps : List LaneStep) (step : LaneStep) (counter : ℕ) → counter ≤ lane_step_at step → up_to counter (live (judged lanes depth (steps ++ step ∷ []))) ≡ up_to counter (live (judged lanes depth steps))
live-stays-step lanes depth steps (Clear at) counter le =
    ap (λ (j : List Judged). up_to counter (live j)) (judged-clear lanes depth steps at) ∙ live-up_to-cleared (judged lanes depth steps) at counter le
live-stays-step lanes depth steps (Submit at e) counter le =
    ap (λ (j : List Judged). up_to counter (live j)) (judged-submit lanes depth steps at e)
    ∙ by-verdict (verdict (lanes_after lanes depth (judged lanes depth steps) at) e at) refl
  where
    by-verdict : (v : Verdict) → verdict (lanes_after lanes depth (judged lanes depth steps) at) e at ≡ v → up_to counter (live (judged lanes depth steps ++ Submitted (next_number (judged lanes depth steps)) at e v ∷ [])) ≡ up_to counter (live (judged lanes depth steps))
    by-verdict Underflow is = ap (up_to counter) (live-unplaced (judged lanes depth steps) (next_number (judged lanes depth steps)) at e Underflow tt)
    by-verdict (Lane k) is =
        let later = (takes-in-time (lanes_after lanes depth (judged lanes depth steps) at) e at k is).in_time in
        live-up_to-accepted (judged lanes depth steps) (next_number (judged lanes depth steps)) at e k counter (omega (arith, le, later))
    by-verdict Sequence is = ap (up_to counter) (live-unplaced (judged lanes depth steps) (next_number (judged lanes depth steps)) at e Sequence tt)
    by-verdict Undecided is = ap (up_to counter) (live-unplaced (judged lanes depth steps) (next_number (judged lanes depth steps)) at e Undecided tt)

from-later : (from least : ℕ) (steps : List LaneStep) (to : ℕ) → NeverFall from steps to → least ≤ from → NeverFall least steps to
from-later from least [] to h le = omega (arith, h, le)
from-later from least (step ∷ rest) to h le = let first = h.0 in (omega (arith, first, le), h.1)

-- and so do all such steps
pub live-stays : (lanes depth : ℕ) (steps more : List LaneStep) (counter to : ℕ) → NeverFall counter more to → up_to counter (live (judged lanes depth (steps ++ more))) ≡ up_to counter (live (judged lanes depth steps))
live-stays lanes depth steps [] counter to in_time = ap (λ (s : List LaneStep). up_to counter (live (judged lanes depth s))) (append-nil steps)
live-stays lanes depth steps (step ∷ more) counter to in_time =
    ap (λ (s : List LaneStep). up_to counter (live (judged lanes depth s))) (sym (append_assoc steps (step ∷ []) more))
    ∙ live-stays lanes depth (steps ++ step ∷ []) more counter to (from-later (lane_step_at step) counter more to in_time.1 in_time.0)
    ∙ live-stays-step lanes depth steps step counter in_time.0

-- so what was put out up to the counter stays
pub outputs-stay : (holds : List ℕ) (lanes depth : ℕ) (steps more : List LaneStep) (counter to : ℕ) → NeverFall counter more to → outputs holds (judged lanes depth (steps ++ more)) counter ≡ outputs holds (judged lanes depth steps) counter
outputs-stay holds lanes depth steps more counter to in_time =
    outputs-same holds (judged lanes depth (steps ++ more)) (judged lanes depth steps) counter (live-stays lanes depth steps more counter to in_time)

-- and what was busy
pub busy-stay : (holds : List ℕ) (lanes depth : ℕ) (steps more : List LaneStep) (counter to : ℕ) → NeverFall counter more to → up_to counter (busy holds (keepers (live (judged lanes depth (steps ++ more))))) ≡ up_to counter (busy holds (keepers (live (judged lanes depth steps))))
busy-stay holds lanes depth steps more counter to in_time =
    busy-same holds (judged lanes depth (steps ++ more)) (judged lanes depth steps) counter (live-stays lanes depth steps more counter to in_time)

-- and what collided
pub collided-stay : (lanes depth : ℕ) (steps more : List LaneStep) (counter to : ℕ) → NeverFall counter more to → up_to counter (collisions (live (judged lanes depth (steps ++ more)))) ≡ up_to counter (collisions (live (judged lanes depth steps)))
collided-stay lanes depth steps more counter to in_time =
    collided-same (judged lanes depth (steps ++ more)) (judged lanes depth steps) counter (live-stays lanes depth steps more counter to in_time)
