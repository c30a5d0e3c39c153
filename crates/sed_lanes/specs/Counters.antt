-- Histories whose counters never fall.
use Rattle.std.specs.Prelude.{ℕ, ◌≤◌, List, [], ◌∷◌}
use Rattle.sed_lanes.specs.Judged.{LaneStep, Submit, Clear}

-- the counter at which the step happened
abbrev pub lane_step_at : LaneStep → ℕ
lane_step_at (Submit at e) = at
lane_step_at (Clear at) = at

-- the counters of the steps never fall, from one counter on and up to another
abbrev pub NeverFall : (from : ℕ) → List LaneStep → (to : ℕ) → Type 0
NeverFall from [] to = from ≤ to
NeverFall from (step ∷ rest) to = (from ≤ lane_step_at step) × NeverFall (lane_step_at step) rest to
