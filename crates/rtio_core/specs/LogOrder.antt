-- The order in which the lines of a log stand: that in which they are added.
use Rattle.std.specs.Prelude.{ℕ, zero, suc, ◌==◌, List, [], ◌∷◌, ◌++◌, filter, nat_lt, if◌then◌else◌}
use Rattle.rtio_types.specs.Time.{cycle_of}
use Rattle.rtio_log.specs.declared.LogLine.{LogLine}
use Rattle.rtio_log.specs.declared.LogKind.TheVariants as kind
use Rattle.sed_lanes.specs.Verdict.{Sequence}
use Rattle.sed_lanes.specs.Judged.{Judged, Submitted, Cleared}
use Rattle.output_merge.specs.Busy.{busy}
use Rattle.output_merge.specs.Groups.{collisions, keepers}
use Rattle.output_merge.specs.Live.{live}
use Rattle.rtio_core.specs.Lines.{lines_for}

-- the counter at which a step happened
abbrev pub judged_at : Judged → ℕ
judged_at (Submitted number at e v) = at
judged_at (Cleared at) = at

-- the lines of one step, by those before it: an event out of sequence has its own, and a clearing has those of the live
-- events of later cycles, by number
abbrev pub lines_of_step : (before : List Judged) → Judged → List LogLine
lines_of_step before (Submitted number at e Sequence) = lines_for kind.Sequence ((number, e) ∷ [])
lines_of_step before (Cleared at) = lines_for kind.Cleared (filter (λ p. nat_lt at (cycle_of p.1)) (live before))
lines_of_step before j = []

-- the lines of the steps at one counter, in the order of the steps
abbrev pub lines_of_steps : ℕ → (before rest : List Judged) → List LogLine
lines_of_steps counter before [] = []
lines_of_steps counter before (j ∷ rest) =
    (if judged_at j == counter then lines_of_step before j else []) ++ lines_of_steps counter (before ++ j ∷ []) rest

-- the lines of one cycle: of its collisions, and then of its busy keepers, each by channel and number
abbrev pub lines_of_cycle : (holds : List ℕ) → List Judged → ℕ → List LogLine
lines_of_cycle holds judged cycle =
    lines_for kind.Collision (filter (λ p. cycle_of p.1 == cycle) (collisions (live judged)))
    ++ lines_for kind.Busy (filter (λ p. cycle_of p.1 == cycle) (busy holds (keepers (live judged))))

-- all lines up to a counter: of each cycle first those that the tick to that counter adds,
-- and then those of what was asked at that counter. No event is accepted for cycle 0
abbrev pub log_lines : (holds : List ℕ) → List Judged → ℕ → List LogLine
log_lines holds judged zero = lines_of_steps 0 [] judged
log_lines holds judged (suc c) = log_lines holds judged c ++ lines_of_cycle holds judged (suc c) ++ lines_of_steps (suc c) [] judged
