-- What a session that is served keeps to: the ranges of its fields, and the rules on indexes, order, stages and
-- submissions.
use Rattle.std.specs.Prelude.{ℕ, ◌-◌, Bool, true, false, ◌&&◌, List, [], ◌∷◌, length, nat_le, nat_lt, count_by}
use Rattle.std.specs.List.{list_all}
use Rattle.limits.specs.Limits.{default_horizon, last_clock, most_arrivals, most_cost, most_depth, most_experiments, most_lanes, most_pipelines, most_runs, most_sources, most_steps, most_text, most_workers, step_budget}
use Rattle.exp_model.specs.declared.arrival.Arrival.{Arrival}
use Rattle.exp_model.specs.declared.arrival.ArrivalAct.{ArrivalAct}
use Rattle.exp_model.specs.declared.arrival.ArrivalAct.TheVariants as A
use Rattle.exp_model.specs.declared.session.Experiment.{Experiment}
use Rattle.exp_model.specs.declared.session.Pipeline.{Pipeline}
use Rattle.exp_model.specs.declared.session.Session.{Session}
use Rattle.exp_model.specs.Edges.{are_edges}
use Rattle.exp_model.specs.Steps.{Sizes, is_data_step, is_run_step, is_submission}

-- a number from one to another
abbrev pub is_from_to : ℕ → ℕ → ℕ → Bool
is_from_to low high n = nat_le low n && nat_le n high

abbrev pub is_pipeline : Pipeline → Bool
is_pipeline pipeline = are_edges pipeline.edges

-- a text of kernels
abbrev pub is_source : List ℕ → Bool
is_source text = nat_le (length text) most_text

-- an experiment: its text is there, and the steps of its stages stand where they may
abbrev pub is_experiment : Sizes → Experiment → Bool
is_experiment sizes e =
    nat_lt e.source sizes.sources
    && (nat_le (length e.prepare) most_steps && list_all is_data_step e.prepare)
    && (is_from_to 1 most_steps (length e.run) && list_all (is_run_step sizes) e.run)
    && (nat_le (length e.analyze) most_steps && list_all is_data_step e.analyze)

-- what arrives: a submission, or the number of a run
abbrev pub is_act : Sizes → ArrivalAct → Bool
is_act sizes (A.Submit s) = is_submission sizes s
is_act sizes (A.Delete rid) = nat_le rid (most_runs - 1)
is_act sizes (A.Terminate rid) = nat_le rid (most_runs - 1)

abbrev pub is_arrival : Sizes → Arrival → Bool
is_arrival sizes arrival = nat_le arrival.at last_clock && is_act sizes arrival.act

-- the arrival submits an experiment
abbrev pub submits : Arrival → Bool
submits arrival = by arrival.act
  where
    by : ArrivalAct → Bool
    by (A.Submit s) = true
    by (A.Delete rid) = false
    by (A.Terminate rid) = false

-- the clocks don't fall
abbrev pub are_in_order : List Arrival → Bool
are_in_order [] = true
are_in_order (a ∷ []) = true
are_in_order (a ∷ b ∷ rest) = nat_le a.at b.at && are_in_order (b ∷ rest)

-- arrivals whose clocks don't fall, of which no more submit than there may be runs
abbrev pub are_arrivals : Sizes → List Arrival → Bool
are_arrivals sizes arrivals =
    nat_le (length arrivals) most_arrivals
    && list_all (is_arrival sizes) arrivals
    && are_in_order arrivals
    && nat_le (count_by submits arrivals) most_runs

-- how long the lists of a session are
abbrev pub sizes_of : Session → Sizes
sizes_of s = record {
  sources = length s.sources;
  experiments = length s.experiments;
  pipelines = length s.pipelines;
}

-- the numbers of a session are in their ranges
abbrev pub are_settings : Session → Bool
are_settings s =
    nat_le s.cost most_cost
    && is_from_to 1 step_budget s.budget
    && is_from_to 1 most_workers s.workers
    && is_from_to 1 most_lanes s.lanes
    && is_from_to 1 most_depth s.depth
    && is_from_to 1 default_horizon s.horizon

-- a session that can be served
abbrev pub is_session : Session → Bool
is_session s =
    are_settings s
    && (is_from_to 1 most_pipelines (length s.pipelines) && list_all is_pipeline s.pipelines)
    && (is_from_to 1 most_sources (length s.sources) && list_all is_source s.sources)
    && (is_from_to 1 most_experiments (length s.experiments) && list_all (is_experiment (sizes_of s)) s.experiments)
    && are_arrivals (sizes_of s) s.arrivals
