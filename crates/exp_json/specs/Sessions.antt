-- Sessions.
use Rattle.std.specs.Prelude.{ℕ, List, codes}
use Rattle.limits.specs.Limits.{default_depth, default_horizon, default_lanes, most_arrivals, most_cost, most_depth, most_experiments, most_lanes, most_pipelines, most_sources, most_workers, step_budget}
use Rattle.serde_json.specs.Data.{Data}
use Rattle.exp_model.specs.declared.arrival.Arrival.{Arrival}
use Rattle.exp_model.specs.declared.session.Experiment.{Experiment}
use Rattle.exp_model.specs.declared.session.Pipeline.{Pipeline}
use Rattle.exp_model.specs.declared.session.Session.{Session}
use Rattle.json_fields.specs.Readings.{Reading}
use Rattle.json_fields.specs.Values.{count}
use Rattle.json_fields.specs.Objects.{Table, ◌⊛◌, changed, object, optional, required, table_of}
use Rattle.json_fields.specs.Lists.{list_of, listed, many}
use Rattle.exp_json.specs.declared.around.Around.{Around}
use Rattle.exp_json.specs.declared.around.Stage.TheVariants as T
use Rattle.exp_json.specs.declared.session.Settings.{Settings}
use Rattle.exp_json.specs.Arrivals.{arrival}
use Rattle.exp_json.specs.Experiments.{experiment, source}
use Rattle.exp_json.specs.Pipelines.{pipeline}

-- the numbers of a session
abbrev pub settings_table : Table Settings
settings_table =
    table_of (λ cost budget workers lanes depth horizon. record { cost = cost; budget = budget; workers = workers; lanes = lanes; depth = depth; horizon = horizon })
    ⊛ optional (codes "cost") 0 (count 0 most_cost)
    ⊛ optional (codes "budget") step_budget (count 1 step_budget)
    ⊛ optional (codes "workers") 1 (count 1 most_workers)
    ⊛ optional (codes "lanes") default_lanes (count 1 most_lanes)
    ⊛ optional (codes "depth") default_depth (count 1 most_depth)
    ⊛ optional (codes "horizon") default_horizon (count 1 default_horizon)

-- a session of these numbers and lists
abbrev pub session_of : Settings → List Pipeline → List (List ℕ) → List Experiment → List Arrival → Session
session_of s pipelines sources experiments arrivals =
    record {
      cost = s.cost;
      budget = s.budget;
      workers = s.workers;
      lanes = s.lanes;
      depth = s.depth;
      horizon = s.horizon;
      pipelines = pipelines;
      sources = sources;
      experiments = experiments;
      arrivals = arrivals;
    }

-- a session: its numbers, and then its lists
abbrev pub session_table : Around → Table Session
session_table around =
    changed session_of settings_table
    ⊛ required (codes "pipelines") (list_of 1 most_pipelines pipeline)
    ⊛ required (codes "sources") (list_of 1 most_sources source)
    ⊛ required (codes "experiments") (list_of 1 most_experiments (experiment around))
    ⊛ required (codes "arrivals") (listed 0 most_arrivals (arrival around))

-- how long the lists of a session are as given
abbrev pub around_of : Data → Around
around_of d =
    record {
      stage = T.Run;
      sources = many (codes "sources") d;
      experiments = many (codes "experiments") d;
      pipelines = many (codes "pipelines") d;
    }

abbrev pub session : Data → Reading Session
session d = object (session_table (around_of d)) d
