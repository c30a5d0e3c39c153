-- The settings of the cores of a laboratory.
use Rattle.std.specs.Prelude.{ℕ, List, [], map, replicate, slice_get, Option, option_map}
use Rattle.limits.specs.Limits.{channels}
use Rattle.rtio_core.specs.declared.data.Config.{Config}
use Rattle.rtio_core.specs.Core.{CoreState, new_core}
use Rattle.exp_model.specs.declared.session.Session.{Session}
use Rattle.exp_model.specs.declared.session.Pipeline.{Pipeline}

-- those of a pipeline's core: the numbers of the session, and the pipeline's
-- edges; each channel executes an event at once, and no recording is handed in
abbrev pub config_of : Session → Pipeline → Config
config_of session pipeline = record {
  lanes = session.lanes;
  depth = session.depth;
  cost = session.cost;
  horizon = session.horizon;
  edges = pipeline.edges;
  holds = replicate channels 0;
  kept = [];
}

-- those of the core of the pipeline with this number
abbrev pub config_at : Session → (pipeline : ℕ) → Option Config
config_at session pipeline = option_map (config_of session) (slice_get session.pipelines pipeline)

-- a new core for each pipeline
abbrev pub new_cores : Session → List CoreState
new_cores session = map (λ (pipeline : Pipeline). new_core (config_of session pipeline)) session.pipelines
