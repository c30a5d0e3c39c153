-- Experiments and the texts of their kernels.
use Rattle.std.specs.Prelude.{ℕ, List, codes}
use Rattle.limits.specs.Limits.{most_steps}
use Rattle.serde_json.specs.Data.{Data}
use Rattle.exp_model.specs.declared.session.Experiment.{Experiment}
use Rattle.exp_model.specs.declared.step.HostStep.{HostStep}
use Rattle.json_fields.specs.Readings.{Reading}
use Rattle.json_fields.specs.Values.{index, word}
use Rattle.json_fields.specs.Objects.{Table, ◌⊛◌, object, required, table_of}
use Rattle.json_fields.specs.Lists.{list_of}
use Rattle.exp_json.specs.declared.around.Around.{Around}
use Rattle.exp_json.specs.declared.around.Stage.{Stage}
use Rattle.exp_json.specs.declared.around.Stage.TheVariants as T
use Rattle.exp_json.specs.Steps.{step}
use Rattle.exp_model.specs.Sessions.{is_source}

-- the text of kernels
abbrev pub source : Data → Reading (List ℕ)
source d = word is_source d

-- a step of a stage
abbrev pub step_in : Stage → Around → Data → Reading HostStep
step_in stage around d = step (record around { stage = stage }) d

abbrev pub experiment_table : Around → Table Experiment
experiment_table around =
    table_of (λ source prepare run analyze. record { source = source; prepare = prepare; run = run; analyze = analyze })
    ⊛ required (codes "source") (index around.sources)
    ⊛ required (codes "prepare") (list_of 0 most_steps (step_in T.Prepare around))
    ⊛ required (codes "run") (list_of 1 most_steps (step_in T.Run around))
    ⊛ required (codes "analyze") (list_of 0 most_steps (step_in T.Analyze around))

abbrev pub experiment : Around → Data → Reading Experiment
experiment around d = object (experiment_table around) d
