-- The steps of experiments, and submissions.
use Rattle.std.specs.Prelude.{ℕ, ◌-◌, pos, negsuc, Bool, true, false, List, [], ◌∷◌, codes, is_some, if◌then◌else◌}
use Rattle.limits.specs.Limits.{last_clock, most_arguments, most_numbers, most_priority}
use Rattle.serde_json.specs.Data.{Data}
use Rattle.serde_json.specs.Find.{as_array}
use Rattle.rtio_types.specs.declared.request.Value.{Value}
use Rattle.rtio_types.specs.declared.request.Value.TheVariants as V
use Rattle.rtio_types.specs.Names.{is_name}
use Rattle.exp_model.specs.declared.arrival.Submission.{Submission}
use Rattle.exp_model.specs.declared.step.HostStep.{HostStep}
use Rattle.exp_model.specs.declared.step.HostStep.TheVariants as H
use Rattle.exp_model.specs.Steps.{is_identifier}
use Rattle.json_fields.specs.declared.fault.FieldKind.TheVariants as K
use Rattle.json_fields.specs.declared.path.Part.TheVariants as P
use Rattle.json_fields.specs.Readings.{Reading, good, fault, ◌>>=◌}
use Rattle.json_fields.specs.Values.{any_number, count, index, number, truth, word, yes}
use Rattle.json_fields.specs.Objects.{Table, ◌⊛◌, first_there, formed, object, optional, required, table_of}
use Rattle.json_fields.specs.Lists.{list_of}
use Rattle.exp_json.specs.declared.around.Around.{Around}
use Rattle.exp_json.specs.declared.around.Stage.{Stage}
use Rattle.exp_json.specs.declared.around.Stage.TheVariants as T
use Rattle.exp_json.specs.declared.step.StepForm.{StepForm}
use Rattle.exp_json.specs.declared.step.StepForm.TheVariants as F

-- a submission
abbrev pub submission_table : Around → Table Submission
submission_table around =
    table_of (λ experiment pipeline priority due flush. record { experiment = experiment; pipeline = pipeline; priority = priority; due = due; flush = flush })
    ⊛ required (codes "experiment") (index around.experiments)
    ⊛ required (codes "pipeline") (index around.pipelines)
    ⊛ optional (codes "priority") (pos 0) (number (negsuc (most_priority - 1)) (pos most_priority))
    ⊛ optional (codes "due") 0 (count 0 last_clock)
    ⊛ optional (codes "flush") false truth

abbrev pub submission : Around → Data → Reading Submission
submission around d = object (submission_table around) d

-- the name of a dataset
abbrev pub name : Data → Reading (List ℕ)
name d = word is_name d

-- the name of a function
abbrev pub identifier : Data → Reading (List ℕ)
identifier d = word is_identifier d

-- a number or a list of numbers
abbrev pub dataset_value : Data → Reading Value
dataset_value d =
    if is_some (as_array d)
    then list_of 0 most_numbers any_number d >>= (λ numbers. good (V.List numbers))
    else any_number d >>= (λ n. good (V.Int n))

-- the key that chooses a form
abbrev pub form_key : StepForm → List ℕ
form_key F.Kernel = codes "kernel"
form_key F.Pause = codes "pause"
form_key F.CheckTermination = codes "check_termination"
form_key F.Set = codes "set"
form_key F.Append = codes "append"
form_key F.Sum = codes "sum"
form_key F.Submit = codes "submit"

-- the forms of steps; where an object has the keys of several, the first of these is its form
abbrev pub step_forms : List StepForm
step_forms = F.Kernel ∷ F.Pause ∷ F.CheckTermination ∷ F.Set ∷ F.Append ∷ F.Sum ∷ F.Submit ∷ []

-- a form that stands in the run alone
abbrev pub of_run_alone : StepForm → Bool
of_run_alone F.Kernel = true
of_run_alone F.Pause = true
of_run_alone F.CheckTermination = true
of_run_alone F.Set = false
of_run_alone F.Append = false
of_run_alone F.Sum = false
of_run_alone F.Submit = true

-- a form has to be one of the stage; else its key is unknown there
abbrev pub in_stage : Stage → StepForm → Reading (Unit {0})
in_stage T.Run form = good tt
in_stage T.Prepare form = if of_run_alone form then fault (P.Key (form_key form) ∷ []) K.Unknown else good tt
in_stage T.Analyze form = if of_run_alone form then fault (P.Key (form_key form) ∷ []) K.Unknown else good tt

-- a step of a form
abbrev pub step_table : Around → StepForm → Table HostStep
step_table around F.Kernel =
    table_of (λ function args. H.Kernel function args)
    ⊛ required (codes "kernel") identifier
    ⊛ required (codes "args") (list_of 0 most_arguments any_number)
step_table around F.Pause = table_of (λ given. H.Pause) ⊛ required (codes "pause") yes
step_table around F.CheckTermination = table_of (λ given. H.CheckTermination) ⊛ required (codes "check_termination") yes
step_table around F.Set =
    table_of (λ key value broadcast persist archive. H.Set key value broadcast persist archive)
    ⊛ required (codes "set") name
    ⊛ required (codes "value") dataset_value
    ⊛ optional (codes "broadcast") false truth
    ⊛ optional (codes "persist") false truth
    ⊛ optional (codes "archive") true truth
step_table around F.Append =
    table_of (λ key value. H.Append key value) ⊛ required (codes "append") name ⊛ required (codes "value") any_number
step_table around F.Sum = table_of (λ key into. H.Sum key into) ⊛ required (codes "sum") name ⊛ required (codes "into") name
step_table around F.Submit = table_of (λ submitted. H.Submit submitted) ⊛ required (codes "submit") (submission around)

-- a step
abbrev pub step : Around → Data → Reading HostStep
step around d = formed (first_there form_key step_forms) (in_stage around.stage) (step_table around) d
