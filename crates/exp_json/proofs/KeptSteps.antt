-- The submissions and steps that are read.
use Rattle.std.proofs.Common.{◌≡◌, ℕ, ℤ, pos, negsuc, ◌^◌, Bool, true, false, List, [], ◌∷◌, length, refl}
use Rattle.std.specs.Prelude.{IsTrue, ◌&&◌, nat_le, nat_lt, int_le, codes, is_some, if◌then◌else◌}
use Rattle.std.specs.List.{list_all}
use Rattle.std.proofs.lemmas.Bool.{and_from, and_parts}
use Rattle.serde_json.specs.Data.{Data}
use Rattle.serde_json.specs.Find.{as_array}
use Rattle.rtio_types.specs.declared.request.Value.{Value}
use Rattle.rtio_types.specs.declared.request.Value.TheVariants as V
use Rattle.exp_model.specs.declared.arrival.Submission.{Submission}
use Rattle.exp_model.specs.declared.step.HostStep.{HostStep}
use Rattle.exp_model.specs.declared.step.HostStep.TheVariants as H
use Rattle.exp_model.specs.Steps.{Sizes, is_data_step, is_identifier, is_run_step, is_submission, is_value}
use Rattle.json_fields.specs.declared.fault.FieldKind.TheVariants as K
use Rattle.json_fields.specs.declared.path.Part.TheVariants as P
use Rattle.json_fields.specs.Readings.{Reading, good, fault, ◌>>=◌}
use Rattle.json_fields.specs.Values.{any_number, count, index, number, truth, yes}
use Rattle.json_fields.specs.Objects.{◌⊛◌, first_there, optional, required, table_of}
use Rattle.json_fields.specs.Lists.{list_of}
use Rattle.exp_json.specs.declared.around.Around.{Around}
use Rattle.exp_json.specs.declared.around.Stage.TheVariants as T
use Rattle.exp_json.specs.declared.step.StepForm.{StepForm}
use Rattle.exp_json.specs.declared.step.StepForm.TheVariants as F
use Rattle.exp_json.specs.Experiments.{step_in}
use Rattle.exp_json.specs.Steps.{dataset_value, form_key, identifier, in_stage, name, of_run_alone, step_forms, step_table, submission, submission_table}
use Rattle.exp_json.proofs.Kept.{Keeps, keeps-any, keeps-bind, keeps-five, keeps-formed, keeps-object, keeps-one, keeps-optional, keeps-required, keeps-two, keeps-weaker}
use Rattle.exp_json.proofs.KeptValues.{keeps-count, keeps-index, keeps-number, keeps-word}
use Rattle.exp_json.proofs.KeptLists.{IsListed, keeps-list_of}

-- the sizes that a part is read among
abbrev pub sizes : Around → Sizes
sizes around = record { sources = around.sources; experiments = around.experiments; pipelines = around.pipelines }

-- what the tables make
abbrev submission_made : ℕ → ℕ → ℤ → ℕ → Bool → Submission
submission_made experiment pipeline priority due flush = record { experiment = experiment; pipeline = pipeline; priority = priority; due = due; flush = flush }

abbrev set_made : List ℕ → Value → Bool → Bool → Bool → HostStep
set_made key value broadcast persist archive = H.Set key value broadcast persist archive

-- the ranges of a submission's numbers
abbrev IsPriority : ℤ → Type 0
IsPriority z = IsTrue (int_le (negsuc 999) z && int_le z (pos 1000))

abbrev IsDue : ℕ → Type 0
IsDue n = IsTrue (nat_le 0 n && nat_le n (2 ^ 62))

-- a submission of these fields
submission-of : (around : Around) (s : Submission) → IsTrue (nat_lt s.experiment around.experiments) → IsTrue (nat_lt s.pipeline around.pipelines) → IsPriority s.priority → IsDue s.due → IsTrue (is_submission (sizes around) s)
submission-of around s experiment pipeline priority due =
    let priorities = and_parts (int_le (negsuc 999) s.priority) (int_le s.priority (pos 1000)) priority in
    let dues = and_parts (nat_le 0 s.due) (nat_le s.due (2 ^ 62)) due in
    and_from _ _ (and_from _ _ (and_from _ _ (and_from _ _ experiment pipeline) priorities.0) priorities.1) dues.1

pub keeps-submission : (around : Around) (d : Data) → Keeps (λ s. IsTrue (is_submission (sizes around) s)) (submission around d)
keeps-submission around d =
    keeps-object (λ s. IsTrue (is_submission (sizes around) s)) (submission_table around) d
    (keeps-five (λ s. IsTrue (is_submission (sizes around) s)) (λ n. IsTrue (nat_lt n around.experiments)) (λ n. IsTrue (nat_lt n around.pipelines)) IsPriority IsDue (λ (b : Bool). Unit {0})
    (table_of submission_made)
    (required (codes "experiment") (index around.experiments))
    (required (codes "pipeline") (index around.pipelines))
    (optional (codes "priority") (pos 0) (number (negsuc 999) (pos 1000)))
    (optional (codes "due") 0 (count 0 (2 ^ 62)))
    (optional (codes "flush") false truth)
    d
    (keeps-required (λ n. IsTrue (nat_lt n around.experiments)) (codes "experiment") (index around.experiments) d (λ v is. keeps-index around.experiments v))
    (keeps-required (λ n. IsTrue (nat_lt n around.pipelines)) (codes "pipeline") (index around.pipelines) d (λ v is. keeps-index around.pipelines v))
    (keeps-optional IsPriority (codes "priority") (pos 0) (number (negsuc 999) (pos 1000)) d refl (keeps-number (negsuc 999) (pos 1000)))
    (keeps-optional IsDue (codes "due") 0 (count 0 (2 ^ 62)) d refl (keeps-count 0 (2 ^ 62)))
    (keeps-any ((optional (codes "flush") false truth).reading d))
    (λ experiment a pipeline b priority c due e flush f. submission-of around (submission_made experiment pipeline priority due flush) a b c e))

-- lists of numbers
abbrev any : ℤ → Bool
any n = true

keeps-numbers : (high : ℕ) (d : Data) → Keeps (λ numbers. IsTrue (nat_le (length numbers) high)) (list_of 0 high any_number d)
keeps-numbers high d =
    keeps-weaker (IsListed (λ numbers. IsTrue (list_all any numbers)) 0 high d) (λ numbers. IsTrue (nat_le (length numbers) high)) (list_of 0 high any_number d) (λ numbers are. (and_parts (nat_le 0 (length numbers)) (nat_le (length numbers) high) are.length_fits).1)
    (keeps-list_of any 0 high any_number d (λ v. keeps-weaker (λ (n : ℤ). Unit {0}) (λ n. IsTrue (any n)) (any_number v) (λ n found. refl) (keeps-any (any_number v))))

-- the value of a dataset
keeps-dataset_value : (d : Data) → Keeps (λ v. IsTrue (is_value v)) (dataset_value d)
keeps-dataset_value d = by (is_some (as_array d))
  where
    by : (b : Bool) → Keeps (λ v. IsTrue (is_value v)) (if b then list_of 0 512 any_number d >>= (λ numbers. good (V.List numbers)) else any_number d >>= (λ n. good (V.Int n)))
    by true = keeps-bind (λ numbers. IsTrue (nat_le (length numbers) 512)) (λ v. IsTrue (is_value v)) (list_of 0 512 any_number d) (λ numbers. good (V.List numbers)) (keeps-numbers 512 d) (λ numbers few. few)
    by false = keeps-bind (λ (n : ℤ). Unit {0}) (λ v. IsTrue (is_value v)) (any_number d) (λ n. good (V.Int n)) (keeps-any (any_number d)) (λ n found. refl)

-- the fields of a form of two
keeps-both : {A B C : Type 0} (q : C → Type 0) (p : A → Type 0) (r : B → Type 0) (make : A → B → C) (a_key b_key : List ℕ) (a_kind : Data → Reading A) (b_kind : Data → Reading B) (d : Data) → ((v : Data) → Keeps p (a_kind v)) → ((v : Data) → Keeps r (b_kind v)) → ((a : A) → p a → (b : B) → r b → q (make a b)) → Keeps q ((table_of make ⊛ required a_key a_kind ⊛ required b_key b_kind).fields d)
keeps-both q p r make a_key b_key a_kind b_kind d a_kept b_kept made =
    keeps-two q p r (table_of make) (required a_key a_kind) (required b_key b_kind) d (keeps-required p a_key a_kind d (λ v is. a_kept v)) (keeps-required r b_key b_kind d (λ v is. b_kept v)) made

keeps-set : (q : HostStep → Type 0) (around : Around) (d : Data) → ((key : List ℕ) (v : Value) (broadcast persist archive : Bool) → IsTrue (is_value v) → q (H.Set key v broadcast persist archive)) → Keeps q ((step_table around F.Set).fields d)
keeps-set q around d made =
    keeps-five q (λ (key : List ℕ). Unit {0}) (λ v. IsTrue (is_value v)) (λ (b : Bool). Unit {0}) (λ (b : Bool). Unit {0}) (λ (b : Bool). Unit {0})
    (table_of set_made)
    (required (codes "set") name)
    (required (codes "value") dataset_value)
    (optional (codes "broadcast") false truth)
    (optional (codes "persist") false truth)
    (optional (codes "archive") true truth)
    d
    (keeps-any ((required (codes "set") name).reading d))
    (keeps-required (λ v. IsTrue (is_value v)) (codes "value") dataset_value d (λ v is. keeps-dataset_value v))
    (keeps-any ((optional (codes "broadcast") false truth).reading d))
    (keeps-any ((optional (codes "persist") false truth).reading d))
    (keeps-any ((optional (codes "archive") true truth).reading d))
    (λ key a v b broadcast c persist e archive f. made key v broadcast persist archive b)

-- a step of a run
keeps-run_fields : (around : Around) (form : StepForm) (d : Data) → Keeps (λ s. IsTrue (is_run_step (sizes around) s)) ((step_table around form).fields d)
keeps-run_fields around F.Kernel d =
    keeps-both (λ s. IsTrue (is_run_step (sizes around) s)) (λ function. IsTrue (is_identifier function)) (λ args. IsTrue (nat_le (length args) 8)) (λ function args. H.Kernel function args) (codes "kernel") (codes "args") identifier (list_of 0 8 any_number) d (keeps-word is_identifier) (keeps-numbers 8)
    (λ function is args few. and_from (is_identifier function) (nat_le (length args) 8) is few)
keeps-run_fields around F.Pause d =
    keeps-one (λ s. IsTrue (is_run_step (sizes around) s)) (λ (given : Unit {0}). Unit {0}) (table_of (λ (given : Unit {0}). H.Pause)) (required (codes "pause") yes) d (keeps-any ((required (codes "pause") yes).reading d)) (λ given found. refl)
keeps-run_fields around F.CheckTermination d =
    keeps-one (λ s. IsTrue (is_run_step (sizes around) s)) (λ (given : Unit {0}). Unit {0}) (table_of (λ (given : Unit {0}). H.CheckTermination)) (required (codes "check_termination") yes) d (keeps-any ((required (codes "check_termination") yes).reading d)) (λ given found. refl)
keeps-run_fields around F.Set d = keeps-set (λ s. IsTrue (is_run_step (sizes around) s)) around d (λ key v broadcast persist archive is. is)
keeps-run_fields around F.Append d =
    keeps-both (λ s. IsTrue (is_run_step (sizes around) s)) (λ (key : List ℕ). Unit {0}) (λ (n : ℤ). Unit {0}) (λ key value. H.Append key value) (codes "append") (codes "value") name any_number d (λ v. keeps-any (name v)) (λ v. keeps-any (any_number v)) (λ key a value b. refl)
keeps-run_fields around F.Sum d =
    keeps-both (λ s. IsTrue (is_run_step (sizes around) s)) (λ (key : List ℕ). Unit {0}) (λ (key : List ℕ). Unit {0}) (λ key into. H.Sum key into) (codes "sum") (codes "into") name name d (λ v. keeps-any (name v)) (λ v. keeps-any (name v)) (λ key a into b. refl)
keeps-run_fields around F.Submit d =
    keeps-one (λ s. IsTrue (is_run_step (sizes around) s)) (λ s. IsTrue (is_submission (sizes around) s)) (table_of (λ (submitted : Submission). H.Submit submitted)) (required (codes "submit") (submission around)) d
    (keeps-required (λ s. IsTrue (is_submission (sizes around) s)) (codes "submit") (submission around) d (λ v is. keeps-submission around v))
    (λ s is. is)

-- a step of a preparation or an analysis, whose form may stand there
keeps-data_fields : (around : Around) (form : StepForm) (d : Data) → of_run_alone form ≡ false → Keeps (λ s. IsTrue (is_data_step s)) ((step_table around form).fields d)
keeps-data_fields around F.Kernel d alone = absurd (cc)
keeps-data_fields around F.Pause d alone = absurd (cc)
keeps-data_fields around F.CheckTermination d alone = absurd (cc)
keeps-data_fields around F.Set d alone = keeps-set (λ s. IsTrue (is_data_step s)) around d (λ key v broadcast persist archive is. is)
keeps-data_fields around F.Append d alone =
    keeps-both (λ s. IsTrue (is_data_step s)) (λ (key : List ℕ). Unit {0}) (λ (n : ℤ). Unit {0}) (λ key value. H.Append key value) (codes "append") (codes "value") name any_number d (λ v. keeps-any (name v)) (λ v. keeps-any (any_number v)) (λ key a value b. refl)
keeps-data_fields around F.Sum d alone =
    keeps-both (λ s. IsTrue (is_data_step s)) (λ (key : List ℕ). Unit {0}) (λ (key : List ℕ). Unit {0}) (λ key into. H.Sum key into) (codes "sum") (codes "into") name name d (λ v. keeps-any (name v)) (λ v. keeps-any (name v)) (λ key a into b. refl)
keeps-data_fields around F.Submit d alone = absurd (cc)

-- a form that passed
abbrev stage_asked : Bool → List ℕ → Reading (Unit {0})
stage_asked alone key = if alone then fault (P.Key key ∷ []) K.Unknown else good tt

not-alone : (alone : Bool) (key : List ℕ) → stage_asked alone key ≡ good tt → alone ≡ false
not-alone true key passed = absurd (cc)
not-alone false key passed = refl

pub keeps-run_step : (around : Around) (d : Data) → Keeps (λ s. IsTrue (is_run_step (sizes around) s)) (step_in T.Run around d)
keeps-run_step around d =
    keeps-formed (λ s. IsTrue (is_run_step (sizes around) s)) (first_there form_key step_forms) (in_stage T.Run) (step_table (record around { stage = T.Run })) d (λ form passed. keeps-run_fields (record around { stage = T.Run }) form d)

pub keeps-prepare_step : (around : Around) (d : Data) → Keeps (λ s. IsTrue (is_data_step s)) (step_in T.Prepare around d)
keeps-prepare_step around d =
    keeps-formed (λ s. IsTrue (is_data_step s)) (first_there form_key step_forms) (in_stage T.Prepare) (step_table (record around { stage = T.Prepare })) d
    (λ form passed. keeps-data_fields (record around { stage = T.Prepare }) form d (not-alone (of_run_alone form) (form_key form) passed))

pub keeps-analyze_step : (around : Around) (d : Data) → Keeps (λ s. IsTrue (is_data_step s)) (step_in T.Analyze around d)
keeps-analyze_step around d =
    keeps-formed (λ s. IsTrue (is_data_step s)) (first_there form_key step_forms) (in_stage T.Analyze) (step_table (record around { stage = T.Analyze })) d
    (λ form passed. keeps-data_fields (record around { stage = T.Analyze }) form d (not-alone (of_run_alone form) (form_key form) passed))
