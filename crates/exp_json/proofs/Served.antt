-- A session that is read keeps to what one that is served keeps to.
use Rattle.std.proofs.Common.{◌≡◌, ℕ, ◌-◌, ◌^◌, ◌≤◌, Bool, List, length, refl, subst, arith}
use Rattle.std.specs.Prelude.{IsTrue, ◌&&◌, nat_le, nat_lt, codes}
use Rattle.std.specs.List.{list_all}
use Rattle.std.proofs.lemmas.Bool.{and_from, and_parts}
use Rattle.serde_json.specs.Data.{Data}
use Rattle.exp_model.specs.declared.arrival.Arrival.{Arrival}
use Rattle.exp_model.specs.declared.session.Experiment.{Experiment}
use Rattle.exp_model.specs.declared.session.Pipeline.{Pipeline}
use Rattle.exp_model.specs.declared.session.Session.{Session}
use Rattle.exp_model.specs.declared.step.HostStep.{HostStep}
use Rattle.exp_model.specs.Steps.{is_data_step, is_run_step}
use Rattle.exp_model.specs.Sessions.{are_arrivals, is_experiment, is_from_to, is_pipeline, is_session, is_source, sizes_of}
use Rattle.json_fields.specs.Readings.{Reading, good}
use Rattle.json_fields.specs.Values.{count, index}
use Rattle.json_fields.specs.Objects.{Field, changed, optional, required, table_of}
use Rattle.json_fields.specs.Lists.{list_of, listed, many}
use Rattle.exp_json.specs.declared.around.Around.{Around}
use Rattle.exp_json.specs.declared.around.Stage.TheVariants as T
use Rattle.exp_json.specs.declared.session.Settings.{Settings}
use Rattle.exp_json.specs.Arrivals.{arrival}
use Rattle.exp_json.specs.Experiments.{experiment, experiment_table, source, step_in}
use Rattle.exp_json.specs.Pipelines.{pipeline}
use Rattle.exp_json.specs.Sessions.{around_of, session, session_of, session_table, settings_table}
use Rattle.exp_json.proofs.Kept.{Keeps, keeps-changed, keeps-four, keeps-object, keeps-optional, keeps-required, keeps-six, keeps-weaker}
use Rattle.exp_json.proofs.KeptValues.{keeps-count, keeps-index, keeps-word}
use Rattle.exp_json.proofs.KeptLists.{IsListed, keeps-list_of, many-listed}
use Rattle.exp_json.proofs.KeptEdges.{keeps-pipeline}
use Rattle.exp_json.proofs.KeptSteps.{keeps-analyze_step, keeps-prepare_step, keeps-run_step, sizes}
use Rattle.exp_json.proofs.KeptArrivals.{keeps-arrivals}

-- a list of so many that pass a test
abbrev AreAll : {A : Type 0} → (A → Bool) → ℕ → ℕ → List A → Type 0
AreAll p low high items = IsTrue (is_from_to low high (length items) && list_all p items)

are-all : {A : Type 0} (p : A → Bool) (low high : ℕ) (d : Data) (items : List A) → IsListed (λ items. IsTrue (list_all p items)) low high d items → AreAll p low high items
are-all p low high d items are = and_from (is_from_to low high (length items)) (list_all p items) are.length_fits are.kept

keeps-all : {A : Type 0} (p : A → Bool) (low high : ℕ) (kind : Data → Reading A) (d : Data) → ((v : Data) → Keeps (λ a. IsTrue (p a)) (kind v)) → Keeps (AreAll p low high) (list_of low high kind d)
keeps-all p low high kind d each = keeps-weaker (IsListed (λ items. IsTrue (list_all p items)) low high d) (AreAll p low high) (list_of low high kind d) (are-all p low high d) (keeps-list_of p low high kind d each)

-- such a list, with its length as given
abbrev AreSized : {A : Type 0} → (A → Bool) → ℕ → ℕ → ℕ → List A → Type 0
AreSized p low high size items = AreAll p low high items × (length items ≡ size)

keeps-key : {A : Type 0} (p : A → Bool) (low high : ℕ) (key : List ℕ) (kind : Data → Reading A) (d : Data) → high ≤ 2 ^ 32 - 1 → ((v : Data) → Keeps (λ a. IsTrue (p a)) (kind v)) → Keeps (AreSized p low high (many key d)) ((required key (list_of low high kind)).reading d)
keeps-key p low high key kind d few each =
    keeps-required (AreSized p low high (many key d)) key (list_of low high kind) d
    (λ v is. keeps-weaker (IsListed (λ items. IsTrue (list_all p items)) low high v) (AreSized p low high (many key d)) (list_of low high kind v) (λ items are. (are-all p low high v items are, many-listed (λ items. IsTrue (list_all p items)) low high key d v items few is are)) (keeps-list_of p low high kind v each))

-- steps of a preparation or an analysis
at-most : (steps : List HostStep) → AreAll is_data_step 0 16 steps → IsTrue (nat_le (length steps) 16 && list_all is_data_step steps)
at-most steps are =
    let parts = and_parts (is_from_to 0 16 (length steps)) (list_all is_data_step steps) are in
    and_from (nat_le (length steps) 16) (list_all is_data_step steps) (and_parts (nat_le 0 (length steps)) (nat_le (length steps) 16) parts.0).1 parts.1

-- an experiment
experiment-of : (around : Around) (e : Experiment) → IsTrue (nat_lt e.source around.sources) → AreAll is_data_step 0 16 e.prepare → AreAll (is_run_step (sizes around)) 1 16 e.run → AreAll is_data_step 0 16 e.analyze → IsTrue (is_experiment (sizes around) e)
experiment-of around e place prepare run analyze = and_from _ _ (and_from _ _ (and_from _ _ place (at-most e.prepare prepare)) run) (at-most e.analyze analyze)

abbrev experiment_made : ℕ → List HostStep → List HostStep → List HostStep → Experiment
experiment_made source prepare run analyze = record { source = source; prepare = prepare; run = run; analyze = analyze }

keeps-experiment : (around : Around) (d : Data) → Keeps (λ e. IsTrue (is_experiment (sizes around) e)) (experiment around d)
keeps-experiment around d =
    keeps-object (λ e. IsTrue (is_experiment (sizes around) e)) (experiment_table around) d
    (keeps-four (λ e. IsTrue (is_experiment (sizes around) e)) (λ place. IsTrue (nat_lt place around.sources)) (AreAll is_data_step 0 16) (AreAll (is_run_step (sizes around)) 1 16) (AreAll is_data_step 0 16)
    (table_of experiment_made)
    (required (codes "source") (index around.sources))
    (required (codes "prepare") (list_of 0 16 (step_in T.Prepare around)))
    (required (codes "run") (list_of 1 16 (step_in T.Run around)))
    (required (codes "analyze") (list_of 0 16 (step_in T.Analyze around)))
    d
    (keeps-required (λ place. IsTrue (nat_lt place around.sources)) (codes "source") (index around.sources) d (λ v is. keeps-index around.sources v))
    (keeps-required (AreAll is_data_step 0 16) (codes "prepare") (list_of 0 16 (step_in T.Prepare around)) d (λ v is. keeps-all is_data_step 0 16 (step_in T.Prepare around) v (keeps-prepare_step around)))
    (keeps-required (AreAll (is_run_step (sizes around)) 1 16) (codes "run") (list_of 1 16 (step_in T.Run around)) d (λ v is. keeps-all (is_run_step (sizes around)) 1 16 (step_in T.Run around) v (keeps-run_step around)))
    (keeps-required (AreAll is_data_step 0 16) (codes "analyze") (list_of 0 16 (step_in T.Analyze around)) d (λ v is. keeps-all is_data_step 0 16 (step_in T.Analyze around) v (keeps-analyze_step around)))
    (λ place a prepare b run c analyze e. experiment-of around (experiment_made place prepare run analyze) a b c e))

-- the numbers of a session
abbrev are_numbers : Settings → Bool
are_numbers s =
    nat_le s.cost 1000000
    && is_from_to 1 20000 s.budget
    && is_from_to 1 8 s.workers
    && is_from_to 1 32 s.lanes
    && is_from_to 1 1024 s.depth
    && is_from_to 1 134217728 s.horizon

numbers-of : (s : Settings) → IsTrue (is_from_to 0 1000000 s.cost) → IsTrue (is_from_to 1 20000 s.budget) → IsTrue (is_from_to 1 8 s.workers) → IsTrue (is_from_to 1 32 s.lanes) → IsTrue (is_from_to 1 1024 s.depth) → IsTrue (is_from_to 1 134217728 s.horizon) → IsTrue (are_numbers s)
numbers-of s cost budget workers lanes depth horizon =
    and_from _ _ (and_from _ _ (and_from _ _ (and_from _ _ (and_from _ _ (and_parts (nat_le 0 s.cost) (nat_le s.cost 1000000) cost).1 budget) workers) lanes) depth) horizon

abbrev settings_made : ℕ → ℕ → ℕ → ℕ → ℕ → ℕ → Settings
settings_made cost budget workers lanes depth horizon = record { cost = cost; budget = budget; workers = workers; lanes = lanes; depth = depth; horizon = horizon }

-- a number with a default
abbrev number_or : List ℕ → ℕ → ℕ → ℕ → Field ℕ
number_or key default low high = optional key default (count low high)

keeps-number_or : (key : List ℕ) (default low high : ℕ) (d : Data) → IsTrue (is_from_to low high default) → Keeps (λ n. IsTrue (is_from_to low high n)) ((number_or key default low high).reading d)
keeps-number_or key default low high d within = keeps-optional (λ n. IsTrue (is_from_to low high n)) key default (count low high) d within (keeps-count low high)

keeps-settings : (d : Data) → Keeps (λ s. IsTrue (are_numbers s)) (settings_table.fields d)
keeps-settings d =
    keeps-six (λ s. IsTrue (are_numbers s)) (λ n. IsTrue (is_from_to 0 1000000 n)) (λ n. IsTrue (is_from_to 1 20000 n)) (λ n. IsTrue (is_from_to 1 8 n)) (λ n. IsTrue (is_from_to 1 32 n)) (λ n. IsTrue (is_from_to 1 1024 n)) (λ n. IsTrue (is_from_to 1 134217728 n))
    (table_of settings_made)
    (number_or (codes "cost") 0 0 1000000)
    (number_or (codes "budget") 20000 1 20000)
    (number_or (codes "workers") 1 1 8)
    (number_or (codes "lanes") 8 1 32)
    (number_or (codes "depth") 128 1 1024)
    (number_or (codes "horizon") 134217728 1 134217728)
    d
    (keeps-number_or (codes "cost") 0 0 1000000 d refl)
    (keeps-number_or (codes "budget") 20000 1 20000 d refl)
    (keeps-number_or (codes "workers") 1 1 8 d refl)
    (keeps-number_or (codes "lanes") 8 1 32 d refl)
    (keeps-number_or (codes "depth") 128 1 1024 d refl)
    (keeps-number_or (codes "horizon") 134217728 1 134217728 d refl)
    (λ cost a budget b workers c lanes e depth f horizon g. numbers-of (settings_made cost budget workers lanes depth horizon) a b c e f g)

-- a session of these numbers and lists
whole : (around : Around) (s : Settings) (pipelines : List Pipeline) (sources : List (List ℕ)) (experiments : List Experiment) (arrivals : List Arrival) → IsTrue (are_numbers s) → AreSized is_pipeline 1 4 around.pipelines pipelines → AreSized is_source 1 64 around.sources sources → AreSized (is_experiment (sizes around)) 1 64 around.experiments experiments → IsTrue (are_arrivals (sizes around) arrivals) → IsTrue (is_session (session_of s pipelines sources experiments arrivals))
whole around s pipelines sources experiments arrivals numbers of_pipelines of_sources of_experiments of_arrivals =
    let same : sizes around ≡ sizes_of (session_of s pipelines sources experiments arrivals) = cc (of_pipelines.1, of_sources.1, of_experiments.1) in
    and_from _ _ (and_from _ _ (and_from _ _ (and_from _ _ numbers of_pipelines.0) of_sources.0) (subst (λ z. AreAll (is_experiment z) 1 64 experiments) same of_experiments.0)) (subst (λ z. IsTrue (are_arrivals z arrivals)) same of_arrivals)

keeps-session : (d : Data) → Keeps (λ s. IsTrue (is_session s)) (session d)
keeps-session d =
    keeps-object (λ s. IsTrue (is_session s)) (session_table (around_of d)) d
    (keeps-four (λ s. IsTrue (is_session s)) (AreSized is_pipeline 1 4 (many (codes "pipelines") d)) (AreSized is_source 1 64 (many (codes "sources") d)) (AreSized (is_experiment (sizes (around_of d))) 1 64 (many (codes "experiments") d)) (λ arrivals. IsTrue (are_arrivals (sizes (around_of d)) arrivals))
    (changed session_of settings_table)
    (required (codes "pipelines") (list_of 1 4 pipeline))
    (required (codes "sources") (list_of 1 64 source))
    (required (codes "experiments") (list_of 1 64 (experiment (around_of d))))
    (required (codes "arrivals") (listed 0 256 (arrival (around_of d))))
    d
    (keeps-key is_pipeline 1 4 (codes "pipelines") pipeline d (omega arith) keeps-pipeline)
    (keeps-key is_source 1 64 (codes "sources") source d (omega arith) (keeps-word is_source))
    (keeps-key (is_experiment (sizes (around_of d))) 1 64 (codes "experiments") (experiment (around_of d)) d (omega arith) (keeps-experiment (around_of d)))
    (keeps-required (λ arrivals. IsTrue (are_arrivals (sizes (around_of d)) arrivals)) (codes "arrivals") (listed 0 256 (arrival (around_of d))) d (λ v is. keeps-arrivals (around_of d) v))
    (keeps-changed (λ make. (pipelines : List Pipeline) → AreSized is_pipeline 1 4 (many (codes "pipelines") d) pipelines → (sources : List (List ℕ)) → AreSized is_source 1 64 (many (codes "sources") d) sources → (experiments : List Experiment) → AreSized (is_experiment (sizes (around_of d))) 1 64 (many (codes "experiments") d) experiments → (arrivals : List Arrival) → IsTrue (are_arrivals (sizes (around_of d)) arrivals) → IsTrue (is_session (make pipelines sources experiments arrivals))) session_of settings_table d
    (keeps-weaker (λ s. IsTrue (are_numbers s)) (λ s. (pipelines : List Pipeline) → AreSized is_pipeline 1 4 (many (codes "pipelines") d) pipelines → (sources : List (List ℕ)) → AreSized is_source 1 64 (many (codes "sources") d) sources → (experiments : List Experiment) → AreSized (is_experiment (sizes (around_of d))) 1 64 (many (codes "experiments") d) experiments → (arrivals : List Arrival) → IsTrue (are_arrivals (sizes (around_of d)) arrivals) → IsTrue (is_session (session_of s pipelines sources experiments arrivals))) (settings_table.fields d)
    (λ s numbers pipelines a sources b experiments c arrivals e. whole (around_of d) s pipelines sources experiments arrivals numbers a b c e)
    (keeps-settings d))))

-- what is read is a session that can be served
pub served : (d : Data) (s : Session) → session d ≡ good s → IsTrue (is_session s)
served d s is = subst (Keeps (λ s. IsTrue (is_session s))) is (keeps-session d)
