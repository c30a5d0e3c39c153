-- The steps of experiments, and submissions.
use Rattle.std.specs.Prelude.{ℕ, ◌-◌, negsuc, pos, Bool, true, false, ◌&&◌, ◌||◌}
use Rattle.std.specs.Prelude.{◌==◌, List, length, nat_le, nat_lt, int_le, slice_index}
use Rattle.std.specs.List.{list_all}
use Rattle.limits.specs.Limits.{last_clock, longest_name, most_arguments, most_numbers, most_priority}
use Rattle.rtio_types.specs.Names.{is_word_byte}
use Rattle.rtio_types.specs.declared.request.Value.{Value}
use Rattle.rtio_types.specs.declared.request.Value.TheVariants as V
use Rattle.exp_model.specs.declared.arrival.Submission.{Submission}
use Rattle.exp_model.specs.declared.step.HostStep.{HostStep}
use Rattle.exp_model.specs.declared.step.HostStep.TheVariants as H

-- how long the lists are that indexes go into
pub record Sizes : Type 0 where
  pub sources : ℕ
  pub experiments : ℕ
  pub pipelines : ℕ

-- a submission of an experiment that is there to a pipeline that is there, whose priority and due date are in their ranges
abbrev pub is_submission : Sizes → Submission → Bool
is_submission sizes s =
    nat_lt s.experiment sizes.experiments
    && nat_lt s.pipeline sizes.pipelines
    && int_le (negsuc (most_priority - 1)) s.priority
    && int_le s.priority (pos most_priority)
    && nat_le s.due last_clock

-- a letter or an underscore
abbrev pub is_letter : ℕ → Bool
is_letter b = (nat_le 65 b && nat_le b 90) || ((b == 95) || (nat_le 97 b && nat_le b 122))

-- a name as the language of kernels has them: letters, digits and underscores, and no digit first
abbrev pub is_identifier : List ℕ → Bool
is_identifier text =
    nat_le 1 (length text) && (nat_le (length text) longest_name && (is_letter (slice_index text 0) && list_all is_word_byte text))

-- a number, or a list of few enough
abbrev pub is_value : Value → Bool
is_value (V.Int n) = true
is_value (V.List numbers) = nat_le (length numbers) most_numbers

-- a step of a run
abbrev pub is_run_step : Sizes → HostStep → Bool
is_run_step sizes (H.Kernel function args) = is_identifier function && nat_le (length args) most_arguments
is_run_step sizes H.Pause = true
is_run_step sizes H.CheckTermination = true
is_run_step sizes (H.Set name value broadcast persist archive) = is_value value
is_run_step sizes (H.Append name value) = true
is_run_step sizes (H.Sum name into) = true
is_run_step sizes (H.Submit s) = is_submission sizes s

-- a step of a preparation or an analysis: it has to do with datasets alone
abbrev pub is_data_step : HostStep → Bool
is_data_step (H.Kernel function args) = false
is_data_step H.Pause = false
is_data_step H.CheckTermination = false
is_data_step (H.Set name value broadcast persist archive) = is_value value
is_data_step (H.Append name value) = true
is_data_step (H.Sum name into) = true
is_data_step (H.Submit s) = false
