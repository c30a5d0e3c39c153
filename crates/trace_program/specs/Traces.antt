-- What the program owes a kernel's text.
use Rattle.std.specs.Prelude.{◌≡◌, ℕ, ◌||◌, List, map, option_map, Option}
use Rattle.rtio_types.specs.declared.outcome.Outcome.{Outcome}
use Rattle.rtio_core.specs.Core.{CoreState}
use Rattle.code_forms.specs.Programs.{code_of_program}
use Rattle.kernel_lines.specs.KernelLines.{program_lines}
use Rattle.kernel_places.specs.declared.place.Place.{Place}
use Rattle.top_calls.specs.declared.finish.Finish.{Finish}
use Rattle.top_calls.specs.Statuses.{status_of}
use Rattle.sim_program.specs.Reports.{finish_of}
use Rattle.sim_program.specs.Runs.{RunsKernel}
use Rattle.sim_report.specs.Pending.{pends}
use Rattle.sim_words.specs.declared.asked.Options.{Options}
use Rattle.trace_fates.specs.Fates.{traced}
use Rattle.trace_report.specs.declared.texts.Ended.{Ended}
use Rattle.trace_report.specs.Outputs.{misses}
use Rattle.trace_report.specs.Trace.{trace_text}
use Rattle.trace_program.specs.Places.{HasPlaces, beginning, text_place}

-- how a run ended, with the last cycle and the units that it had, and where in the text it stopped
abbrev pub ended : (horizon budget : ℕ) → Outcome → (lines : List ℕ) → (end : Option Place) → Ended
ended horizon budget how lines end =
    record { outcome = how; stop = option_map (text_place lines) end; horizon = horizon; budget = budget }

-- the text that tells of a core after a run: its requests with their places, its outputs with their fates, and its end
abbrev pub text_of_run :
    (horizon budget : ℕ) → CoreState → Outcome → (lines : List ℕ) → (asked : List Place) → (end : Option Place) → List ℕ
text_of_run horizon budget core how lines asked end =
    trace_text core.history (map (text_place lines) asked) (traced core) (ended horizon budget how lines end)

-- how a run is finished: as `sim` has it, but unfinished also where the kernel returned and an output is missing that
-- neither was overridden nor came too late
abbrev pub trace_finish : Outcome → CoreState → Finish
trace_finish how core = finish_of how (pends core || misses (traced core))

-- The bytes and the status tell where a run of the kernel that the text is asked each of its requests, and what became
-- of its outputs. The run is one of `sim`, and its code is that of the text. Each request stands at the line of the
-- instruction that asked it
pub record TellsTrace (options : Options) (text written : List ℕ) (status : ℕ) : Type 0 where
  pub core : CoreState
  pub how : Outcome
  pub size : ℕ
  pub steps : ℕ
  pub run : RunsKernel options text core how size steps
  pub is_code : run.counted.code ≡ code_of_program run.program
  pub asked : List Place
  pub end : Option Place
  pub places : HasPlaces
      run.counted.code
      (program_lines run.program)
      (beginning run.main options.budget)
      run.counted.runs.asked
      how
      steps
      asked
      end
  pub told : written ≡ text_of_run options.config.horizon options.budget core how (program_lines run.program) asked end
  pub status_is : status ≡ status_of (trace_finish how core)
