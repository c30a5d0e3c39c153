-- The law of the trace: it leaves out no output.
use Rattle.std.specs.Prelude.{◌≡◌, List, ◌++◌, map, filter, flat_map, length}
use Rattle.rtio_core.specs.declared.data.Entry.{Entry}
use Rattle.rtio_core.specs.Core.{CoreState}
use Rattle.trace_fates.specs.declared.data.TracedOutput.{TracedOutput}
use Rattle.trace_fates.specs.Fates.{lost, traced}
use Rattle.trace_fates.specs.Fates as fates
use Rattle.trace_report.specs.declared.outputs.Placed.{Placed}
use Rattle.trace_report.specs.declared.place.TextPlace.{TextPlace}
use Rattle.trace_report.specs.declared.texts.Ended.{Ended}
use Rattle.trace_report.specs.Lines.{counts_line, end_text, least_line, lost_text}
use Rattle.trace_report.specs.Outputs.{answered, is_answer, least_of, placed}
use Rattle.trace_report.specs.Requests.{request_lines}
use Rattle.trace_report.specs.Trace.{trace_text, was_lost}

-- there are as many places as answered requests in a history
abbrev pub HaveAllPlaces : List TextPlace → List Entry → Type 0
HaveAllPlaces places history = length places ≡ length (filter is_answer (map (λ (entry : Entry). entry.act) history))

-- outputs without their places
abbrev pub outputs_in : List Placed → List TracedOutput
outputs_in outputs = map (λ (p : Placed). p.output) outputs

-- the outputs of a core, with the places of their requests
abbrev pub told : List TextPlace → CoreState → List Placed
told places core = placed places (traced core) core.history

-- The outputs that are told with their places are all that were answered, in order, and the lost ones among them are
-- all that were lost. In the text each of the lost ones has a line and no other output has one, and the last line counts
-- the outputs of the core
pub record LeavesNoneOut (places : List TextPlace) (core : CoreState) : Type 0 where
  pub outputs : outputs_in (told places core) ≡ traced core
  pub missing : outputs_in (filter was_lost (told places core)) ≡ lost core
  pub text : (ended : Ended)
      → trace_text core.history places (traced core) ended
      ≡ request_lines (traced core) 0 (answered places core.history)
      ++ (flat_map lost_text (filter was_lost (told places core))
      ++ least_line (least_of (told places core))
      ++ end_text ended.horizon ended.budget ended.outcome ended.stop
      ++ counts_line (length (traced core)) (length (fates.came_out core)) (length (lost core)))
