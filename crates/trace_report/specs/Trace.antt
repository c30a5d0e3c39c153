-- The trace of a run, as bytes.
use Rattle.std.specs.Prelude.{Bool, not, ℕ, List, ◌++◌, flat_map, filter, length}
use Rattle.rtio_core.specs.declared.data.Entry.{Entry}
use Rattle.trace_fates.specs.declared.data.TracedOutput.{TracedOutput}
use Rattle.trace_fates.specs.Fates.{is_out}
use Rattle.trace_report.specs.declared.outputs.Placed.{Placed}
use Rattle.trace_report.specs.declared.place.TextPlace.{TextPlace}
use Rattle.trace_report.specs.declared.texts.Ended.{Ended}
use Rattle.trace_report.specs.Outputs.{answered, least_of, placed}
use Rattle.trace_report.specs.Requests.{request_lines}
use Rattle.trace_report.specs.Lines.{counts_line, end_text, least_line, lost_line}

-- an output came out, or it was lost
abbrev pub came_out : Placed → Bool
came_out p = is_out p.output.fate

abbrev pub was_lost : Placed → Bool
was_lost p = not (is_out p.output.fate)

-- the lines behind those of the requests: of the lost outputs, of the least slack, of the end, and of the counts
abbrev pub closing_text : List Placed → Ended → List ℕ
closing_text outputs ended =
    flat_map lost_line outputs
    ++ least_line (least_of outputs)
    ++ end_text ended.horizon ended.budget ended.outcome ended.stop
    ++ counts_line (length outputs) (length (filter came_out outputs)) (length (filter was_lost outputs))

-- the lines of the answered requests of a history, and those behind them
abbrev pub trace_text : List Entry → List TextPlace → List TracedOutput → Ended → List ℕ
trace_text history places outputs ended =
    request_lines outputs 0 (answered places history) ++ closing_text (placed places outputs history) ended
