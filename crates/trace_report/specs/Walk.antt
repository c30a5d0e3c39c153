-- A walk through a history, entry by entry.
use Rattle.std.specs.Prelude.{ℕ, ◌+◌, List, [], slice_get, Option, Some, None, if◌then◌else◌}
use Rattle.rtio_core.specs.declared.data.Act.{Act}
use Rattle.trace_fates.specs.declared.data.TracedOutput.{TracedOutput}
use Rattle.trace_report.specs.declared.outputs.Placed.{Placed}
use Rattle.trace_report.specs.declared.passed.Passed.{Passed}
use Rattle.trace_report.specs.declared.place.TextPlace.{TextPlace}
use Rattle.trace_report.specs.Outputs.{is_answer, is_output}
use Rattle.trace_report.specs.Requests.{number_behind, request_line}

-- an output with a place, where there are both
abbrev pub both : Option TextPlace → Option TracedOutput → Option Placed
both (Some place) (Some output) = Some (record { place = place; output = output })
both place output = None

-- the output that an act is, where it is one and has a place
abbrev pub next_placed : List TextPlace → List TracedOutput → Passed → Act → Option Placed
next_placed places outputs passed act =
    if is_output act then both (slice_get places passed.asked) (slice_get outputs passed.outputs) else None

-- the line of an act that has this place, where it is an answered request
abbrev pub line_at : TextPlace → Option TracedOutput → Act → List ℕ
line_at place output act = if is_answer act then request_line place act output else []

-- and where it has a place
abbrev pub line_with : Option TextPlace → Option TracedOutput → Act → List ℕ
line_with None output act = []
line_with (Some place) output act = line_at place output act

abbrev pub act_text : List TextPlace → List TracedOutput → Passed → Act → List ℕ
act_text places outputs passed act = line_with (slice_get places passed.asked) (slice_get outputs passed.outputs) act

-- what is passed behind an act
abbrev pub passed_by : Passed → Act → Passed
passed_by passed act = record {
  asked = if is_answer act then passed.asked + 1 else passed.asked;
  outputs = number_behind act passed.outputs;
}
