-- The answered requests of a run, and the outputs among them, each with its place.
use Rattle.std.specs.Prelude.{Bool, true, false, List, map, filter, fold, zip, int_le}
use Rattle.std.specs.Prelude.{Option, Some, None, if◌then◌else◌}
use Rattle.std.specs.List.{list_any}
use Rattle.rtio_types.specs.declared.request.Request.TheVariants as ask
use Rattle.rtio_core.specs.declared.data.Act.{Act}
use Rattle.rtio_core.specs.declared.data.Act.TheVariants.{Asked}
use Rattle.rtio_core.specs.declared.data.Entry.{Entry}
use Rattle.trace_fates.specs.declared.data.Fate.{Fate}
use Rattle.trace_fates.specs.declared.data.Fate.TheVariants as fate
use Rattle.trace_fates.specs.declared.data.TracedOutput.{TracedOutput}
use Rattle.trace_fates.specs.Slack.{slack_of}
use Rattle.trace_report.specs.declared.outputs.Placed.{Placed}
use Rattle.trace_report.specs.declared.place.TextPlace.{TextPlace}

-- the act is an answered request
abbrev pub is_answer : Act → Bool
is_answer (Asked request reply at) = true
is_answer act = false

-- and asks for an output
abbrev pub is_output : Act → Bool
is_output (Asked (ask.Out event) reply at) = true
is_output act = false

-- the answered requests of a history, each with its place
abbrev pub answered : List TextPlace → List Entry → List (TextPlace × Act)
answered places history = zip places (filter is_answer (map (λ (entry : Entry). entry.act) history))

-- the places of the outputs among some answered requests
abbrev pub output_places : List (TextPlace × Act) → List TextPlace
output_places asked = map (λ a. a.0) (filter (λ a. is_output a.1) asked)

-- outputs, each with its place
abbrev pub with_places : List TextPlace → List TracedOutput → List Placed
with_places places outputs = map (λ p. record { place = p.0; output = p.1 }) (zip places outputs)

-- the outputs of a history, with the places of their requests
abbrev pub placed : List TextPlace → List TracedOutput → List Entry → List Placed
placed places outputs history = with_places (output_places (answered places history)) outputs

-- of an output and those before it the one with the least slack, of equals the first
abbrev pub lesser : Option Placed → Placed → Option Placed
lesser None p = Some p
lesser (Some least) p = Some (if int_le (slack_of least.output) (slack_of p.output) then least else p)

abbrev pub least_of : List Placed → Option Placed
least_of outputs = fold lesser None outputs

-- an output is missing, and nobody meant that: it was neither overridden, which is meant, nor too late, which the
-- kernel learns
abbrev pub is_missing : Fate → Bool
is_missing fate.CameOut = false
is_missing fate.Late = false
is_missing (fate.Overridden by) = false
is_missing f = true

abbrev pub misses : List TracedOutput → Bool
misses outputs = list_any (λ (output : TracedOutput). is_missing output.fate) outputs
