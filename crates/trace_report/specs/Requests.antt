-- What the line of an answered request says of it.
use Rattle.std.specs.Prelude.{ℕ, ◌+◌, List, [], ◌∷◌, ◌++◌, length, slice_get, codes, decimal}
use Rattle.std.specs.Prelude.{Option, Some, None, if◌then◌else◌}
use Rattle.std.specs.Fmt.{signed_decimal}
use Rattle.rtio_types.specs.declared.event.Event.{Event}
use Rattle.rtio_types.specs.declared.request.Request.{Request}
use Rattle.rtio_types.specs.declared.request.Request.TheVariants as ask
use Rattle.rtio_types.specs.declared.request.Reply.{Reply}
use Rattle.rtio_types.specs.declared.request.Reply.TheVariants as answer
use Rattle.rtio_types.specs.Recordings.{Recorded}
use Rattle.rtio_types.specs.Time.{reading}
use Rattle.rtio_core.specs.declared.data.Act.{Act}
use Rattle.rtio_core.specs.declared.data.Act.TheVariants.{Asked}
use Rattle.sim_report.specs.Lines.{spaced, value_text}
use Rattle.trace_fates.specs.declared.data.Fate.{Fate}
use Rattle.trace_fates.specs.declared.data.Fate.TheVariants as fate
use Rattle.trace_report.specs.declared.place.TextPlace.{TextPlace}
use Rattle.trace_fates.specs.declared.data.TracedOutput.{TracedOutput}
use Rattle.trace_fates.specs.Slack.{slack_of}
use Rattle.trace_report.specs.Outputs.{is_output}
use Rattle.trace_report.specs.Places.{place_text}

-- how many events a recording has, and its length
abbrev pub recording_text : Recorded → List ℕ
recording_text recording = spaced (length recording.events) ++ codes " " ++ signed_decimal recording.length

-- the word for a reply, behind a blank
abbrev pub reply_text : Reply → List ℕ
reply_text answer.Done = codes " ok"
reply_text answer.Underflow = codes " late"
reply_text (answer.Time moment) = codes " " ++ signed_decimal moment
reply_text (answer.Stamp stamp) = codes " " ++ signed_decimal stamp
reply_text answer.NoEdge = codes " none"
reply_text answer.Overflow = codes " lost"
reply_text (answer.Trace recording) = recording_text recording
reply_text (answer.Handle handle) = codes " " ++ signed_decimal handle
reply_text answer.NoTrace = codes " none"
reply_text answer.OldHandle = codes " old"
reply_text answer.Full = codes " full"

-- a request and what it was answered; an output has more to tell than that
abbrev pub request_text : Request → Reply → List ℕ
request_text (ask.Out event) reply = []
request_text ask.Counter reply = codes " counter"
request_text ask.Reset reply = codes " reset"
request_text (ask.Wait until) reply = codes " wait " ++ signed_decimal until
request_text (ask.Edge channel up_to) reply =
    codes " edge " ++ decimal channel ++ codes " " ++ signed_decimal up_to ++ reply_text reply
request_text (ask.Save name recording) reply = codes " save " ++ name ++ recording_text recording ++ reply_text reply
request_text (ask.Fetch name) reply = codes " fetch " ++ name ++ reply_text reply
request_text (ask.FetchHandle handle) reply = codes " fetch_handle " ++ signed_decimal handle ++ reply_text reply
request_text (ask.Handle name) reply = codes " handle " ++ name ++ reply_text reply
request_text (ask.Erase name) reply = codes " erase " ++ name ++ reply_text reply
request_text (ask.Data name value) reply = codes " data " ++ name ++ codes " " ++ value_text value

-- what the answer to an output was: it came too late, or found no lane, or was taken
abbrev pub how_text : Fate → List ℕ
how_text fate.Late = codes "late"
how_text fate.Sequence = codes "seq"
how_text f = codes "ok"

-- an output with its number
abbrev pub event_text : (number : ℕ) → Event → List ℕ
event_text number event =
    codes " out"
    ++ spaced number
    ++ codes " "
    ++ signed_decimal event.stamp
    ++ spaced event.channel
    ++ spaced event.address
    ++ spaced event.value

-- the slack of an output, and how it was answered
abbrev pub slack_text : TracedOutput → List ℕ
slack_text output = codes " " ++ signed_decimal (slack_of output) ++ codes " " ++ how_text output.fate

abbrev pub output_text : TracedOutput → List ℕ
output_text output = event_text output.number output.event ++ slack_text output

-- an output that there is
abbrev pub found_text : Option TracedOutput → List ℕ
found_text None = []
found_text (Some output) = output_text output

-- a request and what it was answered, or this output
abbrev pub asked_text : Request → Reply → Option TracedOutput → List ℕ
asked_text (ask.Out event) reply output = found_text output
asked_text request reply output = request_text request reply

-- what the counter (cycles) reads, and what was asked
abbrev pub answer_text : Act → Option TracedOutput → List ℕ
answer_text (Asked request reply at) output = spaced (reading at) ++ asked_text request reply output
answer_text act output = []

-- the line of an answered request
abbrev pub request_line : TextPlace → Act → Option TracedOutput → List ℕ
request_line place act output = place_text place ++ answer_text act output ++ codes "\n"

-- how many outputs there are behind an answered request
abbrev pub number_behind : Act → (number : ℕ) → ℕ
number_behind act number = if is_output act then number + 1 else number

-- the lines of answered requests, by all outputs and by how many of these were asked before
abbrev pub request_lines : List TracedOutput → (number : ℕ) → List (TextPlace × Act) → List ℕ
request_lines outputs number [] = []
request_lines outputs number (asked ∷ rest) =
    request_line asked.0 asked.1 (slice_get outputs number)
    ++ request_lines outputs (number_behind asked.1 number) rest
