-- The right reply to a request, by the history before it and the counter.
use Rattle.std.specs.Prelude.{ℕ, Bool, List, pos, int_le, if◌then◌else◌, Option, Some, None, is_some}
use Rattle.rtio_types.specs.declared.event.Event.{Event}
use Rattle.rtio_types.specs.declared.request.Request.{Request}
use Rattle.rtio_types.specs.declared.request.Request.TheVariants as ask
use Rattle.rtio_types.specs.declared.request.Reply.{Reply}
use Rattle.rtio_types.specs.declared.request.Reply.TheVariants as answer
use Rattle.rtio_types.specs.Time.{reading}
use Rattle.sed_lanes.specs.Lanes.{LanesState}
use Rattle.sed_lanes.specs.Verdict.{Verdict, Underflow, Lane, Sequence, Undecided, verdict}
use Rattle.sed_lanes.specs.Judged.{lanes_after}
use Rattle.output_merge.specs.Outputs.{outputs}
use Rattle.rtio_input.specs.Channel.{Unread, edge_reply}
use Rattle.rtio_input.specs.Past.{unread_at}
use Rattle.rtio_core.specs.declared.data.Config.{Config}
use Rattle.rtio_core.specs.declared.data.Entry.{Entry}
use Rattle.rtio_core.specs.Entries.{input_steps, judged_history, kept_after}
use Rattle.rtio_core.specs.Recordings.{recordings_reply}

-- the lanes at a counter
abbrev pub lanes_at : Config → List Entry → ℕ → LanesState
lanes_at config history counter = lanes_after config.lanes config.depth (judged_history config history) counter

-- the verdict on an event at a counter
abbrev pub verdict_at : Config → List Entry → Event → ℕ → Verdict
verdict_at config history e counter = verdict (lanes_at config history counter) e counter

-- the events put out up to a counter
abbrev pub outputs_at : Config → List Entry → ℕ → List Event
outputs_at config history counter = outputs config.holds (judged_history config history) counter

-- what an input has unread at a counter
abbrev pub unread_in : Config → List Entry → ℕ → ℕ → Unread
unread_in config history counter channel =
    unread_at config.edges (outputs_at config history counter) (input_steps history) counter channel

-- an event out of sequence is done with too
abbrev pub reply_to_event : Verdict → Option Reply
reply_to_event Underflow = Some answer.Underflow
reply_to_event (Lane k) = Some answer.Done
reply_to_event Sequence = Some answer.Done
reply_to_event Undecided = None

-- the reply that is right at the counter, None where the request isn't decided yet
abbrev pub reply_to : Config → List Entry → Request → ℕ → Option Reply
reply_to config history (ask.Out e) counter = reply_to_event (verdict_at config history e counter)
reply_to config history ask.Counter counter = Some (answer.Time (pos (reading counter)))
reply_to config history ask.Reset counter = Some (answer.Time (pos (reading counter)))
reply_to config history (ask.Wait until) counter = if int_le until (pos (reading counter)) then Some answer.Done else None
reply_to config history (ask.Edge channel up_to) counter = edge_reply (unread_in config history counter channel) counter up_to
reply_to config history (ask.Save name recording) counter = Some (recordings_reply (kept_after config history) (ask.Save name recording))
reply_to config history (ask.Fetch name) counter = Some (recordings_reply (kept_after config history) (ask.Fetch name))
reply_to config history (ask.FetchHandle handle) counter = Some (recordings_reply (kept_after config history) (ask.FetchHandle handle))
reply_to config history (ask.Handle name) counter = Some (recordings_reply (kept_after config history) (ask.Handle name))
reply_to config history (ask.Erase name) counter = Some (recordings_reply (kept_after config history) (ask.Erase name))
reply_to config history (ask.Data name value) counter = Some answer.Done

-- whether the request is decided at the counter
abbrev pub is_decided : Config → List Entry → Request → ℕ → Bool
is_decided config history request counter = is_some (reply_to config history request counter)
