-- What a request on recordings is answered, and what it leaves.
use Rattle.std.specs.Prelude.{◌≡◌, Bool, true, false, if◌then◌else◌, IsTrue, ℤ, Option, Some, None}
use Rattle.rtio_types.specs.declared.request.Request.{Request}
use Rattle.rtio_types.specs.declared.request.Request.TheVariants as ask
use Rattle.rtio_types.specs.declared.request.Reply.{Reply}
use Rattle.rtio_types.specs.declared.request.Reply.TheVariants as answer
use Rattle.rtio_types.specs.Recordings.{Recorded}
use Rattle.rtio_types.specs.Requests.{fits_request}
use Rattle.dma_store.specs.Kept.{KeptState, handle_of, is_full_for, is_kept, recording_handled, recording_named}
use Rattle.rtio_core.specs.Entries.{kept_by}

abbrev pub is_on_recordings : Request → Bool
is_on_recordings (ask.Save name recording) = true
is_on_recordings (ask.Fetch name) = true
is_on_recordings (ask.FetchHandle handle) = true
is_on_recordings (ask.Handle name) = true
is_on_recordings (ask.Erase name) = true
is_on_recordings other = false

-- the recording, and where there is none, another reply
abbrev pub trace_or : Reply → Option Recorded → Reply
trace_or otherwise (Some recording) = answer.Trace recording
trace_or otherwise None = otherwise

-- the handle, and where there is none, another reply
abbrev pub handle_or : Reply → Option ℤ → Reply
handle_or otherwise (Some handle) = answer.Handle handle
handle_or otherwise None = otherwise

-- the right reply, by what is kept
abbrev pub recordings_reply : KeptState → Request → Reply
recordings_reply kept (ask.Save name recording) = if is_full_for kept name then answer.Full else answer.Done
recordings_reply kept (ask.Fetch name) = trace_or answer.NoTrace (recording_named kept name)
recordings_reply kept (ask.FetchHandle handle) = trace_or answer.OldHandle (recording_handled kept handle)
recordings_reply kept (ask.Handle name) = handle_or answer.NoTrace (handle_of kept name)
recordings_reply kept (ask.Erase name) = if is_kept kept name then answer.Done else answer.NoTrace
recordings_reply kept other = answer.Done

-- the right reply twice, for the asker and for the history; and the store has changed by it
pub record IsServed (old : KeptState) (request : Request) (replies : Reply × Reply) (new : KeptState) : Type 0 where
  pub right : replies.0 ≡ recordings_reply old request
  pub same : replies.1 ≡ replies.0
  pub fits : IsTrue (fits_request request replies.0)
  pub left : new ≡ kept_by old request replies.0
