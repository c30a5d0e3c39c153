-- Which replies fit a request, and which requests a core can be asked.
use Rattle.std.specs.Prelude.{◌^◌, Bool, true, false, ◌&&◌, nat_lt, length, pos, int_le}
use Rattle.rtio_types.specs.declared.request.Request.{Request}
use Rattle.rtio_types.specs.declared.request.Request.TheVariants as Q
use Rattle.rtio_types.specs.declared.request.Reply.{Reply}
use Rattle.rtio_types.specs.declared.request.Reply.TheVariants as R
use Rattle.rtio_types.specs.declared.request.Waiting.{Waiting}
use Rattle.rtio_types.specs.declared.request.Waiting.TheVariants as W
use Rattle.rtio_types.specs.Board.{is_of_board, are_of_board, is_input}

-- the reply is one that the request may get: a stamp is at least 0, and what a recording brings is of the board
abbrev pub fits_request : Request → Reply → Bool
fits_request (Q.Out event) R.Done = true
fits_request (Q.Out event) R.Underflow = true
fits_request Q.Counter (R.Time reading) = true
fits_request Q.Reset (R.Time reading) = true
fits_request (Q.Wait until) R.Done = true
fits_request (Q.Edge channel up_to) (R.Stamp stamp) = int_le (pos 0) stamp
fits_request (Q.Edge channel up_to) R.NoEdge = true
fits_request (Q.Edge channel up_to) R.Overflow = true
fits_request (Q.Save name recording) R.Done = true
fits_request (Q.Save name recording) R.Full = true
fits_request (Q.Fetch name) (R.Trace recording) = are_of_board recording.events
fits_request (Q.Fetch name) R.NoTrace = true
fits_request (Q.FetchHandle handle) (R.Trace recording) = are_of_board recording.events
fits_request (Q.FetchHandle handle) R.OldHandle = true
fits_request (Q.Handle name) (R.Handle handle) = true
fits_request (Q.Handle name) R.NoTrace = true
fits_request (Q.Erase name) R.Done = true
fits_request (Q.Erase name) R.NoTrace = true
fits_request (Q.Data name value) R.Done = true
fits_request request reply = false

-- its events are of the board, a saved recording has fewer than 2^32 of them, and an edge is asked of an input
abbrev pub is_well_formed : Request → Bool
is_well_formed (Q.Out event) = is_of_board event
is_well_formed (Q.Edge channel up_to) = is_input channel
is_well_formed (Q.Save name recording) = nat_lt (length recording.events) (2 ^ 32) && are_of_board recording.events
is_well_formed request = true

-- the request that waits for its reply
abbrev pub request_waiting : Waiting → Request
request_waiting (W.Out event) = Q.Out event
request_waiting (W.Wait until) = Q.Wait until
request_waiting (W.Edge channel up_to) = Q.Edge channel up_to
