-- The replies of a core, by what is asked.
use Rattle.std.specs.Prelude.{ℕ, Bool, true, false, pos}
use Rattle.rtio_types.specs.declared.request.Request.{Request}
use Rattle.rtio_types.specs.declared.request.Request.TheVariants as ask
use Rattle.rtio_types.specs.declared.request.Reply.{Reply}
use Rattle.rtio_types.specs.declared.request.Reply.TheVariants as answer
use Rattle.rtio_types.specs.Time.{reading}

-- readings and resets tell the counter, the others are done
abbrev pub plain_reply : Request → ℕ → Reply
plain_reply ask.Counter counter = answer.Time (pos (reading counter))
plain_reply ask.Reset counter = answer.Time (pos (reading counter))
plain_reply other counter = answer.Done

-- the request is a reading, a wait or a dataset: no output, no input and no recording has a part in it
abbrev pub is_plain : Request → Bool
is_plain ask.Counter = true
is_plain (ask.Wait until) = true
is_plain (ask.Data name value) = true
is_plain other = false

-- the reply is one to a request for an edge
abbrev pub is_edge_reply : Reply → Bool
is_edge_reply (answer.Stamp x) = true
is_edge_reply answer.NoEdge = true
is_edge_reply answer.Overflow = true
is_edge_reply other = false
