-- What the entries of a history are to the lanes.
use Rattle.std.specs.Prelude.{ℕ, Bool, true, false, ◌&&◌, ◌||◌, nat_lt}
use Rattle.rtio_types.specs.declared.event.Event.{Event}
use Rattle.rtio_types.specs.declared.request.Request.TheVariants as ask
use Rattle.rtio_types.specs.declared.request.Reply.{Reply}
use Rattle.rtio_types.specs.declared.request.Reply.TheVariants as answer
use Rattle.rtio_types.specs.Time.{cycle_of}
use Rattle.rtio_core.specs.declared.data.Act.{Act}
use Rattle.rtio_core.specs.declared.data.Act.TheVariants.{Asked}
use Rattle.sim_report.specs.declared.steps.Step.{Step}
use Rattle.sim_report.specs.declared.steps.Step.TheVariants.{Submits, Clears, Other}

abbrev pub is_done_reply : Reply → Bool
is_done_reply answer.Done = true
is_done_reply reply = false

-- an output, and whether it is done; a reset; or anything else
abbrev pub step_in : Act → Step
step_in (Asked (ask.Out event) reply at) = Submits event (is_done_reply reply)
step_in (Asked ask.Reset reply at) = Clears
step_in act = Other

-- the output is done, and its cycle is above the counter
abbrev pub may_pend : Event → Bool → ℕ → Bool
may_pend event is_done counter = is_done && nat_lt counter (cycle_of event)

-- whether an event is still to be put out after a step, by whether one was before it
abbrev pub still_pends : Bool → Step → ℕ → Bool
still_pends before (Submits event is_done) counter = before || may_pend event is_done counter
still_pends before Clears counter = false
still_pends before Other counter = before
