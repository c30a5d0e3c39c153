-- What a CPU stands for: the machine, and what it does next.
use Rattle.std.specs.Prelude.{List, Bool, true, false, Option, Some, None}
use Rattle.rtio_types.specs.Replies.{number_in}
use Rattle.rtio_types.specs.declared.outcome.Outcome.{Outcome}
use Rattle.rtio_types.specs.declared.outcome.Outcome.TheVariants as O
use Rattle.rtio_types.specs.declared.request.Reply.{Reply}
use Rattle.rtio_types.specs.declared.request.Request.{Request}
use Rattle.core_isa.specs.Machine.{Machine, MachineEnd, returned, raised, budget}
use Rattle.core_isa.specs.Machine.{unanswered, Next, goes, ends, push, next, answered}
use Rattle.core_isa.specs.Steps.{play_events, play_reply}
use Rattle.core_isa.specs.declared.code.Code.{Code}
use Rattle.core_cpu.specs.declared.phase.Phase.{Phase}
use Rattle.core_cpu.specs.declared.phase.Phase.TheVariants.{Ready, Playing, Asking, Over}
use Rattle.core_cpu.specs.declared.phase.Purpose.{Purpose}
use Rattle.core_cpu.specs.declared.phase.Purpose.TheVariants.{Number, Nothing, Fetched, Played}

-- the code, the machine without its requests and replies, and what comes next
pub record Moment : Type 0 where
  pub code : Code
  pub machine : Machine
  pub phase : Phase

-- the machine after these requests, with these replies to come
abbrev pub with_history : Machine → (replies : List Reply) (asked : List Request) → Machine
with_history m replies asked = record m { replies = replies; asked = asked }

-- what the machine does with a reply
abbrev pub take_reply : Purpose → Reply → Machine → Next
take_reply Number reply m = push (number_in reply) m
take_reply Nothing reply m = next m
take_reply Fetched reply m = play_reply reply m
take_reply (Played left) reply m = play_events left.events left.length m

-- how the machine ends, as an outcome: a run of a CPU doesn't end with the horizon
abbrev pub end_of : Outcome → MachineEnd
end_of O.Returned = returned
end_of (O.Raised x) = raised x
end_of O.Budget = budget
end_of O.Horizon = unanswered

-- the outcome of an end; a run that lacks a reply has none
abbrev pub outcome_of : MachineEnd → Option Outcome
outcome_of returned = Some O.Returned
outcome_of (raised x) = Some (O.Raised x)
outcome_of budget = Some O.Budget
outcome_of unanswered = None

-- what a phase leads to
abbrev pub proceed : Phase → Machine → Next
proceed Ready m = goes m
proceed (Playing left) m = play_events left.events left.length m
proceed (Asking purpose) m = answered m.replies (take_reply purpose) m
proceed (Over outcome) m = ends (end_of outcome) m

-- what the machine comes to after these requests, with these replies to come
abbrev pub resume : Moment → (replies : List Reply) (asked : List Request) → Next
resume moment replies asked = proceed moment.phase (with_history moment.machine replies asked)

-- a request waits for its reply
abbrev pub is_asking : Phase → Bool
is_asking (Asking purpose) = true
is_asking phase = false

-- a recording is played
abbrev pub is_playing : Phase → Bool
is_playing (Playing left) = true
is_playing phase = false

-- the instruction at its place comes next
abbrev pub is_ready : Phase → Bool
is_ready Ready = true
is_ready phase = false
