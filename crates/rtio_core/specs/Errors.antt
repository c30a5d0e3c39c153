-- That no error comes without a reason.
use Rattle.std.specs.Prelude.{◌≢◌, ℕ, ◌<◌, List, [], ◌∷◌, ◌++◌, length, nat_lt, IsTrue}
use Rattle.std.specs.List.{list_all}
use Rattle.rtio_types.specs.declared.event.Event.{Event}
use Rattle.rtio_types.specs.declared.request.Request.TheVariants as ask
use Rattle.rtio_types.specs.declared.request.Reply.{Reply}
use Rattle.rtio_types.specs.declared.request.Reply.TheVariants as answer
use Rattle.rtio_types.specs.Time.{cycle_of, whole_cycles}
use Rattle.sed_lanes.specs.Verdict.{Sequence}
use Rattle.output_merge.specs.Live.{live}
use Rattle.output_merge.specs.Busy.{busy, hold_of}
use Rattle.output_merge.specs.Groups.{collisions, group_of, keepers}
use Rattle.rtio_core.specs.declared.data.Act.{Act}
use Rattle.rtio_core.specs.declared.data.Act.TheVariants.{Asked}
use Rattle.rtio_core.specs.declared.data.Config.{Config}
use Rattle.rtio_core.specs.declared.data.Entry.{Entry}
use Rattle.rtio_core.specs.Entries.{limit, judged_history}
use Rattle.rtio_core.specs.Reply.{verdict_at}
use Rattle.sed_lanes.specs.Accepted.{accepted_since_clearing}

-- an event later than every one accepted since the last reset isn't out of sequence
abbrev pub SequenceHasReason : Config → List Entry → Event → ℕ → Type 0
SequenceHasReason config before e at =
    IsTrue (list_all (λ p. nat_lt (cycle_of p.1) (cycle_of e)) (accepted_since_clearing (judged_history config before))) → verdict_at config before e at ≢ Sequence

-- an event that collides isn't alone in its group
abbrev pub CollisionsHaveReason : Config → List Entry → Type 0
CollisionsHaveReason config history =
    let events = live (judged_history config history) in IsTrue (list_all (λ p. nat_lt 1 (length (group_of p.1 events))) (collisions events))

-- an event that finds its channel busy is of one that takes more than one cycle
abbrev pub BusyHaveReason : Config → List Entry → Type 0
BusyHaveReason config history =
    IsTrue (list_all (λ p. nat_lt 1 (hold_of config.holds p.1.channel)) (busy config.holds (keepers (live (judged_history config history)))))

-- an event later than the limit doesn't underflow
abbrev pub UnderflowHasReason : Config → List Entry → Event → Reply → Type 0
UnderflowHasReason config before e reply = whole_cycles (limit config.cost before) < cycle_of e → reply ≢ answer.Underflow

-- so it is of an entry behind others
abbrev pub HasReason : Config → (before : List Entry) → Act → Type 0
HasReason config before (Asked (ask.Out e) reply at) = SequenceHasReason config before e at × UnderflowHasReason config before e reply
HasReason config before act = Unit {0}

-- and of each entry behind those before it
abbrev pub HaveReasons : Config → (before : List Entry) → List Entry → Type 0
HaveReasons config before [] = Unit {0}
HaveReasons config before (entry ∷ rest) = HasReason config before entry.act × HaveReasons config (before ++ entry ∷ []) rest
