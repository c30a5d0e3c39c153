-- What is told of outputs before all is known of them.
use Rattle.std.specs.Prelude.{◌≡◌, ℕ, ◌+◌, Bool, true, false, ◌&&◌, nat_eq, nat_le, List, [], ◌∷◌}
use Rattle.std.specs.Prelude.{ℤ, if◌then◌else◌, Option, Some, None}
use Rattle.std.specs.HashMap.{HashMap, get}
use Rattle.std.specs.Ordering.{int_eq}
use Rattle.rtio_types.specs.declared.event.Event.{Event}
use Rattle.rtio_types.specs.declared.request.Reply.{Reply}
use Rattle.rtio_types.specs.Board.{replaces}
use Rattle.rtio_types.specs.Time.{cycle_of}
use Rattle.output_merge.specs.Outputs.{LogLists}
use Rattle.trace_fates.specs.declared.data.Fate.{Fate}
use Rattle.trace_fates.specs.declared.data.Fate.TheVariants.{Late, Sequence, Cleared, Collided, Busy}
use Rattle.trace_fates.specs.declared.data.Fate.TheVariants.{Overridden, Pending, CameOut}
use Rattle.trace_fates.specs.declared.data.TracedOutput.{TracedOutput}
use Rattle.trace_fates.specs.Asked.{AskedOutput}
use Rattle.trace_fates.specs.Fates.{fate_if, is_late, is_listed}

-- the numbers rise from the first by one
abbrev pub AreNumberedFrom : ℕ → List TracedOutput → Type 0
AreNumberedFrom first [] = Unit {0}
AreNumberedFrom first (t ∷ rest) = (t.number ≡ first) × AreNumberedFrom (first + 1) rest

-- the fate of an output that the log doesn't name and nothing overrides
abbrev pub first_fate : Reply → Event → (counter : ℕ) → Fate
first_fate reply e counter = fate_if (is_late reply) false false false false None (nat_le (cycle_of e) counter)

-- what is told of an output by that
abbrev pub asked_output : (counter : ℕ) → AskedOutput → TracedOutput
asked_output counter a =
    record { number = a.own.0; event = a.own.1; at = a.at; fate = first_fate a.reply a.own.1 counter }

-- it came too late
abbrev pub is_late_fate : Fate → Bool
is_late_fate Late = true
is_late_fate _ = false

-- a fate of one that is named, or not, but for one that came too late
abbrev pub fate_named : (fate old : Fate) → (is_named : Bool) → Fate
fate_named fate old is_named = if is_late_fate old then old else (if is_named then fate else old)

-- an output, with a fate if a list names it
abbrev pub marked : Fate → List (ℕ × Event) → TracedOutput → TracedOutput
marked fate events t = record t { fate = fate_named fate t.fate (is_listed (t.number, t.event) events) }

-- an output with the fate that a log gives it: of several the first
abbrev pub named : LogLists → TracedOutput → TracedOutput
named log t =
    marked Sequence log.sequence (marked Cleared log.cleared (marked Collided log.collided (marked Busy log.busy t)))

-- it may override another: it didn't come too late, and isn't out of sequence
abbrev pub may_override : Fate → Bool
may_override Late = false
may_override Sequence = false
may_override _ = true

-- the channel and the stamp of an event, and whether two events have the same
abbrev pub place_of : Event → ℕ × ℤ
place_of e = (e.channel, e.stamp)

abbrev pub is_there : ℕ × ℤ → ℕ × ℤ → Bool
is_there place other = nat_eq place.0 other.0 && int_eq place.1 other.1

-- the number of the first one there that may override another
abbrev pub first_at : List TracedOutput → ℕ × ℤ → Option ℕ
first_at [] place = None
first_at (t ∷ rest) place =
    if may_override t.fate && is_there (place_of t.event) place then Some t.number else first_at rest place

-- the number that a map has at a channel and stamp
abbrev pub known : {S : Type 0} → HashMap (ℕ × ℤ) ℕ S → ℕ × ℤ → Option ℕ
known {S} later place = get is_there later place

-- the fate of one that would come out, where a later one has its channel and stamp
abbrev pub fate_over : (replacing : Bool) → Fate → Option ℕ → Fate
fate_over true Pending (Some n) = Overridden n
fate_over true CameOut (Some n) = Overridden n
fate_over replacing old by = old

abbrev pub over_fate : TracedOutput → Option ℕ → Fate
over_fate t by = fate_over (replaces t.event.channel) t.fate by

-- an output with the fate that those behind it give it
abbrev pub over : TracedOutput → List TracedOutput → TracedOutput
over t rest = record t { fate = over_fate t (first_at rest (place_of t.event)) }

-- the outputs, each with the fate that those behind it give it
abbrev pub with_over : List TracedOutput → List TracedOutput
with_over [] = []
with_over (t ∷ rest) = over t rest ∷ with_over rest
