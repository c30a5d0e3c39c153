-- What became of each output that was asked for, as tests that compute.
use Rattle.std.specs.Prelude.{ℕ, Bool, true, false, ◌&&◌, ◌||◌, not, nat_lt, nat_le, ◌==◌, List, [], ◌∷◌, map, filter}
use Rattle.std.specs.Prelude.{if◌then◌else◌, Option, Some, None}
use Rattle.std.specs.Ordering.{int_eq}
use Rattle.rtio_types.specs.declared.event.Event.{Event}
use Rattle.rtio_types.specs.declared.request.Reply.{Reply}
use Rattle.rtio_types.specs.declared.request.Reply.TheVariants as answer
use Rattle.rtio_types.specs.Board.{replaces}
use Rattle.rtio_types.specs.Time.{cycle_of}
use Rattle.output_merge.specs.Outputs.{LogLists}
use Rattle.rtio_core.specs.Told.{log_at}
use Rattle.rtio_core.specs.Core.{CoreState}
use Rattle.rtio_headline.specs.Headline.{submitted}
use Rattle.trace_fates.specs.declared.data.Fate.{Fate}
use Rattle.trace_fates.specs.declared.data.Fate.TheVariants.{Late, Sequence, Cleared, Collided, Busy}
use Rattle.trace_fates.specs.declared.data.Fate.TheVariants.{Overridden, Pending, CameOut}
use Rattle.trace_fates.specs.declared.data.TracedOutput.{TracedOutput}
use Rattle.trace_fates.specs.Asked.{AskedOutput, outputs_of}

-- the same event
abbrev pub is_event : Event → Event → Bool
is_event e f = (e.channel == f.channel) && (e.address == f.address) && (e.value == f.value) && int_eq e.stamp f.stamp

-- the same event with the same number
abbrev pub is_same : ℕ × Event → ℕ × Event → Bool
is_same p q = (p.0 == q.0) && is_event p.1 q.1

-- a list names an event with its number
abbrev pub is_listed : ℕ × Event → List (ℕ × Event) → Bool
is_listed p [] = false
is_listed p (q ∷ rest) = is_same p q || is_listed p rest

-- a later event of the channel with the stamp that isn't out of sequence overrides one, where the channel replaces
abbrev pub overrides : LogLists → (p other : ℕ × Event) → Bool
overrides log p other =
    replaces p.1.channel
    && not (is_listed other log.sequence)
    && nat_lt p.0 other.0
    && (other.1.channel == p.1.channel)
    && int_eq other.1.stamp p.1.stamp

-- the number of the first one that does
abbrev pub overridden_by : LogLists → List (ℕ × Event) → ℕ × Event → Option ℕ
overridden_by log [] p = None
overridden_by log (other ∷ rest) p = if overrides log p other then Some other.0 else overridden_by log rest p

-- by these tests, the first that holds
abbrev pub fate_if : (late sequence cleared collided busy : Bool) → (by : Option ℕ) → (reached : Bool) → Fate
fate_if true s c k b by r = Late
fate_if false true c k b by r = Sequence
fate_if false false true k b by r = Cleared
fate_if false false false true b by r = Collided
fate_if false false false false true by r = Busy
fate_if false false false false false (Some n) r = Overridden n
fate_if false false false false false None false = Pending
fate_if false false false false false None true = CameOut

-- the reply says that it came too late
abbrev pub is_late : Reply → Bool
is_late answer.Underflow = true
is_late reply = false

-- the fate of an event with its number, by its reply, what the log names, what was submitted, and the counter
abbrev pub fate_by : LogLists → (events : List (ℕ × Event)) → (counter : ℕ) → ℕ × Event → Reply → Fate
fate_by log events counter p reply =
    fate_if
    (is_late reply)
    (is_listed p log.sequence)
    (is_listed p log.cleared)
    (is_listed p log.collided)
    (is_listed p log.busy)
    (overridden_by log events p)
    (nat_le (cycle_of p.1) counter)

-- what became of an output of a core with its number, which got this reply
abbrev pub fate_of : CoreState → ℕ × Event → Reply → Fate
fate_of core p reply =
    fate_by (log_at core.config core.history core.counter) (submitted core.history) core.counter p reply

-- what is told of an output
abbrev pub traced_output : CoreState → AskedOutput → TracedOutput
traced_output core a = record { number = a.own.0; event = a.own.1; at = a.at; fate = fate_of core a.own a.reply }

-- each output that was asked for and answered, with its fate, by number
abbrev pub traced : CoreState → List TracedOutput
traced core = map (traced_output core) (outputs_of core.history)

-- the output came out
abbrev pub is_out : Fate → Bool
is_out CameOut = true
is_out _ = false

-- those that came out, and those that didn't
abbrev pub came_out : CoreState → List TracedOutput
came_out core = filter (λ (t : TracedOutput). is_out t.fate) (traced core)

abbrev pub lost : CoreState → List TracedOutput
lost core = filter (λ (t : TracedOutput). not (is_out t.fate)) (traced core)
