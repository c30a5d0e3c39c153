-- What each fate says of an output, in the words of the headline.
use Rattle.std.specs.Prelude.{◌≡◌, ◌≢◌, ℕ, ◌≤◌, ◌<◌}
use Rattle.rtio_types.specs.declared.event.Event.{Event}
use Rattle.rtio_types.specs.declared.request.Reply.{Reply}
use Rattle.rtio_types.specs.declared.request.Reply.TheVariants as answer
use Rattle.rtio_types.specs.Time.{cycle_of}
use Rattle.output_merge.specs.Outputs.{LogLists}
use Rattle.rtio_core.specs.Told.{log_at}
use Rattle.rtio_core.specs.Core.{CoreState}
use Rattle.rtio_headline.specs.Headline.{IsAmong, IsOverridden, submitted}
pub use Rattle.rtio_headline.specs.Headline.{IsPutOut}
use Rattle.trace_fates.specs.declared.data.Fate.{Fate}
use Rattle.trace_fates.specs.declared.data.Fate.TheVariants.{Late, Sequence, Cleared, Collided, Busy}
use Rattle.trace_fates.specs.declared.data.Fate.TheVariants.{Overridden, Pending, CameOut}
use Rattle.trace_fates.specs.Asked.{AskedOutput, IsAsked, outputs_of}
use Rattle.trace_fates.specs.Fates.{fate_of}

-- what the log of a core names
abbrev pub log_of : CoreState → LogLists
log_of core = log_at core.config core.history core.counter

-- a later output overrides another
abbrev pub WasOverridden : CoreState → ℕ × Event → Type 0
WasOverridden core p = IsOverridden (submitted core.history) (log_of core) p

-- and of those that do this is the number of the first
pub record WasFirstOverriddenBy (core : CoreState) (p : ℕ × Event) (by : ℕ) : Type 0 where
  pub over : WasOverridden core p
  pub number : over.other.0 ≡ by
  pub first : (another : WasOverridden core p) → by ≤ another.other.0

-- the reasons that don't hold of an output: that it came too late; nor that it was out of sequence; nor that a reset
-- cleared it; nor that it collided; nor that its channel was busy
abbrev pub IsInTime : Reply → Type 0
IsInTime reply = reply ≢ answer.Underflow

abbrev pub IsInSequence : CoreState → ℕ × Event → Reply → Type 0
IsInSequence core p reply = IsInTime reply × (¬ IsAmong p (log_of core).sequence)

abbrev pub IsUncleared : CoreState → ℕ × Event → Reply → Type 0
IsUncleared core p reply = IsInSequence core p reply × (¬ IsAmong p (log_of core).cleared)

abbrev pub HasNotCollided : CoreState → ℕ × Event → Reply → Type 0
HasNotCollided core p reply = IsUncleared core p reply × (¬ IsAmong p (log_of core).collided)

abbrev pub FoundNothingBusy : CoreState → ℕ × Event → Reply → Type 0
FoundNothingBusy core p reply = HasNotCollided core p reply × (¬ IsAmong p (log_of core).busy)

-- an output that got this reply has this fate: its reason holds, and none that is told before it
abbrev pub HasReason : CoreState → ℕ × Event → Reply → Fate → Type 0
HasReason core p reply Late = reply ≡ answer.Underflow
HasReason core p reply Sequence = IsInTime reply × IsAmong p (log_of core).sequence
HasReason core p reply Cleared = IsInSequence core p reply × IsAmong p (log_of core).cleared
HasReason core p reply Collided = IsUncleared core p reply × IsAmong p (log_of core).collided
HasReason core p reply Busy = HasNotCollided core p reply × IsAmong p (log_of core).busy
HasReason core p reply (Overridden by) = FoundNothingBusy core p reply × WasFirstOverriddenBy core p by
HasReason core p reply Pending =
    FoundNothingBusy core p reply × (¬ WasOverridden core p) × (core.counter < cycle_of p.1)
HasReason core p reply CameOut = IsPutOut core p

-- each output that was asked for has its fate for that reason
abbrev pub TellsWhy : CoreState → Type 0
TellsWhy core =
    (a : AskedOutput)
    → IsAsked a (outputs_of core.history)
    → HasReason core a.own a.reply (fate_of core a.own a.reply)
