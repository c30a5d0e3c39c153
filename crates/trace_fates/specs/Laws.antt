-- The laws of the fates, in the words of the headline.
use Rattle.std.specs.Prelude.{◌≡◌, ◌⊎◌, ◌↔◌, ℕ, ◌==◌, count_by, pos, ◌<ℤ◌}
use Rattle.rtio_types.specs.declared.event.Event.{Event}
use Rattle.rtio_types.specs.declared.request.Reply.TheVariants as answer
use Rattle.rtio_types.specs.Time.{mu_per_cycle}
use Rattle.rtio_core.specs.Core.{CoreState}
use Rattle.rtio_headline.specs.Headline.{IsAmong, IsPutOut, submitted}
use Rattle.trace_fates.specs.declared.data.Fate.TheVariants.{CameOut, Late}
use Rattle.trace_fates.specs.declared.data.TracedOutput.{TracedOutput}
use Rattle.trace_fates.specs.Asked.{AskedOutput, IsAsked, outputs_of}
use Rattle.trace_fates.specs.Fates.{fate_of, lost, traced_output}
use Rattle.trace_fates.specs.Slack.{slack_of}

-- of the submitted ones exactly those came out that the headline says are put out
abbrev pub TellsSubmitted : CoreState → Type 0
TellsSubmitted core =
    (p : ℕ × Event) → IsAmong p (submitted core.history) → (fate_of core p answer.Done ≡ CameOut) ↔ IsPutOut core p

-- and of all that were asked for
abbrev pub TellsAsked : CoreState → Type 0
TellsAsked core =
    (a : AskedOutput)
    → IsAsked a (outputs_of core.history)
    → (fate_of core a.own a.reply ≡ CameOut) ↔ IsPutOut core a.own

-- exactly those came too late that had less slack than a cycle
abbrev pub TellsLate : CoreState → Type 0
TellsLate core =
    (a : AskedOutput)
    → IsAsked a (outputs_of core.history)
    → (fate_of core a.own a.reply ≡ Late) ↔ (slack_of (traced_output core a) <ℤ pos mu_per_cycle)

-- how many of the lost ones have a number
abbrev pub lost_lines : CoreState → ℕ → ℕ
lost_lines core number = count_by (λ (t : TracedOutput). t.number == number) (lost core)

-- each is put out and isn't among the lost ones, or isn't put out and is there once
abbrev pub IsToldOnce : CoreState → Type 0
IsToldOnce core =
    (a : AskedOutput)
    → IsAsked a (outputs_of core.history)
    → (IsPutOut core a.own × (lost_lines core a.own.0 ≡ 0)) ⊎ ((¬ IsPutOut core a.own) × (lost_lines core a.own.0 ≡ 1))
