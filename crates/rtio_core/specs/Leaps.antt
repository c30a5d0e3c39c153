-- How far a core goes before anything happens to it.
use Rattle.std.specs.Prelude.{ℕ, if◌then◌else◌, max, min, Option, Some, None}
use Rattle.std.specs.Option.{unwrap_or}
use Rattle.rtio_types.specs.declared.request.Waiting.{Waiting}
use Rattle.rtio_types.specs.declared.request.Waiting.TheVariants as waiting
use Rattle.rtio_types.specs.Requests.{request_waiting}
use Rattle.rtio_types.specs.Time.{counter_reaching, whole_cycles}
use Rattle.sed_lanes.specs.Calls.{wait_of}
use Rattle.output_merge.specs.Live.{live, greatest_cycle}
use Rattle.rtio_core.specs.Core.{CoreState}
use Rattle.rtio_core.specs.Entries.{judged_history, limit, open_session}
use Rattle.rtio_core.specs.Reply.{is_decided, lanes_at, verdict_at}

-- up to which counter a request waits if nothing is put out and no edge comes before, 0 if it doesn't wait
abbrev pub waits_to : CoreState → Option Waiting → ℕ
waits_to core None = 0
waits_to core (Some (waiting.Out e)) =
    unwrap_or (wait_of (lanes_at core.config core.history core.counter) e (verdict_at core.config core.history e core.counter)) 0
waits_to core (Some (waiting.Wait until)) = counter_reaching until
waits_to core (Some (waiting.Edge channel up_to)) =
    if is_decided core.config core.history (request_waiting (waiting.Edge channel up_to)) core.counter then 0 else counter_reaching up_to

-- up to which counter the core goes on then: to the limit or as long as the request waits; with no session open to the
-- last event that is still to be put out; never beyond the horizon
abbrev pub goes_to : CoreState → ℕ
goes_to core = min (reach (open_session core.history)) core.config.horizon
  where
    reach : Option (ℕ × ℕ) → ℕ
    reach (Some running) = max (whole_cycles (limit core.config.cost core.history)) (waits_to core core.waiting)
    reach None = greatest_cycle (live (judged_history core.config core.history))
