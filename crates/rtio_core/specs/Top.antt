-- How far the counter may go.
use Rattle.std.specs.Prelude.{ℕ, zero, suc, ◌+◌, ◌-◌, Bool, true, false, List, min, max, Option, Some, None}
use Rattle.rtio_types.specs.declared.request.Request.{Request}
use Rattle.rtio_types.specs.Time.{whole_cycles}
use Rattle.output_merge.specs.Live.{live, greatest_cycle}
use Rattle.rtio_core.specs.declared.data.Config.{Config}
use Rattle.rtio_core.specs.declared.data.Entry.{Entry}
use Rattle.rtio_core.specs.Entries.{last_at, open_session, limit, judged_history}
use Rattle.rtio_core.specs.Reply.{is_decided}

-- the least number from here on that passes the test, and the last one if none of so many does
abbrev pub least_from : (ℕ → Bool) → ℕ → ℕ → ℕ
least_from test from zero = from
least_from test from (suc more) = elim (test from) [ true ↦ from | false ↦ least_from test (from + 1) more ]

-- the least counter, not below the last entry's, at which the request
-- is decided, and the horizon if it is decided at none before
abbrev pub first_decided : Config → List Entry → Request → ℕ
first_decided config history request =
    least_from (is_decided config history request) (last_at history) (config.horizon - last_at history)

-- how far the counter goes in an open session: to the limit, and on until the waiting request is decided
abbrev pub top_in_session : Config → List Entry → Option Request → ℕ
top_in_session config history None = whole_cycles (limit config.cost history)
top_in_session config history (Some request) = max (whole_cycles (limit config.cost history)) (first_decided config history request)

-- how far it goes with no session open: until every accepted event that wasn't cleared is put out
abbrev pub top_between : Config → List Entry → ℕ
top_between config history = max (last_at history) (greatest_cycle (live (judged_history config history)))

-- the greatest counter before the next entry
abbrev pub top : Config → List Entry → Option Request → ℕ
top config history waiting = min config.horizon (reach (open_session history))
  where
    reach : Option (ℕ × ℕ) → ℕ
    reach (Some running) = top_in_session config history waiting
    reach None = top_between config history
