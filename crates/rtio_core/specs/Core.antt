-- A core as its callers see it.
use Rattle.std.specs.Prelude.{ℕ, ◌≤◌, List, [], Option, None, option_map, IsTrue}
use Rattle.rtio_types.specs.declared.request.Request.{Request}
use Rattle.rtio_types.specs.declared.request.Waiting.{Waiting}
use Rattle.rtio_types.specs.Requests.{request_waiting}
use Rattle.rtio_core.specs.declared.data.Config.{Config}
use Rattle.rtio_core.specs.declared.data.Entry.{Entry}
use Rattle.rtio_core.specs.Entries.{is_config_ok, last_at}
use Rattle.rtio_core.specs.Top.{top}
use Rattle.rtio_core.specs.Lawful.{IsLawful, AreFitting}

-- its settings, its history, its counter, and the request that waits
pub record CoreState : Type 0 where
  pub config : Config
  pub history : List Entry
  pub counter : ℕ
  pub waiting : Option Waiting

abbrev pub new_core : Config → CoreState
new_core config = record { config = config; history = []; counter = 0; waiting = None }

-- the request that waits
abbrev pub request_of : CoreState → Option Request
request_of core = option_map request_waiting core.waiting

-- how far its counter goes
abbrev pub core_top : CoreState → ℕ
core_top core = top core.config core.history (request_of core)

-- what is true of every core
pub record IsCore (core : CoreState) : Type 0 where
  pub config : IsTrue (is_config_ok core.config)
  pub lawful : IsLawful core.config core.history
  pub fitting : AreFitting core.history
  pub reached : last_at core.history ≤ core.counter
  pub bounded : core.counter ≤ core_top core
