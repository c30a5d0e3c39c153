-- What the parts of a core are, in terms of its history and counter.
use Rattle.std.specs.Prelude.{◌≡◌, ◌-◌, ◌^◌, Bool, true, IsTrue, min, Option, Some, None}
use Rattle.rtio_types.specs.declared.request.Waiting.{Waiting}
use Rattle.rtio_types.specs.Requests.{is_well_formed, request_waiting}
use Rattle.rtio_core.specs.declared.one_core.Core.TheInside.{Inside}
use Rattle.rtio_input.specs.Past.{InputsStandFor}
use Rattle.rtio_core.specs.Entries.{input_steps, kept_after, lane_steps, last_cursor, limit, open_session}
use Rattle.rtio_core.specs.Reply.{outputs_at}
use Rattle.rtio_core.specs.Played.{IsPlayed}
use Rattle.rtio_core.specs.Core.{CoreState, IsCore}

abbrev pub core_state : Inside → CoreState
core_state a = record { config = a.config; history = a.entries.items; counter = a.count; waiting = a.pending }

-- what waits, if anything does, is a request that a core can be asked
abbrev pub is_formed : Option Waiting → Bool
is_formed None = true
is_formed (Some w) = is_well_formed (request_waiting w)

-- each part is what the history makes of it; the limit stands still at the end of its type
pub record IsCoreInside (a : Inside) : Type 0 where
  pub core : IsCore (core_state a)
  pub pending : open_session a.entries.items ≡ None → a.pending ≡ None
  pub formed : IsTrue (is_formed a.pending)
  pub played : IsPlayed a.outputs a.config.holds a.config.lanes a.config.depth (lane_steps a.entries.items) a.count
  pub inputs : InputsStandFor a.inputs a.config.edges (outputs_at a.config a.entries.items a.count) (input_steps a.entries.items) a.count
  pub store : a.store ≡ kept_after a.config a.entries.items
  pub session : a.session ≡ open_session a.entries.items
  pub cursor : a.cursor ≡ last_cursor a.entries.items
  pub limit : a.limit ≡ min (limit a.config.cost a.entries.items) (2 ^ 64 - 1)
