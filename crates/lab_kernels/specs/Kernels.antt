-- One session of a kernel, and how it stands in a core's history.
use Rattle.std.specs.Prelude.{◌≡◌, ℕ, List, [], ◌∷◌, ◌++◌, filter_map, ℤ, Option, Some, None}
use Rattle.rtio_types.specs.declared.outcome.Outcome.{Outcome}
use Rattle.rtio_types.specs.declared.outcome.Outcome.TheVariants as outcome
use Rattle.rtio_types.specs.declared.request.Request.{Request}
use Rattle.rtio_types.specs.declared.request.Request.TheVariants as ask
use Rattle.rtio_core.specs.declared.data.Act.{Act}
use Rattle.rtio_core.specs.declared.data.Act.TheVariants.{Start, Asked, End}
use Rattle.rtio_core.specs.declared.data.Config.{Config}
use Rattle.rtio_core.specs.declared.data.Entry.{Entry}
use Rattle.rtio_core.specs.declared.data.StartOf.{StartOf}
use Rattle.rtio_core.specs.Entries.{last_at, last_cursor}
use Rattle.rtio_core.specs.Top.{top}
use Rattle.sched_state.specs.declared.entry.DataSet.{DataSet}
use Rattle.sched_state.specs.declared.entry.KernelResult.{KernelResult}
use Rattle.core_session.specs.Sessions.{Answered, entry_of, open_entries, requests_of}

-- one session: what it runs, the counters at its start and end, its answered
-- requests, how and with which cursor it ended, and how many instructions it took
pub record KernelRun : Type 0 where
  pub of : StartOf
  pub started : ℕ
  pub asked : List Answered
  pub how : Outcome
  pub cursor : ℤ
  pub ended : ℕ
  pub steps : ℕ

-- its entries up to the end, behind these
abbrev pub entries_until_end : (chair : ℕ) → (before : List Entry) → KernelRun → List Entry
entries_until_end chair before k = open_entries chair k.of (last_cursor before) k.started k.asked

-- its entries
abbrev pub session_entries : (chair : ℕ) → (before : List Entry) → KernelRun → List Entry
session_entries chair before k = entries_until_end chair before k ++ entry_of chair (End k.how k.cursor k.ended) ∷ []

-- an end at the horizon stands there; where others stand is free
abbrev pub IsEndInTime : Config → Outcome → (at : ℕ) → Type 0
IsEndInTime config outcome.Horizon at = at ≡ config.horizon
IsEndInTime config how at = Unit {0}

-- each request stands at the greatest counter that it may have
abbrev pub IsAskedAtTop : Config → (before : List Entry) → Act → Type 0
IsAskedAtTop config before (Start of cursor at) = Unit {0}
IsAskedAtTop config before (Asked request reply at) = at ≡ top config before (Some request)
IsAskedAtTop config before (End how cursor at) = IsEndInTime config how at

-- each of some entries, behind those before
abbrev pub AreAskedAtTop : Config → (before : List Entry) → List Entry → Type 0
AreAskedAtTop config before [] = Unit {0}
AreAskedAtTop config before (entry ∷ rest) = IsAskedAtTop config before entry.act × AreAskedAtTop config (before ++ entry ∷ []) rest

-- no cycle passes before an end, unless it is one at the horizon
abbrev pub IsPromptEnd : (before : List Entry) → Outcome → (at : ℕ) → Type 0
IsPromptEnd before outcome.Horizon at = Unit {0}
IsPromptEnd before how at = at ≡ last_at before

-- nor before a start: both have the counter of the entry before, 0 for the first
abbrev pub IsPrompt : (before : List Entry) → Act → Type 0
IsPrompt before (Start of cursor at) = at ≡ last_at before
IsPrompt before (Asked request reply at) = Unit {0}
IsPrompt before (End how cursor at) = IsPromptEnd before how at

-- each of some entries, behind those before
abbrev pub ArePrompt : (before : List Entry) → List Entry → Type 0
ArePrompt before [] = Unit {0}
ArePrompt before (entry ∷ rest) = IsPrompt before entry.act × ArePrompt (before ++ entry ∷ []) rest

-- the dataset that a request sets
abbrev pub set_by : Request → Option DataSet
set_by (ask.Data name value) = Some (record { name = name; value = value })
set_by request = None

-- the datasets that some requests set, in order
abbrev pub sets_of : List Request → List DataSet
sets_of requests = filter_map set_by requests

-- what is reported of a session: how it ended, the datasets that it set, in order, and how many instructions it took
abbrev pub result_of : KernelRun → KernelResult
result_of k = record { outcome = k.how; sets = sets_of (requests_of k.asked); steps = k.steps }
