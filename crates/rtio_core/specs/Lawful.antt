-- Which histories a core may have.
use Rattle.std.specs.Prelude.{◌≡◌, ℕ, ◌≤◌, List, [], ◌∷◌, ◌++◌, Some, None, IsTrue}
use Rattle.rtio_types.specs.declared.outcome.Outcome.{Outcome}
use Rattle.rtio_types.specs.declared.outcome.Outcome.TheVariants as outcome
use Rattle.rtio_types.specs.Requests.{fits_request, is_well_formed}
use Rattle.rtio_core.specs.declared.data.Config.{Config}
use Rattle.rtio_core.specs.declared.data.Act.{Act}
use Rattle.rtio_core.specs.declared.data.Act.TheVariants.{Start, Asked, End}
use Rattle.rtio_core.specs.declared.data.Entry.{Entry}
use Rattle.rtio_core.specs.Entries.{last_at, last_cursor, open_session}
use Rattle.rtio_core.specs.Reply.{reply_to}
use Rattle.rtio_core.specs.Top.{top}

-- the session that is open is of this chair
abbrev pub IsOpenFor : ℕ → List Entry → Type 0
IsOpenFor chair history = (rid : ℕ) × (open_session history ≡ Some (chair, rid))

-- how late an end may be: one at the horizon by the horizon alone
abbrev pub end_top : Config → List Entry → Outcome → ℕ
end_top config history outcome.Horizon = config.horizon
end_top config history other = top config history None

-- what may come next: a start where no session is open, with the last cursor; a request of the open session's chair
-- with the right reply; or that session's end. None is earlier than the last entry or later than the counter goes
abbrev pub MayFollow : Config → List Entry → ℕ → Act → Type 0
MayFollow config before chair (Start of cursor at) =
    (open_session before ≡ None) × (cursor ≡ last_cursor before) × (last_at before ≤ at) × (at ≤ top config before None)
MayFollow config before chair (Asked request reply at) =
    IsOpenFor chair before × (reply_to config before request at ≡ Some reply) × (last_at before ≤ at) × (at ≤ top config before (Some request))
MayFollow config before chair (End outcome cursor at) =
    IsOpenFor chair before × (last_at before ≤ at) × (at ≤ end_top config before outcome)

-- each entry may follow those before it
abbrev pub IsLawfulAfter : Config → List Entry → List Entry → Type 0
IsLawfulAfter config before [] = Unit {0}
IsLawfulAfter config before (entry ∷ rest) =
    MayFollow config before entry.chair entry.act × IsLawfulAfter config (before ++ entry ∷ []) rest

abbrev pub IsLawful : Config → List Entry → Type 0
IsLawful config history = IsLawfulAfter config [] history

-- a request is one that a core can be asked, and its reply fits it
abbrev pub IsActFitting : Act → Type 0
IsActFitting (Asked request reply at) = IsTrue (is_well_formed request) × IsTrue (fits_request request reply)
IsActFitting act = Unit {0}

abbrev pub AreFitting : List Entry → Type 0
AreFitting [] = Unit {0}
AreFitting (entry ∷ rest) = IsActFitting entry.act × AreFitting rest
