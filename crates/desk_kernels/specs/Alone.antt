-- Whose a core is while a session is open.
use Rattle.std.specs.Prelude.{◌≡◌, ℕ, List, [], ◌++◌, Some}
use Rattle.rtio_core.specs.declared.data.Config.{Config}
use Rattle.rtio_core.specs.declared.data.Entry.{Entry}
use Rattle.rtio_core.specs.Booked.{booked_acts}
use Rattle.rtio_core.specs.Entries.{open_session}
use Rattle.rtio_core.specs.Lawful.{IsLawful}
use Rattle.desk_rule.specs.Histories.{acts_of}

-- while a session is open no chair but its own adds entries: where that chair has added none since, there are none
abbrev pub OpenSessionsAreAlone : Type 0
OpenSessionsAreAlone =
    (config : Config) (before more : List Entry) (chair rid : ℕ) → IsLawful config (before ++ more)
    → open_session before ≡ Some (chair, rid) → acts_of chair (booked_acts more) ≡ [] → more ≡ []

-- a session that is open for a chair was open for it when the chair added its last entry
abbrev pub OpenSessionsWereOpenBefore : Type 0
OpenSessionsWereOpenBefore =
    (config : Config) (before more : List Entry) (chair rid : ℕ) → IsLawful config (before ++ more)
    → open_session (before ++ more) ≡ Some (chair, rid) → acts_of chair (booked_acts more) ≡ [] → open_session before ≡ Some (chair, rid)
