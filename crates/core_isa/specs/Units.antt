-- That each request of a run takes a unit.
use Rattle.std.specs.Prelude.{ℕ, ◌+◌, ◌≤◌, List, length, ℤ}
use Rattle.rtio_types.specs.declared.request.Reply.{Reply}
use Rattle.core_isa.specs.declared.code.Code.{Code}
use Rattle.core_isa.specs.Runs.{Ran, Runs}

-- the requests of a run of the code and the units that it leaves are together at most the units that it began with
abbrev pub RequestsTakeUnits : Code → Type 0
RequestsTakeUnits code =
    (function : ℕ) (args : List ℤ) (cursor : ℤ) (units : ℕ) (replies : List Reply) (ran : Ran)
    → Runs code function args cursor units replies ran
    → length ran.requests + ran.units ≤ units
