-- That runs of marked code ask nothing that isn't well formed.
use Rattle.std.specs.Prelude.{◌≡◌, ℕ, ◌^◌, ◌<◌, List, ℤ, IsTrue, slice_get, Some}
use Rattle.std.specs.List.{list_all}
use Rattle.rtio_types.specs.declared.request.Request.{Request}
use Rattle.rtio_types.specs.declared.request.Reply.{Reply}
use Rattle.rtio_types.specs.Requests.{fits_request, is_well_formed}
use Rattle.core_isa.specs.declared.code.Code.{Code}
use Rattle.core_isa.specs.Runs.{Ran, Runs}

-- each reply that a request got fits it
abbrev pub RepliesFit : (asked : List Request) → (replies : List Reply) → Type 0
RepliesFit asked replies =
    (k : ℕ) (request : Request) (reply : Reply)
    → slice_get asked k ≡ Some request
    → slice_get replies k ≡ Some reply
    → IsTrue (fits_request request reply)

-- under replies that fit, each request of a run is well formed
abbrev pub AsksWell : Code → Type 0
AsksWell code =
    (function : ℕ) (args : List ℤ) (cursor : ℤ) (units : ℕ) (replies : List Reply) (ran : Ran)
    → units < 2 ^ 32
    → Runs code function args cursor units replies ran
    → RepliesFit ran.requests replies
    → IsTrue (list_all is_well_formed ran.requests)
