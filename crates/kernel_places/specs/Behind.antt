-- Where a processor stands that has run again up to the last reply of a session.
use Rattle.std.specs.Prelude.{◌≡◌, ℕ, List, [], ◌∷◌, ◌++◌, Option, Some, None, false}
use Rattle.rtio_types.specs.declared.request.Request.{Request}
use Rattle.rtio_types.specs.declared.request.Reply.{Reply}
use Rattle.core_isa.specs.declared.code.Code.{Code}
use Rattle.core_cpu.specs.Moments.{Moment, is_asking}
use Rattle.core_cpu.specs.Standing.{Stands, Start as Beginning}
use Rattle.kernel_places.specs.declared.place.Place.{Place}
use Rattle.kernel_places.specs.Places.{AsksAt, IsAtBeginning}

-- so it asks, with so many instructions begun
abbrev pub AsksAtCount : Code → Beginning → List Reply → List Request → Place → (count : ℕ) → Type 0
AsksAtCount code start replies requests place count =
    (asks : AsksAt code start replies requests place) × (asks.machine.steps ≡ count)

-- The last of these replies was to a request that was asked at this place, and no instruction has begun since; or there
-- is none yet, and none has begun at all
abbrev pub ComesFrom : Beginning → List Reply → (asked : Option Place) → Moment → Type 0
ComesFrom start replies None now = (replies ≡ []) × IsAtBeginning start now
ComesFrom start replies (Some place) now =
    (before : List Reply) × (reply : Reply) × (requests : List Request)
    × (replies ≡ before ++ reply ∷ [])
    × AsksAtCount now.code start before requests place now.machine.steps

-- so it stands in its run, and no request waits
pub record IsBehind (start : Beginning) (replies : List Reply) (asked : Option Place) (now : Moment) : Type 0 where
  pub idle : is_asking now.phase ≡ false
  pub requests : List Request
  pub stands : Stands start requests replies now
  pub comes : ComesFrom start replies asked now
