-- Where in the text a run asked, and where it stopped.
use Rattle.std.specs.Prelude.{◌≡◌, ◌≢◌, ◌⊎◌, ℕ, ◌-◌, ◌<◌, ◌^◌, List, [], pos, Option, Some, None, option_map}
use Rattle.rtio_types.specs.declared.outcome.Outcome.{Outcome}
use Rattle.rtio_types.specs.declared.outcome.Outcome.TheVariants.{Returned}
use Rattle.core_isa.specs.declared.code.Code.{Code}
use Rattle.core_cpu.specs.Standing.{Start as Beginning}
use Rattle.core_session.specs.Sessions.{Answered, replies_of}
use Rattle.kernel_places.specs.declared.place.Place.{Place}
use Rattle.kernel_places.specs.Ends.{EndsFrom, line_at}
use Rattle.kernel_places.specs.Places.{AreAskedAt}
use Rattle.trace_report.specs.declared.place.TextPlace.{TextPlace}

-- the line of the call in `main` under which an instruction runs; none where `main` runs it itself
abbrev pub main_line : (lines : List ℕ) → Place → Option ℕ
main_line lines place = option_map (line_at lines) place.root

-- where in the text an instruction stands, by the line of each
abbrev pub text_place : (lines : List ℕ) → Place → TextPlace
text_place lines place = record { line = line_at lines place.at; main = main_line lines place }

-- how the run of a function without arguments begins: at cursor 0, with so many units
abbrev pub beginning : (function units : ℕ) → Beginning
beginning function units = record { function = function; args = []; cursor = pos 0; units = units }

-- The run that begins so asked the requests that were answered so at these places, in order, and stopped at that one.
-- So it ended, and so many instructions it began. Where it returned, and where this count stands at its end, no place is
-- told at which the run stopped
pub record HasPlaces (code : Code) (lines : List ℕ) (start : Beginning) (answered : List Answered) (how : Outcome)
    (steps : ℕ) (asked : List Place) (end : Option Place) : Type 0 where
  pub requests : AreAskedAt code start [] answered asked
  pub stop : how ≢ Returned
      → steps < 2 ^ 64 - 1
      → (place : Place) × (end ≡ Some place) × EndsFrom code lines start (replies_of answered) place
  pub untold : (how ≡ Returned) ⊎ (steps ≡ 2 ^ 64 - 1) → end ≡ None
