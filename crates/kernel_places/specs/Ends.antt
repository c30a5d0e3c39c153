-- Where a run stops.
use Rattle.std.specs.Prelude.{◌≡◌, ℕ, ◌-◌, ◌<◌, ◌≤◌, List, [], length, slice_get, Option, Some, None, unwrap_or}
use Rattle.rtio_types.specs.declared.request.Reply.{Reply}
use Rattle.core_isa.specs.declared.code.Code.{Code}
use Rattle.core_isa.specs.declared.code.CodeFunction.{CodeFunction}
use Rattle.core_isa.specs.Machine.{Machine, ends, goes, unanswered}
use Rattle.core_isa.specs.Runs.{boot, step, steps}
use Rattle.core_cpu.specs.Roots.{root_place}
use Rattle.core_cpu.specs.Standing.{Start as Beginning}
use Rattle.kernel_places.specs.declared.place.Place.{Place}

-- the line of the instruction at a place, or 0 where it has none
abbrev pub line_at : List ℕ → ℕ → ℕ
line_at lines place = unwrap_or (slice_get lines place) 0

-- the last of some places
abbrev pub last_of : List Place → Option Place
last_of places = slice_get places (length places - 1)

-- The place of the last instruction with a line that the run begins under these replies. That is where the run stopped,
-- however it ended. An exception that no handler took was raised there first: behind it only instructions without a
-- line are begun, which compare it with the names of handlers or raise it again. A run out of units found none left
-- there. One that lacks a reply, as at the horizon, asks there for what wasn't decided, or plays a recording with such
-- an output. One that returned did so there
pub record EndsFrom (code : Code) (lines : List ℕ) (start : Beginning) (replies : List Reply) (place : Place)
    : Type 0 where
  pub entry : CodeFunction
  pub found : slice_get code.functions start.function ≡ Some entry
  pub count : ℕ
  pub machine : Machine
  pub comes : steps code count (boot entry start.args start.cursor start.units replies) ≡ goes machine
  pub at : machine.top.place ≡ place.at
  pub under : root_place machine ≡ place.root
  pub own : 1 ≤ line_at lines place.at
  pub last : (k : ℕ) (later : Machine)
      → count < k
      → steps code k (boot entry start.args start.cursor start.units replies) ≡ goes later
      → line_at lines later.top.place ≡ 0

-- neither the instruction that asked the last answered request, if there is one, nor any that is begun with no reply
-- left has a line
pub record LacksLine (code : Code) (lines : List ℕ) (start : Beginning) (replies : List Reply) (asked : Option Place)
    : Type 0 where
  pub asks : (place : Place) → asked ≡ Some place → line_at lines place.at ≡ 0
  pub behind : (entry : CodeFunction) (k : ℕ) (later : Machine)
      → slice_get code.functions start.function ≡ Some entry
      → steps code k (boot entry start.args start.cursor start.units replies) ≡ goes later
      → later.replies ≡ []
      → line_at lines later.top.place ≡ 0

-- lines tell where code asks and begins: an instruction that asks for what it gets no reply to has one, and so has the
-- first of each function
pub record TellWhere (code : Code) (lines : List ℕ) : Type 0 where
  pub asks : (m last : Machine) → step code m ≡ ends unanswered last → 1 ≤ line_at lines m.top.place
  pub begins : (index : ℕ) (f : CodeFunction) → slice_get code.functions index ≡ Some f → 1 ≤ line_at lines f.first

-- the run, whose last answered request was asked at the first of these places, stops at the second; or no line tells
-- where
abbrev pub StopsFrom : Code → (lines : List ℕ) → Beginning → List Reply → (asked end : Option Place) → Type 0
StopsFrom code lines start replies asked (Some place) = EndsFrom code lines start replies place
StopsFrom code lines start replies asked None = LacksLine code lines start replies asked
