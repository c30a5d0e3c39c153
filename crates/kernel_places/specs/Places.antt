-- At which place of its code a run asks.
use Rattle.std.specs.Prelude.{◌≡◌, ℕ, ◌<◌, ◌^◌, List, [], ◌∷◌, ◌++◌, slice_get, Some}
use Rattle.rtio_types.specs.declared.request.Request.{Request}
use Rattle.rtio_types.specs.declared.request.Reply.{Reply}
use Rattle.rtio_core.specs.declared.data.Act.{Act}
use Rattle.rtio_core.specs.declared.data.Act.TheVariants.{Asked}
use Rattle.rtio_core.specs.declared.data.Entry.{Entry}
use Rattle.core_isa.specs.declared.code.Code.{Code}
use Rattle.core_isa.specs.declared.code.CodeFunction.{CodeFunction}
use Rattle.core_isa.specs.Machine.{Machine, ends, unanswered}
use Rattle.core_isa.specs.Runs.{Ran, Runs, boot, steps}
use Rattle.core_cpu.specs.Moments.{Moment}
use Rattle.core_cpu.specs.Roots.{root_place}
use Rattle.core_cpu.specs.Standing.{Start as Beginning}
use Rattle.core_cpu.specs.declared.phase.Phase.TheVariants.{Ready}
use Rattle.core_session.specs.Sessions.{Answered, requests_of, replies_of}
use Rattle.kernel_places.specs.declared.place.Place.{Place}

-- the run that begins so has begun no instruction yet
pub record IsAtBeginning (start : Beginning) (now : Moment) : Type 0 where
  pub entry : CodeFunction
  pub found : slice_get now.code.functions start.function ≡ Some entry
  pub units : start.units < 2 ^ 32
  pub machine : now.machine ≡ boot entry start.args start.cursor start.units []
  pub ready : now.phase ≡ Ready

-- Under these replies the run that begins so asks these requests and ends with the last one, which gets no reply. The
-- machine then stands at this place: at the instruction that asked it, and under the call that led there. A playback
-- asks for its recording and for its outputs, all at its own place
pub record AsksAt (code : Code) (start : Beginning) (replies : List Reply) (requests : List Request) (place : Place)
    : Type 0 where
  pub entry : CodeFunction
  pub found : slice_get code.functions start.function ≡ Some entry
  pub bound : ℕ
  pub machine : Machine
  pub stops : steps code bound (boot entry start.args start.cursor start.units replies) ≡ ends unanswered machine
  pub asked : machine.asked ≡ requests
  pub at : machine.top.place ≡ place.at
  pub under : root_place machine ≡ place.root

-- Behind these answered requests come those, and these are the places at which the run asked them, in order
abbrev pub AreAskedAt : Code → Beginning → (before asked : List Answered) → (places : List Place) → Type 0
AreAskedAt code start before [] [] = Unit {0}
AreAskedAt code start before (a ∷ asked) (place ∷ places) =
    AsksAt code start (replies_of before) (requests_of before ++ a.request ∷ []) place
    × AreAskedAt code start (before ++ a ∷ []) asked places
AreAskedAt code start before asked places = ⊥

-- the answered requests among some entries
abbrev pub with_answer : Act → List Answered → List Answered
with_answer (Asked request reply at) rest = record { request = request; reply = reply; at = at } ∷ rest
with_answer act rest = rest

abbrev pub answered_in : List Entry → List Answered
answered_in [] = []
answered_in (entry ∷ rest) = with_answer entry.act (answered_in rest)

-- under these replies the run asks these requests and lacks a reply to the last one
pub record Asks (code : Code) (start : Beginning) (replies : List Reply) (requests : List Request) : Type 0 where
  pub ran : Ran
  pub runs : Runs code start.function start.args start.cursor start.units replies ran
  pub lacks : ran.outcome ≡ unanswered
  pub asked : ran.requests ≡ requests

-- behind these answered requests the run asks each of those, under the replies to the ones before it
abbrev pub AsksEach : Code → Beginning → (before asked : List Answered) → Type 0
AsksEach code start before [] = Unit {0}
AsksEach code start before (a ∷ asked) =
    Asks code start (replies_of before) (requests_of before ++ a.request ∷ [])
    × AsksEach code start (before ++ a ∷ []) asked
