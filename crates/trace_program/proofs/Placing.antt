-- The places of a run of a main function, from those of its session.
use Rattle.std.proofs.Common.{◌≡◌, ℕ, ◌-◌, ◌<◌, ◌⊎◌, inl, inr, List, [], Bool, true, false, Option, None, Vec, Global, sym, ap, subst}
use Rattle.std.specs.Prelude.{◌≢◌, ◌^◌, pos}
use Rattle.rtio_types.specs.declared.outcome.Outcome.{Outcome}
use Rattle.rtio_types.specs.declared.outcome.Outcome.TheVariants.{Returned}
use Rattle.rtio_core.specs.declared.data.Entry.{Entry}
use Rattle.rtio_core.specs.declared.data.StartOf.{StartOf}
use Rattle.core_isa.specs.declared.code.Code.{Code}
use Rattle.core_cpu.specs.Standing.{HasEntry, Start as Beginning}
use Rattle.core_session.specs.Sessions.{Answered, replies_of}
use Rattle.kernel_places.specs.declared.place.Place.{Place}
use Rattle.kernel_places.specs.declared.runs.RunPlaces.{RunPlaces}
use Rattle.kernel_places.specs.Ends.{StopsFrom, last_of}
use Rattle.kernel_places.specs.Laws.{EndsAreTold}
use Rattle.kernel_places.specs.OfSessions.{AreOfSession}
use Rattle.kernel_places.specs.OfSessions as S
use Rattle.kernel_places.specs.Places.{AreAskedAt}
use Rattle.sim_program.specs.Runs.{start_of}
use Rattle.trace_program.specs.Places.{HasPlaces, beginning}

-- the entries of the session that a start begins
pub session-of : (code : Code) (budget : ℕ) (of : StartOf) (entries history : List Entry) (asked : List Answered) (steps : ℕ)
    → of ≡ start_of code.main → entries ≡ history
    → AreOfSession code budget (start_of code.main) (pos 0) history asked steps
    → AreOfSession code budget of (pos 0) entries asked steps
session-of code budget of entries history asked steps of_is entries_are s =
    subst (λ (x : StartOf). AreOfSession code budget x (pos 0) entries asked steps) (sym of_is)
    (subst (λ (l : List Entry). AreOfSession code budget (start_of code.main) (pos 0) l asked steps) (sym entries_are) s)

pub placed : (code : Code) (lines : List ℕ) (budget : ℕ) (of : StartOf) (asked : List Answered) (how : Outcome) (steps : ℕ) (seeks : Bool) (places : RunPlaces)
    → of ≡ start_of code.main
    → HasEntry code code.main []
    → EndsAreTold code lines
    → AreAskedAt code (S.beginning of (pos 0) budget) [] asked places.asked.items
    → (seeks ≡ true → steps < 2 ^ 64 - 1 → StopsFrom code lines (S.beginning of (pos 0) budget) (replies_of asked) (last_of places.asked.items) places.end)
    → (seeks ≡ false → places.end ≡ None)
    → (how ≢ Returned → steps < 2 ^ 64 - 1 → seeks ≡ true)
    → (how ≡ Returned → seeks ≡ false)
    → (steps ≡ 2 ^ 64 - 1 → seeks ≡ false)
    → HasPlaces code lines (beginning code.main budget) asked how steps places.asked.items places.end
placed code lines budget of asked how steps seeks places of_is entry told at stops unsought sought returned stands =
    let start : Beginning = beginning code.main budget in
    let begins : S.beginning of (pos 0) budget ≡ start = ap (λ (x : StartOf). S.beginning x (pos 0) budget) of_is in
    let at' : AreAskedAt code start [] asked places.asked.items = subst (λ (b : Beginning). AreAskedAt code b [] asked places.asked.items) begins at in
    record {
      requests = at';
      stop = λ other short.
          told start asked places.asked.items places.end entry at'
          (subst (λ (b : Beginning). StopsFrom code lines b (replies_of asked) (last_of places.asked.items) places.end) begins (stops (sought other short) short));
      untold = λ which. elim which [
        | inl is ↦ unsought (returned is)
        | inr is ↦ unsought (stands is)
      ];
    }
