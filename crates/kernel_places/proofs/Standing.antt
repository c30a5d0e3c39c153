-- What a processor that runs again comes to.
use Rattle.std.proofs.Common.{◌≡◌, List, [], ◌∷◌, ◌++◌, Some, None, refl, sym, ap, subst, ◌∙◌, append-nil}
use Rattle.std.specs.Prelude.{IsTrue}
use Rattle.rtio_types.specs.declared.outcome.Outcome.{Outcome}
use Rattle.rtio_types.specs.declared.request.Request.{Request}
use Rattle.rtio_types.specs.declared.request.Reply.{Reply}
use Rattle.core_isa.specs.declared.code.Code.{Code}
use Rattle.core_isa.specs.Machine.{Machine, MachineEnd, ends, unanswered, drop_recording}
use Rattle.core_isa.specs.Runs.{Ran, Runs, boot, steps}
use Rattle.core_isa.proofs.Ending.{has_one_run}
use Rattle.core_cpu.specs.declared.phase.Phase.{Phase}
use Rattle.core_cpu.specs.declared.phase.Phase.TheVariants.{Ready, Playing, Asking, Over}
use Rattle.core_cpu.specs.declared.stop.Stop.TheVariants.{Ask}
use Rattle.core_cpu.specs.Moments.{Moment, outcome_of, proceed, with_history}
use Rattle.core_cpu.specs.Roots.{root_place}
use Rattle.core_cpu.specs.Standing.{AsksNext, HasEnded, Stands, Start as Beginning, phase_fits}
use Rattle.kernel_places.specs.declared.place.Place.{Place}
use Rattle.kernel_places.specs.Behind.{AsksAtCount}
use Rattle.kernel_places.specs.Places.{Asks}

-- a machine that waits for a reply and gets none ends
asking_ends : (request : Request) (phase : Phase) → IsTrue (phase_fits (Ask request) phase) → (m : Machine) (asked : List Request)
    → proceed phase (with_history m [] asked) ≡ ends unanswered (drop_recording (with_history m [] asked))
asking_ends request Ready fits m asked = absurd (cc)
asking_ends request (Playing left) fits m asked = absurd (cc)
asking_ends request (Asking purpose) fits m asked = refl
asking_ends request (Over outcome) fits m asked = absurd (cc)

-- a run that asks hasn't ended
pub asks_on : (code : Code) (start : Beginning) (asked : List Request) (request : Request) (replies : List Reply) (now : Moment) (how : Outcome)
    → now.code ≡ code
    → HasEnded start asked replies how now
    → Asks code start replies (asked ++ request ∷ [])
    → ⊥
asks_on code start asked request replies now how same ended asks =
    let ran : Ran = record { requests = asked; outcome = ended.end; cursor = now.machine.cursor; units = now.machine.units; count = now.machine.steps } in
    let runs : Runs code start.function start.args start.cursor start.units replies ran =
    subst (λ (c : Code). Runs c start.function start.args start.cursor start.units replies ran) same ended.run
    in
    let equal : ran ≡ asks.ran = has_one_run code start.function start.args start.cursor start.units replies ran asks.ran runs asks.runs in
    let end : ended.end ≡ unanswered = ap (λ (r : Ran). r.outcome) equal ∙ asks.lacks in
    let none : Some how ≡ None = sym ended.is ∙ ap (λ (e : MachineEnd). outcome_of e) end in
    absurd (cc)

-- it asks the request that it is said to ask, at the place where it stands, and goes on with the reply
pub asks_there : (code : Code) (start : Beginning) (asked : List Request) (request found : Request) (replies : List Reply) (reply got : Reply) (now after : Moment) (place : Place)
    → now.code ≡ code
    → AsksNext start asked replies found now
    → IsTrue (phase_fits (Ask found) now.phase)
    → Asks code start replies (asked ++ request ∷ [])
    → place.at ≡ now.machine.top.place
    → place.root ≡ root_place now.machine
    → got ≡ reply
    → after.machine.steps ≡ now.machine.steps
    → ((start : Beginning) (asked : List Request) (replies : List Reply) → Stands start asked replies now → Stands start asked (replies ++ got ∷ []) after)
    → AsksAtCount code start replies (asked ++ request ∷ []) place after.machine.steps × Stands start (asked ++ request ∷ []) (replies ++ reply ∷ []) after
asks_there code start asked request found replies reply got now after place same next fits asks at under copied count takes =
    let there : List Request = asked ++ found ∷ [] in
    let ran : Ran = record { requests = there; outcome = unanswered; cursor = now.machine.cursor; units = now.machine.units; count = now.machine.steps } in
    let runs : Runs code start.function start.args start.cursor start.units replies ran =
    subst (λ (c : Code). Runs c start.function start.args start.cursor start.units replies ran) same next.run
    in
    let equal : ran ≡ asks.ran = has_one_run code start.function start.args start.cursor start.units replies ran asks.ran runs asks.runs in
    let requests : there ≡ asked ++ request ∷ [] = ap (λ (r : Ran). r.requests) equal ∙ asks.asked in
    let stands : Stands start there replies now = next.stands in
    let m : Machine = with_history now.machine [] there in
    let leads : steps now.code stands.count (boot stands.entry start.args start.cursor start.units (replies ++ [])) ≡ ends unanswered (drop_recording m) =
    stands.leads [] ∙ asking_ends found now.phase fits now.machine there
    in
    let leads' : steps now.code stands.count (boot stands.entry start.args start.cursor start.units replies) ≡ ends unanswered (drop_recording m) =
    subst (λ (r : List Reply). steps now.code stands.count (boot stands.entry start.args start.cursor start.units r) ≡ ends unanswered (drop_recording m)) (append-nil replies) leads
    in
    let told : AsksAtCount now.code start replies there place after.machine.steps = (
      record { entry = stands.entry; found = stands.found; bound = stands.count; machine = drop_recording m; stops = leads'; asked = refl; at = sym at; under = sym under },
      sym count,
    ) in
    let told' : AsksAtCount code start replies there place after.machine.steps =
    subst (λ (c : Code). AsksAtCount c start replies there place after.machine.steps) same told
    in
    let stands' : Stands start there (replies ++ got ∷ []) after = takes start there replies stands in
    let stands'' : Stands start there (replies ++ reply ∷ []) after = subst (λ (r : Reply). Stands start there (replies ++ r ∷ []) after) copied stands' in (
      subst (λ (q : List Request). AsksAtCount code start replies q place after.machine.steps) requests told',
      subst (λ (q : List Request). Stands start q (replies ++ reply ∷ []) after) requests stands'',
    )
