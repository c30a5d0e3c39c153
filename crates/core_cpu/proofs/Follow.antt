-- How a run is followed from one moment to the next.
use Rattle.std.proofs.Common.{◌≡◌, ℕ, suc, zero, List, [], ◌∷◌, ◌++◌, Bool, true, false, Some, None, IsTrue, refl, sym, ◌∙◌, ap, subst}
use Rattle.std.specs.Prelude.{◌&&◌}
use Rattle.std.specs.List.{list_all}
use Rattle.std.proofs.lemmas.Bool.{false≢true, and_parts}
use Rattle.std.proofs.lemmas.List.{append-nil}
use Rattle.std.proofs.lemmas.List.Folds.{list_all-append}
use Rattle.rtio_types.specs.Requests.{is_well_formed}
use Rattle.rtio_types.specs.declared.outcome.Outcome.{Outcome}
use Rattle.rtio_types.specs.declared.request.Reply.{Reply}
use Rattle.rtio_types.specs.declared.request.Request.{Request}
use Rattle.core_isa.specs.Machine.{Machine, MachineEnd, unanswered, Next, goes, ends, stuck, cursor_before}
use Rattle.core_isa.specs.Marks.{Marked}
use Rattle.core_isa.specs.Runs.{Gives, boot, step, steps, go_on}
use Rattle.core_isa.specs.declared.code.Code.{Code}
use Rattle.core_isa.proofs.AskedWell.{asks_well}
use Rattle.core_cpu.specs.Moments.{Moment, with_history, end_of, outcome_of, proceed}
use Rattle.core_cpu.specs.Standing.{Start, Stands, RunGives, AsksNext, HasEnded}
use Rattle.core_cpu.specs.declared.phase.Phase.{Phase}
use Rattle.core_cpu.specs.declared.phase.Phase.TheVariants.{Ready, Asking, Over}
use Rattle.core_cpu.specs.declared.phase.Purpose.{Purpose}

-- the machine that goes on, and whether one does
machine_in : Machine → Next → Machine
machine_in m (goes now) = now
machine_in m (ends end now) = m
machine_in m stuck = m

does_go : Next → Bool
does_go (goes m) = true
does_go (ends end m) = false
does_go stuck = false

same_machine : (m now : Machine) → goes m ≡ goes now → m ≡ now
unfolding machine_in
same_machine m now is = ap (machine_in m) is

no_end : (end : MachineEnd) (m now : Machine) → ends end m ≡ goes now → ⊥
unfolding does_go
no_end end m now is = false≢true (ap does_go is)

not_stuck : (now : Machine) → stuck ≡ goes now → ⊥
unfolding does_go
not_stuck now is = false≢true (ap does_go is)

one_step : (code : Code) (next : Next) → go_on next (steps code zero) ≡ next
one_step code (goes m) = refl
one_step code (ends end m) = refl
one_step code stuck = refl

-- one step more, where the first one leads on
further : (code : Code) (n : ℕ) (next : Next) (now : Machine)
    → ((m : Machine) → steps code n m ≡ goes now → steps code (suc n) m ≡ step code now)
    → go_on next (steps code n) ≡ goes now
    → go_on next (steps code (suc n)) ≡ step code now
further code n (goes x) now on is = on x is
further code n (ends end x) now on is = absurd (no_end end x now is)
further code n stuck now on is = absurd (not_stuck now is)

-- one step more
pub steps_more : (code : Code) (n : ℕ) (m now : Machine) → steps code n m ≡ goes now → steps code (suc n) m ≡ step code now
steps_more code zero m now is = one_step code (step code m) ∙ ap (step code) (same_machine m now is)
steps_more code (suc n) m now is = further code n (step code m) now (λ x. steps_more code n x now) is

-- a machine in a phase
abbrev pub at : Code → Machine → Phase → Moment
at code m phase = record { code = code; machine = m; phase = phase }

-- what comes to the same stands at the same point
pub stands_on : (code : Code) (start : Start) (asked further : List Request) (replies : List Reply) (m now : Machine) (phase next : Phase)
    → ((more : List Reply) → proceed phase (with_history m more asked) ≡ proceed next (with_history now more further))
    → Stands start asked replies (at code m phase)
    → Stands start further replies (at code now next)
stands_on code start asked further replies m now phase next same stands =
    record {
      entry = stands.entry;
      found = stands.found;
      units = stands.units;
      count = stands.count;
      leads = λ more. stands.leads more ∙ same more;
    }

-- a step leads to the next point
pub stands_step : (code : Code) (start : Start) (asked further : List Request) (replies : List Reply) (m now : Machine) (next : Phase)
    → ((more : List Reply) → step code (with_history m more asked) ≡ proceed next (with_history now more further))
    → Stands start asked replies (at code m Ready)
    → Stands start further replies (at code now next)
stands_step code start asked further replies m now next same stands =
    record {
      entry = stands.entry;
      found = stands.found;
      units = stands.units;
      count = suc stands.count;
      leads = λ more.
          steps_more
          code
          stands.count
          (boot stands.entry start.args start.cursor start.units (replies ++ more))
          (with_history m more asked)
          (stands.leads more)
          ∙ same more;
    }

-- what a run comes to under the replies so far
leads_now : (code : Code) (start : Start) (asked : List Request) (replies : List Reply) (m : Machine) (phase : Phase) (stands : Stands start asked replies (at code m phase))
    → steps code stands.count (boot stands.entry start.args start.cursor start.units replies) ≡ proceed phase (with_history m [] asked)
leads_now code start asked replies m phase stands =
    ap
    (λ given. steps code stands.count (boot stands.entry start.args start.cursor start.units given))
    (sym (append-nil replies))
    ∙ stands.leads []

-- the run up to a request that waits
pub run_to_request : (code : Code) (start : Start) (asked : List Request) (replies : List Reply) (m : Machine) (purpose : Purpose)
    → m.recording ≡ None
    → Stands start asked replies (at code m (Asking purpose))
    → RunGives code start replies asked unanswered m
run_to_request code start asked replies m purpose closed stands =
    record {
      entry = stands.entry;
      found = stands.found;
      bound = stands.count;
      gives =
          subst
          (λ next. Gives next (record { requests = asked; outcome = unanswered; cursor = m.cursor; units = m.units; count = m.steps }))
          (sym (leads_now code start asked replies m (Asking purpose) stands))
          (ap (λ t. record { requests = asked; outcome = unanswered; cursor = t; units = m.units; count = m.steps }) (sym (ap (λ open_one. cursor_before open_one m.cursor) closed)));
    }

-- a run that has ended
pub run_to_end : (code : Code) (start : Start) (asked : List Request) (replies : List Reply) (m : Machine) (outcome : Outcome)
    → Stands start asked replies (at code m (Over outcome))
    → RunGives code start replies asked (end_of outcome) m
run_to_end code start asked replies m outcome stands =
    record {
      entry = stands.entry;
      found = stands.found;
      bound = stands.count;
      gives =
          subst
          (λ next. Gives next (record { requests = asked; outcome = end_of outcome; cursor = m.cursor; units = m.units; count = m.steps }))
          (sym (leads_now code start asked replies m (Over outcome) stands))
          refl;
    }

-- the last of some requests
last_well : (asked : List Request) (request : Request) → IsTrue (list_all is_well_formed (asked ++ request ∷ [])) → IsTrue (is_well_formed request)
last_well asked request all =
    let both : IsTrue (list_all is_well_formed asked && list_all is_well_formed (request ∷ [])) =
    subst IsTrue (list_all-append is_well_formed asked (request ∷ [])) all
    in
    (and_parts (is_well_formed request) true (and_parts (list_all is_well_formed asked) (list_all is_well_formed (request ∷ [])) both).1).0

-- a CPU that waits asks what the run asks next
pub asks_next : (code : Code) → Marked code → (start : Start) (asked : List Request) (request : Request) (replies : List Reply) (m : Machine) (purpose : Purpose)
    → m.recording ≡ None
    → Stands start (asked ++ request ∷ []) replies (at code m (Asking purpose))
    → AsksNext start asked replies request (at code m (Asking purpose))
asks_next code marked start asked request replies m purpose closed stands =
    let run : RunGives code start replies (asked ++ request ∷ []) unanswered m =
    run_to_request code start (asked ++ request ∷ []) replies m purpose closed stands
    in
    record {
      run = run;
      stands = stands;
      well = λ fit.
          last_well
          asked
          request
          (asks_well
          code
          marked
          start.function
          start.args
          start.cursor
          start.units
          replies
          (record { requests = asked ++ request ∷ []; outcome = unanswered; cursor = m.cursor; units = m.units; count = m.steps })
          stands.units
          run
          fit);
    }

-- a CPU that has ended stands at the end of the run
pub has_ended : (code : Code) (start : Start) (asked : List Request) (replies : List Reply) (m : Machine) (outcome : Outcome)
    → outcome_of (end_of outcome) ≡ Some outcome
    → Stands start asked replies (at code m (Over outcome))
    → HasEnded start asked replies outcome (at code m (Over outcome))
has_ended code start asked replies m outcome is stands =
    record { end = end_of outcome; is = is; run = run_to_end code start asked replies m outcome stands }
