-- What the calls of a CPU come to, in the words of its moments.
use Rattle.std.proofs.Common.{◌≡◌, List, [], ◌∷◌, ◌++◌, true, false, Option, Some, IsTrue, refl, sym, ◌∙◌, ap, subst}
use Rattle.std.specs.Prelude.{option_to_list}
use Rattle.std.proofs.lemmas.Bool.{false≢true}
use Rattle.std.proofs.lemmas.List.{append-nil}
use Rattle.rtio_types.specs.declared.outcome.Outcome.{Outcome}
use Rattle.rtio_types.specs.declared.request.Reply.{Reply}
use Rattle.rtio_types.specs.declared.request.Request.{Request}
use Rattle.core_isa.specs.Runs.{step}
use Rattle.core_cpu.specs.Moments.{Moment, with_history, proceed, end_of, outcome_of, is_asking, is_playing, is_ready}
use Rattle.core_cpu.specs.Settled.{CanAsk}
use Rattle.core_cpu.specs.Standing.{Start, Stands, AsksNext, HasEnded}
use Rattle.core_cpu.specs.declared.phase.Phase.{Phase}
use Rattle.core_cpu.specs.declared.phase.Phase.TheVariants.{Ready, Playing, Asking, Over}
use Rattle.core_cpu.proofs.Follow.{at, stands_on, stands_step, asks_next, has_ended}

-- a phase that is ready
pub ready_is : (phase : Phase) → IsTrue (is_ready phase) → phase ≡ Ready
ready_is Ready ready = refl
ready_is (Playing left) ready = absurd (false≢true ready)
ready_is (Asking purpose) ready = absurd (false≢true ready)
ready_is (Over outcome) ready = absurd (false≢true ready)

-- a phase that is over is none of the others
pub over_isnt_ready : (phase : Phase) (outcome : Outcome) → phase ≡ Over outcome → is_ready phase ≡ false
over_isnt_ready phase outcome over = ap is_ready over

pub over_isnt_playing : (phase : Phase) (outcome : Outcome) → phase ≡ Over outcome → is_playing phase ≡ false
over_isnt_playing phase outcome over = ap is_playing over

abbrev outcome_in : Outcome → Phase → Outcome
outcome_in other (Over outcome) = outcome
outcome_in other phase = other

-- and it has one outcome
pub same_outcome : {one other : Outcome} → Over one ≡ Over other → one ≡ other
same_outcome {one = one} same = ap (outcome_in one) same

-- what comes of a moment that is over, where only one that is ready goes on
pub over_stays : (old before now : Moment) (outcome : Outcome) → old.phase ≡ Over outcome → before ≡ old → (is_ready before.phase ≡ false → now ≡ before) → now ≡ old
over_stays old before now outcome over same still =
    still (ap (λ (m : Moment). is_ready m.phase) same ∙ over_isnt_ready old.phase outcome over) ∙ same

pub over_isnt_gone_on : (old before now : Moment) (outcome : Outcome) → old.phase ≡ Over outcome → before ≡ old → (is_ready before.phase ≡ false → now ≡ before) → is_ready now.phase ≡ true → ⊥
over_isnt_gone_on old before now outcome over same still ready =
    let stays : now ≡ old = over_stays old before now outcome over same still in
    false≢true (sym (ap (λ (m : Moment). is_ready m.phase) stays ∙ over_isnt_ready old.phase outcome over) ∙ ready)

-- a moment that comes to the same with one request more at most
pub stands_same : (start : Start) (asked : List Request) (replies : List Reply) (old new : Moment) (asks : Option Request)
    → new.code ≡ old.code
    → ((more : List Reply) (before : List Request)
    → proceed old.phase (with_history old.machine more before)
    ≡ proceed new.phase (with_history new.machine more (before ++ option_to_list asks)))
    → Stands start asked replies old
    → Stands start (asked ++ option_to_list asks) replies new
stands_same start asked replies old new asks code goes stands =
    subst
    (λ c. Stands start (asked ++ option_to_list asks) replies (at c new.machine new.phase))
    (sym code)
    (stands_on old.code start asked (asked ++ option_to_list asks) replies old.machine new.machine old.phase new.phase (λ more. goes more asked) stands)

-- the same after a step
pub stands_stepped : (start : Start) (asked : List Request) (replies : List Reply) (old new : Moment) (asks : Option Request)
    → IsTrue (is_ready old.phase)
    → new.code ≡ old.code
    → ((more : List Reply) (before : List Request)
    → step old.code (with_history old.machine more before)
    ≡ proceed new.phase (with_history new.machine more (before ++ option_to_list asks)))
    → Stands start asked replies old
    → Stands start (asked ++ option_to_list asks) replies new
stands_stepped start asked replies old new asks ready code goes stands =
    subst
    (λ c. Stands start (asked ++ option_to_list asks) replies (at c new.machine new.phase))
    (sym code)
    (stands_step
    old.code
    start
    asked
    (asked ++ option_to_list asks)
    replies
    old.machine
    new.machine
    new.phase
    (λ more. goes more asked)
    (subst (λ phase. Stands start asked replies (at old.code old.machine phase)) (ready_is old.phase ready) stands))

-- where it asked nothing
pub nothing_asked : (start : Start) (asked : List Request) (replies : List Reply) (now : Moment)
    → Stands start (asked ++ []) replies now
    → Stands start asked replies now
nothing_asked start asked replies now stands = subst (λ requests. Stands start requests replies now) (append-nil asked) stands

-- a moment that asks
pub asks_at : (start : Start) (asked : List Request) (request : Request) (replies : List Reply) (now : Moment)
    → is_asking now.phase ≡ true
    → CanAsk now
    → Stands start (asked ++ request ∷ []) replies now
    → AsksNext start asked replies request now
asks_at start asked request replies now asking can stands = by_phase now.phase asking stands
  where
    by_phase : (phase : Phase) → is_asking phase ≡ true → Stands start (asked ++ request ∷ []) replies (at now.code now.machine phase)
        → AsksNext start asked replies request (at now.code now.machine phase)
    by_phase Ready asking stands = absurd (false≢true asking)
    by_phase (Playing left) asking stands = absurd (false≢true asking)
    by_phase (Asking purpose) asking stands =
        asks_next now.code can.marked start asked request replies now.machine purpose can.closed stands
    by_phase (Over outcome) asking stands = absurd (false≢true asking)

-- a moment that is over
pub ended_at : (start : Start) (asked : List Request) (replies : List Reply) (now : Moment) (outcome : Outcome)
    → now.phase ≡ Over outcome
    → outcome_of (end_of outcome) ≡ Some outcome
    → Stands start asked replies now
    → HasEnded start asked replies outcome now
ended_at start asked replies now outcome over proper stands =
    subst
    (λ phase. HasEnded start asked replies outcome (at now.code now.machine phase))
    (sym over)
    (has_ended
    now.code
    start
    asked
    replies
    now.machine
    outcome
    proper
    (subst (λ phase. Stands start asked replies (at now.code now.machine phase)) over stands))
