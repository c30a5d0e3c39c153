-- Arrivals in order, taken one by one.
use Rattle.std.proofs.Common.{◌≡◌, ℕ, zero, suc, ◌+◌, ◌<◌, ◌≤◌, Bool, true, false, List, [], ◌∷◌, cond, filter, fold, drop, length, refl, sym, ◌∙◌, ap, arith}
use Rattle.std.specs.Prelude.{IsTrue, not, nat_le, ◌&&◌}
use Rattle.std.specs.Prelude.{slice_index_or}
use Rattle.std.proofs.Common.{add-one, drop-cons}
use Rattle.std.proofs.lemmas.Bool.{leb-true, le-leb}
use Rattle.std.proofs.lemmas.Bool.Decides.{nat_tests}
use Rattle.exp_model.specs.declared.arrival.Arrival.{Arrival}
use Rattle.sched_state.specs.Arrivals.{has_come, arrived}
use Rattle.sched_state.specs.State.{SchedState}
use Rattle.sched_state.specs.Boards.{no_arrival}
use Rattle.exp_model.specs.Sessions.{are_in_order}

-- no arrival comes before this moment, nor before an earlier one
abbrev pub in_order_from : ℕ → List Arrival → Bool
in_order_from from [] = true
in_order_from from (arrival ∷ arrivals) = nat_le from arrival.at && in_order_from arrival.at arrivals

both-first : (a b : Bool) → (a && b) ≡ true → a ≡ true
both-first true b h = refl
both-first false b h = h

both-second : (a b : Bool) → (a && b) ≡ true → b ≡ true
both-second true b h = h
both-second false b h = absurd (cc)

-- arrivals in order from a moment are in order from 0
from-zero : (from : ℕ) (arrivals : List Arrival) → IsTrue (in_order_from from arrivals) → IsTrue (in_order_from 0 arrivals)
from-zero from [] h = refl
from-zero from (arrival ∷ rest) h =
    let more : in_order_from arrival.at rest ≡ true = both-second (nat_le from arrival.at) (in_order_from arrival.at rest) h in
    let least : nat_le 0 arrival.at ≡ true = le-leb 0 arrival.at (omega arith) in
    rw (least, more) refl

pub order-drop : (n : ℕ) (arrivals : List Arrival) → IsTrue (in_order_from 0 arrivals) → IsTrue (in_order_from 0 (drop n arrivals))
order-drop zero arrivals h = h
order-drop (suc n) [] h = refl
order-drop (suc n) (arrival ∷ rest) h =
    order-drop n rest (from-zero arrival.at rest (both-second (nat_le 0 arrival.at) (in_order_from arrival.at rest) h))

later : (clock : ℕ) (arrival : Arrival) → clock < arrival.at → has_come clock arrival ≡ false
later clock arrival h = grind (arith, nat_tests)

-- of arrivals after a later moment none has come
none-come : (clock from : ℕ) (arrivals : List Arrival) → clock < from → IsTrue (in_order_from from arrivals)
    → (filter (has_come clock) arrivals ≡ []) × (filter (λ arrival. not (has_come clock arrival)) arrivals ≡ arrivals)
none-come clock from [] h order = (refl, refl)
none-come clock from (arrival ∷ rest) h order =
    let first : from ≤ arrival.at = leb-true from arrival.at (both-first (nat_le from arrival.at) (in_order_from arrival.at rest) order) in
    let waits : has_come clock arrival ≡ false = later clock arrival (omega (arith, h, first)) in
    let further = none-come clock arrival.at rest (omega (arith, h, first)) (both-second (nat_le from arrival.at) (in_order_from arrival.at rest) order) in (
      ap (λ b. cond b (arrival ∷ filter (has_come clock) rest) (filter (has_come clock) rest)) waits ∙ further.0,
      ap (λ b. cond (not b) (arrival ∷ filter (λ a. not (has_come clock a)) rest) (filter (λ a. not (has_come clock a)) rest)) waits ∙ ap (λ xs. arrival ∷ xs) further.1,
    )

-- where the first is later, so are all
pub at-stop : (clock : ℕ) (arrival : Arrival) (rest : List Arrival) → clock < arrival.at → IsTrue (in_order_from 0 (arrival ∷ rest))
    → (filter (has_come clock) (arrival ∷ rest) ≡ []) × (filter (λ a. not (has_come clock a)) (arrival ∷ rest) ≡ arrival ∷ rest)
at-stop clock arrival rest h order =
    let waits : has_come clock arrival ≡ false = later clock arrival h in
    let further = none-come clock arrival.at rest h (both-second (nat_le 0 arrival.at) (in_order_from arrival.at rest) order) in (
      ap (λ b. cond b (arrival ∷ filter (has_come clock) rest) (filter (has_come clock) rest)) waits ∙ further.0,
      ap (λ b. cond (not b) (arrival ∷ filter (λ a. not (has_come clock a)) rest) (filter (λ a. not (has_come clock a)) rest)) waits ∙ ap (λ xs. arrival ∷ xs) further.1,
    )

-- where it has come, it is the first of those
pub at-step : (clock : ℕ) (arrival : Arrival) (rest : List Arrival) → arrival.at ≤ clock
    → (filter (has_come clock) (arrival ∷ rest) ≡ arrival ∷ filter (has_come clock) rest) × (filter (λ a. not (has_come clock a)) (arrival ∷ rest) ≡ filter (λ a. not (has_come clock a)) rest)
at-step clock arrival rest h =
    let come : has_come clock arrival ≡ true = le-leb arrival.at clock h in (
      ap (λ b. cond b (arrival ∷ filter (has_come clock) rest) (filter (has_come clock) rest)) come,
      ap (λ b. cond (not b) (arrival ∷ filter (λ a. not (has_come clock a)) rest) (filter (λ a. not (has_come clock a)) rest)) come,
    )

abbrev pub come : ℕ → List Arrival → List Arrival
come clock arrivals = filter (has_come clock) arrivals

abbrev pub to_come : ℕ → List Arrival → List Arrival
to_come clock arrivals = filter (λ arrival. not (has_come clock arrival)) arrivals

abbrev pub taken_in : SchedState → List Arrival → SchedState
taken_in state arrivals = fold (λ (before : SchedState) (arrival : Arrival). arrived before arrival.act) state arrivals

drop-at : (arrivals : List Arrival) (t : ℕ) → t < length arrivals → drop t arrivals ≡ slice_index_or arrivals t no_arrival ∷ drop (t + 1) arrivals
drop-at arrivals t h = rw add-one (drop-cons arrivals t no_arrival h)

-- one more is taken
pub step-rest : (clock t : ℕ) (arrivals : List Arrival) → t < length arrivals → (slice_index_or arrivals t no_arrival).at ≤ clock → to_come clock (drop (t + 1) arrivals) ≡ to_come clock (drop t arrivals)
step-rest clock t arrivals h early =
    let one = at-step clock (slice_index_or arrivals t no_arrival) (drop (t + 1) arrivals) early in
    sym (ap (to_come clock) (drop-at arrivals t h) ∙ one.1)

pub step-state : (clock t : ℕ) (arrivals : List Arrival) (old new : SchedState) → t < length arrivals → (slice_index_or arrivals t no_arrival).at ≤ clock → new ≡ arrived old (slice_index_or arrivals t no_arrival).act
    → taken_in new (come clock (drop (t + 1) arrivals)) ≡ taken_in old (come clock (drop t arrivals))
step-state clock t arrivals old new h early e =
    let one = at-step clock (slice_index_or arrivals t no_arrival) (drop (t + 1) arrivals) early in
    ap (λ state. taken_in state (come clock (drop (t + 1) arrivals))) e ∙ sym (ap (taken_in old) (ap (come clock) (drop-at arrivals t h) ∙ one.0))

-- the next is later
pub stop-here : (clock t : ℕ) (arrivals : List Arrival) → t < length arrivals → clock < (slice_index_or arrivals t no_arrival).at → IsTrue (in_order_from 0 arrivals)
    → (come clock (drop t arrivals) ≡ []) × (to_come clock (drop t arrivals) ≡ drop t arrivals)
stop-here clock t arrivals h late order =
    let split : drop t arrivals ≡ slice_index_or arrivals t no_arrival ∷ drop (t + 1) arrivals = drop-at arrivals t h in
    let ordered : IsTrue (in_order_from 0 (slice_index_or arrivals t no_arrival ∷ drop (t + 1) arrivals)) = ap (in_order_from 0) (sym split) ∙ order-drop t arrivals order in
    let one = at-stop clock (slice_index_or arrivals t no_arrival) (drop (t + 1) arrivals) late ordered in
    (ap (come clock) split ∙ one.0, ap (to_come clock) split ∙ one.1 ∙ sym split)

rest-in-order : (arrival : Arrival) (rest : List Arrival) → IsTrue (are_in_order (arrival ∷ rest)) → IsTrue (in_order_from arrival.at rest)
rest-in-order arrival [] h = refl
rest-in-order arrival (next ∷ rest) h =
    let here : nat_le arrival.at next.at ≡ true = both-first (nat_le arrival.at next.at) (are_in_order (next ∷ rest)) h in
    let more : in_order_from next.at rest ≡ true = rest-in-order next rest (both-second (nat_le arrival.at next.at) (are_in_order (next ∷ rest)) h) in
    rw (here, more) refl

-- clocks that don't fall don't fall from 0
pub in-order : (arrivals : List Arrival) → IsTrue (are_in_order arrivals) → IsTrue (in_order_from 0 arrivals)
in-order [] h = refl
in-order (arrival ∷ rest) h = let least : nat_le 0 arrival.at ≡ true = le-leb 0 arrival.at (omega arith) in rw (least, rest-in-order arrival rest h) refl
