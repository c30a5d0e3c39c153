-- Cycles of which no event is held.
use Rattle.std.proofs.Common.{◌≡◌, ◌<◌, ◌≤◌, ℕ, zero, suc, Bool, true, false, List, [], ◌∷◌, ◌++◌, get_or, length, map, set, refl, ap, sym, ◌∙◌, arith}
use Rattle.std.specs.Prelude.{Option, Some, None, filter, flat_map, nat_le, not, ◌==◌, ◌&&◌}
use Rattle.std.specs.List.{list_all}
use Rattle.std.specs.Option.{unwrap_or}
use Rattle.std.proofs.lemmas.Bool.{and_from, and_parts, le-leb, leb-true}
use Rattle.std.proofs.lemmas.Bool.Decides.{nat_tests}
use Rattle.std.proofs.lemmas.List.Folds.{list_all-append}
use Rattle.rtio_types.specs.declared.event.Event.{Event}
use Rattle.rtio_types.specs.Time.{cycle_of}
use Rattle.sed_lanes.specs.Calls.{all_held_from, held_at, without}
use Rattle.sed_lanes.specs.Lanes.{LaneState, LanesState, empty_lane, held_events, with_accepted}
use Rattle.sed_lanes.specs.Next.{next_cycle}
use Rattle.sed_lanes.proofs.NextCycles.{least-below, none-least}

-- all are of a cycle or later ones
abbrev are_from : ℕ → List (ℕ × Event) → Bool
are_from n events = list_all (λ p. nat_le n (cycle_of p.1)) events

all-mapped : (n : ℕ) (events : List (ℕ × Event)) → list_all (nat_le n) (map (λ (p : ℕ × Event). cycle_of p.1) events) ≡ are_from n events
all-mapped n [] = refl
all-mapped n (p ∷ events) = ap (λ b. nat_le n (cycle_of p.1) && b) (all-mapped n events)

-- all that the lanes hold is of the next cycle or later ones
pub from-next : (s : LanesState) (next : Option ℕ) (n most : ℕ) → next ≡ next_cycle s → n ≡ unwrap_or next most → all_held_from n s ≡ true
from-next s None n most is un = sym (all-mapped n (held_events s)) ∙ ap (list_all (nat_le n)) (none-least (map (λ (p : ℕ × Event). cycle_of p.1) (held_events s)) (sym is))
from-next s (Some m) n most is un =
    ap (λ (k : ℕ). all_held_from k s) un ∙ sym (all-mapped m (held_events s)) ∙ least-below (map (λ (p : ℕ × Event). cycle_of p.1) (held_events s)) m (sym is)

from-less : (n m : ℕ) (events : List (ℕ × Event)) → m ≤ n → are_from n events ≡ true → are_from m events ≡ true
from-less n m [] le all = refl
from-less n m (p ∷ events) le all =
    let parts = and_parts (nat_le n (cycle_of p.1)) (are_from n events) all in
    let above : n ≤ cycle_of p.1 = leb-true n (cycle_of p.1) parts.0 in
    and_from (nat_le m (cycle_of p.1)) (are_from m events) (le-leb m (cycle_of p.1) (omega (arith, above, le))) (from-less n m events le parts.1)

-- none is of a cycle before
pub none-before : (s : LanesState) (n cycle : ℕ) → cycle < n → all_held_from n s ≡ true → held_at cycle s ≡ []
none-before s n cycle lt all = each (held_events s) all
  where
    each : (events : List (ℕ × Event)) → are_from n events ≡ true → filter (λ p. cycle_of p.1 == cycle) events ≡ []
    each [] from = refl
    each (p ∷ events) from =
        let parts = and_parts (nat_le n (cycle_of p.1)) (are_from n events) from in
        let above : n ≤ cycle_of p.1 = leb-true n (cycle_of p.1) parts.0 in
        let no : (cycle_of p.1 == cycle) ≡ false = grind (arith, nat_tests, above, lt) in
        rw no (each events parts.1)

-- and the lanes stay as they are without them
pub same-without : (s : LanesState) (n cycle : ℕ) → cycle < n → all_held_from n s ≡ true → without cycle s ≡ s
same-without s n cycle lt all = ap (λ (lanes : List LaneState). record s { lanes = lanes }) (each s.lanes all)
  where
    stay : (events : List (ℕ × Event)) → are_from n events ≡ true → filter (λ p. not (cycle_of p.1 == cycle)) events ≡ events
    stay [] from = refl
    stay (p ∷ events) from =
        let parts = and_parts (nat_le n (cycle_of p.1)) (are_from n events) from in
        let above : n ≤ cycle_of p.1 = leb-true n (cycle_of p.1) parts.0 in
        let no : (cycle_of p.1 == cycle) ≡ false = grind (arith, nat_tests, above, lt) in
        rw no (ap (λ (ps : List (ℕ × Event)). p ∷ ps) (stay events parts.1))

    each : (lanes : List LaneState) → are_from n (flat_map (λ (lane : LaneState). lane.held) lanes) ≡ true → map (λ (lane : LaneState). record lane { held = filter (λ p. not (cycle_of p.1 == cycle)) lane.held }) lanes ≡ lanes
    each [] from = refl
    each (lane ∷ lanes) from =
        let parts = and_parts (are_from n lane.held) (are_from n (flat_map (λ (l : LaneState). l.held) lanes)) (sym (list_all-append (λ p. nat_le n (cycle_of p.1)) lane.held (flat_map (λ (l : LaneState). l.held) lanes)) ∙ from) in
        ap (λ (held : List (ℕ × Event)). record lane { held = held } ∷ map (λ (l : LaneState). record l { held = filter (λ p. not (cycle_of p.1 == cycle)) l.held }) lanes) (stay lane.held parts.0)
        ∙ ap (λ (rest : List LaneState). lane ∷ rest) (each lanes parts.1)

-- an event that is accepted is held too
pub from-accepted : (s : LanesState) (k number n m : ℕ) (e : Event) → k < length s.lanes → all_held_from n s ≡ true → m ≤ n → m ≤ cycle_of e → all_held_from m (with_accepted s k number e) ≡ true
from-accepted s k number n m e lt all le own = each s.lanes k (record { held = (get_or s.lanes k empty_lane).held ++ (number, e) ∷ []; last = Some (cycle_of e) }) lt refl all
  where
    each : (lanes : List LaneState) (k : ℕ) (new : LaneState) → k < length lanes → new.held ≡ (get_or lanes k empty_lane).held ++ (number, e) ∷ [] → are_from n (flat_map (λ (lane : LaneState). lane.held) lanes) ≡ true → are_from m (flat_map (λ (lane : LaneState). lane.held) (set lanes k new)) ≡ true
    each [] k new lt is from = absurd (omega (arith, lt))
    each (lane ∷ lanes) zero new lt is from =
        let parts = and_parts (are_from n lane.held) (are_from n (flat_map (λ (l : LaneState). l.held) lanes)) (sym (list_all-append (λ p. nat_le n (cycle_of p.1)) lane.held (flat_map (λ (l : LaneState). l.held) lanes)) ∙ from) in
        let last : are_from m ((number, e) ∷ []) ≡ true = and_from (nat_le m (cycle_of e)) true (le-leb m (cycle_of e) own) refl in
        let grown : are_from m new.held ≡ true =
        ap (are_from m) is ∙ list_all-append (λ p. nat_le m (cycle_of p.1)) lane.held ((number, e) ∷ [])
        ∙ and_from (are_from m lane.held) (are_from m ((number, e) ∷ [])) (from-less n m lane.held le parts.0) last in
        list_all-append (λ p. nat_le m (cycle_of p.1)) new.held (flat_map (λ (l : LaneState). l.held) lanes)
        ∙ and_from (are_from m new.held) (are_from m (flat_map (λ (l : LaneState). l.held) lanes)) grown (from-less n m (flat_map (λ (l : LaneState). l.held) lanes) le parts.1)
    each (lane ∷ lanes) (suc k) new lt is from =
        let parts = and_parts (are_from n lane.held) (are_from n (flat_map (λ (l : LaneState). l.held) lanes)) (sym (list_all-append (λ p. nat_le n (cycle_of p.1)) lane.held (flat_map (λ (l : LaneState). l.held) lanes)) ∙ from) in
        list_all-append (λ p. nat_le m (cycle_of p.1)) lane.held (flat_map (λ (l : LaneState). l.held) (set lanes k new))
        ∙ and_from (are_from m lane.held) (are_from m (flat_map (λ (l : LaneState). l.held) (set lanes k new))) (from-less n m lane.held le parts.0) (each lanes k new (omega (arith, lt)) is parts.1)
