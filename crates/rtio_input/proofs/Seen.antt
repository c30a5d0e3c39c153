-- Which edges are seen, with more outputs or a step more.
use Rattle.std.proofs.Common.{◌≡◌, ℕ, ◌+◌, ◌<◌, ◌≤◌, Bool, true, false, List, [], ◌∷◌, ◌++◌, refl, ap, ◌∙◌, arith}
use Rattle.std.specs.Prelude.{Option, filter, nat_lt, nat_le, ◌==◌, ◌&&◌, int_le}
use Rattle.std.proofs.lemmas.Bool.{leb-true, eqb-true, le-ltb}
use Rattle.std.proofs.lemmas.List.Sums.{fold-append}
use Rattle.std.proofs.lemmas.List.Elements.{filter-append}
use Rattle.rtio_types.specs.declared.event.Event.{Event}
use Rattle.rtio_types.specs.declared.event.Edge.{Edge}
use Rattle.rtio_types.specs.Time.{cycle_of}
use Rattle.rtio_input.specs.Script.{edge_cycle, edges_up_to}
use Rattle.rtio_input.specs.Past.{InputStep, Reset, are_made_by, are_put_out_by, is_after, is_seen, last_reset, last_sensitivity, last_value, may_set, sees, seen_edges, sensitivity_at, input_step_at}
use Rattle.rtio_input.specs.Calls.{are_of_cycle, sensitivity_among}
use Rattle.rtio_input.proofs.Lists.{right, all-kept, filter-same, filter-none}
use Rattle.rtio_input.proofs.Scripts.{earlier-stamp}
use Rattle.rtio_input.proofs.Resets.{after-all, last_reset-later, last_reset-reset, last_reset-same}

-- the last of some events and more of them
pub last_value-append : (before : ℕ) (test : Event → Bool) (events more : List Event) → last_value before (filter test (events ++ more)) ≡ last_value (last_value before (filter test events)) (filter test more)
last_value-append before test events more =
    ap (λ (xs : List Event). last_value before xs) (filter-append test events more)
    ∙ fold-append (λ _ e. e.value) before (filter test events) (filter test more)

and-false : (a b c : Bool) → b ≡ false → ((a && b) && c) ≡ false
and-false true b c h = rw h refl
and-false false b c h = refl

drop-middle : (a b c : Bool) → b ≡ true → ((a && b) && c) ≡ (a && c)
drop-middle true b c h = rw h refl
drop-middle false b c h = refl

drop-last : (a b c : Bool) → c ≡ true → ((a && b) && c) ≡ (a && b)
drop-last true true c h = h
drop-last true false c h = refl
drop-last false b c h = refl

-- what is put out in a later cycle doesn't set the sensitivity at an edge
pub sensitivity-later : (outputs kept : List Event) (steps : List InputStep) (counter cycle : ℕ) (x : Edge) → edge_cycle x ≤ counter → counter < cycle → are_of_cycle cycle kept ≡ true → sensitivity_at (outputs ++ kept) steps x ≡ sensitivity_at outputs steps x
sensitivity-later outputs kept steps counter cycle x le lt of =
    last_value-append 0 (may_set steps x) outputs kept
    ∙ ap (λ (xs : List Event). last_value (sensitivity_at outputs steps x) xs) (filter-none (λ e. cycle_of e == cycle) (may_set steps x) kept of (λ e h. none e (eqb-true (cycle_of e) cycle h)))
  where
    none : (e : Event) → cycle_of e ≡ cycle → may_set steps x e ≡ false
    none e is = and-false (e.channel == x.channel) (int_le e.stamp x.stamp) (is_after (last_reset (edge_cycle x) steps) (cycle_of e)) ((earlier-stamp x.stamp e.stamp (before e is)).0)
      where
        before : (e : Event) → cycle_of e ≡ cycle → edge_cycle x < cycle_of e
        before e is = omega (arith, is, le, lt)

-- the sensitivity at an edge of a cycle: by the events of that cycle, and before them by the last sensitivity
pub sensitivity-now : (outputs kept : List Event) (steps : List InputStep) (counter cycle channel : ℕ) (x : Edge) → x.channel ≡ channel → edge_cycle x ≡ cycle → counter < cycle → are_put_out_by counter outputs ≡ true → are_made_by counter steps ≡ true → are_of_cycle cycle kept ≡ true → sensitivity_at (outputs ++ kept) steps x ≡ sensitivity_among (last_sensitivity outputs steps counter channel) kept x
sensitivity-now outputs kept steps counter cycle channel x own is lt by made of =
    last_value-append 0 (may_set steps x) outputs kept
    ∙ ap (λ (xs : List Event). last_value (last_value 0 xs) (filter (may_set steps x) kept)) (filter-same (λ e. nat_le (cycle_of e) counter) _ _ outputs by (λ e h. old e (leb-true (cycle_of e) counter h)))
    ∙ ap (λ (xs : List Event). last_value (last_sensitivity outputs steps counter channel) xs) (filter-same (λ e. cycle_of e == cycle) _ _ kept of (λ e h. new e (eqb-true (cycle_of e) cycle h)))
  where
    later : counter < edge_cycle x
    later = omega (arith, is, lt)

    next : counter < counter + 1
    next = omega arith

    old : (e : Event) → cycle_of e ≤ counter → may_set steps x e ≡ ((e.channel == channel) && is_after (last_reset (counter + 1) steps) (cycle_of e))
    old e le =
        drop-middle (e.channel == x.channel) (int_le e.stamp x.stamp) (is_after (last_reset (edge_cycle x) steps) (cycle_of e)) ((earlier-stamp e.stamp x.stamp (omega (arith, le, is, lt))).1)
        ∙ ap (λ (k : ℕ). (e.channel == k) && is_after (last_reset (edge_cycle x) steps) (cycle_of e)) own
        ∙ ap (λ (r : Option ℕ). (e.channel == channel) && is_after r (cycle_of e)) (last_reset-same (edge_cycle x) (counter + 1) counter steps later next made)

    new : (e : Event) → cycle_of e ≡ cycle → may_set steps x e ≡ ((e.channel == x.channel) && int_le e.stamp x.stamp)
    new e same = drop-last (e.channel == x.channel) (int_le e.stamp x.stamp) (is_after (last_reset (edge_cycle x) steps) (cycle_of e)) (after-all (edge_cycle x) counter (cycle_of e) steps (omega (arith, same, lt)) made)

-- the last sensitivity with the events of a cycle more
pub last_sensitivity-more : (outputs kept : List Event) (steps : List InputStep) (counter cycle channel : ℕ) → counter < cycle → are_made_by counter steps ≡ true → are_of_cycle cycle kept ≡ true → last_sensitivity (outputs ++ kept) steps cycle channel ≡ last_value (last_sensitivity outputs steps counter channel) (filter (λ e. e.channel == channel) kept)
last_sensitivity-more outputs kept steps counter cycle channel lt made of =
    ap (λ (r : Option ℕ). last_value 0 (filter (λ e. (e.channel == channel) && is_after r (cycle_of e)) (outputs ++ kept))) (last_reset-same (cycle + 1) (counter + 1) counter steps (omega (arith, lt)) (omega arith) made)
    ∙ last_value-append 0 (λ e. (e.channel == channel) && is_after (last_reset (counter + 1) steps) (cycle_of e)) outputs kept
    ∙ ap (λ (xs : List Event). last_value (last_sensitivity outputs steps counter channel) xs) (filter-same (λ e. cycle_of e == cycle) _ _ kept of (λ e h. new e (eqb-true (cycle_of e) cycle h)))
  where
    and-true : (a b : Bool) → b ≡ true → (a && b) ≡ a
    and-true true b h = h
    and-true false b h = refl

    new : (e : Event) → cycle_of e ≡ cycle → ((e.channel == channel) && is_after (last_reset (counter + 1) steps) (cycle_of e)) ≡ (e.channel == channel)
    new e same = and-true (e.channel == channel) (is_after (last_reset (counter + 1) steps) (cycle_of e)) (after-all (counter + 1) counter (cycle_of e) steps (omega (arith, same, lt)) made)

-- a reset forgets the sensitivity
pub last_sensitivity-reset : (outputs : List Event) (steps : List InputStep) (counter channel : ℕ) → are_put_out_by counter outputs ≡ true → last_sensitivity outputs (steps ++ Reset counter ∷ []) counter channel ≡ 0
last_sensitivity-reset outputs steps counter channel by =
    ap (λ (r : Option ℕ). last_value 0 (filter (λ e. (e.channel == channel) && is_after r (cycle_of e)) outputs)) (last_reset-reset (counter + 1) counter steps (omega arith))
    ∙ ap (λ (xs : List Event). last_value 0 xs) (filter-none (λ e. nat_le (cycle_of e) counter) _ outputs by (λ e h. none e (leb-true (cycle_of e) counter h)))
  where
    and-false-last : (a b : Bool) → b ≡ false → (a && b) ≡ false
    and-false-last true b h = h
    and-false-last false b h = refl

    none : (e : Event) → cycle_of e ≤ counter → ((e.channel == channel) && nat_lt counter (cycle_of e)) ≡ false
    none e le = and-false-last (e.channel == channel) (nat_lt counter (cycle_of e)) (le-ltb counter (cycle_of e) le)

-- a step at the counter, or a later one, changes nothing at the edges up to it
pub seen-step : (script : List Edge) (outputs : List Event) (steps : List InputStep) (s : InputStep) (counter channel : ℕ) → counter ≤ input_step_at s → seen_edges script outputs (steps ++ s ∷ []) counter channel ≡ seen_edges script outputs steps counter channel
seen-step script outputs steps s counter channel le =
    filter-same (λ x. nat_lt 0 (edge_cycle x) && nat_le (edge_cycle x) counter) _ _ (edges_up_to counter script) (all-kept _ script)
    (λ x h. same x (leb-true (edge_cycle x) counter (right (nat_lt 0 (edge_cycle x)) (nat_le (edge_cycle x) counter) h)))
  where
    same : (x : Edge) → edge_cycle x ≤ counter → is_seen outputs (steps ++ s ∷ []) channel x ≡ is_seen outputs steps channel x
    same x early =
        ap (λ (r : Option ℕ). (x.channel == channel) && sees (last_value 0 (filter (λ e. (e.channel == x.channel) && int_le e.stamp x.stamp && is_after r (cycle_of e)) outputs)) x.rising)
        (last_reset-later (edge_cycle x) steps s (omega (arith, early, le)))
