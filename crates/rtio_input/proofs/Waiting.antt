-- Counters between which no edge comes.
use Rattle.std.proofs.Common.{◌≡◌, ℕ, ◌+◌, ◌<◌, ◌≤◌, Bool, true, false, List, [], ◌∷◌, sym, ap, ◌∙◌, refl, arith, cond}
use Rattle.std.specs.Prelude.{Option, filter, nat_lt, nat_le, ◌==◌, ◌&&◌}
use Rattle.std.specs.List.{list_all}
use Rattle.std.proofs.lemmas.Bool.{ltb-true, ltb-false, leb-true, le-leb, lt-leb, le-ltb}
use Rattle.rtio_types.specs.declared.event.Edge.{Edge}
use Rattle.rtio_types.specs.declared.event.Event.{Event}
use Rattle.rtio_types.specs.Time.{cycle_of}
use Rattle.rtio_input.specs.Script.{edge_cycle, edges_up_to, later_edges}
use Rattle.rtio_input.specs.Channel.{InputsState, nothing_unread}
use Rattle.rtio_input.specs.Past.{InputStep, InputsStandFor, channel_after, is_after, is_seen, last_sensitivity, last_value, input_step_at, unread_at, unread_from}
use Rattle.rtio_input.specs.Calls.{passed}
use Rattle.rtio_input.proofs.Lists.{all-weaker, left, right}
use Rattle.rtio_input.proofs.Resets.{last_reset-same}
use Rattle.rtio_input.proofs.Each.{map-inputs}

-- the edges to come and the edges gone through are the same
record IsSame (from to : ℕ) (edges : List Edge) : Type 0 where
  later : later_edges to edges ≡ later_edges from edges
  gone : edges_up_to to edges ≡ edges_up_to from edges

same-edges : (from to : ℕ) (edges : List Edge) → from ≤ to → list_all (λ x. nat_lt to (edge_cycle x)) (later_edges from edges) ≡ true → IsSame from to edges
same-edges from to [] le none = record { later = refl; gone = refl }
same-edges from to (x ∷ edges) le none = at (nat_lt from (edge_cycle x)) refl (λ all. same-edges from to edges le all) none
  where
    same : (a b c d : Bool) → a ≡ c → b ≡ d → IsSame from to edges → (cond a (x ∷ later_edges to edges) (later_edges to edges) ≡ cond c (x ∷ later_edges from edges) (later_edges from edges)) × (cond b (x ∷ edges_up_to to edges) (edges_up_to to edges) ≡ cond d (x ∷ edges_up_to from edges) (edges_up_to from edges))
    same a b c d one other ih = (
      ap (λ (t : Bool). cond t (x ∷ later_edges to edges) (later_edges to edges)) one ∙ ap (λ es. cond c (x ∷ es) es) ih.later,
      ap (λ (t : Bool). cond t (x ∷ edges_up_to to edges) (edges_up_to to edges)) other ∙ ap (λ es. cond d (x ∷ es) es) ih.gone,
    )

    at : (b : Bool) → nat_lt from (edge_cycle x) ≡ b → (list_all (λ y. nat_lt to (edge_cycle y)) (later_edges from edges) ≡ true → IsSame from to edges) → list_all (λ y. nat_lt to (edge_cycle y)) (cond b (x ∷ later_edges from edges) (later_edges from edges)) ≡ true → IsSame from to (x ∷ edges)
    at true is step none =
        let here : nat_lt to (edge_cycle x) ≡ true = left (nat_lt to (edge_cycle x)) (list_all (λ y. nat_lt to (edge_cycle y)) (later_edges from edges)) none in
        let late : to < edge_cycle x = ltb-true to (edge_cycle x) here in
        let less : from < edge_cycle x = ltb-true from (edge_cycle x) is in
        let both = same (nat_lt to (edge_cycle x)) (nat_lt 0 (edge_cycle x) && nat_le (edge_cycle x) to) (nat_lt from (edge_cycle x)) (nat_lt 0 (edge_cycle x) && nat_le (edge_cycle x) from) (here ∙ sym is)
        (ap (λ (t : Bool). nat_lt 0 (edge_cycle x) && t) (lt-leb (edge_cycle x) to late ∙ sym (lt-leb (edge_cycle x) from less)))
        (step (right (nat_lt to (edge_cycle x)) (list_all (λ y. nat_lt to (edge_cycle y)) (later_edges from edges)) none)) in
        record { later = both.0; gone = both.1 }
    at false is step none =
        let early : edge_cycle x ≤ from = ltb-false from (edge_cycle x) is in
        let still : edge_cycle x ≤ to = omega (arith, early, le) in
        let both = same (nat_lt to (edge_cycle x)) (nat_lt 0 (edge_cycle x) && nat_le (edge_cycle x) to) (nat_lt from (edge_cycle x)) (nat_lt 0 (edge_cycle x) && nat_le (edge_cycle x) from) (le-ltb to (edge_cycle x) still ∙ sym is)
        (ap (λ (t : Bool). nat_lt 0 (edge_cycle x) && t) (le-leb (edge_cycle x) to still ∙ sym (le-leb (edge_cycle x) from early)))
        (step none) in
        record { later = both.0; gone = both.1 }

-- inputs stand for the same past at a later counter
pub stands-later : (s : InputsState) (script : List Edge) (outputs : List Event) (steps : List InputStep) (from to : ℕ) → from ≤ to → passed to s ≡ true → InputsStandFor s script outputs steps from → InputsStandFor s script outputs steps to
stands-later s script outputs steps from to le none h = record {
  ok = h.ok;
  put_out = all-weaker (λ e. nat_le (cycle_of e) from) (λ e. nat_le (cycle_of e) to) outputs h.put_out (λ e p. le-leb (cycle_of e) to (up (cycle_of e) (leb-true (cycle_of e) from p)));
  made = all-weaker (λ s. nat_le (input_step_at s) from) (λ s. nat_le (input_step_at s) to) steps h.made (λ s p. le-leb (input_step_at s) to (up (input_step_at s) (leb-true (input_step_at s) from p)));
  left = h.left ∙ sym same.later;
  channels = h.channels ∙ map-inputs (channel_after script outputs steps from) (channel_after script outputs steps to) (λ k is. one k);
}
  where
    up : (n : ℕ) → n ≤ from → n ≤ to
    up n less = omega (arith, less, le)

    next : from < from + 1
    next = omega arith

    over : from < to + 1
    over = omega (arith, le)

    same : IsSame from to script
    same = same-edges from to script le (ap (λ es. list_all (λ x. nat_lt to (edge_cycle x)) es) (sym h.left) ∙ none)

    one : (k : ℕ) → channel_after script outputs steps from k ≡ channel_after script outputs steps to k
    one k =
        ap (λ (es : List Edge). record { unread = unread_from k (filter (is_seen outputs steps k) es) steps nothing_unread; sensitivity = last_sensitivity outputs steps from k }) (sym same.gone)
        ∙ ap (λ (r : Option ℕ). record { unread = unread_at script outputs steps to k; sensitivity = last_value 0 (filter (λ e. (e.channel == k) && is_after r (cycle_of e)) outputs) }) (last_reset-same (from + 1) (to + 1) from steps next over h.made)
