-- Edges that are still to come behind a cycle, and the readings of edges one by one.
use Rattle.std.proofs.Common.{◌≡◌, ℕ, ◌+◌, ◌<◌, ◌≤◌, Bool, true, false, List, [], ◌∷◌, ◌++◌, cond, refl, arith, ap, sym, ◌∙◌, append_assoc, subst}
use Rattle.std.specs.Prelude.{Option, ℤ, nat_le, nat_lt, ◌&&◌}
use Rattle.std.specs.List.{list_all}
use Rattle.std.proofs.lemmas.Bool.{ltb-true, le-leb}
use Rattle.std.proofs.lemmas.List.FromFn.{map-range_with_len_more}
use Rattle.rtio_types.specs.declared.event.Edge.{Edge}
use Rattle.rtio_types.specs.declared.event.Event.{Event}
use Rattle.rtio_input.specs.Script.{edge_cycle, later_edges}
use Rattle.rtio_types.specs.declared.request.Reply.{Reply}
use Rattle.rtio_input.specs.Channel.{InputsState}
use Rattle.rtio_input.specs.Calls.{after_ask, after_cycle, closed_channels, passed_before}
use Rattle.rtio_input.specs.Past.{InputStep, InputsStandFor}
use Rattle.rtio_bench.specs.Reading.{IsRead, cycle_of_edge, gates, read_of, reads}

-- none of them is of that cycle
pub later_edges-passed : (cycle : ℕ) (edges : List Edge) → list_all (λ x. nat_le (cycle + 1) (edge_cycle x)) (later_edges cycle edges) ≡ true
later_edges-passed cycle [] = refl
later_edges-passed cycle (x ∷ edges) = at (nat_lt cycle (edge_cycle x)) refl (later_edges-passed cycle edges)
  where
    next : (n : ℕ) → cycle < n → cycle + 1 ≤ n
    next n h = omega arith

    join : (a b : Bool) → a ≡ true → b ≡ true → (a && b) ≡ true
    join a b h k = rw (h, k) refl

    at : (b : Bool) → nat_lt cycle (edge_cycle x) ≡ b → list_all (λ y. nat_le (cycle + 1) (edge_cycle y)) (later_edges cycle edges) ≡ true → list_all (λ y. nat_le (cycle + 1) (edge_cycle y)) (cond b (x ∷ later_edges cycle edges) (later_edges cycle edges)) ≡ true
    at true h rest = join _ _ (le-leb (cycle + 1) (edge_cycle x) (next _ (ltb-true cycle (edge_cycle x) h))) rest
    at false h rest = rest

-- after its edge was read, none is to come of a cycle or an earlier one
pub read-passed : (from number channel : ℕ) (reply : Option Reply) (old between new : InputsState) → from ≡ number → between ≡ after_cycle old (from + 2) [] → new ≡ after_ask between channel reply → passed_before (cycle_of_edge number + 1) new ≡ true
read-passed from number channel reply old between new same cycled asked =
    let left : new.left ≡ later_edges (cycle_of_edge number) old.left =
    ap (λ (s : InputsState). s.left) asked ∙ ap (λ (s : InputsState). s.left) cycled ∙ ap (λ (n : ℕ). later_edges (n + 2) old.left) same in
    subst (λ (edges : List Edge). list_all (λ x. nat_le (cycle_of_edge number + 1) (edge_cycle x)) edges ≡ true) (sym left) (later_edges-passed (cycle_of_edge number) old.left)

-- one more edge was read
pub read-more : (script : List Edge) (outputs : List Event) (steps : List InputStep) (count : ℕ) (stamp : ℤ) (after : InputsState) → IsRead script outputs (steps ++ reads count) count stamp after → InputsStandFor after script outputs (steps ++ reads (count + 1)) (count + 1 + 1)
read-more script outputs steps count stamp after read =
    let next : cycle_of_edge count ≡ count + 1 + 1 = omega arith in
    let more : (steps ++ reads count) ++ read_of count ∷ [] ≡ steps ++ reads (count + 1) =
    append_assoc steps (reads count) (read_of count ∷ []) ∙ ap (λ (them : List InputStep). steps ++ them) (sym (map-range_with_len_more read_of 0 count count (omega arith))) in
    subst (λ (n : ℕ). InputsStandFor after script outputs (steps ++ reads (count + 1)) n) next
    (subst (λ (them : List InputStep). InputsStandFor after script outputs them (cycle_of_edge count)) more read.stands)

-- before the cycle behind it
pub passed-more : (count : ℕ) (s : InputsState) → passed_before (cycle_of_edge count + 1) s ≡ true → passed_before (cycle_of_edge (count + 1)) s ≡ true
passed-more count s h = let next : cycle_of_edge count + 1 ≡ cycle_of_edge (count + 1) = omega arith in subst (λ (n : ℕ). passed_before n s ≡ true) next h

-- inputs to which all edges come
pub new-passed : (edges : List Edge) (new : InputsState) → new ≡ record { left = later_edges 0 edges; channels = closed_channels } → passed_before 1 new ≡ true
new-passed edges new fresh = subst (λ (s : InputsState). passed_before 1 s ≡ true) (sym fresh) (later_edges-passed 0 edges)

-- inputs whose gates were opened in cycle 1
pub opened-passed : (new opened : InputsState) → opened ≡ after_cycle new 1 gates → passed_before 2 opened ≡ true
opened-passed new opened cycled = subst (λ (s : InputsState). passed_before 2 s ≡ true) (sym cycled) (later_edges-passed 1 new.left)
