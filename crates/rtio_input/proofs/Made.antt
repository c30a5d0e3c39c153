-- The fields of the inputs, and what they are seen as.
use Rattle.std.proofs.Common.{◌≡◌, ℕ, zero, suc, Bool, true, List, [], ◌∷◌, ◌++◌, drop, take, length, refl, sym, ap, ◌∙◌}
use Rattle.std.specs.Prelude.{filter, nat_lt, nat_le, ◌==◌, ◌&&◌, int_le, int_lt, pos, ◌^◌}
use Rattle.std.specs.List.{list_all}
use Rattle.std.proofs.Math.Seq.{take-append_seam}
use Rattle.rtio_types.specs.declared.event.Edge.{Edge}
use Rattle.rtio_types.specs.declared.event.Event.{Event}
use Rattle.rtio_types.specs.Board.{is_input}
use Rattle.rtio_input.specs.Script.{are_by_cycle, are_edges_ok, are_of_inputs, are_rising, edge_cycle, is_edge_ok, later_edges}
use Rattle.rtio_input.specs.Channel.{ChannelState, InputsState}
use Rattle.rtio_input.specs.Calls.{AreInputs, after_cycle, channel_after_cycle, closed_channels, each_channel}
use Rattle.rtio_input.proofs.Lists.{left, right, all-filter, all-weaker}
use Rattle.rtio_input.proofs.Scripts.{by-cycle-filter, rising-by-cycle}
use Rattle.rtio_input.proofs.Standing.{state_of}

-- a list that fills a vector's place
pub whole : {X : Type 0} (n : ℕ) (xs ys : List X) → length xs ≡ n → take n (xs ++ ys) ≡ xs
whole n xs ys is = ap (λ (m : ℕ). take m (xs ++ ys)) (sym is) ∙ take-append_seam xs ys

all-drop : {X : Type 0} (test : X → Bool) (n : ℕ) (xs : List X) → list_all test xs ≡ true → list_all test (drop n xs) ≡ true
all-drop test zero xs all = all
all-drop test (suc n) [] all = refl
all-drop test (suc n) (x ∷ xs) all = all-drop test n xs (right (test x) (list_all test xs) all)

all-take : {X : Type 0} (test : X → Bool) (n : ℕ) (xs : List X) → list_all test xs ≡ true → list_all test (take n xs) ≡ true
all-take test zero xs all = refl
all-take test (suc n) [] all = refl
all-take test (suc n) (x ∷ xs) all = rw (left (test x) (list_all test xs) all) (all-take test n xs (right (test x) (list_all test xs) all))

by-cycle-drop : (n : ℕ) (xs : List Edge) → are_by_cycle xs ≡ true → are_by_cycle (drop n xs) ≡ true
by-cycle-drop zero xs by = by
by-cycle-drop (suc n) [] by = refl
by-cycle-drop (suc n) (x ∷ xs) by = by-cycle-drop n xs (right (list_all (λ y. nat_le (edge_cycle x) (edge_cycle y)) xs) (are_by_cycle xs) by)

-- the first edges to come are of inputs, as all are
pub own-take : (n : ℕ) (these edges : List Edge) → these ≡ edges → are_of_inputs edges ≡ true → are_of_inputs (take n these) ≡ true
own-take n these edges is own = ap (λ es. are_of_inputs (take n es)) is ∙ all-take (λ x. is_input x.channel) n edges own

-- the inputs after a cycle
pub cycled-inputs : (n : ℕ) (edges rest : List Edge) (f : ℕ → ChannelState → ChannelState) (now new : List ChannelState) → are_of_inputs edges ≡ true → are_by_cycle edges ≡ true → rest ≡ drop n edges → new ≡ each_channel f now → AreInputs rest new
cycled-inputs n edges rest f now new own by is made = record {
  eight = ap (λ cs. length cs) made;
  own = ap (λ es. are_of_inputs es) is ∙ all-drop (λ x. is_input x.channel) n edges own;
  by_cycle = ap (λ es. are_by_cycle es) is ∙ by-cycle-drop n edges by;
}

-- what they are seen as then
pub cycled-seen : (n cycle : ℕ) (edges one other rest : List Edge) (old now new items : List ChannelState) (s : InputsState) (kept : List Event) → state_of edges old ≡ s → one ≡ edges → other ≡ edges → now ≡ old → take n one ≡ filter (λ x. edge_cycle x == cycle) one → drop n one ≡ later_edges cycle one → rest ≡ drop n edges → new ≡ each_channel (channel_after_cycle kept (take n other)) now → items ≡ new → state_of rest items ≡ after_cycle s cycle kept
cycled-seen n cycle edges one other rest old now new items s kept see same equal held these later is made put =
    ap (λ (es : List Edge). state_of es items) (is ∙ sym (ap (λ (es : List Edge). drop n es) same) ∙ later ∙ ap (λ (es : List Edge). later_edges cycle es) same)
    ∙ ap (λ (cs : List ChannelState). state_of (later_edges cycle edges) cs)
    (put ∙ made
    ∙ ap (λ (es : List Edge). each_channel (channel_after_cycle kept (take n es)) now) (equal ∙ sym same)
    ∙ ap (λ (es : List Edge). each_channel (channel_after_cycle kept es) now) (these ∙ ap (λ (es : List Edge). filter (λ x. edge_cycle x == cycle) es) same)
    ∙ ap (λ (cs : List ChannelState). each_channel (channel_after_cycle kept (filter (λ x. edge_cycle x == cycle) edges)) cs) held)
    ∙ ap (λ (t : InputsState). after_cycle t cycle kept) see

-- the inputs at the beginning
pub new-inputs : (edges rest : List Edge) (channels : List ChannelState) → are_edges_ok edges ≡ true → rest ≡ later_edges 0 edges → channels ≡ closed_channels → AreInputs rest channels
new-inputs edges rest channels ok is closed = record {
  eight = ap (λ cs. length cs) closed;
  own = ap (λ es. are_of_inputs es) is ∙ all-filter (λ x. nat_lt 0 (edge_cycle x)) (λ x. is_input x.channel) edges (all-weaker is_edge_ok (λ x. is_input x.channel) edges each (λ x h. left (is_input x.channel) (int_le (pos 0) x.stamp) (left (is_input x.channel && int_le (pos 0) x.stamp) (int_lt x.stamp (pos (2 ^ 62))) h)));
  by_cycle = ap (λ es. are_by_cycle es) is ∙ by-cycle-filter (λ x. nat_lt 0 (edge_cycle x)) edges (rising-by-cycle edges (right (nat_le (length edges) 4096 && list_all is_edge_ok edges) (are_rising edges) ok));
}
  where
    each : list_all is_edge_ok edges ≡ true
    each = right (nat_le (length edges) 4096) (list_all is_edge_ok edges) (left (nat_le (length edges) 4096 && list_all is_edge_ok edges) (are_rising edges) ok)
