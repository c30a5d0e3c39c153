-- What the lanes hold, put in the order of submission.
use Rattle.std.proofs.Common.{◌≡◌, ◌≢◌, ◌<◌, ◌+◌, ℕ, zero, suc, Bool, true, false, List, [], ◌∷◌, ◌++◌, map, refl, ap, ◌∙◌, sym, subst, cond, arith}
use Rattle.std.specs.Prelude.{filter, filter_map, flat_map, nat_lt, ◌==◌}
use Rattle.std.specs.List.{range_with_len}
use Rattle.std.specs.List.Sorted.{IsPermutation}
use Rattle.std.proofs.lemmas.Bool.{eq-eqb}
use Rattle.std.proofs.lemmas.Bool.Decides.{nat_tests}
use Rattle.std.proofs.lemmas.List.Sorted.{IsPermutation-append_right, IsPermutation-cons, IsPermutation-middle, IsPermutation-refl, IsPermutation-trans}
use Rattle.rtio_types.specs.declared.event.Event.{Event}
use Rattle.rtio_types.specs.Time.{cycle_of}
use Rattle.sed_lanes.specs.Lanes.{LaneState, held_events}
use Rattle.sed_lanes.specs.Verdict.{Underflow, Lane, Sequence, Undecided}
use Rattle.sed_lanes.specs.Judged.{Judged, Submitted, Cleared, accepted_into, judged, lane_of, lanes_after, since_clearing, taken_by}
use Rattle.sed_lanes.specs.Accepted.{accepted_since_clearing, taken}
use Rattle.sed_lanes.proofs.Since.{AreAmong, AreBelow}

flat-map : {X Y Z : Type 0} (h : Y → List Z) (f : X → Y) (xs : List X) → flat_map h (map f xs) ≡ flat_map (λ x. h (f x)) xs
flat-map h f [] = refl
flat-map h f (x ∷ xs) = ap (λ zs. h (f x) ++ zs) (flat-map h f xs)

flat-same : {X : Type 0} (f g : ℕ → List X) (ks : List ℕ) → ((k : ℕ) → f k ≡ g k) → flat_map f ks ≡ flat_map g ks
flat-same f g [] same = refl
flat-same f g (k ∷ ks) same = ap (λ x. x ++ flat_map f ks) (same k) ∙ ap (λ xs. g k ++ xs) (flat-same f g ks same)

flat-none : {X : Type 0} (f : ℕ → List X) (ks : List ℕ) → ((k : ℕ) → f k ≡ []) → flat_map f ks ≡ []
flat-none f [] none = refl
flat-none f (k ∷ ks) none = ap (λ xs. xs ++ flat_map f ks) (none k) ∙ flat-none f ks none

flat-below : {X : Type 0} (f g : ℕ → List X) (a n i : ℕ) → i < a → ((j : ℕ) → i ≢ j → f j ≡ g j) → flat_map f (range_with_len a n) ≡ flat_map g (range_with_len a n)
flat-below f g a zero i lt same = refl
flat-below f g a (suc n) i lt same =
    let differ : i ≢ a = omega (arith, lt) in
    let below : i < a + 1 = omega (arith, lt) in
    ap (λ x. x ++ flat_map f (range_with_len (a + 1) n)) (same a differ) ∙ ap (λ ys. g a ++ ys) (flat-below f g (a + 1) n i below same)

same-permuted : {X : Type 0} (xs ys : List X) → xs ≡ ys → IsPermutation xs ys
same-permuted xs ys is = subst (λ zs. IsPermutation xs zs) is (IsPermutation-refl xs)

-- one element more in one of the lists
flat-one : {X : Type 0} (f g : ℕ → List X) (p : X) (a n k i : ℕ) → i ≡ a + k → k < n → f i ≡ p ∷ g i → ((j : ℕ) → i ≢ j → f j ≡ g j) → IsPermutation (flat_map f (range_with_len a n)) (p ∷ flat_map g (range_with_len a n))
flat-one f g p a zero k i is lt here same = absurd (omega (arith, lt))
flat-one f g p a (suc n) zero i is lt here same =
    let first : i ≡ a = omega (arith, is) in
    let below : i < a + 1 = omega (arith, is) in
    let head : f a ≡ p ∷ g a = subst (λ (m : ℕ). f m ≡ p ∷ g m) first here in
    same-permuted _ _
    (ap (λ x. x ++ flat_map f (range_with_len (a + 1) n)) head ∙ ap (λ ys. p ∷ (g a ++ ys)) (flat-below f g (a + 1) n i below same))
flat-one f g p a (suc n) (suc k) i is lt here same =
    let differ : i ≢ a = omega (arith, is) in
    let there : i ≡ a + 1 + k = omega (arith, is) in
    let less : k < n = omega (arith, lt) in
    let ih = flat-one f g p (a + 1) n k i there less here same in
    subst (λ x. IsPermutation (x ++ flat_map f (range_with_len (a + 1) n)) (p ∷ (g a ++ flat_map g (range_with_len (a + 1) n)))) (sym (same a differ))
    (IsPermutation-trans (g a ++ flat_map f (range_with_len (a + 1) n)) (g a ++ p ∷ flat_map g (range_with_len (a + 1) n)) (p ∷ (g a ++ flat_map g (range_with_len (a + 1) n)))
    (IsPermutation-append_right (g a) (flat_map f (range_with_len (a + 1) n)) (p ∷ flat_map g (range_with_len (a + 1) n)) ih)
    (IsPermutation-middle (g a) p (flat_map g (range_with_len (a + 1) n))))

-- what the lanes took, lane by lane, is what was accepted, in another order
lanes-permuted : (test : ℕ × Event → Bool) (lanes : ℕ) (part : List Judged) → AreBelow lanes part → IsPermutation (flat_map (λ k. filter test (filter_map (taken_by k) part)) (range_with_len 0 lanes)) (filter test (filter_map taken part))
lanes-permuted test lanes [] below = same-permuted _ _ (flat-none (λ k. filter test (filter_map (taken_by k) [])) (range_with_len 0 lanes) (λ k. refl))
lanes-permuted test lanes (Submitted number at e Underflow ∷ rest) below = lanes-permuted test lanes rest below.1
lanes-permuted test lanes (Submitted number at e Sequence ∷ rest) below = lanes-permuted test lanes rest below.1
lanes-permuted test lanes (Submitted number at e Undecided ∷ rest) below = lanes-permuted test lanes rest below.1
lanes-permuted test lanes (Cleared at ∷ rest) below = lanes-permuted test lanes rest below
lanes-permuted test lanes (Submitted number at e (Lane j) ∷ rest) below = took (test (number, e)) refl (lanes-permuted test lanes rest below.1)
  where
    f : ℕ → List (ℕ × Event)
    f k = filter test (filter_map (taken_by k) (Submitted number at e (Lane j) ∷ rest))

    g : ℕ → List (ℕ × Event)
    g k = filter test (filter_map (taken_by k) rest)

    other : (k : ℕ) → j ≢ k → f k ≡ g k
    other k differ = let no : (j == k) ≡ false = grind (arith, nat_tests, differ) in rw no refl

    took : (b : Bool) → test (number, e) ≡ b → IsPermutation (flat_map g (range_with_len 0 lanes)) (filter test (filter_map taken rest)) → IsPermutation (flat_map f (range_with_len 0 lanes)) (cond b ((number, e) ∷ filter test (filter_map taken rest)) (filter test (filter_map taken rest)))
    took true is ih =
        let place : j ≡ 0 + j = omega arith in
        let here : f j ≡ (number, e) ∷ g j = rw (eq-eqb j j refl, is) refl in
        IsPermutation-trans (flat_map f (range_with_len 0 lanes)) ((number, e) ∷ flat_map g (range_with_len 0 lanes)) ((number, e) ∷ filter test (filter_map taken rest))
        (flat-one f g (number, e) 0 lanes j j place below.0 here other)
        (IsPermutation-cons (number, e) (flat_map g (range_with_len 0 lanes)) (filter test (filter_map taken rest)) ih)
    took false is ih =
        let each : (k : ℕ) → f k ≡ g k = λ k. dropped k (j == k) refl in
        subst (λ zs. IsPermutation zs (filter test (filter_map taken rest))) (sym (flat-same f g (range_with_len 0 lanes) each)) ih
      where
        dropped : (k : ℕ) (b : Bool) → (j == k) ≡ b → f k ≡ g k
        dropped k true at_k = rw (at_k, is) refl
        dropped k false at_k = rw at_k refl

-- what the lanes hold at a counter is what was accepted since the last clearing with a later cycle, in another order
pub held-permuted : (lanes depth : ℕ) (judged : List Judged) (counter : ℕ) → AreAmong lanes judged → IsPermutation (held_events (lanes_after lanes depth judged counter)) (filter (λ p. nat_lt counter (cycle_of p.1)) (accepted_since_clearing judged))
held-permuted lanes depth judged counter h =
    subst (λ zs. IsPermutation zs (filter (λ p. nat_lt counter (cycle_of p.1)) (accepted_since_clearing judged)))
    (sym (flat-map (λ (lane : LaneState). lane.held) (λ k. lane_of counter (accepted_into k judged)) (range_with_len 0 lanes)))
    (lanes-permuted (λ p. nat_lt counter (cycle_of p.1)) lanes (since_clearing judged) h.taken)
