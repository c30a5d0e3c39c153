-- Recordings are handed in one after another.
use Rattle.std.proofs.Common.{◌≡◌, ◌<◌, ◌≤◌, ◌+◌, ℕ, zero, suc, true, false, Bool, List, [], ◌∷◌, ◌++◌, get_or, length, map, take, refl, ap, sym, ◌∙◌, arith}
use Rattle.std.specs.Prelude.{IsTrue, Some, bytes_eq, nat_le, not, ◌&&◌, ◌||◌}
use Rattle.std.specs.List.{list_all, list_any, slice_get}
use Rattle.std.proofs.Math.Seq.{take-suc}
use Rattle.std.proofs.lemmas.Bool.{and_parts, leb-true, not-true}
use Rattle.std.proofs.lemmas.List.{length-map, length-take-le, map-append}
use Rattle.std.proofs.lemmas.Option.{get_or_from_slice_get, same_Some, slice_get-get_or, slice_get_within}
use Rattle.std.proofs.Common.{add-one}
use Rattle.rtio_types.specs.Recordings.{Recorded}
use Rattle.dma_store.specs.Kept.{KeptState, handed_in, is_kept, is_playable, kept_first}
use Rattle.rtio_core.specs.declared.named.Named.{Named}
use Rattle.rtio_core.specs.Handed.{are_kept_ok, are_names_different, has_name, kept_of}

take-next : (kept : List Named) (i : ℕ) (n : Named) → slice_get kept i ≡ Some n → take (i + 1) kept ≡ take i kept ++ n ∷ []
take-next kept i n is =
    let lt : i < length kept = slice_get_within kept i n is in
    ap (λ (m : ℕ). take m kept) (add-one i) ∙ take-suc kept i n lt
    ∙ ap (λ (x : Named). take i kept ++ x ∷ []) (get_or_from_slice_get kept i n n is)

-- the item of a loop's turn
pub item-at : (kept : List Named) (i : ℕ) (n : Named) → i < length kept → n ≡ get_or kept i n → slice_get kept i ≡ Some n
item-at kept i n lt is = slice_get-get_or kept i n lt ∙ ap Some (sym is)

-- one more stands behind those before it
pub handed-next : (store : KeptState) (kept : List Named) (i : ℕ) (n : Named) → slice_get kept i ≡ Some n → store ≡ kept_of (take i kept) → handed_in store n.name n.recording ≡ kept_of (take (i + 1) kept)
handed-next store kept i n is stood =
    ap (λ (s : KeptState). handed_in s n.name n.recording) stood
    ∙ sym (ap kept_first (ap (map (λ (m : Named). (m.name, m.recording))) (take-next kept i n is) ∙ map-append (λ (m : Named). (m.name, m.recording)) (take i kept) (n ∷ [])))

none-named : (kept : List Named) (first n : Named) (i : ℕ) → list_any (has_name first.name) kept ≡ false → slice_get kept i ≡ Some n → bytes_eq n.name first.name ≡ false
none-named [] first n i none is = absurd (cc)
none-named (m ∷ kept) first n zero none is =
    let same : m ≡ n = same_Some m n is in
    ap (λ (x : Named). bytes_eq x.name first.name) (sym same) ∙ left-false (has_name first.name m) (list_any (has_name first.name) kept) none
  where
    left-false : (a b : Bool) → (a || b) ≡ false → a ≡ false
    left-false false b h = refl
    left-false true b h = absurd (cc)
none-named (m ∷ kept) first n (suc i) none is = none-named kept first n i (right-false (has_name first.name m) (list_any (has_name first.name) kept) none) is
  where
    right-false : (a b : Bool) → (a || b) ≡ false → b ≡ false
    right-false false b h = h
    right-false true b h = absurd (cc)

-- a name is a new one where it comes
new-name : (kept : List Named) (i : ℕ) (n : Named) → are_names_different kept ≡ true → slice_get kept i ≡ Some n → is_kept (kept_of (take i kept)) n.name ≡ false
new-name [] i n differ is = absurd (cc)
new-name (first ∷ kept) zero n differ is = refl
new-name (first ∷ kept) (suc i) n differ is =
    let parts = and_parts (not (list_any (has_name first.name) kept)) (are_names_different kept) differ in
    let other : bytes_eq n.name first.name ≡ false = none-named kept first n i (not-true (list_any (has_name first.name) kept) parts.0) is in
    ap (λ b. b || is_kept (kept_of (take i kept)) n.name) other ∙ new-name kept i n parts.1 is

-- the first of some names, which none of the others is
pub names-next : (left : List Named) (first : Named) (rest : List Named) → left ≡ first ∷ rest → list_any (has_name first.name) rest ≡ false → are_names_different rest ≡ are_names_different left
names-next left first rest is none = sym (ap are_names_different is ∙ ap (λ b. not b && are_names_different rest) none)

all-item : (kept : List Named) (i : ℕ) (n : Named) → list_all (λ (m : Named). is_playable m.recording) kept ≡ true → slice_get kept i ≡ Some n → is_playable n.recording ≡ true
all-item [] i n all is = absurd (cc)
all-item (m ∷ kept) zero n all is =
    let same : m ≡ n = same_Some m n is in
    ap (λ (x : Named). is_playable x.recording) (sym same) ∙ (and_parts (is_playable m.recording) (list_all (λ (x : Named). is_playable x.recording) kept) all).0
all-item (m ∷ kept) (suc i) n all is = all-item kept i n (and_parts (is_playable m.recording) (list_all (λ (x : Named). is_playable x.recording) kept) all).1 is

-- what a recording needs to be handed in behind those before it
pub record MayComeNext (store : KeptState) (n : Named) : Type 0 where
  pub epoch : store.epoch ≡ 0
  pub new : is_kept store n.name ≡ false
  pub place : length store.entries < 4096
  pub playable : IsTrue (is_playable n.recording)

pub may-come : (store : KeptState) (kept : List Named) (i : ℕ) (n : Named) → IsTrue (are_kept_ok kept) → slice_get kept i ≡ Some n → store ≡ kept_of (take i kept) → MayComeNext store n
may-come store kept i n ok is stood =
    let parts = and_parts (nat_le (length kept) 64 && list_all (λ (m : Named). is_playable m.recording) kept) (are_names_different kept) ok in
    let more = and_parts (nat_le (length kept) 64) (list_all (λ (m : Named). is_playable m.recording) kept) parts.0 in
    let lt : i < length kept = slice_get_within kept i n is in
    let few : length kept ≤ 64 = leb-true (length kept) 64 more.0 in
    let long : length (take i kept) ≡ i = length-take-le i kept (omega (arith, lt)) in
    let entries : length store.entries ≡ length {A = List ℕ × Recorded} (map (λ (m : Named). (m.name, m.recording)) (take i kept)) = ap (λ (s : KeptState). length s.entries) stood in
    let mapped : length {A = List ℕ × Recorded} (map (λ (m : Named). (m.name, m.recording)) (take i kept)) ≡ length (take i kept) = length-map {B = List ℕ × Recorded} (take i kept) (λ (m : Named). (m.name, m.recording)) in
    record {
      epoch = ap (λ (s : KeptState). s.epoch) stood;
      new = ap (λ (s : KeptState). is_kept s n.name) stood ∙ new-name kept i n parts.1 is;
      place = omega (arith, entries, mapped, long, lt, few);
      playable = all-item kept i n more.1 is;
    }
