-- Handles: what they fetch, and when they are old.
use Rattle.std.proofs.Common.{◌≡◌, ◌≢◌, ℕ, ◌+◌, ◌*◌, ◌/◌, ◌%◌, ◌<◌, ◌≤◌, ◌^◌, Bool, true, false, not, ◌||◌, cond, List, length, nat_lt, nat_le, Option, None, Some, option_map, IsTrue, ℤ, pos, refl, sym, ap, ◌∙◌, arith}
use Rattle.std.specs.Prelude.{find, slice_get}
use Rattle.std.specs.List.{position_or_len}
use Rattle.std.specs.Ordering.{int_eq}
use Rattle.std.proofs.lemmas.Bool.Decides.{nat_tests, Decides-int_eq}
use Rattle.std.proofs.lemmas.List.Folds.{find_at}
use Rattle.rtio_types.specs.Recordings.{Recorded}
use Rattle.dma_store.specs.Kept.{KeptState, is_named, handle_of, is_old, next_epoch, recording_handled, recording_named}

-- a name that has this handle stands at a position
record HasPosition (kept : KeptState) (name : List ℕ) (handle : ℤ) : Type 0 where
  at : ℕ
  within : at < length kept.entries
  found : find (is_named name) kept.entries ≡ slice_get kept.entries at
  handle_is : handle ≡ pos (kept.epoch * 4096 + at)

has_position : (kept : KeptState) (name : List ℕ) (handle : ℤ) → handle_of kept name ≡ Some handle → HasPosition kept name handle
has_position kept name handle = by (nat_lt place (length kept.entries)) refl
  where
    place : ℕ
    place = position_or_len (is_named name) kept.entries

    by : (b : Bool) → nat_lt place (length kept.entries) ≡ b → option_map (λ at. pos (kept.epoch * 4096 + at)) (cond b (Some place) None) ≡ Some handle → HasPosition kept name handle
    by true within is =
        record {
          at = place;
          within = grind (arith, nat_tests);
          found = find_at (is_named name) kept.entries;
          handle_is = cc;
        }
    by false beyond is = absurd (cc)

le-false : (a b : ℕ) → b < a → nat_le a b ≡ false
le-false a b h = grind (arith, nat_tests)

-- the two parts of a handle
epoch_part : (epoch at : ℕ) → at < 4096 → (epoch * 4096 + at) / 4096 ≡ epoch
epoch_part epoch at small = omega arith

position_part : (epoch at : ℕ) → at < 4096 → (epoch * 4096 + at) % 4096 ≡ at
position_part epoch at small = omega arith

-- a handle of these two parts is old
old_parts : KeptState → ℕ → ℕ → Bool
old_parts kept epoch at = not (int_eq (pos epoch) (pos kept.epoch)) || nat_le (length kept.entries) at

-- what one of these parts fetches
fetched : KeptState → ℕ → ℕ → Option Recorded
fetched kept epoch at = cond (old_parts kept epoch at) None (option_map (λ entry. entry.1) (slice_get kept.entries at))

-- the handle of a name fetches the recording of the name
pub handle-fetches : (kept : KeptState) (name : List ℕ) (handle : ℤ) → length kept.entries ≤ 4096 → handle_of kept name ≡ Some handle → recording_handled kept handle ≡ recording_named kept name
unfolding old_parts fetched
handle-fetches kept name handle few is = by (has_position kept name handle is)
  where
    by : HasPosition kept name handle → recording_handled kept handle ≡ recording_named kept name
    by p =
        let small : p.at < 4096 = omega (arith, p.within) in
        let same : int_eq (pos kept.epoch) (pos kept.epoch) ≡ true = (Decides-int_eq (pos kept.epoch) (pos kept.epoch)).1 refl in
        let inside : nat_le (length kept.entries) p.at ≡ false = le-false _ _ p.within in
        let fresh : old_parts kept kept.epoch p.at ≡ false = ap (λ b. not b || nat_le (length kept.entries) p.at) same ∙ inside in
        ap (recording_handled kept) p.handle_is ∙ (λ j. fetched kept (epoch_part kept.epoch p.at small j) (position_part kept.epoch p.at small j)) ∙ ap (λ b. cond b None (option_map (λ entry. entry.1) (slice_get kept.entries p.at))) fresh ∙ ap (option_map (λ entry. entry.1)) (sym p.found)

-- the next epoch is another one
pub next_differs : (epoch : ℕ) → epoch < 2 ^ 50 → next_epoch epoch ≢ epoch
next_differs epoch early same = omega arith

int_eq-false : (a b : ℕ) → a ≢ b → int_eq (pos a) (pos b) ≡ false
int_eq-false a b differ = by (int_eq (pos a) (pos b)) refl
  where
    by : (t : Bool) → int_eq (pos a) (pos b) ≡ t → t ≡ false
    by true is = let same : pos a ≡ pos b = (Decides-int_eq (pos a) (pos b)).0 is in let equal : a ≡ b = cc in absurd (differ equal)
    by false is = refl

-- in another epoch the handle of a name is old
pub handle-old : (kept later : KeptState) (name : List ℕ) (handle : ℤ) → length kept.entries ≤ 4096 → handle_of kept name ≡ Some handle → later.epoch ≢ kept.epoch → IsTrue (is_old later handle)
unfolding old_parts
handle-old kept later name handle few is other = by (has_position kept name handle is)
  where
    by : HasPosition kept name handle → IsTrue (is_old later handle)
    by p =
        let small : p.at < 4096 = omega (arith, p.within) in
        let differ = int_eq-false kept.epoch later.epoch (λ same. other (sym same)) in
        ap (is_old later) p.handle_is ∙ (λ j. old_parts later (epoch_part kept.epoch p.at small j) (position_part kept.epoch p.at small j)) ∙ ap (λ b. not b || nat_le (length later.entries) p.at) differ
