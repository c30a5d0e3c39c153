-- Names with their first slots.
use Rattle.std.proofs.Common.{◌≡◌, ℕ, suc, ◌+◌, ◌≤◌, ◌<◌, ◌^◌, Bool, true, false, List, [], ◌∷◌, ◌++◌, Option, None, Some, option_map, length, drop, get_or, refl, sym, ap, ◌∙◌, bytes_eq, arith, position, append_assoc, append-nil}
use Rattle.std.specs.Prelude.{if◌then◌else◌, is_some, unwrap_or, slice_get}
use Rattle.std.proofs.lemmas.Bool.{false≢true}
use Rattle.std.proofs.lemmas.Option.{get_or_from_slice_get, slice_get_within}
use Rattle.kern_expression_types.proofs.Lists.{drop-item}
use Rattle.kern_syntax.specs.Tree.{Bytes}
use Rattle.kern_calls.specs.declared.types.ValueType.{ValueType}
use Rattle.kern_calls.specs.Types.{Names}
use Rattle.kern_names.proofs.Positions.{position_first, position_behind}
use Rattle.code_forms.specs.Setting.{size_of, slot_in, slots_of_names}
use Rattle.core_code_names.specs.Slots.{capped, firsts_from, slots_from, AreSlots}

-- a number of 16 bits is itself
pub capped_same : (n : ℕ) → n < 2 ^ 16 → capped n ≡ n
capped_same n small = omega (arith, small)

-- the slots of a name end at most where those of all end
pub slot_within : (names : Names) (x : Bytes) → slot_in names x ≤ slots_of_names names
slot_within [] x = omega arith
slot_within (name ∷ names) x = by (bytes_eq x name.0) (slot_within names x)
  where
    by : (b : Bool) → slot_in names x ≤ slots_of_names names → (if b then 0 else size_of name.1 + slot_in names x) ≤ size_of name.1 + slots_of_names names
    by true rest = omega arith
    by false rest = omega (arith, rest)

-- a number is capped once
capped_once : (first size rest : ℕ) → capped (capped (first + size) + rest) ≡ capped (first + (size + rest))
capped_once first size rest = omega arith

-- the slot behind all names
slots_are : (first : ℕ) (names : Names) → first ≤ 65535 → slots_from first names ≡ capped (first + slots_of_names names)
slots_are first [] small = omega (arith, small)
slots_are first (name ∷ names) small =
    slots_are (capped (first + size_of name.1)) names (omega arith) ∙ capped_once first (size_of name.1) (slots_of_names names)

pub all_slots : (names : Names) (firsts : List ℕ) (slots : ℕ) → AreSlots names firsts slots → slots ≡ capped (slots_of_names names)
all_slots names firsts slots are =
    let same : 0 + slots_of_names names ≡ slots_of_names names = omega arith in
    are.next ∙ slots_are 0 names (omega arith) ∙ ap capped same

-- a name's test
abbrev named_as : Bytes → Bytes × ValueType → Bool
named_as x known = bytes_eq x known.0

-- the slot at the place of a name, from a slot on
slot_at : (first : ℕ) (names : Names) (x : Bytes) (k d : ℕ) → first ≤ 65535 → Some k ≡ position (named_as x) names → get_or (firsts_from first names) k d ≡ capped (first + slot_in names x)
slot_at first [] x k d small e = absurd (false≢true (sym (ap is_some e)))
slot_at first (name ∷ names) x k d small e = by (bytes_eq x name.0) refl (λ j. slot_at next names x j d (omega arith))
  where
    next : ℕ
    next = capped (first + size_of name.1)

    by_place : (o : Option ℕ) → position (named_as x) names ≡ o → Some k ≡ option_map suc o → ((j : ℕ) → Some j ≡ position (named_as x) names → get_or (firsts_from next names) j d ≡ capped (next + slot_in names x)) → get_or (firsts_from first (name ∷ names)) k d ≡ capped (next + slot_in names x)
    by_place None at q rest = absurd (false≢true (sym (ap is_some q)))
    by_place (Some j) at q rest =
        let same : k ≡ suc j = ap (λ o. unwrap_or o k) q in
        ap (λ n. get_or (firsts_from first (name ∷ names)) n d) same ∙ rest j (sym at)

    by : (b : Bool) → bytes_eq x name.0 ≡ b → ((j : ℕ) → Some j ≡ position (named_as x) names → get_or (firsts_from next names) j d ≡ capped (next + slot_in names x)) → get_or (firsts_from first (name ∷ names)) k d ≡ capped (first + slot_in (name ∷ names) x)
    by true is rest =
        let same : k ≡ 0 = ap (λ o. unwrap_or o k) (e ∙ position_first (named_as x) name names is) in
        let own : first ≡ capped (first + 0) = omega (arith, small) in
        ap (λ n. get_or (firsts_from first (name ∷ names)) n d) same ∙ own ∙ sym (ap (λ b. capped (first + (if b then 0 else size_of name.1 + slot_in names x))) is)
    by false is rest =
        by_place (position (named_as x) names) refl (e ∙ position_behind (named_as x) name names is) rest
        ∙ capped_once first (size_of name.1) (slot_in names x)
        ∙ sym (ap (λ b. capped (first + (if b then 0 else size_of name.1 + slot_in names x))) is)

pub slot_found : (names : Names) (firsts : List ℕ) (slots : ℕ) (x : Bytes) (k d : ℕ) → AreSlots names firsts slots → Some k ≡ position (named_as x) names → get_or firsts k d ≡ capped (slot_in names x)
slot_found names firsts slots x k d are e =
    let same : 0 + slot_in names x ≡ slot_in names x = omega arith in
    ap (λ l. get_or l k d) are.each ∙ slot_at 0 names x k d (omega arith) e ∙ ap capped same

-- another name has the slot behind all of them
slot_behind : (names : Names) (x : Bytes) → None ≡ position (named_as x) names → slot_in names x ≡ slots_of_names names
slot_behind [] x e = refl
slot_behind (name ∷ names) x e = by (bytes_eq x name.0) refl (slot_behind names x)
  where
    by_place : (o : Option ℕ) → None ≡ option_map suc o → None ≡ o
    by_place None q = refl
    by_place (Some j) q = absurd (false≢true (ap is_some q))

    by : (b : Bool) → bytes_eq x name.0 ≡ b → (None ≡ position (named_as x) names → slot_in names x ≡ slots_of_names names) → slot_in (name ∷ names) x ≡ slots_of_names (name ∷ names)
    by true is rest = absurd (false≢true (ap is_some (e ∙ position_first (named_as x) name names is)))
    by false is rest =
        ap (λ b. if b then 0 else size_of name.1 + slot_in names x) is
        ∙ ap (λ n. size_of name.1 + n) (rest (by_place (position (named_as x) names) (e ∙ position_behind (named_as x) name names is)))

pub slot_missing : (names : Names) (firsts : List ℕ) (slots : ℕ) (x : Bytes) → AreSlots names firsts slots → None ≡ position (named_as x) names → slots ≡ capped (slot_in names x)
slot_missing names firsts slots x are e = all_slots names firsts slots are ∙ ap capped (sym (slot_behind names x e))

-- there is a slot for each name
as_many : (first : ℕ) (names : Names) → length (firsts_from first names) ≡ length names
as_many first [] = refl
as_many first (name ∷ names) = ap suc (as_many (capped (first + size_of name.1)) names)

-- so there is one at the place of a name
place_within : (names : Names) (x : Bytes) (k : ℕ) → Some k ≡ position (named_as x) names → k < length names
place_within [] x k e = absurd (false≢true (sym (ap is_some e)))
place_within (name ∷ names) x k e = by (bytes_eq x name.0) refl (place_within names x)
  where
    by_place : (o : Option ℕ) → position (named_as x) names ≡ o → Some k ≡ option_map suc o → ((j : ℕ) → Some j ≡ position (named_as x) names → j < length names) → k < suc (length names)
    by_place None at q rest = absurd (false≢true (sym (ap is_some q)))
    by_place (Some j) at q rest = let same : k ≡ suc j = ap (λ o. unwrap_or o k) q in omega (arith, same, rest j (sym at))

    by : (b : Bool) → bytes_eq x name.0 ≡ b → ((j : ℕ) → Some j ≡ position (named_as x) names → j < length names) → k < suc (length names)
    by true is rest = let same : k ≡ 0 = ap (λ o. unwrap_or o k) (e ∙ position_first (named_as x) name names is) in omega (arith, same)
    by false is rest = by_place (position (named_as x) names) refl (e ∙ position_behind (named_as x) name names is) rest

pub slot_there : (names : Names) (firsts : List ℕ) (slots : ℕ) (x : Bytes) (k : ℕ) → AreSlots names firsts slots → Some k ≡ position (named_as x) names → k < length firsts
slot_there names firsts slots x k are e =
    let many : length firsts ≡ length names = ap length are.each ∙ as_many 0 names in
    omega (arith, many, place_within names x k e)

-- the slots of the names before a place are there, and those from there on are left
pub record AreSlotsTo (names : Names) (place : ℕ) (firsts : List ℕ) (slots : ℕ) : Type 0 where
  pub each : firsts ++ firsts_from slots (drop place names) ≡ firsts_from 0 names
  pub next : slots_from slots (drop place names) ≡ slots_from 0 names

-- one name more has its slot
pub slot_more : (names : Names) (place : ℕ) (firsts after : List ℕ) (slots next : ℕ) (x : Bytes) (t : ValueType) → slice_get names place ≡ Some (x, t) → AreSlotsTo names place firsts slots → after ≡ firsts ++ slots ∷ [] → next ≡ capped (slots + size_of t) → AreSlotsTo names (place + 1) after next
slot_more names place firsts after slots next x t at before put follows =
    let item : drop place names ≡ (x, t) ∷ drop (place + 1) names =
    drop-item names place (x, t) (slice_get_within names place (x, t) at) (sym (get_or_from_slice_get names place (x, t) (x, t) at)) in
    record {
      each =
          ap (λ l. l ++ firsts_from next (drop (place + 1) names)) put
          ∙ append_assoc firsts (slots ∷ []) (firsts_from next (drop (place + 1) names))
          ∙ ap (λ n. firsts ++ slots ∷ firsts_from n (drop (place + 1) names)) follows
          ∙ sym (ap (λ l. firsts ++ firsts_from slots l) item)
          ∙ before.each;
      next =
          ap (λ n. slots_from n (drop (place + 1) names)) follows
          ∙ sym (ap (slots_from slots) item)
          ∙ before.next;
    }

-- all names have their slots
pub all_slotted : (names : Names) (place : ℕ) (firsts : List ℕ) (slots : ℕ) → drop place names ≡ [] → AreSlotsTo names place firsts slots → AreSlots names firsts slots
all_slotted names place firsts slots none are = record {
  each = sym (append-nil firsts) ∙ sym (ap (λ l. firsts ++ firsts_from slots l) none) ∙ are.each;
  next = sym (ap (slots_from slots) none) ∙ are.next;
}
