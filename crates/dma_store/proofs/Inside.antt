-- What the calls of a store leave, from what the map of its recordings leaves.
use Rattle.std.proofs.Common.{◌≡◌, ℕ, suc, ◌+◌, ◌<◌, ◌≤◌, Bool, true, false, not, ◌&&◌, ◌||◌, List, [], ◌∷◌, ◌++◌, length, map, Option, None, Some, is_some, IsTrue, IfSome, Bor, nat_le, refl, sym, ap, ◌∙◌, arith}
use Rattle.std.specs.Prelude.{if◌then◌else◌}
use Rattle.std.specs.List.{list_any, IsDistinct}
use Rattle.std.specs.Map.{lookup, keys_of, remove_entry}
use Rattle.std.specs.Option.{option_copied}
use Rattle.std.proofs.lemmas.Bool.Decides.{nat_tests}
use Rattle.indexmap.specs.IndexMap.{insert_entry}
use Rattle.rtio_types.specs.Recordings.{Recorded}
use Rattle.dma_store.specs.Kept.{KeptState, handed_in, is_named, is_playable, is_kept, is_full_for, next_epoch, resaved, saved, erased}
use Rattle.dma_store.specs.declared.key.Key.{Key}
use Rattle.dma_store.specs.Fields.{same_key, by_name, IsStoreInside}
use Rattle.dma_store.proofs.Entries.{is_key, AllPlayable, length-by_name, list_any-by_name, is_kept-by_name, insert-by_name, remove-by_name, playable-lookup, playable-insert, playable-remove}

-- the store with these fields
abbrev pub store_of : List (Key × Recorded) → ℕ → KeptState
store_of entries epoch = record { entries = by_name entries; epoch = epoch }

-- a recording that the map gives may be kept
pub playable-copied : (name : List ℕ) (entries : List (Key × Recorded)) (found : Option (Bor Recorded)) → AllPlayable entries → option_copied found ≡ lookup (is_key name) entries → IfSome found (λ recording. IsTrue (is_playable recording.now))
playable-copied name entries None playable is = tt
playable-copied name entries (Some recording) playable is = playable-lookup name entries recording.now playable (sym is)

length-keys : (entries : List (Key × Recorded)) → length (keys_of entries) ≡ length entries
length-keys [] = refl
length-keys (entry ∷ entries) = ap suc (length-keys entries)

length-names : (entries : List (Key × Recorded)) → length (by_name entries) ≡ length entries
length-names entries = length-by_name entries ∙ length-keys entries

-- the last places are taken, so only a name that is kept finds one
pub full-by_name : (entries : List (Key × Recorded)) (epoch : ℕ) (name : List ℕ) (kept : Bool) → 4096 ≤ length entries → kept ≡ is_some (lookup (is_key name) entries) → not kept ≡ is_full_for (store_of entries epoch) name
full-by_name entries epoch name kept full is =
    let names : is_kept (store_of entries epoch) name ≡ kept = is_kept-by_name entries name ∙ sym is in
    let taken : nat_le 4096 (length entries) ≡ true = grind (arith, nat_tests) in
    rw (names, length-names entries, taken) refl

-- how many entries there are after one is inserted
length-insert : (entries : List (Key × Recorded)) (key : Key) (recording : Recorded) → length (insert_entry same_key entries key recording) ≡ (if list_any (is_key key.name) (keys_of entries) then length entries else length entries + 1)
length-insert [] key recording = refl
length-insert (entry ∷ entries) key recording =
    by (same_key key entry.0) refl (list_any (is_key key.name) (keys_of entries)) (length-insert entries key recording)
  where
    by : (b : Bool) → same_key key entry.0 ≡ b → (c : Bool) → length (insert_entry same_key entries key recording) ≡ (if c then length entries else length entries + 1) → length (insert_entry same_key (entry ∷ entries) key recording) ≡ (if same_key key entry.0 || c then length (entry ∷ entries) else length (entry ∷ entries) + 1)
    by true is c rest = rw is refl
    by false isnt true rest = rw isnt (ap suc rest)
    by false isnt false rest = rw isnt (ap suc rest ∙ omega arith)

-- there are no more than 4,096 after one is inserted, if there was a place
few-insert : (entries : List (Key × Recorded)) (key : Key) (recording : Recorded) → length entries ≤ 4096 → nat_le 4096 (length entries) && not (list_any (is_key key.name) (keys_of entries)) ≡ false → length (insert_entry same_key entries key recording) ≤ 4096
few-insert entries key recording few = by (list_any (is_key key.name) (keys_of entries)) (length-insert entries key recording)
  where
    by : (b : Bool) → length (insert_entry same_key entries key recording) ≡ (if b then length entries else length entries + 1) → nat_le 4096 (length entries) && not b ≡ false → length (insert_entry same_key entries key recording) ≤ 4096
    by true is place = omega arith
    by false is place = by_test (nat_le 4096 (length entries)) refl place
      where
        by_test : (b : Bool) → nat_le 4096 (length entries) ≡ b → b && true ≡ false → length (insert_entry same_key entries key recording) ≤ 4096
        by_test true full place = absurd (cc)
        by_test false free place = let below : length entries < 4096 = grind (arith, nat_tests) in omega arith

-- the fields after a save
pub inside-saved : (entries new : List (Key × Recorded)) (epoch next : ℕ) (key : Key) (recording : Recorded) → IsStoreInside entries epoch → is_full_for (store_of entries epoch) key.name ≡ false → IsTrue (is_playable recording) → IsDistinct same_key (keys_of new) → new ≡ insert_entry same_key entries key recording → next ≡ next_epoch epoch → IsStoreInside new next
inside-saved entries new epoch next key recording inside place playable distinct inserted is =
    let free = rw (length-names entries, list_any-by_name key.name entries) at place in
    let few : length new ≤ 4096 = rw inserted (few-insert entries key recording inside.few free) in
    let all : AllPlayable new = rw inserted (playable-insert entries key recording inside.playable playable) in
    record { distinct = distinct; few = few; playable = all; in_range = rw is (omega arith) }

-- what a save leaves
pub saved-view : (entries new : List (Key × Recorded)) (epoch next : ℕ) (key : Key) (name : List ℕ) (recording : Recorded) → IsDistinct same_key (keys_of entries) → new ≡ insert_entry same_key entries key recording → key.name ≡ name → next ≡ next_epoch epoch → store_of new next ≡ saved (store_of entries epoch) name recording
saved-view entries new epoch next key name recording distinct inserted items is =
    rw (inserted, insert-by_name entries key recording distinct, items, is) refl

-- what an insert of a new name leaves
inserted-new : (entries : List (Key × Recorded)) (key : Key) (recording : Recorded) → IsDistinct same_key (keys_of entries) → list_any (is_named key.name) (by_name entries) ≡ false → by_name (insert_entry same_key entries key recording) ≡ by_name entries ++ (key.name, recording) ∷ []
inserted-new entries key recording distinct absent =
    insert-by_name entries key recording distinct ∙ ap (λ b. if b then map (resaved key.name recording) (by_name entries) else by_name entries ++ (key.name, recording) ∷ []) absent

-- what stands when a recording was handed in
pub handed-view : (entries new : List (Key × Recorded)) (epoch : ℕ) (key : Key) (recording : Recorded) → IsDistinct same_key (keys_of entries) → is_kept (store_of entries epoch) key.name ≡ false → new ≡ insert_entry same_key entries key recording → store_of new epoch ≡ handed_in (store_of entries epoch) key.name recording
handed-view entries new epoch key recording distinct absent inserted =
    ap (λ es. record { entries = es; epoch = epoch }) (ap by_name inserted ∙ inserted-new entries key recording distinct absent)

-- the fields after a recording was handed in
pub inside-handed : (entries new : List (Key × Recorded)) (epoch : ℕ) (key : Key) (recording : Recorded) → IsStoreInside entries epoch → is_kept (store_of entries epoch) key.name ≡ false → length (by_name entries) < 4096 → IsTrue (is_playable recording) → IsDistinct same_key (keys_of new) → new ≡ insert_entry same_key entries key recording → IsStoreInside new epoch
inside-handed entries new epoch key recording inside absent place playable distinct inserted =
    let missing : list_any (is_key key.name) (keys_of entries) ≡ false = sym (list_any-by_name key.name entries) ∙ absent in
    let longer : length (insert_entry same_key entries key recording) ≡ length entries + 1 = length-insert entries key recording ∙ ap (λ b. if b then length entries else length entries + 1) missing in
    let names = length-names entries in
    let few : length new ≤ 4096 = rw inserted (omega arith) in
    let all : AllPlayable new = rw inserted (playable-insert entries key recording inside.playable playable) in
    record { distinct = distinct; few = few; playable = all; in_range = inside.in_range }

length-remove : (entries : List (Key × Recorded)) (name : List ℕ) → length (remove_entry (is_key name) entries) ≤ length entries
length-remove [] name = omega arith
length-remove (entry ∷ entries) name = by (is_key name entry.0) refl (length-remove entries name)
  where
    by : (b : Bool) → is_key name entry.0 ≡ b → length (remove_entry (is_key name) entries) ≤ length entries → length (remove_entry (is_key name) (entry ∷ entries)) ≤ length (entry ∷ entries)
    by true is rest = rw is (omega arith)
    by false isnt rest = rw isnt (omega arith)

-- the fields after an erase
pub inside-erased : (entries new : List (Key × Recorded)) (epoch next : ℕ) (name : List ℕ) → IsStoreInside entries epoch → IsDistinct same_key (keys_of new) → new ≡ remove_entry (is_key name) entries → next ≡ next_epoch epoch → IsStoreInside new next
inside-erased entries new epoch next name inside distinct removed is =
    let before : length entries ≤ 4096 = inside.few in
    let shorter = length-remove entries name in
    let few : length new ≤ 4096 = rw removed (omega arith) in
    let all : AllPlayable new = rw removed (playable-remove name entries inside.playable) in
    record { distinct = distinct; few = few; playable = all; in_range = rw is (omega arith) }

-- what an erase leaves
pub erased-view : (entries new : List (Key × Recorded)) (epoch next : ℕ) (name : List ℕ) → IsDistinct same_key (keys_of entries) → new ≡ remove_entry (is_key name) entries → next ≡ next_epoch epoch → store_of new next ≡ erased (store_of entries epoch) name
erased-view entries new epoch next name distinct removed is = rw (removed, remove-by_name entries name distinct, is) refl

-- a name was kept where something was removed
pub kept-removed : (entries : List (Key × Recorded)) (epoch : ℕ) (name : List ℕ) (found : Option Recorded) (none b : Bool) → found ≡ lookup (is_key name) entries → is_some found ≡ not none → none ≡ b → is_kept (store_of entries epoch) name ≡ not b
kept-removed entries epoch name found none b is missing answer =
    is_kept-by_name entries name ∙ ap is_some (sym is) ∙ missing ∙ ap not answer
