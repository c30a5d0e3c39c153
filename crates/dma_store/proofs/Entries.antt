-- Entries by their keys in memory, as entries by their names.
use Rattle.std.proofs.Common.{◌≡◌, ℕ, zero, suc, Bool, true, false, not, ◌&&◌, cond, List, [], ◌∷◌, ◌++◌, length, map, filter, Option, None, Some, option_map, is_some, IsTrue, bytes_eq, refl, sym, ap, subst, ◌∙◌, ◌+◌, ◌*◌, pos}
use Rattle.std.specs.Prelude.{find, position, slice_get, if◌then◌else◌}
use Rattle.std.specs.List.{list_any, list_all, prefix_len, IsDistinct, AllByRecursion}
use Rattle.std.specs.Map.{lookup, keys_of, remove_entry}
use Rattle.std.proofs.lemmas.Map.Made.{is_some-lookup}
use Rattle.std.proofs.lemmas.Map.Keys.{IsDistinct-head, IsDistinct-tail}
use Rattle.std.proofs.lemmas.Slice.Eq.{bytes_eq-Decides}
use Rattle.indexmap.specs.IndexMap.{insert_entry}
use Rattle.rtio_types.specs.Recordings.{Recorded}
use Rattle.dma_store.specs.Kept.{is_named, is_playable, resaved, handle_of}
use Rattle.dma_store.specs.declared.key.Key.{Key}
use Rattle.dma_store.specs.Fields.{same_key, by_name}

-- the key is the name
abbrev pub is_key : List ℕ → Key → Bool
is_key name key = bytes_eq name key.name

-- what is found of what stands under a test
option_map-cond : {A B : Type 0} (f : A → B) (test : Bool) (a : A) (rest : Option A) → option_map f (cond test (Some a) rest) ≡ cond test (Some (f a)) (option_map f rest)
option_map-cond f true a rest = refl
option_map-cond f false a rest = refl

-- the recording of a name
pub find-by_name : (name : List ℕ) (entries : List (Key × Recorded)) → option_map (λ entry. entry.1) (find (is_named name) (by_name entries)) ≡ lookup (is_key name) entries
find-by_name name [] = refl
find-by_name name (entry ∷ entries) =
    option_map-cond (λ e. e.1) (is_key name entry.0) (entry.0.name, entry.1) (find (is_named name) (by_name entries)) ∙ ap (λ rest. cond (is_key name entry.0) (Some entry.1) rest) (find-by_name name entries)

-- whether a name is kept
pub list_any-by_name : (name : List ℕ) (entries : List (Key × Recorded)) → list_any (is_named name) (by_name entries) ≡ list_any (is_key name) (keys_of entries)
list_any-by_name name [] = refl
list_any-by_name name (entry ∷ entries) = rw (list_any-by_name name entries) refl

prefix_len-by_name : (name : List ℕ) (entries : List (Key × Recorded)) → prefix_len (λ entry. not (is_named name entry)) (by_name entries) ≡ prefix_len (λ key. not (is_key name key)) (keys_of entries)
prefix_len-by_name name [] = refl
prefix_len-by_name name (entry ∷ entries) = rw (prefix_len-by_name name entries) refl

-- the names are as many as the keys
pub length-by_name : (entries : List (Key × Recorded)) → length (by_name entries) ≡ length (keys_of entries)
length-by_name [] = refl
length-by_name (entry ∷ entries) = ap suc (length-by_name entries)

-- the position of a name
pub position-by_name : (name : List ℕ) (entries : List (Key × Recorded)) → position (is_named name) (by_name entries) ≡ position (is_key name) (keys_of entries)
position-by_name name entries = rw (prefix_len-by_name name entries, length-by_name entries) refl

-- no key is the name
abbrev LacksKey : List ℕ → List (Key × Recorded) → Type 0
LacksKey name entries = AllByRecursion (λ key. is_key name key ≡ false) (keys_of entries)

map-lacking : (name : List ℕ) (recording : Recorded) (entries : List (Key × Recorded)) → LacksKey name entries → map (resaved name recording) (by_name entries) ≡ by_name entries
map-lacking name recording [] lacks = refl
map-lacking name recording (entry ∷ entries) lacks = rw (lacks.0, map-lacking name recording entries lacks.1) refl

filter-lacking : (name : List ℕ) (entries : List (Key × Recorded)) → LacksKey name entries → filter (λ entry. not (is_named name entry)) (by_name entries) ≡ by_name entries
filter-lacking name [] lacks = refl
filter-lacking name (entry ∷ entries) lacks = rw (lacks.0, filter-lacking name entries lacks.1) refl

-- behind a key that is the name there is no other
lacks_behind : (name : List ℕ) (entry : Key × Recorded) (entries : List (Key × Recorded)) → IsDistinct same_key (keys_of (entry ∷ entries)) → is_key name entry.0 ≡ true → LacksKey name entries
lacks_behind name entry entries distinct is =
    subst (λ bytes. LacksKey bytes entries) (sym ((bytes_eq-Decides name entry.0.name).0 is)) (IsDistinct-head same_key entry.0 (keys_of entries) distinct)

-- the entries after a recording was saved under a name
abbrev pub resaved_entries : List ℕ → Recorded → List (List ℕ × Recorded) → List (List ℕ × Recorded)
resaved_entries name recording entries =
    if list_any (is_named name) entries
    then map (resaved name recording) entries
    else entries ++ (name, recording) ∷ []

-- an entry that isn't that of the name, before others
pub resaved-behind : (name : List ℕ) (recording : Recorded) (entry : List ℕ × Recorded) (entries : List (List ℕ × Recorded)) → is_named name entry ≡ false → resaved_entries name recording (entry ∷ entries) ≡ entry ∷ resaved_entries name recording entries
resaved-behind name recording entry entries isnt = rw isnt (by (list_any (is_named name) entries))
  where
    by : (b : Bool) → cond b (entry ∷ map (resaved name recording) entries) (entry ∷ entries ++ (name, recording) ∷ []) ≡ entry ∷ cond b (map (resaved name recording) entries) (entries ++ (name, recording) ∷ [])
    by true = refl
    by false = refl

-- a recording that is inserted
pub insert-by_name : (entries : List (Key × Recorded)) (key : Key) (recording : Recorded) → IsDistinct same_key (keys_of entries) → by_name (insert_entry same_key entries key recording) ≡ resaved_entries key.name recording (by_name entries)
insert-by_name [] key recording distinct = refl
insert-by_name (entry ∷ entries) key recording distinct =
    by (same_key key entry.0) refl (insert-by_name entries key recording (IsDistinct-tail same_key entry.0 (keys_of entries) distinct))
  where
    by : (b : Bool) → same_key key entry.0 ≡ b → by_name (insert_entry same_key entries key recording) ≡ resaved_entries key.name recording (by_name entries) → by_name (insert_entry same_key (entry ∷ entries) key recording) ≡ resaved_entries key.name recording (by_name (entry ∷ entries))
    by true is rest =
        let same : key.name ≡ entry.0.name = (bytes_eq-Decides key.name entry.0.name).0 is in
        let others = map-lacking key.name recording entries (lacks_behind key.name entry entries distinct is) in
        rw is (rw (others, same) refl)
    by false isnt rest =
        let front : by_name (insert_entry same_key (entry ∷ entries) key recording) ≡ (entry.0.name, entry.1) ∷ by_name (insert_entry same_key entries key recording) = rw isnt refl in
        front ∙ ap (λ others. (entry.0.name, entry.1) ∷ others) rest ∙ sym (resaved-behind key.name recording (entry.0.name, entry.1) (by_name entries) isnt)

-- a name that is removed
pub remove-by_name : (entries : List (Key × Recorded)) (name : List ℕ) → IsDistinct same_key (keys_of entries) → by_name (remove_entry (is_key name) entries) ≡ filter (λ entry. not (is_named name entry)) (by_name entries)
remove-by_name [] name distinct = refl
remove-by_name (entry ∷ entries) name distinct =
    by (is_key name entry.0) refl (remove-by_name entries name (IsDistinct-tail same_key entry.0 (keys_of entries) distinct))
  where
    by : (b : Bool) → is_key name entry.0 ≡ b → by_name (remove_entry (is_key name) entries) ≡ filter (λ other. not (is_named name other)) (by_name entries) → by_name (remove_entry (is_key name) (entry ∷ entries)) ≡ filter (λ other. not (is_named name other)) (by_name (entry ∷ entries))
    by true is rest = rw is (sym (filter-lacking name entries (lacks_behind name entry entries distinct is)))
    by false isnt rest = rw isnt (ap (λ others. (entry.0.name, entry.1) ∷ others) rest)

-- the recordings may all be kept
abbrev pub AllPlayable : List (Key × Recorded) → Type 0
AllPlayable entries = IsTrue (list_all (λ entry. is_playable entry.1) entries)

and-parts : (a b : Bool) → (a && b) ≡ true → (a ≡ true) × (b ≡ true)
and-parts true b both = (refl, both)
and-parts false b both = absurd (cc)

-- one that is found may be kept
pub playable-lookup : (name : List ℕ) (entries : List (Key × Recorded)) (recording : Recorded) → AllPlayable entries → lookup (is_key name) entries ≡ Some recording → IsTrue (is_playable recording)
playable-lookup name [] recording playable found = absurd (cc)
playable-lookup name (entry ∷ entries) recording playable found =
    by (is_key name entry.0) refl (playable-lookup name entries recording (and-parts _ _ playable).1)
  where
    by : (b : Bool) → is_key name entry.0 ≡ b → (lookup (is_key name) entries ≡ Some recording → IsTrue (is_playable recording)) → IsTrue (is_playable recording)
    by true is rest =
        let same : Some entry.1 ≡ Some recording = rw is at found in
        let equal : entry.1 ≡ recording = cc in
        subst (λ r. IsTrue (is_playable r)) equal (and-parts _ _ playable).0
    by false isnt rest = rest (rw isnt at found)

-- one at a position may be kept
pub playable-slice_get : (entries : List (Key × Recorded)) (position : ℕ) (entry : Key × Recorded) → AllPlayable entries → slice_get entries position ≡ Some entry → IsTrue (is_playable entry.1)
playable-slice_get [] position entry playable found = absurd (cc)
playable-slice_get (first ∷ entries) zero entry playable found =
    let equal : first ≡ entry = cc in
    subst (λ e. IsTrue (is_playable e.1)) equal (and-parts _ _ playable).0
playable-slice_get (first ∷ entries) (suc position) entry playable found =
    playable-slice_get entries position entry (and-parts _ _ playable).1 found

-- all may be kept after one is inserted
pub playable-insert : (entries : List (Key × Recorded)) (key : Key) (recording : Recorded) → AllPlayable entries → IsTrue (is_playable recording) → AllPlayable (insert_entry same_key entries key recording)
playable-insert [] key recording playable one = rw one refl
playable-insert (entry ∷ entries) key recording playable one =
    by (same_key key entry.0) refl (playable-insert entries key recording (and-parts _ _ playable).1 one)
  where
    by : (b : Bool) → same_key key entry.0 ≡ b → AllPlayable (insert_entry same_key entries key recording) → AllPlayable (insert_entry same_key (entry ∷ entries) key recording)
    by true is rest = let others : AllPlayable entries = (and-parts _ _ playable).1 in rw is (rw (one, others) refl)
    by false isnt rest = let first : is_playable entry.1 ≡ true = (and-parts _ _ playable).0 in rw isnt (rw (first, rest) refl)

-- all may be kept after one is removed
pub playable-remove : (name : List ℕ) (entries : List (Key × Recorded)) → AllPlayable entries → AllPlayable (remove_entry (is_key name) entries)
playable-remove name [] playable = refl
playable-remove name (entry ∷ entries) playable =
    by (is_key name entry.0) refl (playable-remove name entries (and-parts _ _ playable).1)
  where
    by : (b : Bool) → is_key name entry.0 ≡ b → AllPlayable (remove_entry (is_key name) entries) → AllPlayable (remove_entry (is_key name) (entry ∷ entries))
    by true is rest = rw is (and-parts _ _ playable).1
    by false isnt rest = let first : is_playable entry.1 ≡ true = (and-parts _ _ playable).0 in rw isnt (rw (first, rest) refl)

-- the handle of a name that has a position
pub handle_of-found : (entries : List (Key × Recorded)) (epoch : ℕ) (name : List ℕ) (at : ℕ) → position (is_key name) (keys_of entries) ≡ Some at → handle_of (record { entries = by_name entries; epoch = epoch }) name ≡ Some (pos (epoch * 4096 + at))
handle_of-found entries epoch name at found =
    ap (option_map (λ at. pos (epoch * 4096 + at))) (position-by_name name entries ∙ found)

-- and of one that has none
pub handle_of-missing : (entries : List (Key × Recorded)) (epoch : ℕ) (name : List ℕ) → position (is_key name) (keys_of entries) ≡ None → handle_of (record { entries = by_name entries; epoch = epoch }) name ≡ None
handle_of-missing entries epoch name missing =
    ap (option_map (λ at. pos (epoch * 4096 + at))) (position-by_name name entries ∙ missing)

-- whether a name is kept
pub is_kept-by_name : (entries : List (Key × Recorded)) (name : List ℕ) → list_any (is_named name) (by_name entries) ≡ is_some (lookup (is_key name) entries)
is_kept-by_name entries name = list_any-by_name name entries ∙ sym (is_some-lookup (is_key name) entries)
