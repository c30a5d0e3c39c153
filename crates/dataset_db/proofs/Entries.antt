-- Entries of the map, as datasets.
use Rattle.std.proofs.Common.{◌≡◌, ℕ, Bool, true, false, cond, List, [], ◌∷◌, ◌++◌, map, Option, None, Some, option_map, Bor, bytes_eq, refl, sym, ap, subst, ◌∙◌}
use Rattle.std.specs.Prelude.{find}
use Rattle.std.specs.List.{list_any, IsDistinct, AllByRecursion}
use Rattle.std.specs.Option.{option_copied}
use Rattle.std.specs.Map.{lookup, keys_of}
use Rattle.std.proofs.lemmas.Map.Keys.{IsDistinct-head, IsDistinct-tail}
use Rattle.std.proofs.lemmas.Slice.Eq.{bytes_eq-Decides}
use Rattle.indexmap.specs.IndexMap.{insert_entry}
use Rattle.rtio_types.specs.declared.request.Value.{Value}
use Rattle.dataset_db.specs.declared.datasets.Entry.{Entry}
use Rattle.dataset_db.specs.declared.datasets.Flags.{Flags}
use Rattle.dataset_db.specs.Datasets.{Dataset, is_named, dataset_of, reset, with_dataset}
use Rattle.dataset_db.specs.Fields.{Key, same_key, dataset, datasets, IsInside}

-- the key is the name
abbrev pub is_key : List ℕ → Key → Bool
is_key name key = bytes_eq name key.items

-- what is found of what stands under a test
option_map-cond : {A B : Type 0} (f : A → B) (test : Bool) (a : A) (rest : Option A) → option_map f (cond test (Some a) rest) ≡ cond test (Some (f a)) (option_map f rest)
option_map-cond f true a rest = refl
option_map-cond f false a rest = refl

-- what a name was set to, found by its key
pub dataset_of-entries : {A : Type 0} (of : Value → Flags → A) (name : List ℕ) (entries : List (Key × Entry)) → option_map (λ d. of d.value d.flags) (dataset_of (datasets entries) name) ≡ option_map (λ e. of e.value e.flags) (lookup (is_key name) entries)
dataset_of-entries of name [] = refl
dataset_of-entries of name (entry ∷ entries) =
    option_map-cond (λ d. of d.value d.flags) (is_key name entry.0) (dataset entry) (find (is_named name) (datasets entries))
    ∙ ap (cond (is_key name entry.0) (Some (of entry.1.value entry.1.flags))) (dataset_of-entries of name entries)
    ∙ sym (option_map-cond (λ e. of e.value e.flags) (is_key name entry.0) entry.1 (lookup (is_key name) entries))

-- no key is the name
abbrev pub LacksKey : List ℕ → List (Key × Entry) → Type 0
LacksKey name entries = AllByRecursion (λ key. is_key name key ≡ false) (keys_of entries)

pub map-lacking : (name : List ℕ) (value : Value) (flags : Flags) (entries : List (Key × Entry)) → LacksKey name entries → map (reset name value flags) (datasets entries) ≡ datasets entries
map-lacking name value flags [] lacks = refl
map-lacking name value flags (entry ∷ entries) lacks = rw (lacks.0, map-lacking name value flags entries lacks.1) refl

-- behind a key that is the name there is no other
pub lacks_behind : (name : List ℕ) (entry : Key × Entry) (entries : List (Key × Entry)) → IsDistinct same_key (keys_of (entry ∷ entries)) → is_key name entry.0 ≡ true → LacksKey name entries
lacks_behind name entry entries distinct is =
    subst (λ bytes. LacksKey bytes entries) (sym ((bytes_eq-Decides name entry.0.items).0 is)) (IsDistinct-head same_key entry.0 (keys_of entries) distinct)

-- a dataset that isn't that of the name, before others
pub with_dataset-behind : (name : List ℕ) (value : Value) (flags : Flags) (first : Dataset) (others : List Dataset) → is_named name first ≡ false → with_dataset (first ∷ others) name value flags ≡ first ∷ with_dataset others name value flags
with_dataset-behind name value flags first others isnt = rw isnt (by (list_any (is_named name) others))
  where
    by : (b : Bool) → cond b (first ∷ map (reset name value flags) others) (first ∷ others ++ record { name = name; value = value; flags = flags } ∷ []) ≡ first ∷ cond b (map (reset name value flags) others) (others ++ record { name = name; value = value; flags = flags } ∷ [])
    by true = refl
    by false = refl

-- an entry that is inserted
pub insert-datasets : (entries : List (Key × Entry)) (key : Key) (entry : Entry) → IsDistinct same_key (keys_of entries) → datasets (insert_entry same_key entries key entry) ≡ with_dataset (datasets entries) key.items entry.value entry.flags
insert-datasets [] key entry distinct = refl
insert-datasets (first ∷ entries) key entry distinct =
    by (same_key key first.0) refl (insert-datasets entries key entry (IsDistinct-tail same_key first.0 (keys_of entries) distinct))
  where
    by : (b : Bool) → same_key key first.0 ≡ b → datasets (insert_entry same_key entries key entry) ≡ with_dataset (datasets entries) key.items entry.value entry.flags → datasets (insert_entry same_key (first ∷ entries) key entry) ≡ with_dataset (datasets (first ∷ entries)) key.items entry.value entry.flags
    by true is rest =
        let same : key.items ≡ first.0.items = (bytes_eq-Decides key.items first.0.items).0 is in
        let others = map-lacking key.items entry.value entry.flags entries (lacks_behind key.items first entries distinct is) in
        rw is (rw (others, same) refl)
    by false isnt rest =
        let front : datasets (insert_entry same_key (first ∷ entries) key entry) ≡ dataset first ∷ datasets (insert_entry same_key entries key entry) = rw isnt refl in
        front ∙ ap (λ others. dataset first ∷ others) rest ∙ sym (with_dataset-behind key.items entry.value entry.flags (dataset first) (datasets entries) isnt)

-- each key is the name beside its value
abbrev pub AllNamed : List (Key × Entry) → Type 0
AllNamed entries = AllByRecursion (λ entry. entry.0.items ≡ entry.1.name) entries

-- and stays so
pub named-insert : (entries : List (Key × Entry)) (key : Key) (entry : Entry) → AllNamed entries → key.items ≡ entry.name → AllNamed (insert_entry same_key entries key entry)
named-insert [] key entry named same = (same, tt)
named-insert (first ∷ entries) key entry named same =
    by (same_key key first.0) refl (named-insert entries key entry named.1 same)
  where
    by : (b : Bool) → same_key key first.0 ≡ b → AllNamed (insert_entry same_key entries key entry) → AllNamed (insert_entry same_key (first ∷ entries) key entry)
    by true is rest = rw is (sym ((bytes_eq-Decides key.items first.0.items).0 is) ∙ same, named.1)
    by false isnt rest = rw isnt (named.0, rest)

copied-now : {A : Type 0} (of : Value → Flags → A) (found : Option (Bor Entry)) → option_map (λ e. of e.now.value e.now.flags) found ≡ option_map (λ e. of e.value e.flags) (option_copied found)
copied-now of None = refl
copied-now of (Some entry) = refl

-- what a name was set to, where an entry was looked for
pub found-entries : {A : Type 0} (of : Value → Flags → A) (name bytes : List ℕ) (entries : List (Key × Entry)) (all : List Dataset) (found : Option (Bor Entry)) → datasets entries ≡ all → bytes ≡ name → option_copied found ≡ lookup (is_key bytes) entries → option_map (λ e. of e.now.value e.now.flags) found ≡ option_map (λ d. of d.value d.flags) (dataset_of all name)
found-entries of name bytes entries all found all_are same is =
    copied-now of found
    ∙ ap (option_map (λ e. of e.value e.flags)) is
    ∙ sym (dataset_of-entries of bytes entries)
    ∙ ap (λ ds. option_map (λ d. of d.value d.flags) (dataset_of ds bytes)) all_are
    ∙ ap (λ n. option_map (λ d. of d.value d.flags) (dataset_of all n)) same

-- what the fields keep to after an entry is inserted
pub inside-insert : (entries new : List (Key × Entry)) (key : Key) (entry : Entry) → IsInside entries → IsDistinct same_key (keys_of new) → new ≡ insert_entry same_key entries key entry → key.items ≡ entry.name → IsInside new
inside-insert entries new key entry inside distinct inserted same =
    record { distinct = distinct; named = rw inserted (named-insert entries key entry inside.named same) }

-- what is left after an entry is inserted
pub put-view : (entries new : List (Key × Entry)) (all : List Dataset) (key : Key) (entry : Entry) (name : List ℕ) → datasets entries ≡ all → IsInside entries → new ≡ insert_entry same_key entries key entry → key.items ≡ name → datasets new ≡ with_dataset all name entry.value entry.flags
put-view entries new all key entry name all_are inside inserted same =
    ap datasets inserted
    ∙ insert-datasets entries key entry inside.distinct
    ∙ ap (λ ds. with_dataset ds key.items entry.value entry.flags) all_are
    ∙ ap (λ n. with_dataset all n entry.value entry.flags) same
