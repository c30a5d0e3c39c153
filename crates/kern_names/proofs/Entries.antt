-- Maps whose keys are bytes in a `Vec`, as lists of pairs.
use Rattle.std.proofs.Common.{◌≡◌, Bool, true, false, List, [], ◌∷◌, ◌++◌, map, None, Some, refl, ap, bytes_eq}
use Rattle.std.specs.Map.{lookup}
use Rattle.indexmap.specs.IndexMap.{insert_entry}
use Rattle.kern_syntax.specs.Tree.{Bytes}
use Rattle.kern_calls.specs.Calls.{look_up}
use Rattle.kern_expression_types.proofs.Named.{Key, same}

-- entries by their names
abbrev pub named : {A : Type 0} → List (Key × A) → List (Bytes × A)
named entries = map (λ entry. (entry.0.items, entry.1)) entries

-- what a name stands for
pub lookup-named : {A : Type 0} (name : Bytes) (entries : List (Key × A)) → lookup (λ key. bytes_eq name key.items) entries ≡ look_up (named entries) name
lookup-named name [] = refl
lookup-named name (entry ∷ entries) = rw (lookup-named name entries) refl

-- an entry that is inserted behind another, when the rest is known
insert_behind : {A : Type 0} (entry : Key × A) (entries : List (Key × A)) (key : Key) (a : A) → look_up (named (entry ∷ entries)) key.items ≡ None → (look_up (named entries) key.items ≡ None → named (insert_entry same entries key a) ≡ named entries ++ (key.items, a) ∷ []) → named (insert_entry same (entry ∷ entries) key a) ≡ named (entry ∷ entries) ++ (key.items, a) ∷ []
insert_behind entry entries key a missing rest = by (same key entry.0) refl
  where
    by : (b : Bool) → same key entry.0 ≡ b → named (insert_entry same (entry ∷ entries) key a) ≡ named (entry ∷ entries) ++ (key.items, a) ∷ []
    by true is = let other : Some entry.1 ≡ None = rw is at missing in cc
    by false is = rw is (ap (λ others. (entry.0.items, entry.1) ∷ others) (rest (rw is at missing)))

-- a name that isn't there, as an entry that is inserted
pub insert_entry-named : {A : Type 0} (entries : List (Key × A)) (key : Key) (a : A) → look_up (named entries) key.items ≡ None → named (insert_entry same entries key a) ≡ named entries ++ (key.items, a) ∷ []
insert_entry-named [] key a missing = refl
insert_entry-named (entry ∷ entries) key a missing =
    insert_behind entry entries key a missing (insert_entry-named entries key a)

-- the names after one is added
pub added-named : {A : Type 0} (old new : List (Key × A)) (key : Key) (name : Bytes) (a : A) (before : List (Bytes × A)) → named old ≡ before → key.items ≡ name → look_up before name ≡ None → new ≡ insert_entry same old key a → before ++ (name, a) ∷ [] ≡ named new
added-named {A} old new key name a before view items missing inserted =
    let absent : look_up (named old) key.items ≡ None = rw (view, items) missing in
    let added : named new ≡ named old ++ (key.items, a) ∷ [] = rw inserted (insert_entry-named old key a absent) in
    rw (added, view, items) refl
