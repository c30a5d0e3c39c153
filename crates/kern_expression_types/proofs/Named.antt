-- Sets whose keys are bytes in a `Vec`, as lists of names.
use Rattle.std.proofs.Common.{◌≡◌, ℕ, Bool, true, false, List, [], ◌∷◌, ◌++◌, map, Vec, Global, refl, sym, ap, ◌∙◌, bytes_eq}
use Rattle.std.specs.List.{list_any}
use Rattle.indexmap.specs.IndexSet.{insert_key}
use Rattle.kern_syntax.specs.Tree.{Bytes}
use Rattle.kern_expression_types.specs.Before.{is_in, with_member}

-- some bytes in memory
abbrev pub Key : Type 0
Key = Vec ℕ Global

-- two of them are the same
abbrev pub same : Key → Key → Bool
same a b = bytes_eq a.items b.items

-- keys as names
abbrev pub names_of_keys : List Key → List Bytes
names_of_keys keys = map (λ key. key.items) keys

-- a name among the keys
pub list_any-names : (name : Bytes) (keys : List Key) → list_any (λ key. bytes_eq name key.items) keys ≡ is_in (names_of_keys keys) name
list_any-names name [] = refl
list_any-names name (key ∷ keys) = rw (list_any-names name keys) refl

-- keys behind others
names-append : (keys others : List Key) → names_of_keys (keys ++ others) ≡ names_of_keys keys ++ names_of_keys others
names-append [] others = refl
names-append (key ∷ keys) others = ap (λ rest. key.items ∷ rest) (names-append keys others)

-- a key that is inserted
pub insert_key-names : (keys : List Key) (key : Key) → names_of_keys (insert_key same keys key) ≡ with_member (names_of_keys keys) key.items
insert_key-names keys key = by (list_any (same key) keys) refl
  where
    by : (b : Bool) → list_any (same key) keys ≡ b → names_of_keys (insert_key same keys key) ≡ with_member (names_of_keys keys) key.items
    by true is = let there : is_in (names_of_keys keys) key.items ≡ true = sym (list_any-names key.items keys) ∙ is in rw (is, there) refl
    by false is = let missing : is_in (names_of_keys keys) key.items ≡ false = sym (list_any-names key.items keys) ∙ is in rw (is, missing) (names-append keys (key ∷ []))
