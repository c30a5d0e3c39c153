-- Texts that have the form of names.
use Rattle.std.proofs.Common.{◌≡◌, ℕ, ◌<◌, List, [], ◌∷◌, ◌++◌, length, get_or, Result, Ok, Err, sym, ap, subst, ◌∙◌}
use Rattle.std.specs.Prelude.{Bool, true, false, IsTrue, OnErr, if◌then◌else◌}
use Rattle.std.proofs.lemmas.List.{get_or-map, length-map}
use Rattle.std.proofs.lemmas.List.Elements.{All-push}
use Rattle.indexmap.specs.IndexSet.{insert_key}
use Rattle.kern_syntax.specs.Tree.{Bytes}
use Rattle.kern_expression_types.specs.Before.{is_in, with_member}
use Rattle.kern_expression_types.proofs.Named.{Key, same, names_of_keys, insert_key-names}
use Rattle.rtio_types.specs.Names.{is_name}
use Rattle.core_code_names.specs.Named.{AreNames}

-- a name more, unless it is there
with_member_named : (texts : List Bytes) (name : Bytes) → AreNames texts → IsTrue (is_name name) → AreNames (with_member texts name)
with_member_named texts name named own = by_known (is_in texts name)
  where
    by_known : (b : Bool) → AreNames (if b then texts else texts ++ name ∷ [])
    by_known true = named
    by_known false = All-push (λ text. IsTrue (is_name text)) texts name named own

-- the keys after one is inserted
pub inserted_named : (old new : List Key) (key : Key) (name : Bytes) → AreNames (names_of_keys old) → key.items ≡ name → IsTrue (is_name name) → new ≡ insert_key same old key → AreNames (names_of_keys new)
inserted_named old new key name named items own inserted =
    let put : names_of_keys new ≡ with_member (names_of_keys old) key.items = ap names_of_keys inserted ∙ insert_key-names old key in
    subst AreNames (sym put) (with_member_named (names_of_keys old) key.items named (subst (λ text. IsTrue (is_name text)) (sym items) own))

-- the key at an index
pub named_at : (keys : List Key) (i : ℕ) (key : Key) → AreNames (names_of_keys keys) → i < length keys → key ≡ get_or keys i key → IsTrue (is_name key.items)
named_at keys i key named within is =
    let inside : i < length (names_of_keys keys) = subst (λ n. i < n) (sym (length-map keys (λ k. k.items))) within in
    let same_text : get_or (names_of_keys keys) i key.items ≡ key.items = get_or-map (λ k. k.items) keys i key key.items within ∙ ap (λ k. k.items) (sym is) in
    subst (λ text. IsTrue (is_name text)) same_text (named i key.items inside)

-- what holds anyway holds where there is an error
pub on_err : {T E P : Type 0} (r : Result T E) → P → OnErr r P
on_err (Ok x) p = tt
on_err (Err e) p = p
