-- The keys of an object, one by one: in an object's order, the first that isn't known is the least.
use Rattle.std.proofs.Common.{◌≡◌, ℕ, Bool, true, false, not, cond, List, [], ◌∷◌, map, Option, None, Some, String, Global, Bor, Less, bytes_eq, string_bytes, string_cmp, nat_cmp, refl, sym, ap, ◌∙◌}
use Rattle.std.specs.Prelude.{find, filter, option_and_then}
use Rattle.std.specs.List.{list_any, AllByRecursion}
use Rattle.std.specs.List.Sorted.{IsStrictlySortedBy}
use Rattle.std.specs.Map.{keys_of}
use Rattle.std.specs.Cmp.Lexicographic.{slice_cmp}
use Rattle.std.proofs.lemmas.Map.Keys.{sorted_head, sorted_tail}
use Rattle.serde_json.specs.Data.{Data}
use Rattle.serde_json.specs.Find.{as_object}
use Rattle.serde_json.specs.View.{members_view}
use Rattle.serde_json.specs.declared.value.Value.{Value}
use Rattle.json_fields.specs.Objects.{keys, least, least_unknown, lesser, is_known}

-- the names that a table lends
abbrev pub lent : List (Bor (List ℕ)) → List (List ℕ)
lent known = map (λ name. name.now) known

-- the first key that isn't known
abbrev pub first_unknown : List (List ℕ) → List (List ℕ) → Option (List ℕ)
first_unknown known names = find (λ key. not (is_known known key)) names

keys_view : (entries : List (String Global × Value)) → keys (members_view entries) ≡ map string_bytes (keys_of entries)
keys_view [] = refl
keys_view (entry ∷ entries) = ap (λ rest. string_bytes entry.0 ∷ rest) (keys_view entries)

-- a key before others is less than one that is found among them
less_than_found : (p : List ℕ → Bool) (key : String Global) (names : List (String Global)) (found : List ℕ) → AllByRecursion (λ name. string_cmp key name ≡ Less) names → find p (map string_bytes names) ≡ Some found → slice_cmp nat_cmp (string_bytes key) found ≡ Less
less_than_found p key [] found below is = absurd (cc)
less_than_found p key (name ∷ names) found below is = by (p (string_bytes name)) refl (less_than_found p key names found below.1)
  where
    by : (b : Bool) → p (string_bytes name) ≡ b → (find p (map string_bytes names) ≡ Some found → slice_cmp nat_cmp (string_bytes key) found ≡ Less) → slice_cmp nat_cmp (string_bytes key) found ≡ Less
    by true passes rest =
        let here : Some (string_bytes name) ≡ Some found = rw passes at is in
        let same : string_bytes name ≡ found = cc in
        ap (slice_cmp nat_cmp (string_bytes key)) (sym same) ∙ below.0
    by false fails rest = rest (rw fails at is)

lesser-first : (p : List ℕ → Bool) (key : String Global) (names : List (String Global)) (found : Option (List ℕ)) → AllByRecursion (λ name. string_cmp key name ≡ Less) names → find p (map string_bytes names) ≡ found → lesser (string_bytes key) found ≡ string_bytes key
lesser-first p key names None below is = refl
lesser-first p key names (Some found) below is = rw (less_than_found p key names found below is) refl

-- among keys in order the first that passes is the least that does
least-sorted : (p : List ℕ → Bool) (names : List (String Global)) → IsStrictlySortedBy string_cmp names → least (filter p (map string_bytes names)) ≡ find p (map string_bytes names)
least-sorted p [] sorted = refl
least-sorted p (name ∷ names) sorted =
    by (p (string_bytes name)) refl (least-sorted p names (sorted_tail string_cmp name names sorted))
  where
    by : (b : Bool) → p (string_bytes name) ≡ b → least (filter p (map string_bytes names)) ≡ find p (map string_bytes names) → least (filter p (map string_bytes (name ∷ names))) ≡ find p (map string_bytes (name ∷ names))
    by true passes rest =
        let first : lesser (string_bytes name) (find p (map string_bytes names)) ≡ string_bytes name = lesser-first p name names (find p (map string_bytes names)) (sorted_head string_cmp name names sorted) refl in
        rw passes (ap Some (ap (lesser (string_bytes name)) rest ∙ first))
    by false fails rest = rw fails rest

-- the first key that isn't known, among all keys of the object, is the least
pub least_from : (known : List (List ℕ)) (entries : List (String Global × Value)) (d : Data) → IsStrictlySortedBy string_cmp (keys_of entries) → Some (members_view entries) ≡ as_object d → first_unknown known (map string_bytes (keys_of entries)) ≡ least_unknown known d
least_from known entries d sorted is =
    sym (least-sorted (λ key. not (is_known known key)) (keys_of entries) sorted)
    ∙ ap (λ names. least (filter (λ key. not (is_known known key)) names)) (sym (keys_view entries))
    ∙ ap (option_and_then (λ ms. least (filter (λ key. not (is_known known key)) (keys ms)))) is

any_lent : (key : List ℕ) (known : List (Bor (List ℕ))) → list_any (bytes_eq key) (lent known) ≡ list_any (λ name. bytes_eq key name.now) known
any_lent key [] = refl
any_lent key (name ∷ known) = rw (any_lent key known) refl

first : (known : List (Bor (List ℕ))) (key : List ℕ) (rest : List (List ℕ)) (b : Bool) → list_any (λ name. bytes_eq key name.now) known ≡ b → first_unknown (lent known) (key ∷ rest) ≡ cond (not b) (Some key) (first_unknown (lent known) rest)
first known key rest b is = ap (λ t. cond (not t) (Some key) (first_unknown (lent known) rest)) (any_lent key known ∙ is)

-- a key that isn't known is the first one
pub key_refused : (known : List (Bor (List ℕ))) (key : List ℕ) (rest : List (List ℕ)) → list_any (λ name. bytes_eq key name.now) known ≡ false → first_unknown (lent known) (key ∷ rest) ≡ Some key
key_refused known key rest is = first known key rest false is

-- one that is known is passed
pub key_passed : (known : List (Bor (List ℕ))) (key : List ℕ) (rest : List (List ℕ)) → list_any (λ name. bytes_eq key name.now) known ≡ true → first_unknown (lent known) (key ∷ rest) ≡ first_unknown (lent known) rest
key_passed known key rest is = first known key rest true is
