-- Lists that are read.
use Rattle.std.proofs.Common.{◌≡◌, ℕ, suc, ◌+◌, ◌-◌, ◌^◌, ◌≤◌, Bool, true, false, List, [], ◌∷◌, ◌++◌, length, min, Option, None, Some, refl, sym, ap, subst, ◌∙◌, arith, length-append}
use Rattle.std.specs.Prelude.{IsTrue, ◌&&◌, nat_le, option_and_then}
use Rattle.std.specs.List.{list_all}
use Rattle.std.specs.Option.{option_map_or}
use Rattle.std.proofs.lemmas.Bool.{and_from, and_parts, leb-true}
use Rattle.std.proofs.lemmas.List.Folds.{list_all-append}
use Rattle.serde_json.specs.Data.{Data, Items, no_items, item}
use Rattle.serde_json.specs.Find.{as_array, get}
use Rattle.serde_json.specs.Events.{items_len}
use Rattle.json_fields.specs.declared.fault.FieldKind.TheVariants as K
use Rattle.json_fields.specs.declared.path.Part.TheVariants as P
use Rattle.json_fields.specs.Readings.{Reading, good, fault, within, demand, found_or, ◌>>=◌, ◌>>◌}
use Rattle.json_fields.specs.Lists.{items_read, list_of, listed, many}
use Rattle.exp_json.proofs.Kept.{Keeps, keeps-any, keeps-bind, keeps-weaker, keeps-within}

-- what the items before keep to goes on with each item
pub keeps-items : {A : Type 0} (all : List A → Type 0) (kind : List A → Data → Reading A) → ((before : List A) (d : Data) → all before → Keeps (λ a. all (before ++ a ∷ [])) (kind before d)) → (before : List A) (ds : Items) → all before → Keeps all (items_read kind before ds)
keeps-items all kind step before no_items has = has
keeps-items all kind step before (item d ds) has =
    keeps-bind (λ a. all (before ++ a ∷ [])) all (within (P.Place (length before)) (kind before d)) (λ a. items_read kind (before ++ a ∷ []) ds)
    (keeps-within (λ a. all (before ++ a ∷ [])) (P.Place (length before)) (kind before d) (step before d has))
    (λ a more. keeps-items all kind step (before ++ a ∷ []) ds more)

one-longer : {A : Type 0} (before : List A) (a : A) (n : ℕ) → length (before ++ a ∷ []) + n ≡ length before + suc n
one-longer before a n = omega (arith, length-append before (a ∷ []))

-- as many items are read as there are
keeps-many : {A : Type 0} (kind : List A → Data → Reading A) (before : List A) (ds : Items) → Keeps (λ items. length items ≡ length before + items_len ds) (items_read kind before ds)
keeps-many {A} kind before no_items =
    let same : length before ≡ length before + 0 = omega arith in
    same
keeps-many {A} kind before (item d ds) =
    keeps-bind (λ (a : A). Unit {0}) (λ items. length items ≡ length before + suc (items_len ds)) (within (P.Place (length before)) (kind before d)) (λ a. items_read kind (before ++ a ∷ []) ds) (keeps-any (within (P.Place (length before)) (kind before d)))
    (λ a found. keeps-weaker (λ items. length items ≡ length (before ++ a ∷ []) + items_len ds) (λ items. length items ≡ length before + suc (items_len ds)) (items_read kind (before ++ a ∷ []) ds) (λ items is. is ∙ one-longer before a (items_len ds)) (keeps-many kind (before ++ a ∷ []) ds))

both : {A : Type 0} (p q : A → Type 0) (r : Reading A) → Keeps p r → Keeps q r → Keeps (λ a. p a × q a) r
both p q (good a) has also = (has, also)
both p q (fault path kind) has also = tt

-- how many items a list is given
abbrev pub given_many : Data → ℕ
given_many d = option_map_or items_len (as_array d) 0

-- what a list of so many keeps to
pub record IsListed {A : Type 0} (all : List A → Type 0) (low high : ℕ) (d : Data) (items : List A) : Type 0 where
  pub kept : all items
  pub length_fits : IsTrue (nat_le low (length items) && nat_le (length items) high)
  pub as_given : length items ≡ given_many d

listed-of : {A : Type 0} (all : List A → Type 0) (low high : ℕ) (d : Data) (ds : Items) (items : List A) → as_array d ≡ Some ds → IsTrue (nat_le low (items_len ds) && nat_le (items_len ds) high) → all items → length items ≡ 0 + items_len ds → IsListed all low high d items
listed-of all low high d ds items is test has many_are =
    let same : length items ≡ items_len ds = omega arith in
    record {
      kept = has;
      length_fits = subst (λ n. IsTrue (nat_le low n && nat_le n high)) (sym same) test;
      as_given = same ∙ ap (λ o. option_map_or items_len o 0) (sym is);
    }

-- the items of a list of so many
keeps-read : {A : Type 0} (all : List A → Type 0) (low high : ℕ) (kind : List A → Data → Reading A) (d : Data) (ds : Items) → all [] → ((before : List A) (v : Data) → all before → Keeps (λ a. all (before ++ a ∷ [])) (kind before v)) → as_array d ≡ Some ds → IsTrue (nat_le low (items_len ds) && nat_le (items_len ds) high) → Keeps (IsListed all low high d) (items_read kind [] ds)
keeps-read all low high kind d ds none step is test =
    keeps-weaker (λ items. all items × (length items ≡ 0 + items_len ds)) (IsListed all low high d) (items_read kind [] ds) (λ items has. listed-of all low high d ds items is test has.0 has.1)
    (both all (λ items. length items ≡ 0 + items_len ds) (items_read kind [] ds) (keeps-items all kind step [] ds none) (keeps-many kind [] ds))

-- they are read where the length is in its range
keeps-tested : {A : Type 0} (q : List A → Type 0) (kind : List A → Data → Reading A) (ds : Items) (b : Bool) → (b ≡ true → Keeps q (items_read kind [] ds)) → Keeps q ((demand b K.Range >> good ds) >>= items_read kind [])
keeps-tested q kind ds true kept = kept refl
keeps-tested q kind ds false kept = tt

pub keeps-listed : {A : Type 0} (all : List A → Type 0) (low high : ℕ) (kind : List A → Data → Reading A) (d : Data) → all [] → ((before : List A) (v : Data) → all before → Keeps (λ a. all (before ++ a ∷ [])) (kind before v)) → Keeps (IsListed all low high d) (listed low high kind d)
keeps-listed all low high kind d none step = by (as_array d) refl
  where
    by : (o : Option Items) → as_array d ≡ o → Keeps (IsListed all low high d) ((found_or o K.Shape >>= (λ ds. demand (nat_le low (items_len ds) && nat_le (items_len ds) high) K.Range >> good ds)) >>= items_read kind [])
    by None is = tt
    by (Some ds) is = keeps-tested (IsListed all low high d) kind ds (nat_le low (items_len ds) && nat_le (items_len ds) high) (λ test. keeps-read all low high kind d ds none step is test)

-- one more item that passes a test
pub all-behind : {A : Type 0} (p : A → Bool) (before : List A) (a : A) → IsTrue (list_all p before) → IsTrue (p a) → IsTrue (list_all p (before ++ a ∷ []))
all-behind p before a all passes = list_all-append p before (a ∷ []) ∙ and_from (list_all p before) (p a && true) all (and_from (p a) true passes refl)

-- each item passes a test
pub keeps-list_of : {A : Type 0} (p : A → Bool) (low high : ℕ) (kind : Data → Reading A) (d : Data) → ((v : Data) → Keeps (λ a. IsTrue (p a)) (kind v)) → Keeps (IsListed (λ items. IsTrue (list_all p items)) low high d) (list_of low high kind d)
keeps-list_of p low high kind d each =
    keeps-listed (λ items. IsTrue (list_all p items)) low high (λ before. kind) d refl
    (λ before v has. keeps-weaker (λ a. IsTrue (p a)) (λ a. IsTrue (list_all p (before ++ a ∷ []))) (kind v) (λ a passes. all-behind p before a has passes) (each v))

-- how long the list of a key is as given, where it is read
pub many-listed : {A : Type 0} (all : List A → Type 0) (low high : ℕ) (key : List ℕ) (d v : Data) (items : List A) → high ≤ 2 ^ 32 - 1 → get key d ≡ Some v → IsListed all low high v items → length items ≡ many key d
many-listed all low high key d v items few is are =
    let small : length items ≤ high = leb-true (length items) high (and_parts (nat_le low (length items)) (nat_le (length items) high) are.length_fits).1 in
    let given : many key d ≡ min (2 ^ 32 - 1) (length items) = ap (λ o. min (2 ^ 32 - 1) (option_map_or items_len (option_and_then as_array o) 0)) is ∙ ap (min (2 ^ 32 - 1)) (sym are.as_given) in
    let least : min (2 ^ 32 - 1) (length items) ≡ length items = omega arith in
    sym (given ∙ least)
