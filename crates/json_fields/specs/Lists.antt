-- Lists and their items.
use Rattle.std.specs.Prelude.{ℕ, ◌-◌, ◌^◌, ◌&&◌, List, [], ◌∷◌, ◌++◌, length, min, nat_le, option_and_then}
use Rattle.std.specs.Option.{option_map_or}
use Rattle.serde_json.specs.Data.{Data, Items, no_items, item}
use Rattle.serde_json.specs.Find.{as_array, get, at as item_at}
use Rattle.serde_json.specs.Events.{items_len}
use Rattle.json_fields.specs.declared.fault.FieldKind.TheVariants as K
use Rattle.json_fields.specs.declared.path.Part.TheVariants as P
use Rattle.json_fields.specs.Readings.{Reading, good, within, demand, found_or, ◌>>=◌, ◌>>◌}

-- the items of a list in order, each read behind those before it
abbrev pub items_read : {A : Type 0} → (List A → Data → Reading A) → List A → Items → Reading (List A)
items_read kind before no_items = good before
items_read kind before (item d ds) =
    within (P.Place (length before)) (kind before d) >>= (λ a. items_read kind (before ++ a ∷ []) ds)

-- the items of a list of so many: first its type, and then its length
abbrev pub items_of_list : ℕ → ℕ → Data → Reading Items
items_of_list low high d =
    found_or (as_array d) K.Shape
    >>= (λ ds. demand (nat_le low (items_len ds) && nat_le (items_len ds) high) K.Range >> good ds)

-- a list of so many items, each read behind those before it
abbrev pub listed : {A : Type 0} → ℕ → ℕ → (List A → Data → Reading A) → Data → Reading (List A)
listed low high kind d = items_of_list low high d >>= items_read kind []

-- a list of so many items of one kind
abbrev pub list_of : {A : Type 0} → ℕ → ℕ → (Data → Reading A) → Data → Reading (List A)
list_of low high kind d = listed low high (λ before. kind) d

-- an item of a list that is long enough
abbrev pub item_needed : ℕ → Data → Reading Data
item_needed i d = found_or (item_at i d) K.Range

abbrev pub element : {A : Type 0} → ℕ → (Data → Reading A) → Data → Reading A
element i kind d = item_needed i d >>= (λ value. within (P.Place i) (kind value))

-- how many items the list of a key has as it is given: none where it
-- is absent or no list; the number stands still at the end of its type
abbrev pub many : List ℕ → Data → ℕ
many key d = min (2 ^ 32 - 1) (option_map_or items_len (option_and_then as_array (get key d)) 0)
