-- Objects, the tables of their fields, and the order in which their faults are asked.
use Rattle.std.specs.Prelude.{ℕ, Bool, not, List, [], ◌∷◌, ◌++◌, filter, bytes_eq, Option}
use Rattle.std.specs.Prelude.{Some, None, is_some, if◌then◌else◌, option_and_then}
use Rattle.std.specs.List.{list_any}
use Rattle.std.specs.Ordering.{nat_cmp, match_ordering}
use Rattle.std.specs.Cmp.Lexicographic.{slice_cmp}
use Rattle.serde_json.specs.Data.{Data, Members, no_members, member}
use Rattle.serde_json.specs.Find.{as_object, get}
use Rattle.json_fields.specs.declared.fault.FieldKind.TheVariants as K
use Rattle.json_fields.specs.declared.path.Part.TheVariants as P
use Rattle.json_fields.specs.Readings.{Reading, good, fault, within, demand, found_or, ◌>>=◌, ◌>>◌}

-- the keys of an object
abbrev pub keys : Members → List (List ℕ)
keys no_members = []
keys (member key d ms) = key ∷ keys ms

-- the lesser of a key and one that may be there, by bytes
abbrev pub lesser : List ℕ → Option (List ℕ) → List ℕ
lesser key None = key
lesser key (Some other) = match_ordering (slice_cmp nat_cmp key other) key key other

-- the least of some keys, by bytes
abbrev pub least : List (List ℕ) → Option (List ℕ)
least [] = None
least (key ∷ others) = Some (lesser key (least others))

abbrev pub is_known : List (List ℕ) → List ℕ → Bool
is_known known key = list_any (bytes_eq key) known

-- the least key of an object that isn't among the known ones
abbrev pub least_unknown : List (List ℕ) → Data → Option (List ℕ)
least_unknown known d = option_and_then (λ ms. least (filter (λ key. not (is_known known key)) (keys ms))) (as_object d)

-- it has to be an object
abbrev pub an_object : Data → Reading (Unit {0})
an_object d = demand (is_some (as_object d)) K.Shape

-- the fault of a key that isn't known
abbrev pub refuse_key : Option (List ℕ) → Reading (Unit {0})
refuse_key None = good tt
refuse_key (Some key) = fault (P.Key key ∷ []) K.Unknown

-- all keys have to be known; the fault is that of the least that isn't
abbrev pub only_known : List (List ℕ) → Data → Reading (Unit {0})
only_known known d = refuse_key (least_unknown known d)

-- the value of a key, which has to be there
abbrev pub there : List ℕ → Option Data → Reading Data
there key None = fault (P.Key key ∷ []) K.Missing
there key (Some d) = good d

abbrev pub needed : List ℕ → Data → Reading Data
needed key d = there key (get key d)

-- a value that may be absent, with its default
abbrev pub given_or : {A : Type 0} → List ℕ → A → (Data → Reading A) → Option Data → Reading A
given_or key default kind None = good default
given_or key default kind (Some d) = within (P.Key key) (kind d)

-- a field of an object: its key, and what an object has there
pub record Field (A : Type 0) : Type 0 where
  pub key : List ℕ
  pub reading : Data → Reading A

-- a field of a kind that has to be there
abbrev pub required : {A : Type 0} → List ℕ → (Data → Reading A) → Field A
required key kind = record { key = key; reading = λ d. needed key d >>= (λ value. within (P.Key key) (kind value)) }

-- a field of a kind with a default
abbrev pub optional : {A : Type 0} → List ℕ → A → (Data → Reading A) → Field A
optional key default kind = record { key = key; reading = λ d. given_or key default kind (get key d) }

-- a field behind which the object's own order is asked
abbrev pub ordered : {A : Type 0} → Field A → (A → Bool) → Field A
ordered field in_order = record field { reading = λ d. field.reading d >>= (λ a. demand (in_order a) K.Order >> good a) }

-- a table: the keys of its fields, and what an object's fields make, each read in the table's order
pub record Table (A : Type 0) : Type 0 where
  pub keys : List (List ℕ)
  pub fields : Data → Reading A

-- the table without fields
abbrev pub table_of : {A : Type 0} → A → Table A
table_of a = record { keys = []; fields = λ d. good a }

infixl 20 ◌⊛◌
-- a table with one field more
abbrev pub ◌⊛◌ : {A B : Type 0} → Table (A → B) → Field A → Table B
table ⊛ field = record {
  keys = table.keys ++ field.key ∷ [];
  fields = λ d. table.fields d >>= (λ make. field.reading d >>= (λ a. good (make a)));
}

-- a table whose value is changed
abbrev pub changed : {A B : Type 0} → (A → B) → Table A → Table B
changed change table = record { keys = table.keys; fields = λ d. table.fields d >>= (λ a. good (change a)) }

-- the form of an object: that of the first of these keys that is there
abbrev pub first_there : {F : Type 0} → (F → List ℕ) → List F → Data → Option F
first_there key [] d = None
first_there key (form ∷ forms) d = if is_some (get (key form) d) then Some form else first_there key forms d

-- an object that has a form, and a table for it: whether it is an object, whether it has a form, what is asked of the
-- form, whether all its keys are in the table, and then the table's fields
abbrev pub formed : {F A : Type 0} → (Data → Option F) → (F → Reading (Unit {0})) → (F → Table A) → Data → Reading A
formed form_of asked table d =
    an_object d
    >> (found_or (form_of d) K.Missing
    >>= (λ form. asked form >> (only_known (table form).keys d >> (table form).fields d)))

-- an object of one form
abbrev pub object : {A : Type 0} → Table A → Data → Reading A
object table d = formed {F = Unit {0}} (λ value. Some tt) (λ form. good tt) (λ form. table) d
