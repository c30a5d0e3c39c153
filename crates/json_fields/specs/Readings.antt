-- What a part of a session is read as, or the first fault in it.
use Rattle.std.specs.Prelude.{Bool, true, false, List, [], ◌∷◌, Option, Some, None}
use Rattle.json_fields.specs.declared.fault.FieldKind.{FieldKind}
use Rattle.json_fields.specs.declared.path.Part.{Part}

-- what the part is read as, or its first fault: where it is, from the part on, and what is wrong there
pub data Reading (A : Type 0) : Type 0 where
  good : A → Reading A
  fault : (path : List Part) → FieldKind → Reading A

infixr 20 ◌>>=◌ ◌>>◌
-- goes on with what was read
abbrev pub ◌>>=◌ : {A B : Type 0} → Reading A → (A → Reading B) → Reading B
good a >>= next = next a
fault path kind >>= next = fault path kind

-- goes on after a part that has no fault
abbrev pub ◌>>◌ : {A B : Type 0} → Reading A → Reading B → Reading B
first >> second = first >>= (λ a. second)

-- the reading of a part, as seen from what it is a part of
abbrev pub within : {A : Type 0} → Part → Reading A → Reading A
within part (good a) = good a
within part (fault path kind) = fault (part ∷ path) kind

-- a fault here unless the test holds
abbrev pub demand : Bool → FieldKind → Reading (Unit {0})
demand true kind = good tt
demand false kind = fault [] kind

-- what is found, which has to be there
abbrev pub found_or : {A : Type 0} → Option A → FieldKind → Reading A
found_or None kind = fault [] kind
found_or (Some a) kind = good a
