-- Verdicts on a part of a program: what it is found to be, or the first fault in it.
use Rattle.std.specs.Prelude.{ℕ, Bool, true, false, Option, Some, None}
use Rattle.kern_expression_types.specs.declared.fault.TypeKind.{TypeKind}

-- what a part is found to be, or its first fault with the fault's line
pub data Verdict (A : Type 0) : Type 0 where
  well : A → Verdict A
  fault : (line : ℕ) → TypeKind → Verdict A

infixr 20 ◌>>=◌ ◌>>◌
-- goes on with what was found
abbrev pub ◌>>=◌ : {A B : Type 0} → Verdict A → (A → Verdict B) → Verdict B
well a >>= next = next a
fault line kind >>= next = fault line kind

-- goes on after a part that has no fault
abbrev pub ◌>>◌ : {A B : Type 0} → Verdict A → Verdict B → Verdict B
first >> second = first >>= (λ a. second)

-- a fault where the test says so
abbrev pub refuse_if : Bool → (line : ℕ) → TypeKind → Verdict (Unit {0})
refuse_if true line kind = fault line kind
refuse_if false line kind = well tt

-- a fault of this kind, if it is one
abbrev pub refuse_some : Option TypeKind → (line : ℕ) → Verdict (Unit {0})
refuse_some None line = well tt
refuse_some (Some kind) line = fault line kind

-- what is found, which has to be there
abbrev pub found_or : {A : Type 0} → Option A → (line : ℕ) → TypeKind → Verdict A
found_or None line kind = fault line kind
found_or (Some a) line kind = well a

-- no fault was found
abbrev pub is_well : {A : Type 0} → Verdict A → Bool
is_well (well a) = true
is_well (fault line kind) = false
