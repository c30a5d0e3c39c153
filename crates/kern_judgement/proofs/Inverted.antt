-- What a verdict without a fault was made of, and how one is made.
use Rattle.std.proofs.Common.{◌≡◌, ℕ, Option, Some, None, refl, sym, ◌∙◌, ap}
use Rattle.std.specs.Prelude.{Bool, true, false, is_some, unwrap_or}
use Rattle.std.proofs.lemmas.Bool.{false≢true}
use Rattle.kern_expression_types.specs.declared.fault.TypeKind.{TypeKind}
use Rattle.kern_expression_types.specs.Verdicts.{Verdict, well, fault, ◌>>=◌, refuse_if, refuse_some, found_or, is_well}

-- what was found, or else this
abbrev found_in : {A : Type 0} → A → Verdict A → A
found_in d (well a) = a
found_in d (fault line kind) = d

-- what is found is one thing
pub same_found : {A : Type 0} {a b : A} → well a ≡ well b → a ≡ b
same_found {a = a} e = ap (found_in a) e

-- a fault is no finding
pub no_fault : {A : Type 0} {line : ℕ} {kind : TypeKind} {a : A} → fault line kind ≡ well a → ⊥
no_fault e = false≢true (ap is_well e)

-- a kind of fault is there
pub some_kind : {k : TypeKind} → Some k ≡ None → ⊥
some_kind e = false≢true (sym (ap is_some e))

-- both parts were without fault
pub inverted : {A B : Type 0} (v : Verdict A) (f : A → Verdict B) (b : B) → (v >>= f) ≡ well b → (a : A) × (v ≡ well a) × (f a ≡ well b)
inverted (well a) f b e = (a, refl, e)
inverted (fault line kind) f b e = absurd (no_fault e)

-- the whole is without fault where both parts are
pub chained : {A B : Type 0} (v : Verdict A) (f : A → Verdict B) (a : A) (b : B) → v ≡ well a → f a ≡ well b → (v >>= f) ≡ well b
chained v f a b p q = ap (λ w. w >>= f) p ∙ q

-- what wasn't refused by a test
pub not_refused : (t : Bool) (line : ℕ) (kind : TypeKind) (u : Unit {0}) → refuse_if t line kind ≡ well u → t ≡ false
not_refused true line kind u e = absurd (no_fault e)
not_refused false line kind u e = refl

-- a test that fails refuses nothing
pub unrefused : (t : Bool) (line : ℕ) (kind : TypeKind) → t ≡ false → refuse_if t line kind ≡ well tt
unrefused t line kind e = ap (λ b. refuse_if b line kind) e

-- what wasn't refused by a fault that may be there
pub none_refused : (o : Option TypeKind) (line : ℕ) (u : Unit {0}) → refuse_some o line ≡ well u → o ≡ None
none_refused None line u e = refl
none_refused (Some kind) line u e = absurd (no_fault e)

-- no fault refuses nothing
pub refused_none : (o : Option TypeKind) (line : ℕ) → o ≡ None → refuse_some o line ≡ well tt
refused_none o line e = ap (λ k. refuse_some k line) e

-- what was found was there
pub was_there : {A : Type 0} (o : Option A) (line : ℕ) (kind : TypeKind) (a : A) → found_or o line kind ≡ well a → o ≡ Some a
was_there None line kind a e = absurd (no_fault e)
was_there (Some b) line kind a e = ap Some (same_found e)

-- what is there is found
pub is_found : {A : Type 0} (o : Option A) (line : ℕ) (kind : TypeKind) (a : A) → o ≡ Some a → found_or o line kind ≡ well a
is_found o line kind a e = ap (λ p. found_or p line kind) e

-- what is there is one thing
pub same_there : {A : Type 0} {a b : A} → Some a ≡ Some b → a ≡ b
same_there {a = a} e = ap (λ o. unwrap_or o a) e
