-- What a verdict without a fault was made of.
use Rattle.std.proofs.Common.{◌≡◌, ℕ, Option, Some, None, refl, sym, ap, subst}
use Rattle.std.specs.Prelude.{Bool, true, false, is_some, unwrap_or}
use Rattle.std.proofs.lemmas.Bool.{false≢true}
use Rattle.kern_calls.specs.declared.types.ValueType.{ValueType}
use Rattle.kern_calls.specs.declared.types.ValueType.TheVariants as V
use Rattle.kern_calls.specs.declared.wanted.Wanted.{Wanted}
use Rattle.kern_calls.specs.declared.wanted.Wanted.TheVariants as W
use Rattle.kern_expression_types.specs.declared.place.Given.{Given}
use Rattle.kern_expression_types.specs.declared.place.Given.TheVariants as G
use Rattle.kern_expression_types.specs.declared.fault.TypeKind.{TypeKind}
use Rattle.kern_expression_types.specs.Verdicts.{Verdict, well, fault, ◌>>=◌, refuse_if, refuse_some, found_or, is_well}
use Rattle.kern_expression_types.specs.Fits.{misfit, as_condition, as_integer, scalar_of}
use Rattle.code_forms.specs.Suited.{is_scalar}

-- what was found, or else this
abbrev found_in : {A : Type 0} → A → Verdict A → A
found_in d (well a) = a
found_in d (fault line kind) = d

pub same_found : {A : Type 0} {a b : A} → well a ≡ well b → a ≡ b
same_found {a = a} e = ap (found_in a) e

pub no_fault : {A : Type 0} {line : ℕ} {kind : TypeKind} {a : A} → fault line kind ≡ well a → ⊥
no_fault e = false≢true (ap is_well e)

-- both parts were without fault
pub inverted : {A B : Type 0} (v : Verdict A) (f : A → Verdict B) (b : B) → (v >>= f) ≡ well b → (a : A) × (v ≡ well a) × (f a ≡ well b)
inverted (well a) f b e = (a, refl, e)
inverted (fault line kind) f b e = absurd (no_fault e)

pub not_refused : (t : Bool) (line : ℕ) (kind : TypeKind) (u : Unit {0}) → refuse_if t line kind ≡ well u → t ≡ false
not_refused true line kind u e = absurd (no_fault e)
not_refused false line kind u e = refl

pub none_refused : (o : Option TypeKind) (line : ℕ) (u : Unit {0}) → refuse_some o line ≡ well u → o ≡ None
none_refused None line u e = refl
none_refused (Some kind) line u e = absurd (no_fault e)

pub was_there : {A : Type 0} (o : Option A) (line : ℕ) (kind : TypeKind) (a : A) → found_or o line kind ≡ well a → o ≡ Some a
was_there None line kind a e = absurd (no_fault e)
was_there (Some b) line kind a e = ap Some (same_found e)

-- the type that is given
abbrev given_type : ValueType → Given → ValueType
given_type d G.Text = d
given_type d G.Nothing = d
given_type d (G.Typed t) = t

pub same_type : {t u : ValueType} → G.Typed t ≡ G.Typed u → t ≡ u
same_type {t = t} e = ap (given_type t) e

abbrev pub is_typed : Given → Bool
is_typed G.Text = false
is_typed G.Nothing = false
is_typed (G.Typed t) = true

abbrev pub is_text : Given → Bool
is_text G.Text = true
is_text _ = false

abbrev pub is_array : Given → Bool
is_array (G.Typed (V.Array n)) = true
is_array _ = false

-- an integer or a truth value is a scalar
pub integer_given : (line : ℕ) (g : Given) (t : ValueType) → as_integer line g ≡ well t → (g ≡ G.Typed t) × (is_scalar t ≡ true)
integer_given line (G.Typed V.Int32) t e = let s = same_found e in (ap G.Typed s, subst (λ u. is_scalar u ≡ true) s refl)
integer_given line (G.Typed V.Int64) t e = let s = same_found e in (ap G.Typed s, subst (λ u. is_scalar u ≡ true) s refl)
integer_given line (G.Typed V.Bool) t e = absurd (no_fault e)
integer_given line (G.Typed (V.Array n)) t e = absurd (no_fault e)
integer_given line G.Text t e = absurd (no_fault e)
integer_given line G.Nothing t e = absurd (no_fault e)

pub condition_given : (line : ℕ) (g : Given) (u : Unit {0}) → as_condition line g ≡ well u → g ≡ G.Typed V.Bool
condition_given line (G.Typed V.Bool) u e = refl
condition_given line (G.Typed V.Int32) u e = absurd (no_fault e)
condition_given line (G.Typed V.Int64) u e = absurd (no_fault e)
condition_given line (G.Typed (V.Array n)) u e = absurd (no_fault e)
condition_given line G.Text u e = absurd (no_fault e)
condition_given line G.Nothing u e = absurd (no_fault e)

pub scalar_given : (g : Given) (t : ValueType) → scalar_of g ≡ Some t → (g ≡ G.Typed t) × (is_scalar t ≡ true)
scalar_given (G.Typed V.Int32) t e = let s = ap (λ o. unwrap_or o t) e in (ap G.Typed s, subst (λ u. is_scalar u ≡ true) s refl)
scalar_given (G.Typed V.Int64) t e = let s = ap (λ o. unwrap_or o t) e in (ap G.Typed s, subst (λ u. is_scalar u ≡ true) s refl)
scalar_given (G.Typed V.Bool) t e = let s = ap (λ o. unwrap_or o t) e in (ap G.Typed s, subst (λ u. is_scalar u ≡ true) s refl)
scalar_given (G.Typed (V.Array n)) t e = absurd (false≢true (ap is_some e))
scalar_given G.Text t e = absurd (false≢true (ap is_some e))
scalar_given G.Nothing t e = absurd (false≢true (ap is_some e))

-- nothing fits where a call without a value stands
pub some_kind : (k : TypeKind) → Some k ≡ None → ⊥
some_kind k e = false≢true (sym (ap is_some e))

pub nothing_misfits : (w : Wanted) → misfit w G.Nothing ≡ None → ⊥
nothing_misfits W.Int32 e = some_kind _ e
nothing_misfits W.Int64 e = some_kind _ e
nothing_misfits W.Bool e = some_kind _ e
nothing_misfits W.Text e = some_kind _ e
nothing_misfits W.Array e = some_kind _ e
nothing_misfits W.Int64OrArray e = some_kind _ e

-- what fits, and is no text and no array, is a scalar
pub fitting_scalar : (w : Wanted) (g : Given) → misfit w g ≡ None → is_text g ≡ false → is_array g ≡ false → (t : ValueType) × (g ≡ G.Typed t) × (is_scalar t ≡ true)
fitting_scalar w (G.Typed V.Int32) e x a = (V.Int32, refl, refl)
fitting_scalar w (G.Typed V.Int64) e x a = (V.Int64, refl, refl)
fitting_scalar w (G.Typed V.Bool) e x a = (V.Bool, refl, refl)
fitting_scalar w (G.Typed (V.Array n)) e x a = absurd (false≢true (sym a))
fitting_scalar w G.Text e x a = absurd (false≢true (sym x))
fitting_scalar w G.Nothing e x a = absurd (nothing_misfits w e)

-- a text fits only where one is wanted, and nothing else does there
abbrev pub wants_text : Wanted → Bool
wants_text W.Text = true
wants_text _ = false

pub text_wanted : (w : Wanted) → misfit w G.Text ≡ None → wants_text w ≡ true
text_wanted W.Int32 e = absurd (some_kind _ e)
text_wanted W.Int64 e = absurd (some_kind _ e)
text_wanted W.Bool e = absurd (some_kind _ e)
text_wanted W.Text e = refl
text_wanted W.Array e = absurd (some_kind _ e)
text_wanted W.Int64OrArray e = absurd (some_kind _ e)

pub value_wanted : (w : Wanted) (g : Given) → misfit w g ≡ None → is_text g ≡ false → wants_text w ≡ false
value_wanted W.Int32 g e x = refl
value_wanted W.Int64 g e x = refl
value_wanted W.Bool g e x = refl
value_wanted W.Array g e x = refl
value_wanted W.Int64OrArray g e x = refl
value_wanted W.Text G.Text e x = absurd (false≢true (sym x))
value_wanted W.Text G.Nothing e x = absurd (some_kind _ e)
value_wanted W.Text (G.Typed V.Int32) e x = absurd (some_kind _ e)
value_wanted W.Text (G.Typed V.Int64) e x = absurd (some_kind _ e)
value_wanted W.Text (G.Typed V.Bool) e x = absurd (some_kind _ e)
value_wanted W.Text (G.Typed (V.Array n)) e x = absurd (some_kind _ e)

-- where an array isn't wanted none fits
abbrev pub takes_array : Wanted → Bool
takes_array W.Array = true
takes_array W.Int64OrArray = true
takes_array _ = false

pub no_array : (w : Wanted) (g : Given) → takes_array w ≡ false → misfit w g ≡ None → is_array g ≡ false
no_array w G.Text t e = refl
no_array w G.Nothing t e = refl
no_array w (G.Typed V.Int32) t e = refl
no_array w (G.Typed V.Int64) t e = refl
no_array w (G.Typed V.Bool) t e = refl
no_array W.Int32 (G.Typed (V.Array n)) t e = absurd (some_kind _ e)
no_array W.Int64 (G.Typed (V.Array n)) t e = absurd (some_kind _ e)
no_array W.Bool (G.Typed (V.Array n)) t e = absurd (some_kind _ e)
no_array W.Text (G.Typed (V.Array n)) t e = absurd (some_kind _ e)
no_array W.Array (G.Typed (V.Array n)) t e = absurd (false≢true (sym t))
no_array W.Int64OrArray (G.Typed (V.Array n)) t e = absurd (false≢true (sym t))

-- an array fits where one is wanted
pub array_wanted : (g : Given) → misfit W.Array g ≡ None → (n : ℕ) × (g ≡ G.Typed (V.Array n))
array_wanted (G.Typed (V.Array n)) e = (n, refl)
array_wanted (G.Typed V.Int32) e = absurd (some_kind _ e)
array_wanted (G.Typed V.Int64) e = absurd (some_kind _ e)
array_wanted (G.Typed V.Bool) e = absurd (some_kind _ e)
array_wanted G.Text e = absurd (some_kind _ e)
array_wanted G.Nothing e = absurd (some_kind _ e)
