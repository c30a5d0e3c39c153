-- That the rules on what fits, what is kept, what is an integer and the like are those of the verdicts.
use Rattle.std.proofs.Common.{◌≡◌, ℕ, Some, None, refl, sym, ap, subst}
use Rattle.std.specs.Prelude.{Bool, true, false, ◌==◌, is_some, if◌then◌else◌}
use Rattle.std.proofs.lemmas.Bool.{false≢true, eqb-true, eq-eqb}
use Rattle.kern_calls.specs.declared.types.ValueType.{ValueType}
use Rattle.kern_calls.specs.declared.types.ValueType.TheVariants as V
use Rattle.kern_calls.specs.declared.wanted.Wanted.{Wanted}
use Rattle.kern_calls.specs.declared.wanted.Wanted.TheVariants as W
use Rattle.kern_expression_types.specs.declared.place.Given.{Given}
use Rattle.kern_expression_types.specs.declared.place.Given.TheVariants as G
use Rattle.kern_expression_types.specs.declared.fault.TypeKind.TheVariants.{Mismatch}
use Rattle.kern_expression_types.specs.Verdicts.{well}
use Rattle.kern_expression_types.specs.Fits.{misfit, kept_misfit, as_condition, as_integer, scalar_of, as_statement}
use Rattle.kern_judgement.specs.Fitting.{IsInteger, IsScalar, IsNoArray, Fits, Keeps}
use Rattle.kern_judgement.proofs.Inverted.{same_found, no_fault, some_kind, same_there}

-- the type that is given
abbrev given_type : ValueType → Given → ValueType
given_type d G.Text = d
given_type d G.Nothing = d
given_type d (G.Typed t) = t

-- values of one type
pub same_type : {t u : ValueType} → G.Typed t ≡ G.Typed u → t ≡ u
same_type {t = t} e = ap (given_type t) e

-- what has no misfit fits
pub fits_found : (wanted : Wanted) (g : Given) → misfit wanted g ≡ None → Fits wanted g
fits_found W.Int32 (G.Typed V.Int32) e = Fits.int32
fits_found W.Int32 g e = absurd (false≢true (sym (ap is_some e)))
fits_found W.Int64 (G.Typed V.Int32) e = Fits.int64 IsInteger.int32
fits_found W.Int64 (G.Typed V.Int64) e = Fits.int64 IsInteger.int64
fits_found W.Int64 g e = absurd (false≢true (sym (ap is_some e)))
fits_found W.Bool (G.Typed V.Bool) e = Fits.bool
fits_found W.Bool g e = absurd (false≢true (sym (ap is_some e)))
fits_found W.Text G.Text e = Fits.text
fits_found W.Text g e = absurd (false≢true (sym (ap is_some e)))
fits_found W.Array (G.Typed (V.Array n)) e = Fits.array
fits_found W.Array g e = absurd (false≢true (sym (ap is_some e)))
fits_found W.Int64OrArray (G.Typed V.Int32) e = Fits.a_number IsInteger.int32
fits_found W.Int64OrArray (G.Typed V.Int64) e = Fits.a_number IsInteger.int64
fits_found W.Int64OrArray (G.Typed (V.Array n)) e = Fits.an_array
fits_found W.Int64OrArray g e = absurd (false≢true (sym (ap is_some e)))

-- what fits has no misfit
pub fits_judged : {wanted : Wanted} {g : Given} → Fits wanted g → misfit wanted g ≡ None
fits_judged Fits.int32 = refl
fits_judged (Fits.int64 IsInteger.int32) = refl
fits_judged (Fits.int64 IsInteger.int64) = refl
fits_judged Fits.bool = refl
fits_judged Fits.text = refl
fits_judged Fits.array = refl
fits_judged (Fits.a_number IsInteger.int32) = refl
fits_judged (Fits.a_number IsInteger.int64) = refl
fits_judged Fits.an_array = refl

-- only an integer fits where one is wanted
pub integer_fits : {g : Given} → Fits W.Int64 g → (t : ValueType) × (g ≡ G.Typed t) × IsInteger t
integer_fits (Fits.int64 {t = t} i) = (t, refl, i)

-- only an array fits where one is wanted
pub array_fits : {g : Given} → Fits W.Array g → (n : ℕ) × (g ≡ G.Typed (V.Array n))
array_fits (Fits.array {n = n}) = (n, refl)

-- what the verdict takes as an integer is one
pub integer_found : (line : ℕ) (g : Given) (t : ValueType) → as_integer line g ≡ well t → (g ≡ G.Typed t) × IsInteger t
integer_found line (G.Typed V.Int32) t e = (ap G.Typed (same_found e), subst IsInteger (same_found e) IsInteger.int32)
integer_found line (G.Typed V.Int64) t e = (ap G.Typed (same_found e), subst IsInteger (same_found e) IsInteger.int64)
integer_found line g t e = absurd (no_fault e)

-- an integer is taken as one
pub integer_judged : (line : ℕ) {t : ValueType} → IsInteger t → as_integer line (G.Typed t) ≡ well t
integer_judged line IsInteger.int32 = refl
integer_judged line IsInteger.int64 = refl

-- what the verdict takes as a condition is a truth value
pub condition_found : (line : ℕ) (g : Given) (u : Unit {0}) → as_condition line g ≡ well u → g ≡ G.Typed V.Bool
condition_found line (G.Typed V.Bool) u e = refl
condition_found line g u e = absurd (no_fault e)

-- a truth value is taken as a condition
pub condition_judged : (line : ℕ) (g : Given) → g ≡ G.Typed V.Bool → as_condition line g ≡ well tt
condition_judged line g e = ap (as_condition line) e

-- what the verdict takes as one number is one
pub scalar_found : (g : Given) (t : ValueType) → scalar_of g ≡ Some t → (g ≡ G.Typed t) × IsScalar t
scalar_found (G.Typed V.Int32) t e = (ap G.Typed (same_there e), subst IsScalar (same_there e) (IsScalar.integer IsInteger.int32))
scalar_found (G.Typed V.Int64) t e = (ap G.Typed (same_there e), subst IsScalar (same_there e) (IsScalar.integer IsInteger.int64))
scalar_found (G.Typed V.Bool) t e = (ap G.Typed (same_there e), subst IsScalar (same_there e) IsScalar.bool)
scalar_found g t e = absurd (false≢true (ap is_some e))

-- one number is taken as that
pub scalar_judged : {t : ValueType} → IsScalar t → scalar_of (G.Typed t) ≡ Some t
scalar_judged (IsScalar.integer IsInteger.int32) = refl
scalar_judged (IsScalar.integer IsInteger.int64) = refl
scalar_judged IsScalar.bool = refl

-- what the verdict takes as a statement is no array
pub alone_found : (line : ℕ) (g : Given) (u : Unit {0}) → as_statement line g ≡ well u → IsNoArray g
alone_found line G.Text u e = IsNoArray.text
alone_found line G.Nothing u e = IsNoArray.nothing
alone_found line (G.Typed V.Int32) u e = IsNoArray.scalar (IsScalar.integer IsInteger.int32)
alone_found line (G.Typed V.Int64) u e = IsNoArray.scalar (IsScalar.integer IsInteger.int64)
alone_found line (G.Typed V.Bool) u e = IsNoArray.scalar IsScalar.bool
alone_found line (G.Typed (V.Array n)) u e = absurd (no_fault e)

-- what is no array is taken as a statement
pub alone_judged : (line : ℕ) {g : Given} → IsNoArray g → as_statement line g ≡ well tt
alone_judged line IsNoArray.text = refl
alone_judged line IsNoArray.nothing = refl
alone_judged line (IsNoArray.scalar (IsScalar.integer IsInteger.int32)) = refl
alone_judged line (IsNoArray.scalar (IsScalar.integer IsInteger.int64)) = refl
alone_judged line (IsNoArray.scalar IsScalar.bool) = refl

-- arrays of one length
array_kept : (n m : ℕ) (b : Bool) → (m == n) ≡ b → (if b then None else Some Mismatch) ≡ None → n ≡ m
array_kept n m true is e = sym (eqb-true m n is)
array_kept n m false is e = absurd (some_kind e)

-- a length is its own
same_length : (n : ℕ) → (n == n) ≡ true
same_length n = eq-eqb n n refl

-- what has no misfit with what a name holds is kept
pub keeps_found : (held t : ValueType) → kept_misfit held t ≡ None → Keeps held t
keeps_found V.Int32 V.Int32 e = Keeps.same
keeps_found V.Int64 V.Int64 e = Keeps.same
keeps_found V.Int64 V.Int32 e = Keeps.widened
keeps_found V.Bool V.Bool e = Keeps.same
keeps_found (V.Array n) (V.Array m) e = subst (λ k. Keeps (V.Array n) (V.Array k)) (array_kept n m (m == n) refl e) Keeps.same
keeps_found held t e = absurd (false≢true (sym (ap is_some e)))

-- what is kept has no misfit with what the name holds
pub keeps_judged : {held t : ValueType} → Keeps held t → kept_misfit held t ≡ None
keeps_judged (Keeps.same {t = t}) = itself t
  where
    itself : (t : ValueType) → kept_misfit t t ≡ None
    itself V.Int32 = refl
    itself V.Int64 = refl
    itself V.Bool = refl
    itself (V.Array n) = ap (λ b. if b then None else Some Mismatch) (same_length n)
keeps_judged Keeps.widened = refl
