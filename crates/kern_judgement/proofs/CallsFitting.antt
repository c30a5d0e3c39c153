-- That the rules on comparisons and on calls are those of the verdicts.
use Rattle.std.proofs.Common.{◌≡◌, ℕ, List, [], ◌∷◌, length, Option, refl, ap, arith}
use Rattle.std.specs.Prelude.{Bool, true, false, not, ◌&&◌, ◌==◌}
use Rattle.std.proofs.lemmas.Bool.{false≢true, eq-eqb}
use Rattle.kern_syntax.specs.declared.expression.Comparison.{Comparison}
use Rattle.kern_syntax.specs.declared.expression.Comparison.TheVariants as C
use Rattle.kern_syntax.specs.declared.program.DeclaredType.{DeclaredType}
use Rattle.kern_calls.specs.declared.types.ValueType.{ValueType}
use Rattle.kern_calls.specs.declared.types.ValueType.TheVariants as V
use Rattle.kern_calls.specs.declared.wanted.Wanted.{Wanted}
use Rattle.kern_expression_types.specs.declared.place.Given.{Given}
use Rattle.kern_expression_types.specs.declared.place.Given.TheVariants as G
use Rattle.kern_expression_types.specs.declared.place.Place.{Place}
use Rattle.kern_expression_types.specs.declared.fault.TypeKind.TheVariants as K
use Rattle.kern_expression_types.specs.Verdicts.{well, ◌>>◌, refuse_if}
use Rattle.kern_expression_types.specs.Fits.{misfit, given_result, fit, fit_all, as_integer, as_ordered, as_equals, as_compared}
use Rattle.kern_expression_types.specs.Expressions.{call_verdict}
use Rattle.kern_judgement.specs.Fitting.{standing_of, IsStill, IsInteger, AllFit, IsEquality, AreComparable}
use Rattle.kern_judgement.proofs.Inverted.{same_found, no_fault, inverted, chained, not_refused, unrefused, none_refused, refused_none}
use Rattle.kern_judgement.proofs.Fitting.{fits_found, fits_judged, integer_found}

-- two values of types that a comparison takes
pub record Compared (op : Comparison) (a b : Given) : Type 0 where
  pub left : ValueType
  pub right : ValueType
  pub left_is : a ≡ G.Typed left
  pub right_is : b ≡ G.Typed right
  pub comparable : AreComparable op left right

-- two integers may be compared
ordered_found : (op : Comparison) (line : ℕ) (a b : Given) (u : Unit {0}) → as_ordered line a b ≡ well u → Compared op a b
ordered_found op line a b u e =
    let i = inverted (as_integer line a) _ u e in
    let j = inverted (as_integer line b) _ u i.2 in
    let x = integer_found line a i.0 i.1 in
    let y = integer_found line b j.0 j.1 in
    record { left = i.0; right = j.0; left_is = x.0; right_is = y.0; comparable = AreComparable.integers x.1 y.1 }

-- two truth values may be compared for whether they are equal
equals_found : (op : Comparison)
    → IsEquality op
    → (line : ℕ) (a b : Given) (u : Unit {0})
    → as_equals line a b ≡ well u
    → Compared op a b
equals_found op is line (G.Typed V.Bool) (G.Typed V.Bool) u e =
    record { left = V.Bool; right = V.Bool; left_is = refl; right_is = refl; comparable = AreComparable.truths is }
equals_found op is line (G.Typed V.Bool) (G.Typed V.Int32) u e = absurd (no_fault e)
equals_found op is line (G.Typed V.Bool) (G.Typed V.Int64) u e = absurd (no_fault e)
equals_found op is line (G.Typed V.Bool) (G.Typed (V.Array n)) u e = absurd (no_fault e)
equals_found op is line (G.Typed V.Bool) G.Text u e = absurd (no_fault e)
equals_found op is line (G.Typed V.Bool) G.Nothing u e = absurd (no_fault e)
equals_found op is line (G.Typed V.Int32) b u e = ordered_found op line (G.Typed V.Int32) b u e
equals_found op is line (G.Typed V.Int64) b u e = ordered_found op line (G.Typed V.Int64) b u e
equals_found op is line (G.Typed (V.Array n)) b u e = ordered_found op line (G.Typed (V.Array n)) b u e
equals_found op is line G.Text b u e = ordered_found op line G.Text b u e
equals_found op is line G.Nothing b u e = ordered_found op line G.Nothing b u e

-- what the verdict lets a comparison take are types that it takes
pub compared_found : (line : ℕ) (op : Comparison) (a b : Given) (u : Unit {0})
    → as_compared line op a b ≡ well u → Compared op a b
compared_found line C.Equal a b u e = equals_found C.Equal IsEquality.equal line a b u e
compared_found line C.NotEqual a b u e = equals_found C.NotEqual IsEquality.not_equal line a b u e
compared_found line C.Less a b u e = ordered_found C.Less line a b u e
compared_found line C.LessEqual a b u e = ordered_found C.LessEqual line a b u e
compared_found line C.Greater a b u e = ordered_found C.Greater line a b u e
compared_found line C.GreaterEqual a b u e = ordered_found C.GreaterEqual line a b u e

-- what a comparison takes the verdict lets it take
pub compared_judged : (line : ℕ) {op : Comparison} {t u : ValueType}
    → AreComparable op t u
    → as_compared line op (G.Typed t) (G.Typed u) ≡ well tt
compared_judged line (AreComparable.truths IsEquality.equal) = refl
compared_judged line (AreComparable.truths IsEquality.not_equal) = refl
compared_judged line (AreComparable.integers {op = op} i j) = by op i j
  where
    by : (op : Comparison) {t u : ValueType} → IsInteger t → IsInteger u → as_compared line op (G.Typed t) (G.Typed u) ≡ well tt
    by C.Equal IsInteger.int32 IsInteger.int32 = refl
    by C.Equal IsInteger.int32 IsInteger.int64 = refl
    by C.Equal IsInteger.int64 IsInteger.int32 = refl
    by C.Equal IsInteger.int64 IsInteger.int64 = refl
    by C.NotEqual IsInteger.int32 IsInteger.int32 = refl
    by C.NotEqual IsInteger.int32 IsInteger.int64 = refl
    by C.NotEqual IsInteger.int64 IsInteger.int32 = refl
    by C.NotEqual IsInteger.int64 IsInteger.int64 = refl
    by C.Less IsInteger.int32 IsInteger.int32 = refl
    by C.Less IsInteger.int32 IsInteger.int64 = refl
    by C.Less IsInteger.int64 IsInteger.int32 = refl
    by C.Less IsInteger.int64 IsInteger.int64 = refl
    by C.LessEqual IsInteger.int32 IsInteger.int32 = refl
    by C.LessEqual IsInteger.int32 IsInteger.int64 = refl
    by C.LessEqual IsInteger.int64 IsInteger.int32 = refl
    by C.LessEqual IsInteger.int64 IsInteger.int64 = refl
    by C.Greater IsInteger.int32 IsInteger.int32 = refl
    by C.Greater IsInteger.int32 IsInteger.int64 = refl
    by C.Greater IsInteger.int64 IsInteger.int32 = refl
    by C.Greater IsInteger.int64 IsInteger.int64 = refl
    by C.GreaterEqual IsInteger.int32 IsInteger.int32 = refl
    by C.GreaterEqual IsInteger.int32 IsInteger.int64 = refl
    by C.GreaterEqual IsInteger.int64 IsInteger.int32 = refl
    by C.GreaterEqual IsInteger.int64 IsInteger.int64 = refl

-- as many as are wanted, which the verdict lets fit, all fit
pub all_fit_found : (line : ℕ) (wanted : List Wanted) (given : List Given) (u : Unit {0})
    → length given ≡ length wanted
    → fit_all line wanted given ≡ well u
    → AllFit wanted given
all_fit_found line [] [] u long e = AllFit.none
all_fit_found line (w ∷ ws) (g ∷ gs) u long e =
    let i = inverted (fit line w g) _ u e in
    AllFit.one (fits_found w g (none_refused (misfit w g) line i.0 i.1)) (all_fit_found line ws gs u (omega (arith, long)) i.2)
all_fit_found line [] (g ∷ gs) u long e = absurd (omega (arith, long))
all_fit_found line (w ∷ ws) [] u long e = absurd (omega (arith, long))

-- what all fits is as much as is wanted
pub fit_length : {wanted : List Wanted} {given : List Given} → AllFit wanted given → length given ≡ length wanted
fit_length AllFit.none = refl
fit_length (AllFit.one f r) = let same = fit_length r in omega (arith, same)

-- what all fits the verdict lets fit
pub all_fit_judged : (line : ℕ) {wanted : List Wanted} {given : List Given} → AllFit wanted given → fit_all line wanted given ≡ well tt
all_fit_judged line AllFit.none = refl
all_fit_judged line (AllFit.one {wanted = w} {given = g} {rest = ws} {others = gs} f r) =
    chained (fit line w g) (λ u. fit_all line ws gs) tt tt (refused_none (misfit w g) line (fits_judged f)) (all_fit_judged line r)

-- a test of whether two lengths differ
equal_lengths : (a b : ℕ) → not (a == b) ≡ false → a ≡ b
equal_lengths a b e = grind (arith, e)

-- equal lengths pass it
lengths_equal : (a b : ℕ) → a ≡ b → not (a == b) ≡ false
lengths_equal a b e = ap not (eq-eqb a b e)

-- what the verdict has of a call
pub record Called (place : Place) (wanted : List Wanted) (result : Option DeclaredType) (live : Bool) (given : List Given) (g : Given) : Type 0 where
  pub all_fit : AllFit wanted given
  pub still : IsStill (standing_of place) live
  pub gives : given_result result ≡ g

-- a call that isn't refused as live where a recording may be open
still_found : (in_record live : Bool) → (in_record && live) ≡ false → in_record ≡ true → live ≡ false
still_found true live e q = e
still_found false live e q = absurd (false≢true q)

-- a call that isn't live where a recording may be open isn't refused
still_judged : (in_record live : Bool) → (in_record ≡ true → live ≡ false) → (in_record && live) ≡ false
still_judged true live f = f refl
still_judged false live f = refl

-- a call that the verdict lets stand is one by the rules
pub called_found : (place : Place) (wanted : List Wanted) (result : Option DeclaredType) (live : Bool) (given : List Given) (g : Given)
    → call_verdict place wanted result live given ≡ well g
    → Called place wanted result live given g
called_found place wanted result live given g e =
    let a = inverted (refuse_if (not (length given == length wanted)) place.line K.Arity) _ g e in
    let b = inverted (fit_all place.line wanted given) _ g a.2 in
    let c = inverted (refuse_if (place.in_record && live) place.line K.LiveInRecord) _ g b.2 in
    let long = equal_lengths (length given) (length wanted) (not_refused _ _ _ a.0 a.1) in
    record {
      all_fit = all_fit_found place.line wanted given b.0 long b.1;
      still = still_found place.in_record live (not_refused _ _ _ c.0 c.1);
      gives = same_found c.2;
    }

-- a call by the rules the verdict lets stand
pub called_judged : (place : Place) (wanted : List Wanted) (result : Option DeclaredType) (live : Bool) (given : List Given)
    → AllFit wanted given
    → IsStill (standing_of place) live
    → call_verdict place wanted result live given ≡ well (given_result result)
called_judged place wanted result live given fit still =
    let gives = well (given_result result) in
    let count = refuse_if (not (length given == length wanted)) place.line K.Arity in
    let silent = refuse_if (place.in_record && live) place.line K.LiveInRecord in
    let counted : count ≡ well tt = unrefused _ _ _ (lengths_equal (length given) (length wanted) (fit_length fit)) in
    let stands : silent ≡ well tt = unrefused _ _ _ (still_judged place.in_record live still) in
    chained count (λ u. fit_all place.line wanted given >> (silent >> gives)) _ _ counted
    (chained _ (λ u. silent >> gives) _ _ (all_fit_judged place.line fit) (chained silent (λ u. gives) _ _ stands refl))
