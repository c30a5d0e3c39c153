-- What is wanted of a call's arguments, and the types that values have.
use Rattle.std.proofs.Common.{◌≡◌, ℕ, suc, ◌+◌, ◌^◌, List, [], ◌∷◌, length, Option, Some, None, refl, sym, ap, subst, arith}
use Rattle.std.specs.Prelude.{Bool, true, false, not, ◌||◌, ◌==◌, nat_lt, is_some, if◌then◌else◌}
use Rattle.std.proofs.lemmas.Bool.{false≢true}
use Rattle.kern_syntax.specs.declared.expression.BinaryOperator.{BinaryOperator}
use Rattle.kern_syntax.specs.declared.expression.BinaryOperator.TheVariants as B
use Rattle.kern_syntax.specs.declared.expression.Comparison.{Comparison}
use Rattle.kern_syntax.specs.declared.expression.Comparison.TheVariants as C'
use Rattle.kern_syntax.specs.declared.program.DeclaredType.{DeclaredType}
use Rattle.kern_syntax.specs.declared.program.DeclaredType.TheVariants as D
use Rattle.kern_syntax.specs.Tree.{ParameterTree}
use Rattle.kern_calls.specs.declared.calls.Builtin.{Builtin}
use Rattle.kern_calls.specs.declared.calls.Builtin.TheVariants.{NowMu, AtMu, DelayMu, SetDataset, Len, ToInt32, ToInt64}
use Rattle.kern_calls.specs.declared.calls.Operation.{Operation}
use Rattle.kern_calls.specs.declared.calls.Operation.TheVariants as P
use Rattle.kern_calls.specs.declared.types.ValueType.{ValueType}
use Rattle.kern_calls.specs.declared.types.ValueType.TheVariants as V
use Rattle.kern_calls.specs.declared.wanted.Wanted.{Wanted}
use Rattle.kern_calls.specs.Calls.{builtin_takes, operation_takes}
use Rattle.kern_calls.specs.Types.{declared_type, result_type, literal_type, wider_type, binary_type}
use Rattle.kern_expression_types.specs.declared.place.Given.{Given}
use Rattle.kern_expression_types.specs.declared.place.Given.TheVariants as G
use Rattle.kern_expression_types.specs.Verdicts.{well}
use Rattle.kern_expression_types.specs.Fits.{misfit, declared_wanted, wanted_of, given_result, fit, fit_all, as_integer, as_ordered, as_equals, as_compared}
use Rattle.code_forms.specs.Suited.{is_scalar, builtin_numbers, operation_numbers, operation_takes_text}
use Rattle.code_suited.proofs.Inverted.{no_fault, inverted, none_refused, same_type, is_typed, is_text, is_array, integer_given, wants_text, takes_array, no_array}

-- types of one number
pub literal_scalar : (n : ℕ) → is_scalar (literal_type n) ≡ true
literal_scalar n = by_size (nat_lt n (2 ^ 31))
  where
    by_size : (b : Bool) → is_scalar (if b then V.Int32 else V.Int64) ≡ true
    by_size true = refl
    by_size false = refl

pub wider_scalar : (t u : ValueType) → is_scalar (wider_type t u) ≡ true
wider_scalar V.Int32 V.Int32 = refl
wider_scalar V.Int32 V.Int64 = refl
wider_scalar V.Int32 V.Bool = refl
wider_scalar V.Int32 (V.Array n) = refl
wider_scalar V.Int64 u = refl
wider_scalar V.Bool u = refl
wider_scalar (V.Array n) u = refl

pub binary_scalar : (op : BinaryOperator) (t u : ValueType) → is_scalar t ≡ true → is_scalar (binary_type op t u) ≡ true
binary_scalar B.Add t u s = wider_scalar t u
binary_scalar B.Subtract t u s = wider_scalar t u
binary_scalar B.Multiply t u s = wider_scalar t u
binary_scalar B.Divide t u s = wider_scalar t u
binary_scalar B.Remainder t u s = wider_scalar t u
binary_scalar B.ShiftLeft t u s = s
binary_scalar B.ShiftRight t u s = s
binary_scalar B.BitAnd t u s = wider_scalar t u
binary_scalar B.BitXor t u s = wider_scalar t u
binary_scalar B.BitOr t u s = wider_scalar t u

pub declared_scalar : (t : DeclaredType) → is_scalar (declared_type t) ≡ true
declared_scalar D.Int32 = refl
declared_scalar D.Int64 = refl
declared_scalar D.Bool = refl

pub not_array : (t : ValueType) → is_array (G.Typed t) ≡ false → is_scalar t ≡ true
not_array V.Int32 e = refl
not_array V.Int64 e = refl
not_array V.Bool e = refl
not_array (V.Array n) e = absurd (false≢true (sym e))

-- a given value is of a type of one number
abbrev pub IsScalarGiven : Given → Type 0
IsScalarGiven g = (t : ValueType) × (g ≡ G.Typed t) × (is_scalar t ≡ true)

pub ordered_given : (line : ℕ) (a b : Given) (u : Unit {0}) → as_ordered line a b ≡ well u → IsScalarGiven a × IsScalarGiven b
ordered_given line a b u e =
    let i = inverted (as_integer line a) _ u e in
    let j = inverted (as_integer line b) _ u i.2 in
    let x = integer_given line a i.0 i.1 in
    let y = integer_given line b j.0 j.1 in
    ((i.0, x.0, x.1), (j.0, y.0, y.1))

pub equals_given : (line : ℕ) (a b : Given) (u : Unit {0}) → as_equals line a b ≡ well u → IsScalarGiven a × IsScalarGiven b
equals_given line (G.Typed V.Bool) (G.Typed V.Bool) u e = ((V.Bool, refl, refl), (V.Bool, refl, refl))
equals_given line (G.Typed V.Bool) (G.Typed V.Int32) u e = absurd (no_fault e)
equals_given line (G.Typed V.Bool) (G.Typed V.Int64) u e = absurd (no_fault e)
equals_given line (G.Typed V.Bool) (G.Typed (V.Array n)) u e = absurd (no_fault e)
equals_given line (G.Typed V.Bool) G.Text u e = absurd (no_fault e)
equals_given line (G.Typed V.Bool) G.Nothing u e = absurd (no_fault e)
equals_given line (G.Typed V.Int32) b u e = ordered_given line (G.Typed V.Int32) b u e
equals_given line (G.Typed V.Int64) b u e = ordered_given line (G.Typed V.Int64) b u e
equals_given line (G.Typed (V.Array n)) b u e = ordered_given line (G.Typed (V.Array n)) b u e
equals_given line G.Text b u e = ordered_given line G.Text b u e
equals_given line G.Nothing b u e = ordered_given line G.Nothing b u e

pub compared_given : (line : ℕ) (op : Comparison) (a b : Given) (u : Unit {0}) → as_compared line op a b ≡ well u → IsScalarGiven a × IsScalarGiven b
compared_given line C'.Equal a b u e = equals_given line a b u e
compared_given line C'.NotEqual a b u e = equals_given line a b u e
compared_given line C'.Less a b u e = ordered_given line a b u e
compared_given line C'.LessEqual a b u e = ordered_given line a b u e
compared_given line C'.Greater a b u e = ordered_given line a b u e
compared_given line C'.GreaterEqual a b u e = ordered_given line a b u e

-- what a call gives
pub result_typed : (o : Option DeclaredType) (t : ValueType) → given_result o ≡ G.Typed t → result_type o ≡ t
result_typed None t e = absurd (false≢true (ap is_typed e))
result_typed (Some d) t e = same_type e

pub result_there : (o : Option DeclaredType) (t : ValueType) → given_result o ≡ G.Typed t → is_some o ≡ true
result_there None t e = absurd (false≢true (ap is_typed e))
result_there (Some d) t e = refl

pub result_scalar : (o : Option DeclaredType) (t : ValueType) → given_result o ≡ G.Typed t → is_scalar t ≡ true
result_scalar None t e = absurd (false≢true (ap is_typed e))
result_scalar (Some d) t e = subst (λ u. is_scalar u ≡ true) (same_type e) (declared_scalar d)

pub result_no_text : (o : Option DeclaredType) → is_text (given_result o) ≡ false
result_no_text None = refl
result_no_text (Some d) = refl

-- how many numbers are wanted, and whether a text is
abbrev pub count : List Wanted → ℕ
count [] = 0
count (w ∷ ws) = (if wants_text w then 0 else 1) + count ws

abbrev pub wants : List Wanted → Bool
wants [] = false
wants (w ∷ ws) = wants_text w || wants ws

abbrev pub NoArrayWanted : List Wanted → Type 0
NoArrayWanted [] = Unit {0}
NoArrayWanted (w ∷ ws) = (takes_array w ≡ false) × NoArrayWanted ws

abbrev pub NoArrays : List Given → Type 0
NoArrays [] = Unit {0}
NoArrays (g ∷ gs) = (is_array g ≡ false) × NoArrays gs

pub parameters_no_array : (ps : List ParameterTree) → NoArrayWanted (wanted_of ps)
parameters_no_array [] = tt
parameters_no_array (p ∷ ps) = (by_type p.declared, parameters_no_array ps)
  where
    by_type : (t : DeclaredType) → takes_array (declared_wanted t) ≡ false
    by_type D.Int32 = refl
    by_type D.Int64 = refl
    by_type D.Bool = refl

pub parameters_count : (ps : List ParameterTree) → count (wanted_of ps) ≡ length ps
parameters_count [] = refl
parameters_count (p ∷ ps) = by_type p.declared (parameters_count ps)
  where
    by_type : (t : DeclaredType) → count (wanted_of ps) ≡ length ps → (if wants_text (declared_wanted t) then 0 else 1) + count (wanted_of ps) ≡ suc (length ps)
    by_type D.Int32 e = omega (arith, e)
    by_type D.Int64 e = omega (arith, e)
    by_type D.Bool e = omega (arith, e)

pub fits_no_array : (line : ℕ) (ws : List Wanted) (gs : List Given) (u : Unit {0}) → length gs ≡ length ws → NoArrayWanted ws → fit_all line ws gs ≡ well u → NoArrays gs
fits_no_array line [] [] u long none e = tt
fits_no_array line (w ∷ ws) (g ∷ gs) u long none e =
    let i = inverted (fit line w g) _ u e in
    (no_array w g none.0 (none_refused (misfit w g) line i.0 i.1), fits_no_array line ws gs u (omega (arith, long)) none.1 i.2)
fits_no_array line [] (g ∷ gs) u long none e = absurd (omega (arith, long))
fits_no_array line (w ∷ ws) [] u long none e = absurd (omega (arith, long))

pub builtin_count : (b : Builtin) → count (builtin_takes b) ≡ builtin_numbers b
builtin_count NowMu = refl
builtin_count AtMu = refl
builtin_count DelayMu = refl
builtin_count SetDataset = refl
builtin_count Len = refl
builtin_count ToInt32 = refl
builtin_count ToInt64 = refl

pub operation_count : (op : Operation) → count (operation_takes op) ≡ operation_numbers op
operation_count (P.On c) = refl
operation_count (P.Off c) = refl
operation_count (P.Pulse c) = refl
operation_count (P.Write c) = refl
operation_count (P.GateRising c) = refl
operation_count (P.GateFalling c) = refl
operation_count (P.GateBoth c) = refl
operation_count (P.Timestamp c) = refl
operation_count (P.Count c) = refl
operation_count P.Counter = refl
operation_count P.BreakRealtime = refl
operation_count P.Reset = refl
operation_count P.WaitUntil = refl
operation_count P.Playback = refl
operation_count P.PlaybackHandle = refl
operation_count P.GetHandle = refl
operation_count P.Erase = refl

pub operation_wants : (op : Operation) → operation_takes_text op ≡ true → wants (operation_takes op) ≡ true
operation_wants P.Playback e = refl
operation_wants P.GetHandle e = refl
operation_wants P.Erase e = refl
operation_wants (P.On c) e = absurd (false≢true e)
operation_wants (P.Off c) e = absurd (false≢true e)
operation_wants (P.Pulse c) e = absurd (false≢true e)
operation_wants (P.Write c) e = absurd (false≢true e)
operation_wants (P.GateRising c) e = absurd (false≢true e)
operation_wants (P.GateFalling c) e = absurd (false≢true e)
operation_wants (P.GateBoth c) e = absurd (false≢true e)
operation_wants (P.Timestamp c) e = absurd (false≢true e)
operation_wants (P.Count c) e = absurd (false≢true e)
operation_wants P.Counter e = absurd (false≢true e)
operation_wants P.BreakRealtime e = absurd (false≢true e)
operation_wants P.Reset e = absurd (false≢true e)
operation_wants P.WaitUntil e = absurd (false≢true e)
operation_wants P.PlaybackHandle e = absurd (false≢true e)

pub operation_no_array : (op : Operation) → NoArrayWanted (operation_takes op)
operation_no_array (P.On c) = tt
operation_no_array (P.Off c) = tt
operation_no_array (P.Pulse c) = (refl, tt)
operation_no_array (P.Write c) = (refl, (refl, tt))
operation_no_array (P.GateRising c) = (refl, tt)
operation_no_array (P.GateFalling c) = (refl, tt)
operation_no_array (P.GateBoth c) = (refl, tt)
operation_no_array (P.Timestamp c) = (refl, tt)
operation_no_array (P.Count c) = (refl, tt)
operation_no_array P.Counter = tt
operation_no_array P.BreakRealtime = tt
operation_no_array P.Reset = tt
operation_no_array P.WaitUntil = (refl, tt)
operation_no_array P.Playback = (refl, tt)
operation_no_array P.PlaybackHandle = (refl, tt)
operation_no_array P.GetHandle = (refl, tt)
operation_no_array P.Erase = (refl, tt)

pub equal_lengths : (a b : ℕ) → not (a == b) ≡ false → a ≡ b
equal_lengths a b e = grind (arith, e)
