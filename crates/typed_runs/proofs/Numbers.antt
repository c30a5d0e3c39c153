-- Which numbers are of a type: results that wrap, truth values, literals, and numbers where another type is wanted.
use Rattle.std.proofs.Common.{◌≡◌, ℕ, ◌<◌, ◌^◌, List, [], ◌∷◌, Option, Some, None, refl, arith}
use Rattle.std.specs.Prelude.{Bool, true, false, ℤ, pos, nat_lt, if◌then◌else◌, FitsSigned}
use Rattle.std.specs.Int.{w32, int_wrap}
use Rattle.std.proofs.lemmas.Int.{SFits-int_wrap}
use Rattle.std.proofs.lemmas.Bool.Decides.{nat_tests}
use Rattle.rtio_types.specs.Integers.{number_of}
use Rattle.rtio_types.specs.declared.request.Value.{Value}
use Rattle.rtio_types.specs.declared.request.Value.TheVariants as W
use Rattle.kern_syntax.specs.declared.program.DeclaredType.{DeclaredType}
use Rattle.kern_syntax.specs.declared.program.DeclaredType.TheVariants as D
use Rattle.kern_syntax.specs.declared.expression.BinaryOperator.{BinaryOperator}
use Rattle.kern_syntax.specs.declared.expression.BinaryOperator.TheVariants.{Add, Subtract, Multiply, Divide, Remainder, ShiftLeft, ShiftRight, BitAnd, BitXor, BitOr}
use Rattle.kern_syntax.specs.Tree.{ParameterTree}
use Rattle.kern_calls.specs.declared.types.ValueType.{ValueType}
use Rattle.kern_calls.specs.declared.types.ValueType.TheVariants as V
use Rattle.kern_calls.specs.Types.{wider_type, width_of, declared_type, literal_type, binary_type}
use Rattle.kern_expression_types.specs.declared.place.Given.{Given}
use Rattle.kern_expression_types.specs.declared.place.Given.TheVariants as G
use Rattle.kern_expression_types.specs.Fits.{declared_wanted, wanted_of, given_result}
use Rattle.kern_judgement.specs.Fitting.{IsInteger, int32, int64, IsScalar, integer, bool, Fits, AllFit, Keeps, same, widened}
use Rattle.kern_judgement.specs.Fitting as F
use Rattle.timeline_sem.specs.Expressions.{number_in_value}
use Rattle.typed_runs.specs.Values.{IsNumberOf, IsValueOf, IsResultOf, AreArgumentsOf}

-- a result that wraps at the width of an integer type is of this type
pub wrapped : (t : ValueType) → IsInteger t → (n : ℤ) → IsNumberOf t (int_wrap (width_of t) n)
wrapped t int32 n = SFits-int_wrap w32 n
wrapped t int64 n = tt

-- the wider of two integer types is one
pub wider_integer : (t u : ValueType) → IsInteger t → IsInteger u → IsInteger (wider_type t u)
wider_integer t u int32 int32 = int32
wider_integer t u int32 int64 = int64
wider_integer t u int64 int32 = int64
wider_integer t u int64 int64 = int64

-- an operator on integers gives an integer
pub binary_integer : (op : BinaryOperator) (t u : ValueType) → IsInteger t → IsInteger u → IsInteger (binary_type op t u)
binary_integer ShiftLeft t u i j = i
binary_integer ShiftRight t u i j = i
binary_integer Add t u i j = wider_integer t u i j
binary_integer Subtract t u i j = wider_integer t u i j
binary_integer Multiply t u i j = wider_integer t u i j
binary_integer Divide t u i j = wider_integer t u i j
binary_integer Remainder t u i j = wider_integer t u i j
binary_integer BitAnd t u i j = wider_integer t u i j
binary_integer BitXor t u i j = wider_integer t u i j
binary_integer BitOr t u i j = wider_integer t u i j

-- a truth value is 0 or 1
pub truth : (b : Bool) → IsNumberOf V.Bool (number_of b)
truth false = (0, refl, omega arith)
truth true = (1, refl, omega arith)

-- a small number has 32 bits
pub small_fits : (n : ℕ) → n < 2 ^ 31 → FitsSigned w32 (pos n)
small_fits n less = grind (arith, less)

-- a literal is an integer
pub literal_integer : (n : ℕ) → IsInteger (literal_type n)
literal_integer n = by_test (nat_lt n (2 ^ 31))
  where
    by_test : (b : Bool) → IsInteger (if b then V.Int32 else V.Int64)
    by_test true = int32
    by_test false = int64

-- a literal is of its type
pub literal_number : (n : ℕ) → IsNumberOf (literal_type n) (pos n)
literal_number n = by_test (nat_lt n (2 ^ 31)) (λ e. small_fits n (grind (arith, nat_tests, e)))
  where
    by_test : (b : Bool) → (b ≡ true → FitsSigned w32 (pos n)) → IsNumberOf (if b then V.Int32 else V.Int64) (pos n)
    by_test true k = k refl
    by_test false k = tt

-- a number of a type is one of the type that keeps it
pub kept_number : (held t : ValueType) → Keeps held t → (n : ℤ) → IsNumberOf t n → IsNumberOf held n
kept_number held t same n p = p
kept_number held t widened n p = tt

-- what is told of the number that an expression gives: it is of its type, but for an array's, which nothing uses
abbrev pub IsGivenNumber : Given → ℤ → Type 0
IsGivenNumber (G.Typed (V.Array k)) n = Unit {0}
IsGivenNumber (G.Typed t) n = IsNumberOf t n
IsGivenNumber given n = Unit {0}

-- a number of an integer type is told of
pub given_integer : (t : ValueType) → IsInteger t → (n : ℤ) → IsNumberOf t n → IsGivenNumber (G.Typed t) n
given_integer t int32 n p = p
given_integer t int64 n p = p

-- and back
pub integer_given : (t : ValueType) → IsInteger t → (n : ℤ) → IsGivenNumber (G.Typed t) n → IsNumberOf t n
integer_given t int32 n p = p
integer_given t int64 n p = p

-- a scalar's number is of its type
pub scalar_given : (t : ValueType) → IsScalar t → (n : ℤ) → IsGivenNumber (G.Typed t) n → IsNumberOf t n
scalar_given t (integer i) n p = integer_given t i n p
scalar_given t bool n p = p

-- a value of a type is a number of this type
pub given_value : (t : ValueType) (v : Value) → IsValueOf t v → IsGivenNumber (G.Typed t) (number_in_value v)
given_value V.Int32 (W.Int n) p = p
given_value V.Int64 (W.Int n) p = p
given_value V.Bool (W.Int n) p = p
given_value (V.Array k) v p = tt
given_value V.Int32 (W.List items) p = absurd p
given_value V.Int64 (W.List items) p = absurd p
given_value V.Bool (W.List items) p = absurd p

-- what a call gives is told of its number
pub given_call : (result : Option DeclaredType) (n : ℤ) → IsResultOf result n → IsGivenNumber (given_result result) n
given_call None n p = tt
given_call (Some D.Int32) n p = p
given_call (Some D.Int64) n p = p
given_call (Some D.Bool) n p = p

-- the numbers among what arguments give, without texts
pub data AreGivenNumbers : List Given → List ℤ → Type 0 where
  no_number : AreGivenNumbers [] []
  a_number : {g : Given} {n : ℤ} {gs : List Given} {ns : List ℤ} → IsGivenNumber g n → AreGivenNumbers gs ns
      → AreGivenNumbers (g ∷ gs) (n ∷ ns)
  a_text : {gs : List Given} {ns : List ℤ} → AreGivenNumbers gs ns → AreGivenNumbers (G.Text ∷ gs) ns

argument : (d : DeclaredType) (g : Given) → Fits (declared_wanted d) g → (n : ℤ) → IsGivenNumber g n → IsNumberOf (declared_type d) n
argument D.Int32 g F.int32 n p = p
argument D.Int64 g (F.int64 i) n p = tt
argument D.Bool g F.bool n p = p

no_text : (d : DeclaredType) → Fits (declared_wanted d) G.Text → ⊥
no_text D.Int32 f = elim f [ ]
no_text D.Int64 f = elim f [ ]
no_text D.Bool f = elim f [ ]

-- arguments that fit the parameters are of the parameters' types
pub arguments_given : (parameters : List ParameterTree) (gs : List Given) (ns : List ℤ) → AllFit (wanted_of parameters) gs
    → AreGivenNumbers gs ns → AreArgumentsOf parameters ns
arguments_given [] gs ns F.none no_number = tt
arguments_given (p ∷ ps) gs ns (F.one f fs) (a_number q qs) = (argument p.declared _ f _ q, arguments_given ps _ _ fs qs)
arguments_given (p ∷ ps) gs ns (F.one f fs) (a_text qs) = absurd (no_text p.declared f)
