-- A value of an assigned type is one of the type that the name holds, and the numbers of a loop are of its variable's type.
use Rattle.std.proofs.Common.{◌≡◌, ℕ, ◌<◌, refl, arith}
use Rattle.std.specs.Prelude.{ℤ, pos, negsuc, ◌+ℤ◌, FitsSigned}
use Rattle.std.specs.Int.{w32, int_gap}
use Rattle.rtio_types.specs.declared.request.Value.TheVariants as W
use Rattle.kern_syntax.specs.declared.program.DeclaredType.{DeclaredType}
use Rattle.kern_syntax.specs.declared.program.DeclaredType.TheVariants as D
use Rattle.kern_calls.specs.declared.types.ValueType.{ValueType}
use Rattle.kern_calls.specs.declared.types.ValueType.TheVariants as V
use Rattle.kern_calls.specs.Types.{declared_type, wider_type}
use Rattle.kern_judgement.specs.Fitting.{IsInteger, Keeps}
use Rattle.kern_judgement.specs.Fitting as F
use Rattle.typed_runs.specs.Values.{IsNumberOf, IsValueOf}
use Rattle.typed_runs.proofs.Numbers.{kept_number}

-- a number of a type is a value of it
pub value_of_number : (t : ValueType) (n : ℤ) → IsNumberOf t n → IsValueOf t (W.Int n)
value_of_number V.Int32 n h = h
value_of_number V.Int64 n h = h
value_of_number V.Bool n h = h
value_of_number (V.Array k) n h = h

int32_is_no_array : (n : ℕ) → V.Int32 ≡ V.Array n → ⊥
int32_is_no_array n e = cc

kept_array_of : {held t : ValueType} (n : ℕ) → Keeps held t → t ≡ V.Array n → held ≡ V.Array n
kept_array_of n F.same e = e
kept_array_of n F.widened e = absurd (int32_is_no_array n e)

-- a name that keeps an array is an array of its length
pub kept_array : {held : ValueType} (n : ℕ) → Keeps held (V.Array n) → held ≡ V.Array n
kept_array n k = kept_array_of n k refl

-- 0 is a number of every declared type
pub zero_of : (declared : DeclaredType) → IsNumberOf (declared_type declared) (pos 0)
zero_of D.Int32 = grind arith
zero_of D.Int64 = tt
zero_of D.Bool = (0, refl, omega arith)

-- the wider of two types of integers keeps numbers of both
pub wider_keeps_left : {t u : ValueType} → IsInteger t → IsInteger u → Keeps (wider_type t u) t
wider_keeps_left F.int32 F.int32 = F.same
wider_keeps_left F.int32 F.int64 = F.widened
wider_keeps_left F.int64 u = F.same

pub wider_keeps_right : {t u : ValueType} → IsInteger t → IsInteger u → Keeps (wider_type t u) u
wider_keeps_right F.int32 F.int32 = F.same
wider_keeps_right F.int32 F.int64 = F.same
wider_keeps_right F.int64 F.int32 = F.widened
wider_keeps_right F.int64 F.int64 = F.same

-- a number from a start below an end lies between numbers of 32 bits
between_fits : (from to : ℤ) (i : ℕ) → i < int_gap from to → FitsSigned w32 from → FitsSigned w32 to → FitsSigned w32 (from +ℤ pos i)
between_fits (pos a) (pos b) i less f h = grind (arith, less, f, h)
between_fits (pos a) (negsuc b) i less f h = grind (arith, less, f, h)
between_fits (negsuc a) (pos b) i less f h = grind (arith, less, f, h)
between_fits (negsuc a) (negsuc b) i less f h = grind (arith, less, f, h)

in_reach : {t : ValueType} (from to : ℤ) (i : ℕ) → IsInteger t → i < int_gap from to → IsNumberOf t from → IsNumberOf t to
    → IsNumberOf t (from +ℤ pos i)
in_reach from to i F.int32 less f h = between_fits from to i less f h
in_reach from to i F.int64 less f h = tt

-- the numbers of a loop are values of the type that its variable holds
pub loop_numbers : (held t : ValueType) (from to : ℤ) → Keeps held t → IsInteger t → IsNumberOf t from → IsNumberOf t to → (i : ℕ)
    → i < int_gap from to → IsValueOf held (W.Int (from +ℤ pos i))
loop_numbers held t from to keeps whole f h i less =
    value_of_number held (from +ℤ pos i) (kept_number held t keeps (from +ℤ pos i) (in_reach from to i whole less f h))
