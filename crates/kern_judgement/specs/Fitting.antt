-- Which types are integers, which fit where another is wanted,
-- and where a statement stands: rules without faults or lines.
use Rattle.std.specs.Prelude.{◌≡◌, ℕ, List, [], ◌∷◌, Bool, true, false, Option}
use Rattle.kern_syntax.specs.declared.program.DeclaredType.{DeclaredType}
use Rattle.kern_syntax.specs.declared.expression.Comparison.{Comparison}
use Rattle.kern_syntax.specs.declared.expression.Comparison.TheVariants as C
use Rattle.kern_calls.specs.declared.types.ValueType.{ValueType}
use Rattle.kern_calls.specs.declared.types.ValueType.TheVariants as V
use Rattle.kern_calls.specs.declared.wanted.Wanted.{Wanted}
use Rattle.kern_calls.specs.declared.wanted.Wanted.TheVariants as W
use Rattle.kern_expression_types.specs.declared.place.Given.{Given}
use Rattle.kern_expression_types.specs.declared.place.Given.TheVariants as G
use Rattle.kern_expression_types.specs.declared.place.Place.{Place}

-- where a statement stands: what its function gives, whether it may leave a loop,
-- whether it may leave the function, and whether it stands in a record block
pub record Standing : Type 0 where
  pub result : Option DeclaredType
  pub in_loop : Bool
  pub may_return : Bool
  pub in_record : Bool

-- a place of the checker without its line
abbrev pub standing_of : Place → Standing
standing_of place =
    record {
      result = place.result;
      in_loop = place.in_loop;
      may_return = place.may_return;
      in_record = place.in_record;
    }

-- in a loop
abbrev pub in_a_loop : Standing → Standing
in_a_loop here = record here { in_loop = true }

-- in a parallel block, which nothing leaves
abbrev pub in_parallel : Standing → Standing
in_parallel here = record here { in_loop = false; may_return = false }

-- in a record block, which nothing leaves
abbrev pub in_a_record : Standing → Standing
in_a_record here = record here { in_loop = false; may_return = false; in_record = true }

-- a live call doesn't stand in a record block
abbrev pub IsStill : Standing → (live : Bool) → Type 0
IsStill here live = here.in_record ≡ true → live ≡ false

-- the two types of integers
pub data IsInteger : ValueType → Type 0 where
  int32 : IsInteger V.Int32
  int64 : IsInteger V.Int64

-- the types of one number
pub data IsScalar : ValueType → Type 0 where
  integer : {t : ValueType} → IsInteger t → IsScalar t
  bool : IsScalar V.Bool

-- what stands alone as a statement: anything but an array
pub data IsNoArray : Given → Type 0 where
  text : IsNoArray G.Text
  nothing : IsNoArray G.Nothing
  scalar : {t : ValueType} → IsScalar t → IsNoArray (G.Typed t)

-- what fits where a type is wanted: an int32 also where an int64 is
pub data Fits : Wanted → Given → Type 0 where
  int32 : Fits W.Int32 (G.Typed V.Int32)
  int64 : {t : ValueType} → IsInteger t → Fits W.Int64 (G.Typed t)
  bool : Fits W.Bool (G.Typed V.Bool)
  text : Fits W.Text G.Text
  array : {n : ℕ} → Fits W.Array (G.Typed (V.Array n))
  a_number : {t : ValueType} → IsInteger t → Fits W.Int64OrArray (G.Typed t)
  an_array : {n : ℕ} → Fits W.Int64OrArray (G.Typed (V.Array n))

-- as many fit as are wanted, each where it stands
pub data AllFit : List Wanted → List Given → Type 0 where
  none : AllFit [] []
  one : {wanted : Wanted} {given : Given} {rest : List Wanted} {others : List Given}
      → Fits wanted given → AllFit rest others → AllFit (wanted ∷ rest) (given ∷ others)

-- a name of the first type keeps a value of the second: one of
-- its own type, so an array its length, or an int32 as an int64
pub data Keeps : (held assigned : ValueType) → Type 0 where
  same : {t : ValueType} → Keeps t t
  widened : Keeps V.Int64 V.Int32

-- a comparison for whether two are equal
pub data IsEquality : Comparison → Type 0 where
  equal : IsEquality C.Equal
  not_equal : IsEquality C.NotEqual

-- what a comparison takes: two integers, or two truth values for whether they are equal
pub data AreComparable : Comparison → (left right : ValueType) → Type 0 where
  integers : {op : Comparison} {t u : ValueType} → IsInteger t → IsInteger u → AreComparable op t u
  truths : {op : Comparison} → IsEquality op → AreComparable op V.Bool V.Bool
