-- Which values fit where a type is wanted.
use Rattle.std.specs.Prelude.{ℕ, List, [], ◌∷◌, map, ◌==◌, if◌then◌else◌, Option, Some, None}
use Rattle.kern_syntax.specs.declared.program.DeclaredType.{DeclaredType}
use Rattle.kern_syntax.specs.declared.program.DeclaredType.TheVariants as D
use Rattle.kern_syntax.specs.declared.expression.Comparison.{Comparison}
use Rattle.kern_syntax.specs.declared.expression.Comparison.TheVariants.{Equal, NotEqual}
use Rattle.kern_syntax.specs.Tree.{ParameterTree}
use Rattle.kern_calls.specs.declared.types.ValueType.{ValueType}
use Rattle.kern_calls.specs.declared.types.ValueType.TheVariants as V
use Rattle.kern_expression_types.specs.declared.place.Given.{Given}
use Rattle.kern_expression_types.specs.declared.place.Given.TheVariants as G
use Rattle.kern_calls.specs.declared.wanted.Wanted.{Wanted}
use Rattle.kern_calls.specs.declared.wanted.Wanted.TheVariants as W
use Rattle.kern_expression_types.specs.declared.fault.TypeKind.{TypeKind}
use Rattle.kern_expression_types.specs.declared.fault.TypeKind.TheVariants.{Width, NotBool, Mismatch}
use Rattle.kern_calls.specs.Types.{declared_type}
use Rattle.kern_expression_types.specs.Verdicts.{Verdict, well, fault, ◌>>◌, refuse_some}

-- the fault of a value where another is wanted, if there is one: an int32 is accepted where an int64 is wanted
abbrev pub misfit : Wanted → Given → Option TypeKind
misfit W.Int32 (G.Typed V.Int32) = None
misfit W.Int32 (G.Typed V.Int64) = Some Width
misfit W.Int64 (G.Typed V.Int32) = None
misfit W.Int64 (G.Typed V.Int64) = None
misfit W.Bool (G.Typed V.Bool) = None
misfit W.Text G.Text = None
misfit W.Array (G.Typed (V.Array n)) = None
misfit W.Int64OrArray (G.Typed V.Int32) = None
misfit W.Int64OrArray (G.Typed V.Int64) = None
misfit W.Int64OrArray (G.Typed (V.Array n)) = None
misfit wanted given = Some Mismatch

-- what a parameter of a declared type takes
abbrev pub declared_wanted : DeclaredType → Wanted
declared_wanted D.Int32 = W.Int32
declared_wanted D.Int64 = W.Int64
declared_wanted D.Bool = W.Bool

-- what the parameters of a function take
abbrev pub wanted_of : List ParameterTree → List Wanted
wanted_of parameters = map (λ p. declared_wanted p.declared) parameters

-- what a call gives whose value has this type, if it has one
abbrev pub given_result : Option DeclaredType → Given
given_result None = G.Nothing
given_result (Some t) = G.Typed (declared_type t)

-- the fault of a value that a name of a type is assigned, if there is one: an array keeps its length
abbrev pub kept_misfit : (held assigned : ValueType) → Option TypeKind
kept_misfit V.Int32 assigned = misfit W.Int32 (G.Typed assigned)
kept_misfit V.Int64 assigned = misfit W.Int64 (G.Typed assigned)
kept_misfit V.Bool assigned = misfit W.Bool (G.Typed assigned)
kept_misfit (V.Array n) (V.Array m) = if m == n then None else Some Mismatch
kept_misfit (V.Array n) assigned = Some Mismatch

-- the value fits what is wanted
abbrev pub fit : (line : ℕ) → Wanted → Given → Verdict (Unit {0})
fit line wanted given = refuse_some (misfit wanted given) line

-- each argument fits its parameter, from left to right
abbrev pub fit_all : (line : ℕ) → List Wanted → List Given → Verdict (Unit {0})
fit_all line (wanted ∷ rest) (given ∷ others) = fit line wanted given >> fit_all line rest others
fit_all line _ _ = well tt

-- each value fits what is wanted, from left to right
abbrev pub fit_each : (line : ℕ) → Wanted → List Given → Verdict (Unit {0})
fit_each line wanted [] = well tt
fit_each line wanted (given ∷ rest) = fit line wanted given >> fit_each line wanted rest

-- a condition, or an operand of `and`, `or` and `not`
abbrev pub as_condition : (line : ℕ) → Given → Verdict (Unit {0})
as_condition line (G.Typed V.Bool) = well tt
as_condition line given = fault line NotBool

-- an integer, and its type
abbrev pub as_integer : (line : ℕ) → Given → Verdict ValueType
as_integer line (G.Typed V.Int32) = well V.Int32
as_integer line (G.Typed V.Int64) = well V.Int64
as_integer line given = fault line Mismatch

-- the type of a value that a name can take from an expression: no array, and no call without a value
abbrev pub scalar_of : Given → Option ValueType
scalar_of (G.Typed V.Int32) = Some V.Int32
scalar_of (G.Typed V.Int64) = Some V.Int64
scalar_of (G.Typed V.Bool) = Some V.Bool
scalar_of given = None

-- two integers
abbrev pub as_ordered : (line : ℕ) → Given → Given → Verdict (Unit {0})
as_ordered line a b = as_integer line a >> as_integer line b >> well tt

-- two integers, or two truth values
abbrev pub as_equals : (line : ℕ) → Given → Given → Verdict (Unit {0})
as_equals line (G.Typed V.Bool) (G.Typed V.Bool) = well tt
as_equals line (G.Typed V.Bool) other = fault line Mismatch
as_equals line given other = as_ordered line given other

-- two operands that a comparison takes
abbrev pub as_compared : (line : ℕ) → Comparison → Given → Given → Verdict (Unit {0})
as_compared line Equal a b = as_equals line a b
as_compared line NotEqual a b = as_equals line a b
as_compared line order a b = as_ordered line a b

-- an expression that stands alone: any but an array
abbrev pub as_statement : (line : ℕ) → Given → Verdict (Unit {0})
as_statement line (G.Typed (V.Array n)) = fault line Mismatch
as_statement line given = well tt
