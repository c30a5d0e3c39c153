-- Which numbers and values are of a type.
use Rattle.std.specs.Prelude.{◌≡◌, ℕ, ◌<◌, List, [], ◌∷◌, length, ℤ, pos, Option, Some, None, FitsSigned}
use Rattle.std.specs.Int.{w32}
use Rattle.rtio_types.specs.declared.request.Value.{Value}
use Rattle.rtio_types.specs.declared.request.Value.TheVariants as W
use Rattle.kern_syntax.specs.declared.program.DeclaredType.{DeclaredType}
use Rattle.kern_syntax.specs.Tree.{Bytes, ParameterTree}
use Rattle.kern_calls.specs.declared.types.ValueType.{ValueType}
use Rattle.kern_calls.specs.declared.types.ValueType.TheVariants as V
use Rattle.kern_calls.specs.Types.{Names, declared_type}

-- a number of a type: an int32 has 32 bits, and a truth value is 0 or 1. An int64 isn't
-- bounded here: it may be any number, as replies and the cursor of the meaning may
abbrev pub IsNumberOf : ValueType → ℤ → Type 0
IsNumberOf V.Int32 n = FitsSigned w32 n
IsNumberOf V.Int64 n = Unit {0}
IsNumberOf V.Bool n = (k : ℕ) × (n ≡ pos k) × (k < 2)
IsNumberOf (V.Array k) n = ⊥

-- a value of a type: a number, or as many numbers as an array has. These aren't bounded either: each is an int64
abbrev pub IsValueOf : ValueType → Value → Type 0
IsValueOf (V.Array k) (W.Int n) = ⊥
IsValueOf (V.Array k) (W.List items) = length items ≡ k
IsValueOf t (W.Int n) = IsNumberOf t n
IsValueOf t (W.List items) = ⊥

-- the values are those of these names in this order, each of its name's type
abbrev pub HaveValues : Names → List (Bytes × Value) → Type 0
HaveValues [] [] = Unit {0}
HaveValues [] (entry ∷ entries) = ⊥
HaveValues (name ∷ names) [] = ⊥
HaveValues (name ∷ names) (entry ∷ entries) = (entry.0 ≡ name.0) × IsValueOf name.1 entry.1 × HaveValues names entries

-- what a function gives whose value has this type; a function without a value gives 0, which nothing uses
abbrev pub IsResultOf : Option DeclaredType → ℤ → Type 0
IsResultOf None n = n ≡ pos 0
IsResultOf (Some declared) n = IsNumberOf (declared_type declared) n

-- as many arguments as parameters, each of its parameter's type
abbrev pub AreArgumentsOf : List ParameterTree → List ℤ → Type 0
AreArgumentsOf [] [] = Unit {0}
AreArgumentsOf [] (v ∷ vs) = ⊥
AreArgumentsOf (p ∷ ps) [] = ⊥
AreArgumentsOf (p ∷ ps) (v ∷ vs) = IsNumberOf (declared_type p.declared) v × AreArgumentsOf ps vs
