-- The values with which a function begins are of its names' types, where its arguments are of its parameters' types.
use Rattle.std.proofs.Common.{List, [], ◌∷◌, ◌++◌, refl, arith}
use Rattle.std.specs.Prelude.{ℤ, pos, map}
use Rattle.std.proofs.lemmas.List.{length-replicate}
use Rattle.kern_syntax.specs.Tree.{ParameterTree}
use Rattle.kern_calls.specs.declared.types.ValueType.{ValueType}
use Rattle.kern_calls.specs.declared.types.ValueType.TheVariants as V
use Rattle.kern_calls.specs.Types.{Names, declared_type}
use Rattle.timeline_sem.specs.Programs.{initial_value, initial_values}
use Rattle.typed_runs.specs.Values.{IsValueOf, HaveValues, AreArgumentsOf}
use Rattle.typed_runs.proofs.Kept.{value_of_number}

-- a name starts with a value of its type
begins : (t : ValueType) → IsValueOf t (initial_value t)
begins V.Int32 = grind arith
begins V.Int64 = tt
begins V.Bool = (0, refl, omega arith)
begins (V.Array n) = length-replicate n (pos 0)

-- names without arguments begin
begin_all : (names : Names) → HaveValues names (initial_values names [])
begin_all [] = tt
begin_all (name ∷ names) = (refl, begins name.1, begin_all names)

-- the names of parameters with their types
abbrev pub of_parameters : List ParameterTree → Names
of_parameters parameters = map (λ p. (p.name, declared_type p.declared)) parameters

-- the parameters have the arguments, and the names behind them begin
pub begin_values : (parameters : List ParameterTree) (more : Names) (args : List ℤ) → AreArgumentsOf parameters args
    → HaveValues (of_parameters parameters ++ more) (initial_values (of_parameters parameters ++ more) args)
begin_values [] more [] h = begin_all more
begin_values (p ∷ parameters) more (v ∷ args) h =
    (refl, value_of_number (declared_type p.declared) v h.0, begin_values parameters more args h.1)
begin_values [] more (v ∷ args) h = absurd h
begin_values (p ∷ parameters) more [] h = absurd h
