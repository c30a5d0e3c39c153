-- Arguments that fit a function's parameters are of the parameters' types.
use Rattle.std.proofs.Common.{List, [], ◌∷◌}
use Rattle.std.specs.Prelude.{ℤ}
use Rattle.kern_syntax.specs.declared.program.DeclaredType.{DeclaredType}
use Rattle.kern_syntax.specs.declared.program.DeclaredType.TheVariants as D
use Rattle.kern_syntax.specs.Tree.{ParameterTree}
use Rattle.kern_calls.specs.Types.{declared_type}
use Rattle.kern_arguments.specs.Fitting.{ArgumentFits, ArgumentsFit}
use Rattle.typed_runs.specs.Values.{IsNumberOf, AreArgumentsOf}

-- a number that a parameter can hold is of the parameter's type
fitting_number : (declared : DeclaredType) (v : ℤ) → ArgumentFits declared v → IsNumberOf (declared_type declared) v
fitting_number D.Int32 v h = h
fitting_number D.Int64 v h = tt
fitting_number D.Bool v h = h

-- and so are as many as there are parameters
pub fitting_typed : (parameters : List ParameterTree) (args : List ℤ) → ArgumentsFit parameters args → AreArgumentsOf parameters args
fitting_typed [] [] h = tt
fitting_typed (p ∷ parameters) (v ∷ args) h = (fitting_number p.declared v h.0, fitting_typed parameters args h.1)
fitting_typed [] (v ∷ args) h = absurd h
fitting_typed (p ∷ parameters) [] h = absurd h
