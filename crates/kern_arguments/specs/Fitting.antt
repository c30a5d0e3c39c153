-- Which arguments fit the parameters of a function.
use Rattle.std.specs.Prelude.{◌≡◌, ℕ, ◌<◌, List, [], ◌∷◌, ℤ, pos, FitsSigned}
use Rattle.std.specs.Int.{w32, w64}
use Rattle.kern_syntax.specs.declared.program.DeclaredType.{DeclaredType}
use Rattle.kern_syntax.specs.declared.program.DeclaredType.TheVariants as D
use Rattle.kern_syntax.specs.Tree.{ParameterTree}

-- a number that a parameter of this type can hold
abbrev pub ArgumentFits : DeclaredType → ℤ → Type 0
ArgumentFits D.Int32 v = FitsSigned w32 v
ArgumentFits D.Int64 v = FitsSigned w64 v
ArgumentFits D.Bool v = (n : ℕ) × (v ≡ pos n) × (n < 2)

-- as many arguments as parameters, each of which fits its own
abbrev pub ArgumentsFit : List ParameterTree → List ℤ → Type 0
ArgumentsFit [] [] = Unit {0}
ArgumentsFit (p ∷ ps) (v ∷ vs) = ArgumentFits p.declared v × ArgumentsFit ps vs
ArgumentsFit [] (v ∷ vs) = ⊥
ArgumentsFit (p ∷ ps) [] = ⊥
