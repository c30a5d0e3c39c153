-- What the parameters of a function take.
use Rattle.std.proofs.Common.{◌≡◌, ℕ, zero, suc, List, [], ◌∷◌, map, option_map, slice_get, refl}
use Rattle.kern_syntax.specs.declared.program.Parameter.{Parameter}
use Rattle.kern_syntax.specs.TreeOf.{parameter_of}
use Rattle.kern_expression_types.specs.Fits.{wanted_of, declared_wanted}

-- that of the parameter at its place
pub wanted-at : (parameters : List Parameter) (i : ℕ) → slice_get (wanted_of (map parameter_of parameters)) i ≡ option_map (λ p. declared_wanted p.declared) (slice_get parameters i)
wanted-at [] i = refl
wanted-at (p ∷ parameters) zero = refl
wanted-at (p ∷ parameters) (suc i) = wanted-at parameters i
