-- Arguments fit where the first of them fits and the others do.
use Rattle.std.proofs.Common.{◌≡◌, ◌↔◌, ℕ, zero, suc, ◌+◌, ◌<◌, List, [], ◌∷◌, length, map, drop, get_or, refl, sym, ap, subst, arith, add-one}
use Rattle.std.specs.Prelude.{ℤ, pos}
use Rattle.kern_syntax.specs.TreeOf.{parameter_of}
use Rattle.kern_syntax.specs.declared.program.Parameter.{Parameter}
use Rattle.kern_arguments.specs.Fitting.{ArgumentFits, ArgumentsFit}

pub as_many : (ps : List Parameter) (vs : List ℤ) → ArgumentsFit (map parameter_of ps) vs → length ps ≡ length vs
as_many [] [] f = refl
as_many (p ∷ ps) (v ∷ vs) f = ap suc (as_many ps vs f.1)
as_many [] (v ∷ vs) f = absurd f
as_many (p ∷ ps) [] f = absurd f

-- the arguments from a place on
abbrev pub FromOn : List Parameter → List ℤ → ℕ → Type 0
FromOn ps vs i = ArgumentsFit (map parameter_of (drop i ps)) (drop i vs)

one_and_rest : (ps : List Parameter) (vs : List ℤ) (i : ℕ) (d : Parameter) → i < length ps → length ps ≡ length vs → FromOn ps vs i ↔ (ArgumentFits (get_or ps i d).declared (get_or vs i (pos 0)) × FromOn ps vs (suc i))
one_and_rest [] vs i d less same = absurd (omega (arith, less))
one_and_rest (p ∷ ps) [] i d less same = absurd (omega (arith, same))
one_and_rest (p ∷ ps) (v ∷ vs) zero d less same = ((λ f. f), (λ f. f))
one_and_rest (p ∷ ps) (v ∷ vs) (suc i) d less same = one_and_rest ps vs i d (omega (arith, less)) (omega (arith, same))

pub first_fits : (ps : List Parameter) (vs : List ℤ) (i : ℕ) (d : Parameter) → i < length ps → length ps ≡ length vs → FromOn ps vs i → ArgumentFits (get_or ps i d).declared (get_or vs i (pos 0))
first_fits ps vs i d less same f = ((one_and_rest ps vs i d less same).0 f).0

pub rest_fits : (ps : List Parameter) (vs : List ℤ) (i : ℕ) (d : Parameter) → i < length ps → length ps ≡ length vs → FromOn ps vs i → FromOn ps vs (i + 1)
rest_fits ps vs i d less same f = subst (FromOn ps vs) (sym (add-one i)) ((one_and_rest ps vs i d less same).0 f).1

pub both_fit : (ps : List Parameter) (vs : List ℤ) (i : ℕ) (d : Parameter) → i < length ps → length ps ≡ length vs → ArgumentFits (get_or ps i d).declared (get_or vs i (pos 0)) → FromOn ps vs (i + 1) → FromOn ps vs i
both_fit ps vs i d less same first rest = (one_and_rest ps vs i d less same).1 (first, subst (FromOn ps vs) (add-one i) rest)

-- at the end nothing is left
pub none_left : (ps : List Parameter) (vs : List ℤ) (i : ℕ) → length ps ≡ length vs → i ≡ length ps → FromOn ps vs i
none_left [] [] zero same e = tt
none_left [] [] (suc i) same e = tt
none_left [] (v ∷ vs) i same e = absurd (omega (arith, same))
none_left (p ∷ ps) [] i same e = absurd (omega (arith, same))
none_left (p ∷ ps) (v ∷ vs) zero same e = absurd (omega (arith, e))
none_left (p ∷ ps) (v ∷ vs) (suc i) same e = none_left ps vs i (omega (arith, same)) (omega (arith, e))
