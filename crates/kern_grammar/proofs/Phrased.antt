-- What it means that a function on symbols reads the phrases of a kind.
use Rattle.std.proofs.Common.{◌≡◌, ℕ, suc, Bool, true, List, [], ◌∷◌, ◌++◌, refl, subst, arith, ◌⊎◌, inl, inr}
use Rattle.std.proofs.lemmas.Bool.{lt-ltb, ltb-true}
use Rattle.std.specs.Prelude.{Option, Some, None, Ok, Err}
use Rattle.kern_lexer.specs.Symbols.{Symbol}
use Rattle.kern_grammar.specs.Operators.{stops, stops_at, continues_at}
use Rattle.kern_grammar.specs.Reading.{Read, ◌>>=◌}

-- two lists begin with one symbol
abbrev pub SameFirst : List Symbol → List Symbol → Type 0
SameFirst [] b = ⊥
SameFirst (s ∷ a) [] = ⊥
SameFirst (s ∷ a) (t ∷ b) = s ≡ t

-- a fault of reading: what stands before it can be completed to a phrase, and what follows it doesn't matter
pub record FaultOf {A : Type 0} (spell : A → List Symbol) (Fits : A → Type 0) (read : List Symbol → Read A) (given left : List Symbol) : Type 0 where
  pub before : List Symbol
  pub completion : A
  pub more : List Symbol
  pub whole : given ≡ before ++ left
  pub fits : Fits completion
  pub completed : spell completion ≡ before ++ more
  pub same : (other : List Symbol) → SameFirst left other → read (before ++ other) ≡ Err other

-- what was read is a phrase, and what follows doesn't go on with it
pub record FoundBy {A : Type 0} (spell : A → List Symbol) (Fits : A → Type 0) (stop : List Symbol → Bool) (given : List Symbol) (x : A) (rest : List Symbol) : Type 0 where
  pub whole : given ≡ spell x ++ rest
  pub fits : Fits x
  pub stopped : stop rest ≡ true

-- a function reads the phrases of a kind: exactly those that what follows doesn't go on with, or the first fault
pub record Reads {A : Type 0} (spell : A → List Symbol) (Fits : A → Type 0) (stop : List Symbol → Bool) (read : List Symbol → Read A) : Type 0 where
  pub complete : (x : A) (rest : List Symbol) → Fits x → stop rest ≡ true → read (spell x ++ rest) ≡ Ok (x, rest)
  pub found : (given : List Symbol) (x : A) (rest : List Symbol) → read given ≡ Ok (x, rest) → FoundBy spell Fits stop given x rest
  pub fault : (given left : List Symbol) → read given ≡ Err left → FaultOf spell Fits read given left

pub bind_ok : {A B : Type 0} (r : Read A) (f : A × List Symbol → Read B) (y : B × List Symbol) → (r >>= f) ≡ Ok y → (x : A × List Symbol) × (r ≡ Ok x) × (f x ≡ Ok y)
bind_ok (Ok x) f y e = (x, refl, e)
bind_ok (Err left) f y e = absurd cc

-- a fault of the first step, or the first step and a fault of the second
pub bind_err : {A B : Type 0} (r : Read A) (f : A × List Symbol → Read B) (left : List Symbol) → (r >>= f) ≡ Err left → (r ≡ Err left) ⊎ ((x : A × List Symbol) × (r ≡ Ok x) × (f x ≡ Err left))
bind_err (Ok x) f left e = inr (x, refl, e)
bind_err (Err l) f left e = inl cc

-- whether a phrase stops depends on the first symbol alone
pub stops-same : (level : ℕ) (before left other : List Symbol) → SameFirst left other → stops level (before ++ left) ≡ true → stops level (before ++ other) ≡ true
stops-same level [] (s ∷ a) (t ∷ b) e h = subst (λ x. stops_at level (continues_at x) ≡ true) e h
stops-same level [] [] b e h = absurd e
stops-same level [] (s ∷ a) [] e h = absurd e
stops-same level (x ∷ before) left other e h = h

-- what stops a phrase of a level stops each tighter one
stops_at-looser : (level : ℕ) (o : Option ℕ) → stops_at (suc level) o ≡ true → stops_at level o ≡ true
stops_at-looser level None h = refl
stops_at-looser level (Some c) h = lt-ltb level c (omega (arith, ltb-true (suc level) c h))

pub stops-looser : (level : ℕ) (symbols : List Symbol) → stops (suc level) symbols ≡ true → stops level symbols ≡ true
stops-looser level [] h = refl
stops-looser level (s ∷ rest) h = stops_at-looser level (continues_at s) h
