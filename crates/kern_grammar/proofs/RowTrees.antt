-- The trees of a row of operators.
use Rattle.std.proofs.Common.{◌≡◌, ◌≢◌, ℕ, suc, ◌<◌, ◌∷◌, ◌++◌, refl, sym, ◌∙◌, ap, arith, eq-eqb, cond}
use Rattle.std.proofs.lemmas.Bool.{ne_eqb}
use Rattle.kern_syntax.specs.Levels.{binary_level, level_of, turns}
use Rattle.kern_syntax.specs.Grammatical.{PartsFit, InRow}
use Rattle.kern_syntax.specs.Tree.{Expression, unary, binary, compare, negation, conjunction, disjunction}
use Rattle.kern_grammar.specs.Expressions.{expression_symbols}
use Rattle.kern_grammar.specs.declared.joiner.Joiner.{Joiner}
use Rattle.kern_grammar.specs.declared.joiner.Joiner.TheVariants.{Binary, And, Or}
use Rattle.kern_grammar.specs.Operators.{joiner_level, joiner_symbol, join}
use Rattle.kern_grammar.specs.Reading.{rows, kind_of}

pub symbols-join : (j : Joiner) (a b : Expression) → expression_symbols (join j a b) ≡ expression_symbols a ++ joiner_symbol j ∷ expression_symbols b
symbols-join (Binary op) a b = refl
symbols-join And a b = refl
symbols-join Or a b = refl

pub parts-join : (room : ℕ) (j : Joiner) (a b : Expression) → PartsFit room (join j a b) ≡ InRow (joiner_level j) (join j a b) a b (PartsFit room a) (PartsFit room b)
parts-join room (Binary op) a b = refl
parts-join room And a b = refl
parts-join room Or a b = refl

pub level-join : (j : Joiner) (a b : Expression) → level_of (join j a b) ≡ joiner_level j
level-join (Binary op) a b = refl
level-join And a b = refl
level-join Or a b = refl

pub turns-join : (j : Joiner) (a b : Expression) → turns (joiner_level j) (join j a b) ≡ suc (turns (joiner_level j) a)
turns-join (Binary op) a b = ap (λ t. cond t (suc (turns (binary_level op) a)) 0) (eq-eqb (binary_level op) (binary_level op) refl)
turns-join And a b = refl
turns-join Or a b = refl

-- an expression of another level has no turns
pub turns-none : (level : ℕ) (e : Expression) → level_of e ≢ level → turns level e ≡ 0
turns-none level (binary op a b) h = ap (λ t. cond t (suc (turns level a)) 0) (ne_eqb level (binary_level op) (λ same. h (sym same)))
turns-none level (conjunction a b) h = ap (λ t. cond t (suc (turns level a)) 0) (ne_eqb level 10 (λ same. h (sym same)))
turns-none level (disjunction a b) h = ap (λ t. cond t (suc (turns level a)) 0) (ne_eqb level 11 (λ same. h (sym same)))
turns-none level e h = refl

-- an expression whose form is a row
pub record IsRow (level : ℕ) (e : Expression) : Type 0 where
  pub joiner : Joiner
  pub left : Expression
  pub right : Expression
  pub is : e ≡ join joiner left right
  pub level_is : joiner_level joiner ≡ level

-- an expression at a level of rows is one
pub row-at : (level : ℕ) (e : Expression) → level_of e ≡ level → kind_of level ≡ rows → 0 < level → IsRow level e
row-at level (binary op a b) h k p = record { joiner = Binary op; left = a; right = b; is = refl; level_is = h }
row-at level (conjunction a b) h k p = record { joiner = And; left = a; right = b; is = refl; level_is = h }
row-at level (disjunction a b) h k p = record { joiner = Or; left = a; right = b; is = refl; level_is = h }
row-at level (compare op a b) h k p = let no : kind_of 8 ≡ rows = ap kind_of h ∙ k in absurd cc
row-at level (negation e) h k p = let no : kind_of 9 ≡ rows = ap kind_of h ∙ k in absurd cc
row-at level (unary op e) h k p = let no : kind_of 1 ≡ rows = ap kind_of h ∙ k in absurd cc
row-at level e h k p = absurd (omega (arith, h, p))
