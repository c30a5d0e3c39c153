-- Each level of expressions is read, once the atoms are, and so an expression's tokens have one tree.
use Rattle.std.proofs.Common.{◌≡◌, ℕ, zero, suc, true, List, ◌++◌, refl, sym, ◌∙◌, ap, subst, arith}
use Rattle.std.proofs.lemmas.Bool.Decides.{eqb_tells}
use Rattle.std.proofs.Common.{eqb, cond, inl, inr}
use Rattle.kern_lexer.specs.Symbols.{Symbol}
use Rattle.kern_syntax.specs.Grammatical.{Fits}
use Rattle.kern_syntax.specs.Tree.{Expression}
use Rattle.kern_grammar.specs.Expressions.{expression_symbols}
use Rattle.kern_grammar.specs.Operators.{stops}
use Rattle.kern_grammar.specs.Reading.{Reader, atom, level_reader, readers, LevelKind, prefixes, rows, comparisons, negations, kind_of, at_level, unary_at, not_at, inside_of}
use Rattle.kern_grammar.proofs.ComparisonReads.{comparison-reads}
use Rattle.kern_grammar.proofs.PrefixLevels.{prefixed-reads}
use Rattle.kern_grammar.proofs.PrefixReads.{ReadsInside}
use Rattle.kern_grammar.proofs.Prefixes.{unary_prefixes, not_prefixes}
use Rattle.kern_grammar.proofs.RowFaults.{row-reads, ok_pair}
use Rattle.kern_grammar.proofs.RowReads.{ReadsLevel}

-- atoms are read where what stands one deeper is
abbrev pub AtomsRead : Type 0
AtomsRead = (room : ℕ) → ReadsInside room → ReadsLevel 0 room (atom (inside_of room))

-- which level a kind is of
abbrev IsKind : LevelKind → ℕ → Type 0
IsKind prefixes n = n ≡ 1
IsKind comparisons n = n ≡ 8
IsKind negations n = n ≡ 9
IsKind rows n = Unit {0}

kind_is : (n : ℕ) → IsKind (kind_of n) n
kind_is n = elim (eqb_tells n 1) [
  | inl one ↦ subst (λ k. IsKind k n) (sym (ap (λ b. cond b prefixes (cond (eqb n 8) comparisons (cond (eqb n 9) negations rows))) one.0)) one.1
  | inr a ↦ elim (eqb_tells n 8) [
    | inl eight ↦ subst (λ k. IsKind k n) (sym (ap (λ b. cond b prefixes (cond (eqb n 8) comparisons (cond (eqb n 9) negations rows))) a.0 ∙ ap (λ b. cond b comparisons (cond (eqb n 9) negations rows)) eight.0)) eight.1
    | inr b ↦ elim (eqb_tells n 9) [
      | inl nine ↦ subst (λ k. IsKind k n) (sym (ap (λ b. cond b prefixes (cond (eqb n 8) comparisons (cond (eqb n 9) negations rows))) a.0 ∙ ap (λ b. cond b comparisons (cond (eqb n 9) negations rows)) b.0 ∙ ap (λ b. cond b negations rows) nine.0)) nine.1
      | inr c ↦ subst (λ k. IsKind k n) (sym (ap (λ b. cond b prefixes (cond (eqb n 8) comparisons (cond (eqb n 9) negations rows))) a.0 ∙ ap (λ b. cond b comparisons (cond (eqb n 9) negations rows)) b.0 ∙ ap (λ b. cond b negations rows) c.0)) tt
    ]
  ]
]

kind_at : (n : ℕ) (k : LevelKind) → kind_of n ≡ k → IsKind k n
kind_at n k e = subst (λ x. IsKind x n) e (kind_is n)

-- a level that reads, over one that reads
abbrev Over : (room : ℕ) → LevelKind → (level : ℕ) → Type 0
Over room k level = (tighter : Reader) → ReadsLevel level room tighter → ReadsLevel (suc level) room (at_level k (inside_of room) (suc level) tighter)

-- a level over the next tighter one, by its kind
level_over : (room level : ℕ) → ReadsInside room → (k : LevelKind) → kind_of (suc level) ≡ k → Over room k level
level_over room level i prefixes e = let same : 0 ≡ level = omega (arith, kind_at (suc level) prefixes e) in subst (Over room prefixes) same (λ tighter t. prefixed-reads 0 unary_at unary_prefixes room i tighter t)
level_over room level i rows e = λ tighter t. row-reads level room tighter t e
level_over room level i comparisons e = let same : 7 ≡ level = omega (arith, kind_at (suc level) comparisons e) in subst (Over room comparisons) same (λ tighter t. comparison-reads room tighter t)
level_over room level i negations e = let same : 8 ≡ level = omega (arith, kind_at (suc level) negations e) in subst (Over room negations) same (λ tighter t. prefixed-reads 8 not_at not_prefixes room i tighter t)

-- every level, where what stands one deeper is read
levels_read : AtomsRead → (room level : ℕ) → ReadsInside room → ReadsLevel level room (level_reader (inside_of room) level)
levels_read atoms room zero i = atoms room i
levels_read atoms room (suc level) i = level_over room level i (kind_of (suc level)) refl (level_reader (inside_of room) level) (levels_read atoms room level i)

-- every level at every nesting
pub all_read : AtomsRead → (room level : ℕ) → ReadsLevel level room (readers room level)
all_read atoms zero level = levels_read atoms zero level tt
all_read atoms (suc room) level = levels_read atoms (suc room) level (λ l h. all_read atoms room l)

-- two expressions with the same tokens before what doesn't go on with them are the same
pub one_expression : AtomsRead → (level room : ℕ) (a b : Expression) (rest others : List Symbol) → Fits level room a → Fits level room b → stops level rest ≡ true → stops level others ≡ true → expression_symbols a ++ rest ≡ expression_symbols b ++ others → (a ≡ b) × (rest ≡ others)
one_expression atoms level room a b rest others fa fb ra rb same =
    let reads = all_read atoms room level in
    let pair = ok_pair (readers room level (expression_symbols a ++ rest)) (a, rest) (b, others) (reads.complete a rest fa ra) (ap (readers room level) same ∙ reads.complete b others fb rb) in
    (ap (λ p. p.0) pair, ap (λ p. p.1) pair)
