-- A level of rows reads its phrases where the next tighter level reads its own.
use Rattle.std.proofs.Common.{◌≡◌, ◌≢◌, ℕ, zero, suc, ◌+◌, ◌-◌, ◌<◌, ◌≤◌, true, false, List, ◌∷◌, ◌++◌, refl, sym, ◌∙◌, ap, subst, arith, eqb, ◌⊎◌, inl, inr, append_assoc, drop}
use Rattle.std.proofs.lemmas.Bool.Decides.{eqb_tells}
use Rattle.std.specs.Prelude.{Some, None, Ok, Err}
use Rattle.kern_lexer.specs.Symbols.{Symbol}
use Rattle.kern_syntax.specs.Levels.{level_of, turns}
use Rattle.kern_syntax.specs.Grammatical.{PartsFit, InRow, Fits}
use Rattle.kern_syntax.specs.Tree.{Expression}
use Rattle.kern_grammar.specs.Expressions.{expression_symbols}
use Rattle.kern_grammar.specs.declared.joiner.Joiner.{Joiner}
use Rattle.kern_grammar.specs.Operators.{joiner_level, joiner_symbol, join, stops, first_joiner}
use Rattle.kern_grammar.specs.Reading.{Read, ◌>>=◌, choose, Reader, row_behind, row, rows, kind_of}
use Rattle.kern_grammar.proofs.Joiners.{first_joiner-own, first_joiner-none, stops-joiner}
use Rattle.kern_grammar.proofs.Phrased.{Reads, stops-looser}
use Rattle.kern_grammar.proofs.RowTrees.{symbols-join, parts-join, level-join, turns-join, turns-none, IsRow, row-at}

-- the reader of a level reads it
abbrev pub ReadsLevel : (level room : ℕ) → Reader → Type 0
ReadsLevel level room read = Reads expression_symbols (Fits level room) (stops level) read

-- a first joiner goes on with the row
pub row_behind-some : (more level : ℕ) (tighter : Reader) (e : Expression) (symbols : List Symbol) (j : Joiner) → first_joiner level symbols ≡ Some j → row_behind (suc more) level tighter e symbols ≡ (tighter (drop 1 symbols) >>= λ right. row_behind more level tighter (join j e right.0) right.1)
row_behind-some more level tighter e symbols j h =
    ap (λ o. choose o (Ok (e, symbols)) (λ j. tighter (drop 1 symbols) >>= λ right. row_behind more level tighter (join j e right.0) right.1)) h

pub row_behind-full : (level : ℕ) (tighter : Reader) (e : Expression) (symbols : List Symbol) (j : Joiner) → first_joiner level symbols ≡ Some j → row_behind 0 level tighter e symbols ≡ Err symbols
row_behind-full level tighter e symbols j h = ap (λ o. choose o (Ok (e, symbols)) (λ j. Err symbols)) h

-- and without one the row ends
pub row_behind-none : (most level : ℕ) (tighter : Reader) (e : Expression) (symbols : List Symbol) → first_joiner level symbols ≡ None → row_behind most level tighter e symbols ≡ Ok (e, symbols)
row_behind-none zero level tighter e symbols h = ap (λ o. choose o (Ok (e, symbols)) (λ j. Err symbols)) h
row_behind-none (suc more) level tighter e symbols h =
    ap (λ o. choose o (Ok (e, symbols)) (λ j. tighter (drop 1 symbols) >>= λ right. row_behind more level tighter (join j e right.0) right.1)) h

-- the operands of a row
pub record Operands (level room : ℕ) (e : Expression) : Type 0 where
  pub joiner : Joiner
  pub left : Expression
  pub right : Expression
  pub is : e ≡ join joiner left right
  pub level_is : joiner_level joiner ≡ suc level
  pub left_fits : Fits (suc level) room left
  pub right_fits : Fits level room right
  pub count : turns (suc level) e ≡ suc (turns (suc level) left)
  pub at_most : turns (suc level) e ≤ 16

operands_of : (level room : ℕ) (e : Expression) → IsRow (suc level) e → PartsFit room e → Operands level room e
operands_of level room e r h =
    let parts0 : PartsFit room (join r.joiner r.left r.right) = subst (PartsFit room) r.is h in
    let parts : InRow (joiner_level r.joiner) (join r.joiner r.left r.right) r.left r.right (PartsFit room r.left) (PartsFit room r.right) = subst (λ T. T) (parts-join room r.joiner r.left r.right) parts0 in
    let count : turns (suc level) e ≡ suc (turns (suc level) r.left) = ap (turns (suc level)) r.is ∙ subst (λ l. turns l (join r.joiner r.left r.right) ≡ suc (turns l r.left)) r.level_is (turns-join r.joiner r.left r.right) in
    let most : turns (suc level) (join r.joiner r.left r.right) ≤ 16 = subst (λ l. turns l (join r.joiner r.left r.right) ≤ 16) r.level_is parts.2 in
    record {
      joiner = r.joiner;
      left = r.left;
      right = r.right;
      is = r.is;
      level_is = r.level_is;
      left_fits = (omega (arith, parts.0.0, r.level_is), parts.0.1);
      right_fits = (omega (arith, parts.1.0, r.level_is), parts.1.1);
      count = count;
      at_most = subst (λ x. turns (suc level) x ≤ 16) (sym r.is) most;
    }

-- a row with one more operand fits
pub fits-join : (level room : ℕ) (j : Joiner) (a b : Expression) → joiner_level j ≡ suc level → Fits (suc level) room a → Fits level room b → turns (suc level) a < 16 → Fits (suc level) room (join j a b)
fits-join level room j a b l fa fb most =
    let count : turns (joiner_level j) (join j a b) ≡ suc (turns (suc level) a) = subst (λ n. turns n (join j a b) ≡ suc (turns n a)) refl (turns-join j a b) ∙ ap (λ n. suc (turns n a)) l in
    (omega (arith, level-join j a b, l), subst (λ T. T) (sym (parts-join room j a b)) ((omega (arith, fa.0, l), fa.1), (omega (arith, fb.0, l), fb.1), omega (arith, count, most)))

-- one step after another, where the first is known
pub then_ok : {A B : Type 0} (r : Read A) (x : A) (rest : List Symbol) (f : A × List Symbol → Read B) → r ≡ Ok (x, rest) → (r >>= f) ≡ f (x, rest)
then_ok r x rest f h = ap (λ q. q >>= f) h

-- a row of no turns is read by the tighter level
front_alone : (level room most : ℕ) (tighter : Reader) → ReadsLevel level room tighter → (e : Expression) (rest : List Symbol) → Fits level room e → stops level rest ≡ true → row most (suc level) tighter (expression_symbols e ++ rest) ≡ row_behind most (suc level) tighter e rest
front_alone level room most tighter t e rest f s =
    then_ok (tighter (expression_symbols e ++ rest)) e rest (λ first. row_behind most (suc level) tighter first.0 first.1) (t.complete e rest f s)

-- a joiner and its right operand behind a row
one_more : (level room more : ℕ) (tighter : Reader) → ReadsLevel level room tighter → (j : Joiner) (a b : Expression) (rest : List Symbol) → joiner_level j ≡ suc level → Fits level room b → stops level rest ≡ true → row_behind (suc more) (suc level) tighter a (joiner_symbol j ∷ (expression_symbols b ++ rest)) ≡ row_behind more (suc level) tighter (join j a b) rest
one_more level room more tighter t j a b rest l f s =
    let here : first_joiner (suc level) (joiner_symbol j ∷ (expression_symbols b ++ rest)) ≡ Some j = subst (λ n. first_joiner n (joiner_symbol j ∷ (expression_symbols b ++ rest)) ≡ Some j) l (first_joiner-own j (expression_symbols b ++ rest)) in
    row_behind-some more (suc level) tighter a (joiner_symbol j ∷ (expression_symbols b ++ rest)) j here
    ∙ then_ok (tighter (expression_symbols b ++ rest)) b rest (λ right. row_behind more (suc level) tighter (join j a right.0) right.1) (t.complete b rest f s)

-- the symbols of a joined expression, with what follows them
pub joined_front : (j : Joiner) (e a b : Expression) (rest : List Symbol) → e ≡ join j a b → expression_symbols e ++ rest ≡ expression_symbols a ++ (joiner_symbol j ∷ (expression_symbols b ++ rest))
joined_front j e a b rest is =
    ap (λ x. expression_symbols x ++ rest) is ∙ ap (λ x. x ++ rest) (symbols-join j a b) ∙ append_assoc (expression_symbols a) (joiner_symbol j ∷ expression_symbols b) rest

-- a whole expression at a level of rows: alone, or a row's operands
at_row : (level room : ℕ) (e : Expression) → kind_of (suc level) ≡ rows → Fits (suc level) room e → ((eqb (level_of e) (suc level) ≡ true) × (level_of e ≡ suc level)) ⊎ ((eqb (level_of e) (suc level) ≡ false) × (level_of e ≢ suc level)) → Operands level room e ⊎ (Fits level room e × (turns (suc level) e ≡ 0))
at_row level room e k f (inl same) = inl (operands_of level room e (row-at (suc level) e same.1 k (omega arith)) f.1)
at_row level room e k f (inr other) = inr ((omega (arith, f.0, other.1), f.1), turns-none (suc level) e other.1)

-- reading a row comes behind each of its fronts, with the turns that are left
behind_front : (level room most : ℕ) (tighter : Reader) → ReadsLevel level room tighter → kind_of (suc level) ≡ rows → (n more : ℕ) (e : Expression) (rest : List Symbol) → turns (suc level) e ≡ n → more + n ≡ most → Operands level room e ⊎ (Fits level room e × (turns (suc level) e ≡ 0)) → stops level rest ≡ true → row most (suc level) tighter (expression_symbols e ++ rest) ≡ row_behind more (suc level) tighter e rest
behind_front level room most tighter t k n more e rest c m (inr f) s =
    let all : most ≡ more = omega (arith, m, c, f.1) in
    front_alone level room most tighter t e rest f.0 s ∙ ap (λ x. row_behind x (suc level) tighter e rest) all
behind_front level room most tighter t k zero more e rest c m (inl o) s = absurd (omega (arith, c, o.count))
behind_front level room most tighter t k (suc n) more e rest c m (inl o) s =
    let next = joiner_symbol o.joiner ∷ (expression_symbols o.right ++ rest) in
    let before = behind_front level room most tighter t k n (suc more) o.left next (omega (arith, c, o.count)) (omega (arith, m)) (at_row level room o.left k o.left_fits (eqb_tells (level_of o.left) (suc level))) (stops-joiner level o.joiner (expression_symbols o.right ++ rest) (omega (arith, o.level_is))) in
    ap (row most (suc level) tighter) (joined_front o.joiner e o.left o.right rest o.is)
    ∙ before
    ∙ one_more level room more tighter t o.joiner o.left o.right rest o.level_is o.right_fits s
    ∙ ap (λ x. row_behind more (suc level) tighter x rest) (sym o.is)

-- how many turns a whole expression has
at_most_16 : (level room : ℕ) (e : Expression) → Operands level room e ⊎ (Fits level room e × (turns (suc level) e ≡ 0)) → turns (suc level) e ≤ 16
at_most_16 level room e (inl o) = o.at_most
at_most_16 level room e (inr f) = omega (arith, f.1)

pub row-complete : (level room : ℕ) (tighter : Reader) → ReadsLevel level room tighter → kind_of (suc level) ≡ rows → (most : ℕ) → most ≡ 16 → (e : Expression) (rest : List Symbol) → Fits (suc level) room e → stops (suc level) rest ≡ true → row most (suc level) tighter (expression_symbols e ++ rest) ≡ Ok (e, rest)
row-complete level room tighter t k most sixteen e rest f s =
    let parts = at_row level room e k f (eqb_tells (level_of e) (suc level)) in
    behind_front level room most tighter t k (turns (suc level) e) (most - turns (suc level) e) e rest refl (omega (arith, at_most_16 level room e parts, sixteen)) parts (stops-looser level rest s)
    ∙ row_behind-none (most - turns (suc level) e) (suc level) tighter e rest (first_joiner-none (suc level) rest s)
