-- What a row of operators gives is a phrase, or the first fault.
use Rattle.std.proofs.Common.{◌≡◌, ℕ, zero, suc, ◌+◌, true, List, [], ◌∷◌, ◌++◌, refl, sym, ◌∙◌, ap, subst, arith, ◌⊎◌, inl, inr, append_assoc, drop}
use Rattle.std.specs.Prelude.{Option, Some, None, Ok, Err}
use Rattle.kern_lexer.specs.Symbols.{Symbol}
use Rattle.kern_syntax.specs.Levels.{turns}
use Rattle.kern_syntax.specs.Grammatical.{Fits}
use Rattle.kern_syntax.specs.Tree.{Expression}
use Rattle.kern_grammar.specs.Expressions.{expression_symbols}
use Rattle.kern_grammar.specs.declared.joiner.Joiner.{Joiner}
use Rattle.kern_grammar.specs.Operators.{joiner_level, joiner_symbol, join, stops, first_joiner}
use Rattle.kern_grammar.specs.Reading.{Read, ◌>>=◌, Reader, row_behind, row, rows, kind_of}
use Rattle.kern_grammar.proofs.Joiners.{first_joiner-some, first_joiner-own, stops-row}
use Rattle.kern_grammar.proofs.Phrased.{SameFirst, FaultOf, FoundBy, bind_ok, bind_err, stops-same}
use Rattle.kern_grammar.proofs.RowReads.{ReadsLevel, row_behind-some, row_behind-full, row_behind-none, fits-join, joined_front, then_ok, row-complete}
use Rattle.kern_grammar.proofs.RowTrees.{turns-none, turns-join, symbols-join}

-- what was read so far is a front of a phrase of the level
pub record Front (level room more : ℕ) (e : Expression) (rest : List Symbol) : Type 0 where
  pub fits : Fits (suc level) room e
  pub room_for : turns (suc level) e + more ≡ 16
  pub stopped : stops level rest ≡ true

-- an option is nothing or something
pub tells : {A : Type 0} (o : Option A) → (o ≡ None) ⊎ ((x : A) × (o ≡ Some x))
tells None = inl refl
tells (Some x) = inr (x, refl)

-- one result is one value
pub ok_pair : {A : Type 0} (r : Read A) (x y : A × List Symbol) → r ≡ Ok x → r ≡ Ok y → x ≡ y
ok_pair r x y h g = let e : Ok x ≡ Ok y = sym h ∙ g in cc

pub err_same : {A : Type 0} (r : Read A) (a b : List Symbol) → r ≡ Err a → r ≡ Err b → a ≡ b
err_same r a b h g = let e : Err a ≡ Err b = sym h ∙ g in cc

pub ok_err : {A B : Type 0} (r : Read A) (x : A × List Symbol) (b : List Symbol) → r ≡ Ok x → r ≡ Err b → B
ok_err r x b h g = let e : Ok x ≡ Err b = sym h ∙ g in absurd cc

-- what a step behind a joiner reads: the right operand, and what follows it
pub after_joiner : (symbols rest : List Symbol) (j : Joiner) → symbols ≡ joiner_symbol j ∷ rest → drop 1 symbols ≡ rest
after_joiner symbols rest j e = ap (drop 1) e

-- the symbols of a front with one more operand
front_more : (j : Joiner) (a b : Expression) (symbols rest after : List Symbol) → symbols ≡ joiner_symbol j ∷ rest → rest ≡ expression_symbols b ++ after → expression_symbols a ++ symbols ≡ expression_symbols (join j a b) ++ after
front_more j a b symbols rest after e f =
    ap (λ x. expression_symbols a ++ x) (e ∙ ap (λ x. joiner_symbol j ∷ x) f) ∙ sym (joined_front j (join j a b) a b after refl)

-- and has one turn more
turns-more : (level : ℕ) (j : Joiner) (a b : Expression) → joiner_level j ≡ suc level → turns (suc level) (join j a b) ≡ suc (turns (suc level) a)
turns-more level j a b l = subst (λ n. turns n (join j a b) ≡ suc (turns n a)) l (turns-join j a b)

-- a front with one more operand is a front
more_front : (level room more : ℕ) (j : Joiner) (a b : Expression) (rest after : List Symbol) → Front level room (suc more) a rest → joiner_level j ≡ suc level → Fits level room b → stops level after ≡ true → Front level room more (join j a b) after
more_front level room more j a b rest after f l fb s =
    record { fits = fits-join level room j a b l f.fits fb (omega (arith, f.room_for)); room_for = omega (arith, turns-more level j a b l, f.room_for); stopped = s }

-- what is found behind a front is a phrase
behind_found : (level room : ℕ) (tighter : Reader) → ReadsLevel level room tighter → kind_of (suc level) ≡ rows → (more : ℕ) (e : Expression) (symbols : List Symbol) → Front level room more e symbols → (o : Option Joiner) → first_joiner (suc level) symbols ≡ o → (x : Expression) (rest : List Symbol) → row_behind more (suc level) tighter e symbols ≡ Ok (x, rest) → FoundBy expression_symbols (Fits (suc level) room) (stops (suc level)) (expression_symbols e ++ symbols) x rest
behind_found level room tighter t k more e symbols f None o x rest h =
    let same = ok_pair (row_behind more (suc level) tighter e symbols) (e, symbols) (x, rest) (row_behind-none more (suc level) tighter e symbols o) h in
    let left : e ≡ x = ap (λ p. p.0) same in
    let right : symbols ≡ rest = ap (λ p. p.1) same in
    record {
      whole = ap (λ y. expression_symbols y ++ symbols) left ∙ ap (λ y. expression_symbols x ++ y) right;
      fits = subst (Fits (suc level) room) left f.fits;
      stopped = ap (stops (suc level)) (sym right) ∙ stops-row level symbols k f.stopped o;
    }
behind_found level room tighter t k zero e symbols f (Some j) o x rest h =
    ok_err (row_behind zero (suc level) tighter e symbols) (x, rest) symbols h (row_behind-full (suc level) tighter e symbols j o)
behind_found level room tighter t k (suc more) e symbols f (Some j) o x rest h =
    let first = first_joiner-some (suc level) symbols j o in
    let step = bind_ok (tighter (drop 1 symbols)) (λ right. row_behind more (suc level) tighter (join j e right.0) right.1) (x, rest) (sym (row_behind-some more (suc level) tighter e symbols j o) ∙ h) in
    let right = t.found (drop 1 symbols) step.0.0 step.0.1 step.1 in
    let last = behind_found level room tighter t k more (join j e step.0.0) step.0.1 (more_front level room more j e step.0.0 symbols step.0.1 f first.level_is right.fits right.stopped) (first_joiner (suc level) step.0.1) refl x rest step.2 in
    record {
      whole = front_more j e step.0.0 symbols first.rest step.0.1 first.whole (sym (after_joiner symbols first.rest j first.whole) ∙ right.whole) ∙ last.whole;
      fits = last.fits;
      stopped = last.stopped;
    }

pub row-found : (level room : ℕ) (tighter : Reader) → ReadsLevel level room tighter → kind_of (suc level) ≡ rows → (most : ℕ) → most ≡ 16 → (given : List Symbol) (x : Expression) (rest : List Symbol) → row most (suc level) tighter given ≡ Ok (x, rest) → FoundBy expression_symbols (Fits (suc level) room) (stops (suc level)) given x rest
row-found level room tighter t k most sixteen given x rest h =
    let step = bind_ok (tighter given) (λ first. row_behind most (suc level) tighter first.0 first.1) (x, rest) h in
    let first = t.found given step.0.0 step.0.1 step.1 in
    let front : Front level room most step.0.0 step.0.1 = record {
      fits = (omega (arith, first.fits.0), first.fits.1);
      room_for = omega (arith, sixteen, turns-none (suc level) step.0.0 (λ e. omega (arith, e, first.fits.0)));
      stopped = first.stopped;
    } in
    let last = behind_found level room tighter t k most step.0.0 step.0.1 front (first_joiner (suc level) step.0.1) refl x rest step.2 in
    record { whole = first.whole ∙ last.whole; fits = last.fits; stopped = last.stopped }

-- a fault behind a front of a row
pub record BehindFault (level room most : ℕ) (tighter : Reader) (e : Expression) (symbols left : List Symbol) : Type 0 where
  pub before : List Symbol
  pub completion : Expression
  pub more : List Symbol
  pub whole : symbols ≡ before ++ left
  pub fits : Fits (suc level) room completion
  pub completed : expression_symbols completion ≡ expression_symbols e ++ (before ++ more)
  pub same : (other : List Symbol) → SameFirst left other → row_behind most (suc level) tighter e (before ++ other) ≡ Err other

first_joiner-same : (level : ℕ) (a b : List Symbol) (j : Joiner) → SameFirst a b → first_joiner level a ≡ Some j → first_joiner level b ≡ Some j
first_joiner-same level (s ∷ a) (t ∷ b) j e h = subst (λ x. first_joiner level (x ∷ b) ≡ Some j) e h
first_joiner-same level [] b j e h = absurd e
first_joiner-same level (s ∷ a) [] j e h = absurd e

pub append_nil : (a : List Symbol) → a ≡ a ++ []
append_nil [] = refl
append_nil (s ∷ a) = ap (λ x. s ∷ x) (append_nil a)

-- reading goes on behind a joiner of the level
row_behind-joiner : (level more : ℕ) (tighter : Reader) (e : Expression) (j : Joiner) (rest : List Symbol) → joiner_level j ≡ suc level → row_behind (suc more) (suc level) tighter e (joiner_symbol j ∷ rest) ≡ (tighter rest >>= λ right. row_behind more (suc level) tighter (join j e right.0) right.1)
row_behind-joiner level more tighter e j rest l =
    row_behind-some more (suc level) tighter e (joiner_symbol j ∷ rest) j (subst (λ n. first_joiner n (joiner_symbol j ∷ rest) ≡ Some j) l (first_joiner-own j rest))

-- one step after another, where the first fails
pub then_err : {A B : Type 0} (r : Read A) (left : List Symbol) (f : A × List Symbol → Read B) → r ≡ Err left → (r >>= f) ≡ Err left
then_err r left f h = ap (λ q. q >>= f) h

-- the fault of the right operand
operand_fault : (level room more : ℕ) (tighter : Reader) (j : Joiner) (e : Expression) (symbols rest left : List Symbol) → Front level room (suc more) e symbols → joiner_level j ≡ suc level → symbols ≡ joiner_symbol j ∷ rest → FaultOf expression_symbols (Fits level room) tighter rest left → BehindFault level room (suc more) tighter e symbols left
operand_fault level room more tighter j e symbols rest left f l w g = record {
  before = joiner_symbol j ∷ g.before;
  completion = join j e g.completion;
  more = g.more;
  whole = w ∙ ap (λ x. joiner_symbol j ∷ x) g.whole;
  fits = fits-join level room j e g.completion l f.fits g.fits (omega (arith, f.room_for));
  completed = symbols-join j e g.completion ∙ ap (λ x. expression_symbols e ++ (joiner_symbol j ∷ x)) g.completed;
  same = λ other s. row_behind-joiner level more tighter e j (g.before ++ other) l ∙ then_err (tighter (g.before ++ other)) other (λ right. row_behind more (suc level) tighter (join j e right.0) right.1) (g.same other s);
}

-- a fault behind the right operand
later_fault : (level room more : ℕ) (tighter : Reader) → ReadsLevel level room tighter → (j : Joiner) (e b : Expression) (symbols rest after left : List Symbol) → joiner_level j ≡ suc level → symbols ≡ joiner_symbol j ∷ rest → FoundBy expression_symbols (Fits level room) (stops level) rest b after → BehindFault level room more tighter (join j e b) after left → BehindFault level room (suc more) tighter e symbols left
later_fault level room more tighter t j e b symbols rest after left l w right g = record {
  before = joiner_symbol j ∷ (expression_symbols b ++ g.before);
  completion = g.completion;
  more = g.more;
  whole = w ∙ ap (λ x. joiner_symbol j ∷ x) (right.whole ∙ ap (λ x. expression_symbols b ++ x) g.whole ∙ sym (append_assoc (expression_symbols b) g.before left));
  fits = g.fits;
  completed = g.completed ∙ joined_front j (join j e b) e b (g.before ++ g.more) refl ∙ ap (λ x. expression_symbols e ++ (joiner_symbol j ∷ x)) (sym (append_assoc (expression_symbols b) g.before g.more));
  same = λ other s.
      row_behind-joiner level more tighter e j ((expression_symbols b ++ g.before) ++ other) l
      ∙ ap (λ x. tighter x >>= λ right. row_behind more (suc level) tighter (join j e right.0) right.1) (append_assoc (expression_symbols b) g.before other)
      ∙ then_ok (tighter (expression_symbols b ++ (g.before ++ other))) b (g.before ++ other) (λ right. row_behind more (suc level) tighter (join j e right.0) right.1) (t.complete b (g.before ++ other) right.fits (stops-same level g.before left other s (subst (λ x. stops level x ≡ true) g.whole right.stopped)))
      ∙ g.same other s;
}

-- every fault behind a front
behind_fault : (level room : ℕ) (tighter : Reader) → ReadsLevel level room tighter → (more : ℕ) (e : Expression) (symbols : List Symbol) → Front level room more e symbols → (o : Option Joiner) → first_joiner (suc level) symbols ≡ o → (left : List Symbol) → row_behind more (suc level) tighter e symbols ≡ Err left → BehindFault level room more tighter e symbols left
behind_fault level room tighter t more e symbols f None o left h = ok_err (row_behind more (suc level) tighter e symbols) (e, symbols) left (row_behind-none more (suc level) tighter e symbols o) h
behind_fault level room tighter t zero e symbols f (Some j) o left h =
    let same = err_same (row_behind zero (suc level) tighter e symbols) symbols left (row_behind-full (suc level) tighter e symbols j o) h in
    record {
      before = [];
      completion = e;
      more = [];
      whole = same;
      fits = f.fits;
      completed = append_nil (expression_symbols e);
      same = λ other s. row_behind-full (suc level) tighter e other j (first_joiner-same (suc level) left other j s (subst (λ x. first_joiner (suc level) x ≡ Some j) same o));
    }
behind_fault level room tighter t (suc more) e symbols f (Some j) o left h =
    let first = first_joiner-some (suc level) symbols j o in
    let go : Expression × List Symbol → Read Expression = λ right. row_behind more (suc level) tighter (join j e right.0) right.1 in
    let behind = after_joiner symbols first.rest j first.whole in
    elim (bind_err (tighter (drop 1 symbols)) go left (sym (row_behind-some more (suc level) tighter e symbols j o) ∙ h)) [
      | inl g ↦ operand_fault level room more tighter j e symbols first.rest left f first.level_is first.whole (t.fault first.rest left (ap tighter (sym behind) ∙ g))
      | inr g ↦
          let right = t.found first.rest g.0.0 g.0.1 (ap tighter (sym behind) ∙ g.1) in
          later_fault level room more tighter t j e g.0.0 symbols first.rest g.0.1 left first.level_is first.whole right
          (behind_fault level room tighter t more (join j e g.0.0) g.0.1 (more_front level room more j e g.0.0 symbols g.0.1 f first.level_is right.fits right.stopped) (first_joiner (suc level) g.0.1) refl left g.2)
    ]

pub row-fault : (level room : ℕ) (tighter : Reader) → ReadsLevel level room tighter → (most : ℕ) → most ≡ 16 → (given left : List Symbol) → row most (suc level) tighter given ≡ Err left → FaultOf expression_symbols (Fits (suc level) room) (row most (suc level) tighter) given left
row-fault level room tighter t most sixteen given left h =
    let go : Expression × List Symbol → Read Expression = λ first. row_behind most (suc level) tighter first.0 first.1 in
    elim (bind_err (tighter given) go left h) [
      | inl g ↦
          let f = t.fault given left g in
          record {
            before = f.before;
            completion = f.completion;
            more = f.more;
            whole = f.whole;
            fits = (omega (arith, f.fits.0), f.fits.1);
            completed = f.completed;
            same = λ other s. then_err (tighter (f.before ++ other)) other go (f.same other s);
          }
      | inr g ↦
          let first = t.found given g.0.0 g.0.1 g.1 in
          let front : Front level room most g.0.0 g.0.1 = record {
            fits = (omega (arith, first.fits.0), first.fits.1);
            room_for = omega (arith, sixteen, turns-none (suc level) g.0.0 (λ e. omega (arith, e, first.fits.0)));
            stopped = first.stopped;
          } in
          let f = behind_fault level room tighter t most g.0.0 g.0.1 front (first_joiner (suc level) g.0.1) refl left g.2 in
          record {
            before = expression_symbols g.0.0 ++ f.before;
            completion = f.completion;
            more = f.more;
            whole = first.whole ∙ ap (λ x. expression_symbols g.0.0 ++ x) f.whole ∙ sym (append_assoc (expression_symbols g.0.0) f.before left);
            fits = f.fits;
            completed = f.completed ∙ sym (append_assoc (expression_symbols g.0.0) f.before f.more);
            same = λ other s.
                ap (row most (suc level) tighter) (append_assoc (expression_symbols g.0.0) f.before other)
                ∙ then_ok (tighter (expression_symbols g.0.0 ++ (f.before ++ other))) g.0.0 (f.before ++ other) go (t.complete g.0.0 (f.before ++ other) first.fits (stops-same level f.before left other s (subst (λ x. stops level x ≡ true) f.whole first.stopped)))
                ∙ f.same other s;
          }
    ]

-- a level of rows over a level that reads
pub row-reads : (level room : ℕ) (tighter : Reader) → ReadsLevel level room tighter → kind_of (suc level) ≡ rows → ReadsLevel (suc level) room (row 16 (suc level) tighter)
row-reads level room tighter t k = record {
  complete = row-complete level room tighter t k 16 refl;
  found = row-found level room tighter t k 16 refl;
  fault = row-fault level room tighter t 16 refl;
}
