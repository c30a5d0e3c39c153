-- A reader of symbols takes tokens.
use Rattle.std.proofs.Common.{◌≡◌, ℕ, ◌-◌, Bool, true, List, [], ◌∷◌, ◌++◌, refl, sym, ◌∙◌, ap, subst, arith, length, length-append, drop, map}
use Rattle.std.proofs.lemmas.List.{length-map, map-append}
use Rattle.std.proofs.Math.Seq.{drop-append_seam}
use Rattle.std.specs.Prelude.{Ok, Err}
use Rattle.kern_lexer.specs.Symbols.{Symbol, Lexeme}
use Rattle.kern_grammar.specs.Phrases.{symbols_of}
use Rattle.kern_grammar.specs.Plans.{of_symbols, lifted}
use Rattle.kern_grammar.specs.Reading.{Read}
use Rattle.kern_grammar.proofs.Phrased as P
use Rattle.kern_grammar.proofs.Phrased.{Reads}
use Rattle.kern_grammar.proofs.Taking.{SameFirst, FoundBy, FaultOf, Takes, ok_same}

-- what is behind the front
pub behind : (front rest : List Lexeme) (n : ℕ) → n ≡ length rest → drop (length (front ++ rest) - n) (front ++ rest) ≡ rest
behind front rest n h =
    let count : length (front ++ rest) - n ≡ length front = omega (arith, length-append front rest, h) in
    ap (λ k. drop k (front ++ rest)) count ∙ drop-append_seam front rest

pub symbols-append : (front rest : List Lexeme) → symbols_of (front ++ rest) ≡ symbols_of front ++ symbols_of rest
symbols-append front rest = map-append (λ t. t.symbol) front rest

pub symbols-length : (tokens : List Lexeme) → length (symbols_of tokens) ≡ length tokens
symbols-length tokens = length-map tokens (λ t. t.symbol)

-- tokens whose symbols are two lists
pub record Cut (tokens : List Lexeme) (a b : List Symbol) : Type 0 where
  pub front : List Lexeme
  pub back : List Lexeme
  pub whole : tokens ≡ front ++ back
  pub of_front : symbols_of front ≡ a
  pub of_back : symbols_of back ≡ b

longer : (t : Lexeme) (tokens : List Lexeme) (s : Symbol) (a b : List Symbol) → t.symbol ≡ s → Cut tokens a b → Cut (t ∷ tokens) (s ∷ a) b
longer t tokens s a b e c = record { front = t ∷ c.front; back = c.back; whole = ap (λ y. t ∷ y) c.whole; of_front = cc (e, c.of_front); of_back = c.of_back }

pub cut : (tokens : List Lexeme) (a b : List Symbol) → symbols_of tokens ≡ a ++ b → Cut tokens a b
cut tokens [] b h = record { front = []; back = tokens; whole = refl; of_front = refl; of_back = h }
cut [] (s ∷ a) b h = absurd cc
cut (t ∷ tokens) (s ∷ a) b h =
    let e : t.symbol ≡ s = cc in
    let rest : symbols_of tokens ≡ a ++ b = cc in
    longer t tokens s a b e (cut tokens a b rest)

-- symbols as tokens of no line
pub placed : List Symbol → List Lexeme
placed symbols = map (λ s. record { symbol = s; line = 0 }) symbols

pub placed-symbols : (symbols : List Symbol) → symbols_of (placed symbols) ≡ symbols
unfolding placed
placed-symbols [] = refl
placed-symbols (s ∷ symbols) = ap (λ y. s ∷ y) (placed-symbols symbols)

-- an answer about tokens comes from one about their symbols
lifted-ok : {A : Type 0} (given : List Lexeme) (r : Read A) (x : A) (rest : List Lexeme) → of_symbols given r ≡ Ok (x, rest) → (y : A × List Symbol) × (r ≡ Ok y) × (y.0 ≡ x) × (drop (length given - length y.1) given ≡ rest)
lifted-ok given (Ok y) x rest h =
    let same = ok_same (of_symbols given (Ok y)) (y.0, drop (length given - length y.1) given) (x, rest) refl h in
    (y, refl, ap (λ p. p.0) same, ap (λ p. p.1) same)
lifted-ok given (Err l) x rest h = absurd cc

lifted-err : {A : Type 0} (given : List Lexeme) (r : Read A) (left : List Lexeme) → of_symbols given r ≡ Err left → (l : List Symbol) × (r ≡ Err l) × (drop (length given - length l) given ≡ left)
lifted-err given (Ok y) left h = absurd cc
lifted-err given (Err l) left h = (l, refl, cc)

-- the tokens whose symbols a phrase has
abbrev pub spelled : {A : Type 0} → (spell : A → List Symbol) (fits : A → Type 0) → A → List Lexeme → Type 0
spelled spell fits x tokens = (symbols_of tokens ≡ spell x) × fits x

abbrev pub stopped_at : {A : Type 0} → (stop : List Symbol → Bool) → A → List Lexeme → Type 0
stopped_at stop x rest = stop (symbols_of rest) ≡ true

same_first : (left other : List Lexeme) → SameFirst left other → P.SameFirst (symbols_of left) (symbols_of other)
same_first [] other d = absurd d
same_first (s ∷ left) [] d = absurd d
same_first (s ∷ left) (t ∷ other) d = ap (λ v. v.symbol) d

lifted-complete : {A : Type 0} (spell : A → List Symbol) (fits : A → Type 0) (stop : List Symbol → Bool) (read : List Symbol → Read A) → Reads spell fits stop read → (x : A) (front rest : List Lexeme) → spelled spell fits x front → stopped_at stop x rest → lifted read (front ++ rest) ≡ Ok (x, rest)
lifted-complete spell fits stop read reads x front rest f s =
    let symbols : symbols_of (front ++ rest) ≡ spell x ++ symbols_of rest = symbols-append front rest ∙ ap (λ y. y ++ symbols_of rest) f.0 in
    ap (λ y. of_symbols (front ++ rest) (read y)) symbols
    ∙ ap (of_symbols (front ++ rest)) (reads.complete x (symbols_of rest) f.1 s)
    ∙ ap (λ y. Ok (x, y)) (behind front rest (length (symbols_of rest)) (symbols-length rest))

-- a cut is where the symbols behind it say
cut-behind : (given front back : List Lexeme) (l : List Symbol) → given ≡ front ++ back → symbols_of back ≡ l → drop (length given - length l) given ≡ back
cut-behind given front back l w e =
    ap (λ y. drop (length y - length l) y) w ∙ behind front back (length l) (ap length (sym e) ∙ symbols-length back)

lifted-found : {A : Type 0} (spell : A → List Symbol) (fits : A → Type 0) (stop : List Symbol → Bool) (read : List Symbol → Read A) → Reads spell fits stop read → (given : List Lexeme) (x : A) (rest : List Lexeme) → lifted read given ≡ Ok (x, rest) → FoundBy (spelled spell fits) (stopped_at stop) given x rest
lifted-found spell fits stop read reads given x rest h =
    let g = lifted-ok given (read (symbols_of given)) x rest h in
    let f = reads.found (symbols_of given) g.0.0 g.0.1 g.1 in
    let c = cut given (spell g.0.0) g.0.1 f.whole in
    let there : c.back ≡ rest = sym (cut-behind given c.front c.back g.0.1 c.whole c.of_back) ∙ g.3 in
    record {
      front = c.front;
      whole = c.whole ∙ ap (λ y. c.front ++ y) there;
      is_phrase = (c.of_front ∙ ap spell g.2, subst fits g.2 f.fits);
      stopped = ap (λ y. stop (symbols_of y)) (sym there) ∙ ap stop c.of_back ∙ f.stopped;
    }

lifted-fault : {A : Type 0} (spell : A → List Symbol) (fits : A → Type 0) (stop : List Symbol → Bool) (read : List Symbol → Read A) → Reads spell fits stop read → (given left : List Lexeme) → lifted read given ≡ Err left → FaultOf (spelled spell fits) (lifted read) given left
lifted-fault spell fits stop read reads given left h =
    let g = lifted-err given (read (symbols_of given)) left h in
    let f = reads.fault (symbols_of given) g.0 g.1 in
    let c = cut given f.before g.0 f.whole in
    let there : c.back ≡ left = sym (cut-behind given c.front c.back g.0 c.whole c.of_back) ∙ g.2 in
    record {
      before = c.front;
      completion = f.completion;
      more = placed f.more;
      whole = c.whole ∙ ap (λ y. c.front ++ y) there;
      completed = (symbols-append c.front (placed f.more) ∙ ap (λ y. y ++ symbols_of (placed f.more)) c.of_front ∙ ap (λ y. f.before ++ y) (placed-symbols f.more) ∙ sym f.completed, f.fits);
      same = λ other d.
          let d0 : P.SameFirst g.0 (symbols_of other) = subst (λ y. P.SameFirst y (symbols_of other)) (ap symbols_of (sym there) ∙ c.of_back) (same_first left other d) in
          ap (λ y. of_symbols (c.front ++ other) (read y)) (symbols-append c.front other ∙ ap (λ y. y ++ symbols_of other) c.of_front)
          ∙ ap (of_symbols (c.front ++ other)) (f.same (symbols_of other) d0)
          ∙ ap (λ y. Err y) (behind c.front other (length (symbols_of other)) (symbols-length other));
    }

-- a reader whose stop depends on one symbol takes tokens
pub lifted-takes : {A : Type 0} (spell : A → List Symbol) (fits : A → Type 0) (stop : List Symbol → Bool) (read : List Symbol → Read A) → Reads spell fits stop read → ((before left other : List Symbol) → P.SameFirst left other → stop (before ++ left) ≡ true → stop (before ++ other) ≡ true) → (x : A) → fits x → Takes (spelled spell fits) (stopped_at stop) (lifted read)
lifted-takes spell fits stop read reads alike x f = record {
  complete = lifted-complete spell fits stop read reads;
  found = lifted-found spell fits stop read reads;
  fault = lifted-fault spell fits stop read reads;
  some = record { value = x; tokens = placed (spell x); is_phrase = (placed-symbols (spell x), f) };
  alike = λ y before left other d s.
      ap stop (symbols-append before other)
      ∙ alike (symbols_of before) (symbols_of left) (symbols_of other) (same_first left other d) (ap stop (sym (symbols-append before left)) ∙ s);
}
