-- What a plan spells, token by token: from the symbols to the plan and back.
use Rattle.std.proofs.Common.{◌≡◌, ℕ, List, [], ◌∷◌, ◌++◌, refl, sym, ◌∙◌, ap, subst, append_assoc, append-nil}
use Rattle.std.specs.Prelude.{Option, Some}
use Rattle.kern_lexer.specs.Symbols.{Symbol, Lexeme}
use Rattle.kern_syntax.specs.Grammatical.{Fits}
use Rattle.kern_syntax.specs.Tree.{Expression}
use Rattle.kern_grammar.specs.Expressions.{expression_symbols}
use Rattle.kern_grammar.specs.Phrases.{Phrase, symbols_of, these, ◌⨾◌}
use Rattle.kern_grammar.specs.Plans.{Plan, token, Spells}
use Rattle.kern_grammar.specs.SimplePlans.{an_expression}
use Rattle.kern_grammar.proofs.LiftedReads.{cut, symbols-append}

-- no tokens
abbrev pub nothing : Phrase
nothing tokens = tokens ≡ []

pub flat : (tokens : List Lexeme) (symbols : List Symbol) → symbols_of tokens ≡ symbols → (these symbols ⨾ nothing) tokens
flat tokens symbols h = record { front = tokens; back = []; whole = sym (append-nil tokens); is_first = h; is_second = refl }

pub unflat : (tokens : List Lexeme) (symbols : List Symbol) → (these symbols ⨾ nothing) tokens → symbols_of tokens ≡ symbols
unflat tokens symbols h =
    ap symbols_of (h.whole ∙ ap (λ y. h.front ++ y) h.is_second ∙ append-nil h.front) ∙ h.is_first

-- tokens whose first symbol this is
abbrev pub StartsWith : Symbol → List Lexeme → Type 0
StartsWith s [] = ⊥
StartsWith s (t ∷ rest) = t.symbol ≡ s

-- the first token and what is behind it
pub record Opened (tokens : List Lexeme) (s : Symbol) (symbols : List Symbol) (after : List Lexeme → Type 0) : Type 0 where
  pub first : Lexeme
  pub rest : List Lexeme
  pub whole : tokens ≡ first ∷ rest
  pub is : first.symbol ≡ s
  pub behind : (these symbols ⨾ after) rest

opened_at : (tokens : List Lexeme) (s : Symbol) (symbols : List Symbol) (after : List Lexeme → Type 0) (front back : List Lexeme) → tokens ≡ front ++ back → symbols_of front ≡ s ∷ symbols → after back → Opened tokens s symbols after
opened_at tokens s symbols after [] back w h a = absurd cc
opened_at tokens s symbols after (t ∷ front) back w h a =
    let e : t.symbol ≡ s = cc in
    let others : symbols_of front ≡ symbols = cc in
    record { first = t; rest = front ++ back; whole = w; is = e; behind = record { front = front; back = back; whole = refl; is_first = others; is_second = a } }

pub opened : (tokens : List Lexeme) (s : Symbol) (symbols : List Symbol) (after : List Lexeme → Type 0) → (these (s ∷ symbols) ⨾ after) tokens → Opened tokens s symbols after
opened tokens s symbols after h = opened_at tokens s symbols after h.front h.back h.whole h.is_first h.is_second

pub starts : (tokens : List Lexeme) (s : Symbol) (symbols : List Symbol) (after : List Lexeme → Type 0) → (these (s ∷ symbols) ⨾ after) tokens → StartsWith s tokens
starts tokens s symbols after h = let o = opened tokens s symbols after h in subst (StartsWith s) (sym o.whole) o.is

-- from the symbols to the plan: a token
pub step-token : {A V : Type 0} (view : Symbol → Option V) (next : V → Plan A) (b : A) (s : Symbol) (v : V) (symbols : List Symbol) (after : List Lexeme → Type 0) → view s ≡ Some v → ((rest : List Lexeme) → (these symbols ⨾ after) rest → Spells (next v) b rest) → (tokens : List Lexeme) → (these (s ∷ symbols) ⨾ after) tokens → Spells (token view next) b tokens
step-token view next b s v symbols after e k tokens h =
    let o = opened tokens s symbols after h in
    subst (Spells (token view next) b) (sym o.whole) (v, ap view o.is ∙ e, k o.rest o.behind)

-- an expression
pub step-expression : {A : Type 0} (room : ℕ) (next : Expression → Plan A) (b : A) (e : Expression) (symbols : List Symbol) (after : List Lexeme → Type 0) → Fits 11 room e → ((rest : List Lexeme) → (these symbols ⨾ after) rest → Spells (next e) b rest) → (tokens : List Lexeme) → (these (expression_symbols e ++ symbols) ⨾ after) tokens → Spells (an_expression room next) b tokens
step-expression room next b e symbols after f k tokens h =
    let c = cut h.front (expression_symbols e) symbols h.is_first in
    record {
      value = e;
      front = c.front;
      back = c.back ++ h.back;
      whole = h.whole ∙ ap (λ y. y ++ h.back) c.whole ∙ append_assoc c.front c.back h.back;
      is_first = (c.of_front, f);
      is_next = k (c.back ++ h.back) (record { front = c.back; back = h.back; whole = refl; is_first = c.of_back; is_second = h.is_second });
    }

-- no more symbols
none-at : (tokens : List Lexeme) (after : List Lexeme → Type 0) (front back : List Lexeme) → tokens ≡ front ++ back → symbols_of front ≡ [] → after back → after tokens
none-at tokens after [] back w h a = subst after (sym w) a
none-at tokens after (t ∷ front) back w h a = absurd cc

pub step-end : (tokens : List Lexeme) (after : List Lexeme → Type 0) → (these [] ⨾ after) tokens → after tokens
step-end tokens after h = none-at tokens after h.front h.back h.whole h.is_first h.is_second

-- from the plan: a token
pub record TokenThen {A V : Type 0} (view : Symbol → Option V) (next : V → Plan A) (b : A) (tokens : List Lexeme) : Type 0 where
  pub first : Lexeme
  pub rest : List Lexeme
  pub value : V
  pub whole : tokens ≡ first ∷ rest
  pub seen : view first.symbol ≡ Some value
  pub is_next : Spells (next value) b rest

pub token-then : {A V : Type 0} (view : Symbol → Option V) (next : V → Plan A) (b : A) (tokens : List Lexeme) → Spells (token view next) b tokens → TokenThen view next b tokens
token-then view next b [] h = absurd h
token-then view next b (t ∷ rest) h = record { first = t; rest = rest; value = h.0; whole = refl; seen = h.1; is_next = h.2 }

-- some tokens before others, with their symbols
pub before-these : (tokens front back : List Lexeme) (a b : List Symbol) (after : List Lexeme → Type 0) → tokens ≡ front ++ back → symbols_of front ≡ a → (these b ⨾ after) back → (these (a ++ b) ⨾ after) tokens
before-these tokens front back a b after w h g = record {
  front = front ++ g.front;
  back = g.back;
  whole = w ∙ ap (λ y. front ++ y) g.whole ∙ sym (append_assoc front g.front g.back);
  is_first = symbols-append front g.front ∙ ap (λ y. y ++ symbols_of g.front) h ∙ ap (λ y. a ++ y) g.is_first;
  is_second = g.is_second;
}

pub token-before : (tokens : List Lexeme) (t : Lexeme) (rest : List Lexeme) (s : Symbol) (symbols : List Symbol) (after : List Lexeme → Type 0) → tokens ≡ t ∷ rest → t.symbol ≡ s → (these symbols ⨾ after) rest → (these (s ∷ symbols) ⨾ after) tokens
token-before tokens t rest s symbols after w e g = before-these tokens (t ∷ []) rest (s ∷ []) symbols after w (ap (λ y. y ∷ []) e) g

pub nothing-before : (tokens : List Lexeme) (after : List Lexeme → Type 0) → after tokens → (these [] ⨾ after) tokens
nothing-before tokens after a = record { front = []; back = tokens; whole = refl; is_first = refl; is_second = a }
