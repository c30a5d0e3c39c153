-- Sets of token lists, from which the grammar of blocks is made.
use Rattle.std.specs.Prelude.{◌≡◌, ◌⊎◌, ℕ, List, [], ◌∷◌, ◌++◌, map, Option, Some, None}
use Rattle.kern_lexer.specs.Symbols.{Symbol, Lexeme, newline}
use Rattle.kern_syntax.specs.Tree.{Statement, Block, done, line_then}
use Rattle.kern_grammar.specs.Simple.{simple_symbols}

-- a set of token lists
abbrev pub Phrase : Type 1
Phrase = List Lexeme → Type 0

-- the symbols of some tokens
abbrev pub symbols_of : List Lexeme → List Symbol
symbols_of tokens = map (λ t. t.symbol) tokens

-- these symbols, on any lines
abbrev pub these : List Symbol → Phrase
these symbols tokens = symbols_of tokens ≡ symbols

-- tokens of one phrase and then tokens of another
pub record Sequence (first second : Phrase) (tokens : List Lexeme) : Type 0 where
  pub front : List Lexeme
  pub back : List Lexeme
  pub whole : tokens ≡ front ++ back
  pub is_first : first front
  pub is_second : second back

infixr 6 ◌⨾◌
abbrev pub ◌⨾◌ : Phrase → Phrase → Phrase
(first ⨾ second) tokens = Sequence first second tokens

-- one phrase or another
infixr 5 ◌∣◌
abbrev pub ◌∣◌ : Phrase → Phrase → Phrase
(first ∣ second) tokens = first tokens ⊎ second tokens

-- the first token stands on this line
abbrev pub BeginsOnLine : ℕ → List Lexeme → Type 0
BeginsOnLine line [] = ⊥
BeginsOnLine line (t ∷ tokens) = t.line ≡ line

-- a phrase whose first token stands on this line
abbrev pub on_line : ℕ → Phrase → Phrase
on_line line phrase tokens = BeginsOnLine line tokens × phrase tokens

-- symbols, where there are any, and a Newline
abbrev pub with_newline : Option (List Symbol) → Phrase
with_newline None tokens = ⊥
with_newline (Some symbols) tokens = symbols_of tokens ≡ symbols ++ newline ∷ []

-- a simple statement and its Newline
abbrev pub simple_line : Statement → Phrase
simple_line s = with_newline (simple_symbols s)

-- a block that is one simple statement on the line of its header
abbrev pub one_line : Block → Phrase
one_line done tokens = ⊥
one_line (line_then line s done) tokens = (on_line line (simple_line s)) tokens
one_line (line_then line s (line_then next t rest)) tokens = ⊥
