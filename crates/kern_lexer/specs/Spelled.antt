-- What holds of each token of a text.
use Rattle.std.specs.Prelude.{◌≡◌, ◌+◌, ◌≤◌, ◌<◌, ◌^◌, ◌++◌, List, [], ◌∷◌, All, IsTrue, length}
use Rattle.kern_lexer.specs.Bytes.{Bytes}
use Rattle.kern_lexer.specs.Names.{is_name, is_quotable}
use Rattle.kern_lexer.specs.Symbols.{Symbol, name, key, number, quoted, sign, newline, indent, dedent, end, symbol_of}
use Rattle.kern_lexer.specs.declared.token.Token.{Token}
use Rattle.kern_lexer.specs.declared.token.TokenKind.TheVariants as T

-- a symbol that stands before the end: a name, a number or a text has its form, and the end is none
abbrev pub IsInner : Symbol → Type 0
IsInner (name word) = IsTrue (is_name word)
IsInner (number n) = n < 2 ^ 63
IsInner (quoted text) = IsTrue (is_quotable text)
IsInner end = ⊥
IsInner (key k) = Unit {0}
IsInner (sign s) = Unit {0}
IsInner newline = Unit {0}
IsInner indent = Unit {0}
IsInner dedent = Unit {0}

-- a token before the end lies within the text, and its bytes are of its form
pub record IsInnerToken (text : Bytes) (t : Token) : Type 0 where
  pub within : t.at + t.len ≤ length text
  pub inner : IsInner (symbol_of text t.at t.len t.kind)

-- the End of a text
pub record IsEndToken (text : Bytes) (t : Token) : Type 0 where
  pub kind : t.kind ≡ T.End
  pub at : t.at ≡ length text
  pub len : t.len ≡ 0

-- tokens of their form, and behind them the End
pub record EndsOnce (text : Bytes) (tokens : List Token) : Type 0 where
  pub before : List Token
  pub last : Token
  pub whole : tokens ≡ before ++ last ∷ []
  pub each : All (IsInnerToken text) before
  pub ends : IsEndToken text last
