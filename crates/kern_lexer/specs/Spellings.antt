-- How symbols are spelled, and what may stand behind a spelling.
use Rattle.std.specs.Prelude.{◌≡◌, ℕ, List, [], ◌∷◌, ◌++◌, Bool, true, not, IsTrue, Some, Result, Ok, decimal, length}
use Rattle.kern_lexer.specs.Bytes.{Bytes, is_word_byte, quote}
use Rattle.kern_lexer.specs.Faults.{LexFault, ◌>>=◌}
use Rattle.kern_lexer.specs.Keys.{key_text}
use Rattle.kern_lexer.specs.Signs.{sign_at, sign_text}
use Rattle.kern_lexer.specs.Symbols.{Symbol, name, key, number, quoted, sign, newline, indent, dedent, end}
use Rattle.kern_lexer.specs.declared.token.Token.{Token}
use Rattle.kern_lexer.specs.declared.token.TokenKind.{TokenKind}
use Rattle.kern_lexer.specs.declared.token.TokenKind.TheVariants as T

-- the spelling of a symbol, a number in decimal digits; the symbols of lines and blocks have none
abbrev pub spelling : Symbol → Bytes
spelling (name word) = word
spelling (key k) = key_text k
spelling (number n) = decimal n
spelling (quoted text) = quote ∷ text ++ quote ∷ []
spelling (sign s) = sign_text s
spelling newline = []
spelling indent = []
spelling dedent = []
spelling end = []

-- the kind of a symbol's token
abbrev pub kind_of : Symbol → TokenKind
kind_of (name word) = T.Name
kind_of (key k) = T.Key k
kind_of (number n) = T.Integer n
kind_of (quoted text) = T.Text
kind_of (sign s) = T.Sign s
kind_of newline = T.Newline
kind_of indent = T.Indent
kind_of dedent = T.Dedent
kind_of end = T.End

-- whether some bytes don't begin with a letter, a digit or an underscore
abbrev pub ends_word : Bytes → Bool
ends_word [] = true
ends_word (b ∷ rest) = not (is_word_byte b)

-- a symbol is spelled, and some bytes behind its spelling don't go on with it
abbrev pub StandsBefore : Symbol → Bytes → Type 0
StandsBefore (name word) rest = IsTrue (ends_word rest)
StandsBefore (key k) rest = IsTrue (ends_word rest)
StandsBefore (number n) rest = IsTrue (ends_word rest)
StandsBefore (quoted text) rest = Unit {0}
StandsBefore (sign s) rest = sign_at (sign_text s ++ rest) ≡ Some s
StandsBefore newline rest = ⊥
StandsBefore indent rest = ⊥
StandsBefore dedent rest = ⊥
StandsBefore end rest = ⊥

-- a symbol's token at a place
abbrev pub token_of : (line at : ℕ) → Symbol → Token
token_of line at s = record { kind = kind_of s; at = at; len = length (spelling s); line = line }

-- a token before those of what follows
abbrev pub followed_by : Token → Result (List Token) LexFault → Result (List Token) LexFault
followed_by t words = do
  others ← words
  Ok (t ∷ others)
