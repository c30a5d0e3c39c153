-- Texts of whole lines, and the symbols that they have.
use Rattle.std.proofs.Common.{◌≡◌, ℕ, ◌+◌, List, [], ◌∷◌, ◌++◌, length, Ok, refl}
use Rattle.kern_lexer.specs.Bytes.{Bytes}
use Rattle.kern_lexer.specs.Lines.{lines_of}
use Rattle.kern_lexer.specs.Symbols.{Symbol, end, lexemes_of}
use Rattle.kern_lexer.specs.Tokens.{Left, tokens_from}
use Rattle.kern_lexer.specs.declared.token.Token.{Token}
use Rattle.kern_lexer.specs.declared.token.TokenKind.TheVariants as T
use Rattle.kern_syntax.specs.Print.{line_text}
use Rattle.kern_grammar.specs.Phrases.{symbols_of}
use Rattle.kern_canonical.proofs.FirstTokens.{Starts}

-- some widths are open, and no brackets
abbrev pub outside : List ℕ → Left
outside widths = record { widths = widths; brackets = [] }

-- a text of lines has these symbols behind lines that left some widths open, wherever it stands at the end of a text
pub record Lexes (widths : List ℕ) (text : Bytes) (symbols : List Symbol) : Type 0 where
  pub tokens : (line at : ℕ) → List Token
  pub read : (line at : ℕ) → tokens_from (outside widths) line at (lines_of text) ≡ Ok (tokens line at)
  pub spelled : (whole before : Bytes) (line : ℕ) → whole ≡ before ++ text
      → symbols_of (lexemes_of whole (tokens line (length before))) ≡ symbols

-- a text begins with a line of a level
pub record BeginsAt (level : ℕ) (text : Bytes) : Type 0 where
  pub code : Bytes
  pub others : Bytes
  pub whole : text ≡ line_text level code ++ others
  pub starts : Starts code

-- the end of a text
pub lexes-end : Lexes [] [] (end ∷ [])
lexes-end = record {
  tokens = λ line at. record { kind = T.End; at = at + 0; len = 0; line = line } ∷ [];
  read = λ line at. refl;
  spelled = λ whole before line is. refl;
}
