-- Stated a second time for the proof's sake: the tokens of a text, by going over its lines as the code does. What a
-- text has is said in Answers.antt; a law says that both are the same.
use Rattle.std.specs.Prelude.{ℕ, suc, ◌+◌, List, [], ◌∷◌, ◌++◌, Option, Some, None, Result}
use Rattle.std.specs.Prelude.{Ok, Err, drop, length, map, replicate, if◌then◌else◌}
use Rattle.kern_lexer.specs.Brackets.{open_behind}
use Rattle.kern_lexer.specs.Bytes.{Bytes}
use Rattle.kern_lexer.specs.Faults.{LexFault, ◌>>=◌}
use Rattle.kern_lexer.specs.Fronts.{begins_token}
use Rattle.kern_lexer.specs.Lines.{lines_of, without_return, without_comment}
use Rattle.kern_lexer.specs.Margins.{Margin, leading_spaces, unmarked, margin}
use Rattle.kern_lexer.specs.Words.{words_from}
use Rattle.kern_lexer.specs.declared.fault.LexKind.TheVariants as F
use Rattle.kern_lexer.specs.declared.layout.Bracket.{Bracket}
use Rattle.kern_lexer.specs.declared.token.Token.{Token}
use Rattle.kern_lexer.specs.declared.token.TokenKind.{TokenKind}
use Rattle.kern_lexer.specs.declared.token.TokenKind.TheVariants as T

-- what a line leaves to the next: the open widths and the open brackets, the last of each first
pub record Left : Type 0 where
  pub widths : List ℕ
  pub brackets : List Bracket

-- a line's tokens, and what it leaves
pub record LineTokens : Type 0 where
  pub tokens : List Token
  pub left : Left

-- tokens of length 0 at one place
abbrev pub marks_at : (line at : ℕ) → List TokenKind → List Token
marks_at line at kinds = map (λ kind. record { kind = kind; at = at; len = 0; line = line }) kinds

-- a margin, or the fault at the first byte behind the spaces
abbrev pub margin_or_fault : (at : ℕ) → Option Margin → Result Margin LexFault
margin_or_fault at None = Err (record { at = at; kind = F.Indent })
margin_or_fault at (Some m) = Ok m

-- the margin of a line: none within brackets and where no token follows it
abbrev pub margin_of : List Bracket → (widths : List ℕ) → (at : ℕ) → Bytes → Result Margin LexFault
margin_of [] widths at code =
    if begins_token (drop (leading_spaces code) code)
    then margin_or_fault (at + leading_spaces code) (margin widths (leading_spaces code))
    else Ok (unmarked widths)
margin_of (b ∷ more) widths at code = Ok (unmarked widths)

-- the end of a line that has tokens, where no bracket is open
abbrev pub newline_after : List Token → List Bracket → Token → List Token
newline_after [] brackets newline = []
newline_after (t ∷ tokens) [] newline = newline ∷ []
newline_after (t ∷ tokens) (b ∷ brackets) newline = []

-- the tokens of a line: its margin's, its own, and its Newline
abbrev pub line_tokens : Left → (line at : ℕ) → (code : Bytes) → (newline : Token) → Result LineTokens LexFault
line_tokens left line at code newline = do
  margin ← margin_of left.brackets left.widths at code
  own ← words_from line at 0 code
  let brackets = open_behind left.brackets own in
      Ok (record {
        tokens = marks_at line (at + leading_spaces code) margin.marks ++ own ++ newline_after own brackets newline;
        left = record { widths = margin.widths; brackets = brackets };
      })

-- the Dedents that are still open, and End
abbrev pub end_tokens : Left → (line at : ℕ) → List Token
end_tokens left line at = marks_at line at (replicate (length left.widths) T.Dedent ++ T.End ∷ [])

-- a line that a line feed ends, at which its Newline stands
abbrev pub ended_line : Left → (line at : ℕ) → Bytes → Result LineTokens LexFault
ended_line left line at bytes =
    line_tokens left line at (without_comment (without_return bytes))
    (record { kind = T.Newline; at = at + length bytes; len = 1; line = line })

-- the line behind the last line feed
abbrev pub last_line : Left → (line at : ℕ) → Bytes → Result LineTokens LexFault
last_line left line at bytes =
    line_tokens left line at (without_comment bytes)
    (record { kind = T.Newline; at = at + length bytes; len = 0; line = line })

-- the tokens of a text's lines, of which the last has no line feed
abbrev pub tokens_from : Left → (line at : ℕ) → List Bytes → Result (List Token) LexFault
tokens_from left line at [] = Ok (end_tokens left line at)
tokens_from left line at (last ∷ []) = do
  found ← last_line left line at last
  Ok (found.tokens ++ end_tokens found.left line (at + length last))
tokens_from left line at (first ∷ next ∷ rest) = do
  found ← ended_line left line at first
  others ← tokens_from found.left (suc line) (suc (at + length first)) (next ∷ rest)
  Ok (found.tokens ++ others)

-- what going over the lines of a text gives
unfoldable pub tokens_of : Bytes → Result (List Token) LexFault
tokens_of text = tokens_from (record { widths = []; brackets = [] }) 1 0 (lines_of text)
