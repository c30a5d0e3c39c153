-- Some small texts cut into pieces, with the tokens that these make, and some with a fault.
use Rattle.std.specs.Prelude.{ℕ, List, [], ◌∷◌, codes, refl}
use Rattle.kern_lexer.specs.Answers.{HasTokens, HasFault}
use Rattle.kern_lexer.specs.Faults.{LexFault}
use Rattle.kern_lexer.specs.Pieces.{Piece, blank, skipped_return, comment, line_end, word}
use Rattle.kern_lexer.specs.declared.fault.LexKind.{LexKind}
use Rattle.kern_lexer.specs.declared.fault.LexKind.TheVariants as F
use Rattle.kern_lexer.specs.declared.token.Sign.TheVariants as S
use Rattle.kern_lexer.specs.declared.token.Token.{Token}
use Rattle.kern_lexer.specs.declared.token.TokenKind.{TokenKind}
use Rattle.kern_lexer.specs.declared.token.TokenKind.TheVariants as T

-- a token
abbrev token : TokenKind → (at len line : ℕ) → Token
token kind at len line = record { kind = kind; at = at; len = len; line = line }

-- a fault
abbrev fault : ℕ → LexKind → LexFault
fault at kind = record { at = at; kind = kind }

-- the name `a`
abbrev a : Piece
a = word T.Name (codes "a")

-- a comment line deeper than its block, a blank line, carriage returns, and a last line without a line feed
comment_line : HasTokens (codes "a\r\n  # c\r\n\na") (token T.Name 0 1 1 ∷ token T.Newline 2 1 1
    ∷ token T.Name 11 1 4 ∷ token T.Newline 12 0 4 ∷ token T.End 12 0 4 ∷ [])
comment_line = record {
  pieces = a ∷ skipped_return ∷ line_end ∷ blank ∷ blank ∷ comment (codes " c\r") ∷ line_end ∷ line_end ∷ a ∷ [];
  cut = record { whole = refl; each = (refl, (refl, (tt, (tt, (tt, (refl, (tt, (tt, (refl, tt))))))))) };
  fits = (refl, (tt, (tt, (tt, (tt, (tt, (tt, (tt, (refl, tt)))))))));
  made = refl;
}

-- a line end in brackets, and a line that begins in them
bracketed : HasTokens (codes "a[\n   a]\n") (token T.Name 0 1 1 ∷ token (T.Sign S.OpenBracket) 1 1 1
    ∷ token T.Name 6 1 2 ∷ token (T.Sign S.CloseBracket) 7 1 2 ∷ token T.Newline 8 1 2 ∷ token T.End 9 0 3 ∷ [])
bracketed = record {
  pieces = a ∷ word (T.Sign S.OpenBracket) (codes "[") ∷ line_end ∷ blank ∷ blank ∷ blank ∷ a
      ∷ word (T.Sign S.CloseBracket) (codes "]") ∷ line_end ∷ [];
  cut = record { whole = refl; each = (refl, (refl, (tt, (tt, (tt, (tt, (refl, (refl, (tt, tt))))))))) };
  fits = (refl, (refl, (tt, (tt, (tt, (tt, (refl, (refl, (tt, tt)))))))));
  made = refl;
}

-- two Indents, two Dedents at one line, and one at the end
two_dedents : HasTokens (codes "a\n a\n  a\na\n a") (token T.Name 0 1 1 ∷ token T.Newline 1 1 1
    ∷ token T.Indent 3 0 2 ∷ token T.Name 3 1 2 ∷ token T.Newline 4 1 2
    ∷ token T.Indent 7 0 3 ∷ token T.Name 7 1 3 ∷ token T.Newline 8 1 3
    ∷ token T.Dedent 9 0 4 ∷ token T.Dedent 9 0 4 ∷ token T.Name 9 1 4 ∷ token T.Newline 10 1 4
    ∷ token T.Indent 12 0 5 ∷ token T.Name 12 1 5 ∷ token T.Newline 13 0 5
    ∷ token T.Dedent 13 0 5 ∷ token T.End 13 0 5 ∷ [])
two_dedents = record {
  pieces = a ∷ line_end ∷ blank ∷ a ∷ line_end ∷ blank ∷ blank ∷ a ∷ line_end ∷ a ∷ line_end ∷ blank ∷ a ∷ [];
  cut = record { whole = refl; each = (refl, (tt, (tt, (refl, (tt, (tt, (tt, (refl, (tt, (refl, (tt, (tt, (refl, tt))))))))))))) };
  fits = (refl, (tt, (tt, (refl, (tt, (tt, (tt, (refl, (tt, (refl, (tt, (tt, (refl, tt)))))))))))));
  made = refl;
}

-- the pieces before the last line of a block of width 2, and a line of width 1
abbrev narrower : List Piece
narrower = a ∷ line_end ∷ blank ∷ blank ∷ a ∷ line_end ∷ blank ∷ []

-- a wrong number at a wrong width is Indent
wrong_number : HasFault (codes "a\n  a\n 1__2") (fault 7 F.Indent)
wrong_number = record {
  pieces = narrower;
  rest = codes "1__2";
  cut = record { whole = refl; each = (refl, (tt, (tt, (tt, (refl, (tt, (tt, tt))))))) };
  fits = (refl, (tt, (tt, (tt, (refl, (tt, (tt, tt)))))));
  at = refl;
  wrong = (refl, refl);
}

-- a tab there is Tab
wrong_tab : HasFault (codes "a\n  a\n \ta") (fault 7 F.Tab)
wrong_tab = record {
  pieces = narrower;
  rest = codes "\ta";
  cut = record { whole = refl; each = (refl, (tt, (tt, (tt, (refl, (tt, (tt, tt))))))) };
  fits = (refl, (tt, (tt, (tt, (refl, (tt, (tt, tt)))))));
  at = refl;
  wrong = refl;
}

-- a carriage return that no line feed follows is Byte
lone_return : HasFault (codes "a\r\r\n") (fault 1 F.Byte)
lone_return = record {
  pieces = a ∷ [];
  rest = codes "\r\r\n";
  cut = record { whole = refl; each = (refl, tt) };
  fits = (refl, tt);
  at = refl;
  wrong = (refl, refl);
}
