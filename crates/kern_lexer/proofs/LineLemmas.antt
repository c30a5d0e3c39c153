-- Lemmas on a line and its tokens.
use Rattle.std.proofs.Common.{◌≡◌, ℕ, ◌+◌, ◌∙◌, List, [], ◌∷◌, ◌++◌, drop, length, Result, Ok, Err, ap, refl, sym, append_assoc, nat_eq, Bool, true, false}
use Rattle.std.proofs.lemmas.Bool.{eqb-true}
use Rattle.std.proofs.lemmas.List.{drop_at}
use Rattle.kern_lexer.specs.Brackets.{open_behind}
use Rattle.kern_lexer.specs.Bytes.{Bytes}
use Rattle.kern_lexer.specs.Faults.{LexFault, ◌>>=◌}
use Rattle.kern_lexer.specs.Lines.{without_return}
use Rattle.kern_lexer.specs.Margins.{Margin, leading_spaces}
use Rattle.kern_lexer.specs.Steps.{words_after, margin_after, line_after}
use Rattle.kern_lexer.specs.Tokens.{Left, LineTokens, marks_at, margin_of, newline_after, line_tokens}
use Rattle.kern_lexer.specs.Words.{words_from}
use Rattle.kern_lexer.specs.declared.layout.Bracket.{Bracket}
use Rattle.kern_lexer.specs.declared.token.Token.{Token}

-- a line's tokens from its margin and its words
abbrev pub line_of : Left → (line at : ℕ) → Bytes → Token → Result Margin LexFault
    → Result (List Token) LexFault → Result LineTokens LexFault
line_of left line at code newline margin words = do
  m ← margin
  own ← words
  Ok (record {
    tokens = marks_at line (at + leading_spaces code) m.marks ++ own ++ newline_after own (open_behind left.brackets own) newline;
    left = record { widths = m.widths; brackets = open_behind left.brackets own };
  })

-- a line that is read: its margin's marks, its words, and its Newline
line-is_read : (before marked read ended : List Token) (left : Left) (widths : List ℕ) (brackets : List Bracket) (line at : ℕ) (code : Bytes) (newline : Token) (margin : Result Margin LexFault) (words : Result (List Token) LexFault)
    → margin_after before line (at + leading_spaces code) margin ≡ Ok (marked, widths)
    → words_after marked left.brackets words ≡ Ok (read, brackets)
    → ended ≡ read ++ newline_after (drop (length marked) read) brackets newline
    → line_after before (line_of left line at code newline margin words) ≡ Ok (record { tokens = ended; left = record { widths = widths; brackets = brackets } })
line-is_read before marked read ended left widths brackets line at code newline (Err fault) words is_margin is_words is_ended =
    absurd cc
line-is_read before marked read ended left widths brackets line at code newline (Ok m) (Err fault) is_margin is_words is_ended =
    absurd cc
line-is_read before marked read ended left widths brackets line at code newline (Ok m) (Ok own) is_margin is_words is_ended =
    let marks : List Token = marks_at line (at + leading_spaces code) m.marks in
    let margin_is : (before ++ marks, m.widths) ≡ (marked, widths) = cc in
    let words_is : (marked ++ own, open_behind left.brackets own) ≡ (read, brackets) = cc in
    let is_marked : before ++ marks ≡ marked = ap (λ (p : List Token × List ℕ). p.0) margin_is in
    let is_widths : m.widths ≡ widths = ap (λ (p : List Token × List ℕ). p.1) margin_is in
    let is_read : marked ++ own ≡ read = ap (λ (p : List Token × List Bracket). p.0) words_is in
    let is_brackets : open_behind left.brackets own ≡ brackets = ap (λ (p : List Token × List Bracket). p.1) words_is in
    let is_own : drop (length marked) read ≡ own = ap (drop (length marked)) (sym is_read)
    ∙ drop_at marked own (length marked) refl in
    let all : before ++ (marks ++ own ++ newline_after own (open_behind left.brackets own) newline) ≡ ended =
    sym (append_assoc before (marks ++ own) _)
    ∙ ap (λ ts. ts ++ newline_after own (open_behind left.brackets own) newline) (sym (append_assoc before marks own) ∙ ap (λ ts. ts ++ own) is_marked ∙ is_read)
    ∙ ap (λ bs. read ++ newline_after own bs newline) is_brackets
    ∙ ap (λ ts. read ++ newline_after ts brackets newline) (sym is_own) ∙ sym is_ended in
    ap (λ ts. Ok (record { tokens = ts; left = record { widths = m.widths; brackets = open_behind left.brackets own } })) all
    ∙ ap (λ ws. Ok (record { tokens = ended; left = record { widths = ws; brackets = open_behind left.brackets own } })) is_widths
    ∙ ap (λ bs. Ok (record { tokens = ended; left = record { widths = widths; brackets = bs } })) is_brackets

pub line-read : (before marked read ended : List Token) (left : Left) (widths : List ℕ) (brackets : List Bracket) (line at : ℕ) (code : Bytes) (newline : Token)
    → margin_after before line (at + leading_spaces code) (margin_of left.brackets left.widths at code) ≡ Ok (marked, widths)
    → words_after marked left.brackets (words_from line at 0 code) ≡ Ok (read, brackets)
    → ended ≡ read ++ newline_after (drop (length marked) read) brackets newline
    → line_after before (line_tokens left line at code newline) ≡ Ok (record { tokens = ended; left = record { widths = widths; brackets = brackets } })
line-read before marked read ended left widths brackets line at code newline =
    line-is_read before marked read ended left widths brackets line at code newline (margin_of left.brackets left.widths at code) (words_from line at 0 code)

-- the carriage return at a line's end is cut
pub return-cut : (front : Bytes) → without_return (front ++ 13 ∷ []) ≡ front
return-cut [] = refl
return-cut (b ∷ []) = refl
return-cut (b ∷ c ∷ rest) = ap (λ bytes. b ∷ bytes) (return-cut (c ∷ rest))

-- any other line stays
pub return-kept : (line : Bytes) → ((front : Bytes) → line ≡ front ++ 13 ∷ [] → ⊥)
    → without_return line ≡ line
return-kept [] other = refl
return-kept (b ∷ []) other = at_last (nat_eq b 13) refl
  where
    at_last : (t : Bool) → nat_eq b 13 ≡ t → without_return (b ∷ []) ≡ b ∷ []
    at_last true e = absurd (other [] (ap (λ x. x ∷ []) (eqb-true b 13 e)))
    at_last false e = rw e refl
return-kept (b ∷ c ∷ rest) other =
    ap (λ bytes. b ∷ bytes) (return-kept (c ∷ rest) (λ front e. other (b ∷ front) (ap (λ bytes. b ∷ bytes) e)))
