-- The marks before a text: an Indent before the first line of a block, and a Dedent behind its last.
use Rattle.std.proofs.Common.{◌≡◌, ℕ, suc, ◌+◌, ◌-◌, ◌*◌, ◌≤◌, ◌⊎◌, inl, inr, ◌∙◌, List, [], ◌∷◌, ◌++◌, Some, length, replicate, Result, Ok, Err, ap, refl, sym, arith}
use Rattle.kern_lexer.specs.Bytes.{Bytes}
use Rattle.kern_lexer.specs.Faults.{LexFault, ◌>>=◌}
use Rattle.kern_lexer.specs.Lines.{lines_of}
use Rattle.kern_lexer.specs.Margins.{Margin, margin, unmarked, leading_spaces}
use Rattle.kern_lexer.specs.Symbols.{Symbol, indent, dedent}
use Rattle.kern_lexer.specs.Tokens.{Left, LineTokens, ended_line, tokens_from}
use Rattle.kern_lexer.specs.Words.{words_from}
use Rattle.kern_lexer.specs.declared.token.Token.{Token}
use Rattle.kern_lexer.specs.declared.token.TokenKind.{TokenKind}
use Rattle.kern_lexer.specs.declared.token.TokenKind.TheVariants as T
use Rattle.kern_lexer.proofs.LineLemmas.{line_of}
use Rattle.kern_syntax.specs.Print as P
use Rattle.kern_syntax.specs.Print.{line_text}
use Rattle.kern_canonical.proofs.FirstTokens.{Starts}
use Rattle.kern_canonical.proofs.Levels.{widths_at, margin-lower, margin-deeper, margin-same}
use Rattle.kern_canonical.proofs.LineBytes.{lines-indented}
use Rattle.kern_canonical.proofs.Texts.{outside, Lexes, BeginsAt}
use Rattle.kern_canonical.proofs.ReadLines.{newline_at, line-read, lines-some, tokens_from-first}

-- a token of length 0
abbrev mark_at : (line at : ℕ) → TokenKind → Token
mark_at line at kind = record { kind = kind; at = at; len = 0; line = line }

-- a mark before the tokens of a line
abbrev marked_line : Token → LineTokens → LineTokens
marked_line t found = record { tokens = t ∷ found.tokens; left = found.left }

-- a margin with one more mark
abbrev marked_margin : TokenKind → Margin → Margin
marked_margin kind m = record { marks = kind ∷ m.marks; widths = m.widths }

-- it gives a line one more token
words-marked : (left : Left) (line at : ℕ) (code : Bytes) (ends : Token) (kind : TokenKind) (m : Margin) (words : Result (List Token) LexFault)
    → line_of left line at code ends (Ok (marked_margin kind m)) words
    ≡ line_of left line at code ends (Ok m) words >>= (λ found. Ok (marked_line (mark_at line (at + leading_spaces code) kind) found))
words-marked left line at code ends kind m (Err fault) = refl
words-marked left line at code ends kind m (Ok own) = refl

line-marked : (now later : List ℕ) (level : ℕ) (m : Margin) (kind : TokenKind) (code : Bytes) → Starts code
    → margin now (4 * level) ≡ Some (marked_margin kind m) → margin later (4 * level) ≡ Some m → (line at : ℕ)
    → ended_line (outside now) line at (P.indent level ++ code)
    ≡ ended_line (outside later) line at (P.indent level ++ code) >>= (λ found. Ok (marked_line (mark_at line (at + leading_spaces (P.indent level ++ code)) kind) found))
line-marked now later level m kind code s is_now is_later line at =
    let first : Bytes = P.indent level ++ code in
    line-read now level code (marked_margin kind m) s is_now line at
    ∙ words-marked (outside later) line at first (newline_at line at first) kind m (words_from line at 0 first)
    ∙ ap (λ r. r >>= (λ found. Ok (marked_line (mark_at line (at + leading_spaces first) kind) found))) (sym (line-read later level code m s is_later line at))

-- and of the lines that it begins
after-mark : (t : Token) (found : Result LineTokens LexFault) (more : Left → Result (List Token) LexFault)
    → ((found >>= (λ found. Ok (marked_line t found))) >>= (λ found. more found.left >>= (λ others. Ok (found.tokens ++ others))))
    ≡ (found >>= (λ found. more found.left >>= (λ others. Ok (found.tokens ++ others)))) >>= (λ ts. Ok (t ∷ ts))
after-mark t (Err fault) more = refl
after-mark t (Ok found) more = each (more found.left)
  where
    each : (others : Result (List Token) LexFault)
        → (others >>= (λ others. Ok ((t ∷ found.tokens) ++ others))) ≡ (others >>= (λ others. Ok (found.tokens ++ others))) >>= (λ ts. Ok (t ∷ ts))
    each (Err fault) = refl
    each (Ok others) = refl

lines-marked : (now later : List ℕ) (level : ℕ) (m : Margin) (kind : TokenKind) (text : Bytes) (b : BeginsAt level text)
    → margin now (4 * level) ≡ Some (marked_margin kind m) → margin later (4 * level) ≡ Some m → (line at : ℕ)
    → tokens_from (outside now) line at (lines_of text)
    ≡ tokens_from (outside later) line at (lines_of text) >>= (λ ts. Ok (mark_at line (at + leading_spaces (P.indent level ++ b.code)) kind ∷ ts))
lines-marked now later level m kind text b is_now is_later line at =
    let first : Bytes = P.indent level ++ b.code in
    let t : Token = mark_at line (at + leading_spaces first) kind in
    let lines : lines_of text ≡ first ∷ lines_of b.others = ap lines_of b.whole ∙ lines-indented level b.code b.others b.starts.plain in
    let more : Left → Result (List Token) LexFault = λ left. tokens_from left (suc line) (suc (at + length first)) (lines_of b.others) in
    ap (tokens_from (outside now) line at) lines
    ∙ tokens_from-first (outside now) line at first (lines_of b.others) (lines-some b.others)
    ∙ ap (λ r. r >>= (λ found. more found.left >>= (λ others. Ok (found.tokens ++ others)))) (line-marked now later level m kind b.code b.starts is_now is_later line at)
    ∙ after-mark t (ended_line (outside later) line at first) more
    ∙ ap (λ r. r >>= (λ ts. Ok (t ∷ ts))) (sym (tokens_from-first (outside later) line at first (lines_of b.others) (lines-some b.others)) ∙ sym (ap (tokens_from (outside later) line at) lines))

-- an Indent before a block's first line
pub indent-first : (level : ℕ) (text : Bytes) (symbols : List Symbol) → BeginsAt (suc level) text → Lexes (widths_at (suc level)) text symbols
    → Lexes (widths_at level) text (indent ∷ symbols)
indent-first level text symbols b l = record {
  tokens = λ line at. mark_at line (at + leading_spaces (P.indent (suc level) ++ b.code)) T.Indent ∷ l.tokens line at;
  read = λ line at.
      lines-marked (widths_at level) (widths_at (suc level)) (suc level) (unmarked (widths_at (suc level))) T.Indent text b
      (margin-deeper level) (margin-same (suc level)) line at
      ∙ ap (λ r. r >>= (λ ts. Ok (mark_at line (at + leading_spaces (P.indent (suc level) ++ b.code)) T.Indent ∷ ts))) (l.read line at);
  spelled = λ whole before line is. ap (λ y. indent ∷ y) (l.spelled whole before line is);
}

-- a text that ends, or goes on with a line that isn't deeper than a level
abbrev pub GoesOn : (level : ℕ) → Bytes → Type 0
GoesOn level text = (text ≡ []) ⊎ ((lower : ℕ) × (lower ≤ level) × BeginsAt lower text)

-- a Dedent at the end
dedent-at_end : (level : ℕ) (text : Bytes) (symbols : List Symbol) → text ≡ [] → Lexes (widths_at level) text symbols
    → Lexes (widths_at (suc level)) text (dedent ∷ symbols)
dedent-at_end level text symbols ends l = record {
  tokens = λ line at. mark_at line (at + 0) T.Dedent ∷ l.tokens line at;
  read = λ line at.
      ap (λ t. tokens_from (outside (widths_at (suc level))) line at (lines_of t)) ends
      ∙ ap (λ r. r >>= (λ ts. Ok (mark_at line (at + 0) T.Dedent ∷ ts))) (sym (ap (λ t. tokens_from (outside (widths_at level)) line at (lines_of t)) ends) ∙ l.read line at);
  spelled = λ whole before line is. ap (λ y. dedent ∷ y) (l.spelled whole before line is);
}

-- a Dedent before a line that isn't deeper
dedent-at_line : (level lower : ℕ) (text : Bytes) (symbols : List Symbol) → lower ≤ level → BeginsAt lower text → Lexes (widths_at level) text symbols
    → Lexes (widths_at (suc level)) text (dedent ∷ symbols)
dedent-at_line level lower text symbols below b l =
    let m : Margin = record { marks = replicate (level - lower) T.Dedent; widths = widths_at lower } in
    let one_more : suc level - lower ≡ suc (level - lower) = omega arith in
    let closes : margin (widths_at (suc level)) (4 * lower) ≡ Some (marked_margin T.Dedent m) =
    margin-lower (suc level) lower (omega arith) ∙ ap (λ n. Some (record { marks = replicate n T.Dedent; widths = widths_at lower })) one_more in
    record {
      tokens = λ line at. mark_at line (at + leading_spaces (P.indent lower ++ b.code)) T.Dedent ∷ l.tokens line at;
      read = λ line at.
          lines-marked (widths_at (suc level)) (widths_at level) lower m T.Dedent text b closes (margin-lower level lower below) line at
          ∙ ap (λ r. r >>= (λ ts. Ok (mark_at line (at + leading_spaces (P.indent lower ++ b.code)) T.Dedent ∷ ts))) (l.read line at);
      spelled = λ whole before line is. ap (λ y. dedent ∷ y) (l.spelled whole before line is);
    }

-- a Dedent behind a block's last line
pub dedent-first : (level : ℕ) (text : Bytes) (symbols : List Symbol) → GoesOn level text → Lexes (widths_at level) text symbols
    → Lexes (widths_at (suc level)) text (dedent ∷ symbols)
dedent-first level text symbols (inl ends) l = dedent-at_end level text symbols ends l
dedent-first level text symbols (inr goes_on) l = dedent-at_line level goes_on.0 text symbols goes_on.1 goes_on.2 l
