-- A line that is read, and the text behind it.
use Rattle.std.proofs.Common.{◌≡◌, ℕ, suc, ◌+◌, ◌*◌, ◌<◌, ◌∙◌, true, List, [], ◌∷◌, ◌++◌, Some, drop, length, Ok, ap, refl, sym, arith, nat_eq, append_assoc, length-append}
use Rattle.std.specs.Prelude.{codes}
use Rattle.std.proofs.lemmas.List.{map-append}
use Rattle.std.proofs.lemmas.List.Splits.{length-slice_split}
use Rattle.kern_lexer.specs.Bytes.{Bytes}
use Rattle.kern_lexer.specs.Faults.{◌>>=◌}
use Rattle.kern_lexer.specs.Fronts.{begins_token}
use Rattle.kern_lexer.specs.Lines.{lines_of, without_comment}
use Rattle.kern_lexer.specs.Margins.{Margin, margin, unmarked, leading_spaces}
use Rattle.kern_lexer.specs.Symbols.{Symbol, newline, lexeme_of, lexemes_of}
use Rattle.kern_lexer.specs.Tokens.{Left, margin_of, newline_after, line_tokens, ended_line, tokens_from}
use Rattle.kern_lexer.specs.Words.{words_from}
use Rattle.kern_lexer.specs.declared.token.Token.{Token}
use Rattle.kern_lexer.specs.declared.token.TokenKind.TheVariants as T
use Rattle.kern_lexer.proofs.LineLemmas.{line_of}
use Rattle.kern_syntax.specs.Print as P
use Rattle.kern_syntax.specs.Print.{line_text}
use Rattle.kern_grammar.specs.Phrases.{symbols_of}
use Rattle.kern_canonical.proofs.CodeLines.{CodeLine, words-some, words-close}
use Rattle.kern_canonical.proofs.Levels.{widths_at, margin-same}
use Rattle.kern_canonical.proofs.FirstTokens.{Starts, starts}
use Rattle.kern_canonical.proofs.LineBytes.{return-none, comment-none, indented-plain, indent-then, lines-indented, indent-width, indent-dropped}
use Rattle.kern_canonical.proofs.Plain.{are_plain}
use Rattle.kern_canonical.proofs.Texts.{outside, Lexes, BeginsAt}
use Rattle.kern_canonical.proofs.Words.{Words}

-- the Newline of a line that a line feed ends
abbrev pub newline_at : (line at : ℕ) → Bytes → Token
newline_at line at first = record { kind = T.Newline; at = at + length first; len = 1; line = line }

-- the margin of a line of a level
margin-read : (widths : List ℕ) (level at : ℕ) (code : Bytes) (m : Margin) → Starts code → margin widths (4 * level) ≡ Some m
    → margin_of (outside widths).brackets widths at (P.indent level ++ code) ≡ Ok m
margin-read widths level at code m s is =
    let width : leading_spaces (P.indent level ++ code) ≡ 4 * level = indent-width level code s.begins in
    let there : begins_token (drop (4 * level) (P.indent level ++ code)) ≡ true = ap begins_token (indent-dropped level code) ∙ s.token in
    rw width (rw there (rw is refl))

-- a line of a level has its margin, its words and its Newline
pub line-read : (widths : List ℕ) (level : ℕ) (code : Bytes) (m : Margin) → Starts code → margin widths (4 * level) ≡ Some m → (line at : ℕ)
    → ended_line (outside widths) line at (P.indent level ++ code)
    ≡ line_of (outside widths) line at (P.indent level ++ code) (newline_at line at (P.indent level ++ code)) (Ok m) (words_from line at 0 (P.indent level ++ code))
line-read widths level code m s is line at =
    let first : Bytes = P.indent level ++ code in
    let plain : are_plain first ≡ true = indented-plain level code s.plain in
    ap (λ bytes. line_tokens (outside widths) line at bytes (newline_at line at first)) (ap without_comment (return-none first plain) ∙ comment-none first plain)
    ∙ ap (λ r. line_of (outside widths) line at first (newline_at line at first) r (words_from line at 0 first)) (margin-read widths level at code m s is)

-- a Newline stands behind tokens
newline-there : (own : List Token) (ends : Token) → 0 < length own → newline_after own [] ends ≡ ends ∷ []
newline-there [] ends some = absurd (omega arith)
newline-there (t ∷ own) ends some = refl

-- a line of the level that is open
level-line : (level : ℕ) (code : Bytes) (symbols : List Symbol) (c : CodeLine code symbols) (w : Words (P.indent level ++ code) symbols) (line at : ℕ)
    → ended_line (outside (widths_at level)) line at (P.indent level ++ code)
    ≡ Ok (record { tokens = w.tokens line at ++ newline_at line at (P.indent level ++ code) ∷ []; left = outside (widths_at level) })
level-line level code symbols c w line at =
    let first : Bytes = P.indent level ++ code in
    let own : List Token = w.tokens line at in
    let ends : Token = newline_at line at first in
    let here : Left = outside (widths_at level) in
    let m : Margin = unmarked (widths_at level) in
    line-read (widths_at level) level code m (starts code symbols c.words c.begins) (margin-same level) line at
    ∙ ap (line_of here line at first ends (Ok m)) (w.read line at)
    ∙ ap (λ bs. Ok (record { tokens = own ++ newline_after own bs ends; left = record { widths = widths_at level; brackets = bs } })) (words-close first symbols w c.closed line at here)
    ∙ ap (λ ts. Ok (record { tokens = own ++ ts; left = here })) (newline-there own ends (words-some first symbols w line at c.some))

-- a text has a line
pub lines-some : (text : Bytes) → 0 < length (lines_of text)
lines-some text = omega (arith, length-slice_split (λ b. nat_eq b 10) text)

-- a line before others
pub tokens_from-first : (left : Left) (line at : ℕ) (first : Bytes) (lines : List Bytes) → 0 < length lines
    → tokens_from left line at (first ∷ lines) ≡ ended_line left line at first >>= (λ found. tokens_from found.left (suc line) (suc (at + length first)) lines >>= (λ others. Ok (found.tokens ++ others)))
tokens_from-first left line at first [] some = absurd (omega arith)
tokens_from-first left line at first (next ∷ rest) some = refl

-- its tokens before theirs
tokens_from-more : (left next : Left) (line at : ℕ) (first : Bytes) (lines : List Bytes) (own others : List Token) → 0 < length lines
    → ended_line left line at first ≡ Ok (record { tokens = own; left = next })
    → tokens_from next (suc line) (suc (at + length first)) lines ≡ Ok others
    → tokens_from left line at (first ∷ lines) ≡ Ok (own ++ others)
tokens_from-more left next line at first lines own others some is more =
    tokens_from-first left line at first lines some ∙ rw is (rw more refl)

-- the symbols of tokens before others
symbols-append : (whole : Bytes) (a b : List Token) → symbols_of (lexemes_of whole (a ++ b)) ≡ symbols_of (lexemes_of whole a) ++ symbols_of (lexemes_of whole b)
symbols-append whole a b =
    ap symbols_of (map-append (lexeme_of whole) a b) ∙ map-append (λ t. t.symbol) (lexemes_of whole a) (lexemes_of whole b)

-- a line of a level, and then a text
pub line-then : (level : ℕ) (code rest : Bytes) (symbols others : List Symbol) → CodeLine code symbols → Lexes (widths_at level) rest others
    → Lexes (widths_at level) (line_text level code ++ rest) (symbols ++ newline ∷ others)
line-then level code rest symbols others c r =
    let first : Bytes = P.indent level ++ code in
    let w : Words first symbols = indent-then level code symbols c.words in
    record {
      tokens = λ line at. w.tokens line at ++ newline_at line at first ∷ r.tokens (suc line) (suc (at + length first));
      read = λ line at.
          ap (tokens_from (outside (widths_at level)) line at) (lines-indented level code rest c.words.plain)
          ∙ tokens_from-more (outside (widths_at level)) (outside (widths_at level)) line at first (lines_of rest) _ (r.tokens (suc line) (suc (at + length first)))
          (lines-some rest) (level-line level code symbols c w line at) (r.read (suc line) (suc (at + length first)))
          ∙ ap Ok (append_assoc (w.tokens line at) (newline_at line at first ∷ []) (r.tokens (suc line) (suc (at + length first))));
      spelled = λ whole before line is.
          let parts : whole ≡ before ++ (first ++ 10 ∷ rest) = is ∙ ap (λ y. before ++ y) (append_assoc first (codes "\n") rest) in
          let behind : Bytes = before ++ (first ++ 10 ∷ []) in
          let parts_behind : whole ≡ behind ++ rest =
          parts ∙ ap (λ y. before ++ y) (sym (append_assoc first (10 ∷ []) rest)) ∙ sym (append_assoc before (first ++ 10 ∷ []) rest) in
          let place : suc (length before + length first) ≡ length behind =
          omega (arith, length-append before (first ++ 10 ∷ []), length-append first (10 ∷ [])) in
          symbols-append whole (w.tokens line (length before)) (newline_at line (length before) first ∷ r.tokens (suc line) (suc (length before + length first)))
          ∙ ap (λ y. y ++ newline ∷ symbols_of (lexemes_of whole (r.tokens (suc line) (suc (length before + length first))))) (w.spelled whole before (10 ∷ rest) line parts)
          ∙ ap (λ n. symbols ++ newline ∷ symbols_of (lexemes_of whole (r.tokens (suc line) n))) place
          ∙ ap (λ y. symbols ++ newline ∷ y) (r.spelled whole behind (suc line) parts_behind);
    }

-- such a text begins with it
pub begins-line : (level : ℕ) (code rest : Bytes) (symbols : List Symbol) → CodeLine code symbols → BeginsAt level (line_text level code ++ rest)
begins-line level code rest symbols c = record { code = code; others = rest; whole = refl; starts = starts code symbols c.words c.begins }
