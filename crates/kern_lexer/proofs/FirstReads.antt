-- What is read of a whole line is what its bytes have: its spaces, its first word, and the others.
use Rattle.std.proofs.Common.{◌≡◌, ℕ, suc, ◌+◌, ◌∙◌, ◌++◌, Bool, true, false, cond, List, [], ◌∷◌, length, drop, replicate, ap, refl, sym, subst, arith, append_assoc, nat_eq, Result, Ok, Err}
use Rattle.std.proofs.lemmas.Bool.{eqb-true, ne_eqb, and_right}
use Rattle.kern_lexer.specs.Brackets.{open_behind}
use Rattle.kern_lexer.specs.Bytes.{Bytes, space}
use Rattle.kern_lexer.specs.Faults.{LexFault, ◌>>=◌}
use Rattle.kern_lexer.specs.Fronts.{begins_token}
use Rattle.kern_lexer.specs.Layouts.{place_behind, line_behind, brackets_behind, is_first_word, width_behind, widths_of, has_right_width, is_right_width}
use Rattle.kern_lexer.specs.Margins.{Margin, margin, unmarked, leading_spaces}
use Rattle.kern_lexer.specs.Pieces.{Piece, blank, bytes_of_pieces}
use Rattle.kern_lexer.specs.Steps.{text_after}
use Rattle.kern_lexer.specs.Tokens.{Left, margin_of, margin_or_fault, marks_at, newline_after}
use Rattle.kern_lexer.specs.Words.{words_from}
use Rattle.kern_lexer.specs.declared.layout.Bracket.{Bracket}
use Rattle.kern_lexer.specs.declared.token.Token.{Token}
use Rattle.kern_lexer.proofs.LineCuts.{IsClean}
use Rattle.kern_lexer.proofs.LineLemmas.{line_of}
use Rattle.kern_lexer.proofs.LineReads.{Next, has_tokens, newline_if, line_rest, left_behind, rest_behind, IsReadAfter, text_after-append, read-same, code-read}
use Rattle.kern_lexer.proofs.PrintedLemmas.{space-is_skipped}
use Rattle.kern_lexer.proofs.QuietLemmas.{has_word}
use Rattle.kern_lexer.proofs.Reached.{IsReadBehind}
use Rattle.kern_lexer.proofs.StopLemmas.{Stops}
use Rattle.kern_lexer.proofs.TextLemmas.{text_after-none}
use Rattle.kern_lexer.proofs.WidthLemmas.{stack_of}

-- ---- a line by its margin and its words

-- the marks of a margin, the rest of the line, and what follows it
abbrev pub margin_then : Token → Next → List Bracket → (line at : ℕ) → Result Margin LexFault → Result (List Token) LexFault → Result (List Token) LexFault
margin_then newline next brackets line at found words =
    found >>= (λ m. text_after (marks_at line at m.marks) (line_rest newline next m.widths brackets false words))

-- some brackets are open
some-open : (b : Bracket) (brackets : List Bracket) → nat_eq (length (b ∷ brackets)) 0 ≡ false
some-open b brackets = ne_eqb (suc (length brackets)) 0 (λ same. omega (arith, same))

newline-same : (own : List Token) (brackets : List Bracket) (newline : Token)
    → newline_after own brackets newline ≡ newline_if (has_tokens own) brackets newline
newline-same [] brackets newline = rw (and_right (nat_eq (length brackets) 0) false refl) refl
newline-same (t ∷ own) [] newline = refl
newline-same (t ∷ own) (b ∷ brackets) newline = rw (some-open b brackets) refl

pub line-parts : (left : Left) (line at : ℕ) (code : Bytes) (newline : Token) (next : Next) (margin : Result Margin LexFault) (words : Result (List Token) LexFault)
    → line_of left line at code newline margin words >>= (λ found. text_after found.tokens (next found.left)) ≡ margin_then newline next left.brackets line (at + leading_spaces code) margin words
line-parts left line at code newline next (Err fault) words = refl
line-parts left line at code newline next (Ok m) (Err fault) = refl
line-parts left line at code newline next (Ok m) (Ok own) =
    let marks : List Token = marks_at line (at + leading_spaces code) m.marks in
    let brackets : List Bracket = open_behind left.brackets own in
    let after : Result (List Token) LexFault = next (record { widths = m.widths; brackets = brackets }) in
    ap (λ ts. text_after ts after) (append_assoc marks own (newline_after own brackets newline))
    ∙ text_after-append marks (own ++ newline_after own brackets newline) after
    ∙ ap (λ ts. text_after marks (text_after (own ++ ts) after)) (newline-same own brackets newline)

-- the margin in front of a line's first word
abbrev pub margin_here : List Bracket → List ℕ → (width at : ℕ) → Bytes → Result Margin LexFault
margin_here [] widths width at rest = cond (begins_token rest) (margin_or_fault at (margin widths width)) (Ok (unmarked widths))
margin_here (b ∷ more) widths width at rest = Ok (unmarked widths)

pub margin-here : (brackets : List Bracket) (widths : List ℕ) (at : ℕ) (code : Bytes)
    → margin_of brackets widths at code ≡ margin_here brackets widths (leading_spaces code) (at + leading_spaces code) (drop (leading_spaces code) code)
margin-here [] widths at code = refl
margin-here (b ∷ more) widths at code = refl

-- ---- the spaces of a line

-- some bytes don't begin with a space
abbrev pub IsSpaceless : Bytes → Type 0
IsSpaceless [] = Unit {0}
IsSpaceless (b ∷ rest) = nat_eq b space ≡ false

-- so many spaces of a line are pieces, and the words are those behind them
pub record Spaces (line at width : ℕ) (code : Bytes) : Type 0 where
  pub whole : bytes_of_pieces (replicate width blank) ++ drop width code ≡ code
  pub words : words_from line at 0 code ≡ words_from line (at + width) 0 (drop width code)
  pub spaceless : IsSpaceless (drop width code)

no-spaces : (line at : ℕ) (code : Bytes) → IsSpaceless code → Spaces line at 0 code
no-spaces line at code spaceless =
    let here : at + 0 ≡ at = omega arith in
    record { whole = refl; words = ap (λ n. words_from line n 0 code) (sym here); spaceless = spaceless }

one-space : (line at width : ℕ) (b : ℕ) (code : Bytes) → nat_eq b space ≡ true
    → Spaces line (suc at) width code → Spaces line at (suc width) (b ∷ code)
one-space line at width b code is later =
    let next : suc at + width ≡ at + suc width = omega arith in
    record {
      whole = ap (λ c. c ∷ (bytes_of_pieces (replicate width blank) ++ drop width code)) (sym (eqb-true b space is))
          ∙ ap (λ bytes. b ∷ bytes) later.whole;
      words = ap (λ c. words_from line at 0 (c ∷ code)) (eqb-true b space is) ∙ space-is_skipped line at code
          ∙ later.words ∙ ap (λ n. words_from line n 0 (drop width code)) next;
      spaceless = later.spaceless;
    }

pub spaces-of : (line at : ℕ) (code : Bytes) → Spaces line at (leading_spaces code) code
spaces-of line at [] = no-spaces line at [] tt
spaces-of line at (b ∷ code) = at_first (nat_eq b space) refl (spaces-of line (suc at) code)
  where
    at_first : (t : Bool) → nat_eq b space ≡ t → Spaces line (suc at) (leading_spaces code) code
        → Spaces line at (leading_spaces (b ∷ code)) (b ∷ code)
    at_first true is later =
        let width : leading_spaces (b ∷ code) ≡ 1 + leading_spaces code = rw is refl in
        let more : suc (leading_spaces code) ≡ leading_spaces (b ∷ code) = omega (arith, width) in
        subst (λ n. Spaces line at n (b ∷ code)) more (one-space line at (leading_spaces code) b code is later)
    at_first false is later =
        let none : 0 ≡ leading_spaces (b ∷ code) = rw is refl in
        subst (λ n. Spaces line at n (b ∷ code)) none (no-spaces line at (b ∷ code) is)

-- ---- the first word

-- what is read behind the spaces of a line
abbrev pub read_first : List Piece → Token → Next → Bytes → Result (List Token) LexFault
read_first before newline next rest =
    margin_then newline next (brackets_behind before) (line_behind before) (place_behind before)
    (margin_here (brackets_behind before) (stack_of (widths_of before)) (width_behind before) (place_behind before) rest)
    (words_from (line_behind before) (place_behind before) 0 rest)

-- the margin of the first word
pub margin-first : (before : List Piece) (rest : Bytes) (t : Bool) → brackets_behind before ≡ [] → begins_token rest ≡ t
    → margin_here (brackets_behind before) (stack_of (widths_of before)) (width_behind before) (place_behind before) rest
    ≡ cond t (margin_or_fault (place_behind before) (margin (stack_of (widths_of before)) (width_behind before))) (Ok (unmarked (stack_of (widths_of before))))
margin-first before rest t outside begins = rw (outside, begins) refl

-- a first word has a right width where its line has one
pub right-first : (before : List Piece) (t : Bool) → is_first_word before ≡ true → is_right_width (widths_of before) (width_behind before) ≡ t
    → has_right_width before ≡ t
right-first before t first right = rw (first, right) refl

-- nothing but spaces
pub read-nothing : (before : List Piece) (stop : Bytes) (newline : Token) (next : Next) → has_word before ≡ false
    → IsReadAfter before [] stop newline next → IsReadBehind before stop (read_first before newline next [])
read-nothing before stop newline next no_word later =
    by_brackets (brackets_behind before) refl
  where
    here : IsReadBehind before stop (text_after (newline_if (has_word before) (brackets_behind before) newline) (next (left_behind before)))
    here = later before (record { place = omega arith; line = refl })

    by_brackets : (bs : List Bracket) → brackets_behind before ≡ bs → IsReadBehind before stop (read_first before newline next [])
    by_brackets [] open_ones =
        let unread : margin_here (brackets_behind before) (stack_of (widths_of before)) (width_behind before) (place_behind before) [] ≡ Ok (unmarked (stack_of (widths_of before))) = rw open_ones refl in
        rw unread (rw (text_after-none (line_rest newline next (stack_of (widths_of before)) (brackets_behind before) false (Ok []))) (rw no_word at here))
    by_brackets (b ∷ bs) open_ones =
        let unread : margin_here (brackets_behind before) (stack_of (widths_of before)) (width_behind before) (place_behind before) [] ≡ Ok (unmarked (stack_of (widths_of before))) = rw open_ones refl in
        rw unread (rw (text_after-none (line_rest newline next (stack_of (widths_of before)) (brackets_behind before) false (Ok []))) (rw no_word at here))

-- a line that begins within brackets
pub read-within : (before : List Piece) (rest stop : Bytes) (newline : Token) (next : Next) (b : Bracket) (bs : List Bracket)
    → brackets_behind before ≡ b ∷ bs → has_word before ≡ false → Stops stop → IsClean rest stop
    → IsReadAfter before rest stop newline next → IsReadBehind before (rest ++ stop) (read_first before newline next rest)
read-within before rest stop newline next b bs open_ones no_word stops clean later =
    let unread : margin_here (brackets_behind before) (stack_of (widths_of before)) (width_behind before) (place_behind before) rest ≡ Ok (unmarked (stack_of (widths_of before))) = rw open_ones refl in
    let within : is_first_word before ≡ false = rw open_ones (rw (some-open b bs) refl) in
    let there : IsReadBehind before (rest ++ stop) (rest_behind before newline next rest) = code-read (length rest) before rest stop newline next (omega arith) within stops clean later in
    let words : Result (List Token) LexFault = words_from (line_behind before) (place_behind before) 0 rest in
    rw unread (read-same before refl (ap (λ t. line_rest newline next (stack_of (widths_of before)) (brackets_behind before) t words) no_word ∙ sym (text_after-none (line_rest newline next (stack_of (widths_of before)) (brackets_behind before) false words))) there)
