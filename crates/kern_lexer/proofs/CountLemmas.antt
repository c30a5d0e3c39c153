-- Lemmas on how many tokens a text has.
use Rattle.std.proofs.Common.{◌≡◌, ℕ, zero, suc, ◌+◌, ◌-◌, ◌*◌, ◌<◌, ◌≤◌, ◌∙◌, Bool, true, false, List, [], ◌∷◌, ◌++◌, drop, length, replicate, Some, Ok, ap, refl, sym, subst, arith, nat_eq, nat_lt, length-append}
use Rattle.std.specs.List.{join_with_byte}
use Rattle.std.proofs.lemmas.Bool.{cond_both, ltb-true}
use Rattle.std.proofs.lemmas.List.{length-map, length-replicate}
use Rattle.std.proofs.lemmas.List.Splits.{join_with_byte-slice_split}
use Rattle.kern_lexer.specs.Brackets.{open_behind}
use Rattle.kern_lexer.specs.Bytes.{Bytes, space}
use Rattle.kern_lexer.specs.Faults.{◌>>=◌, placed}
use Rattle.kern_lexer.specs.Fronts.{front_of, bytes_of, begins_token}
use Rattle.kern_lexer.specs.Lines.{lines_of, without_return, without_comment}
use Rattle.kern_lexer.specs.Margins.{Margin, leading_spaces, margin, unmarked, closed_down_to, top_of}
use Rattle.kern_lexer.specs.Tokens.{Left, LineTokens, marks_at, margin_of, margin_or_fault, newline_after, line_tokens, ended_line, last_line, end_tokens, tokens_from, tokens_of}
use Rattle.kern_lexer.specs.Words.{tokens_at, words_from}
use Rattle.kern_lexer.specs.declared.front.Front.{Front}
use Rattle.kern_lexer.specs.declared.front.Front.TheVariants as R
use Rattle.kern_lexer.specs.declared.layout.Bracket.{Bracket}
use Rattle.kern_lexer.specs.declared.token.Token.{Token}
use Rattle.kern_lexer.specs.declared.token.TokenKind.TheVariants as T
use Rattle.kern_lexer.proofs.TextLemmas.{return-shorter, comment-shorter}
use Rattle.kern_lexer.proofs.TokenLemmas.{ok-same, steps-ok}

-- a front makes at most one token
front-few : (line at : ℕ) (front : Front) → length (tokens_at line at front) ≤ 1
front-few line at R.Space = omega arith
front-few line at (R.Token kind len) = omega arith

-- some bytes make no more tokens than they are
words-few : (line at taken : ℕ) (bytes : Bytes) (own : List Token) → words_from line at taken bytes ≡ Ok own
    → length own ≤ length bytes
words-few line at taken [] own e = let none : [] ≡ own = ok-same _ _ _ refl e in omega (arith, ap length (sym none))
words-few line at (suc taken) (b ∷ rest) own e = omega (arith, words-few line (suc at) taken rest own e)
words-few line at zero (b ∷ rest) own e =
    let first = steps-ok (placed at (front_of (b ∷ rest))) _ own e in
    let second = steps-ok (words_from line (suc at) (bytes_of first.value - 1) rest) _ own first.then in
    let whole : tokens_at line at first.value ++ second.value ≡ own = ok-same _ _ _ refl second.then in
    let count : length (tokens_at line at first.value) + length second.value ≡ length own =
    sym (length-append (tokens_at line at first.value) second.value)
    ∙ ap length whole in
    let fewer : length second.value ≤ length rest =
    words-few line (suc at) (bytes_of first.value - 1) rest second.value second.is in
    omega (arith, front-few line at first.value, fewer, count)

-- and the spaces in front of them make none
line-few : (line at : ℕ) (code : Bytes) (own : List Token) → words_from line at 0 code ≡ Ok own
    → length own + leading_spaces code ≤ length code
line-few line at [] own e = let none : [] ≡ own = ok-same _ _ _ refl e in omega (arith, ap length (sym none))
line-few line at (b ∷ rest) own e = at_first (nat_eq b space) refl (line-few line (suc at) rest)
  where
    at_first : (t : Bool) → nat_eq b space ≡ t
        → ((others : List Token) → words_from line (suc at) 0 rest ≡ Ok others → length others + leading_spaces rest ≤ length rest)
        → length own + leading_spaces (b ∷ rest) ≤ length (b ∷ rest)
    at_first true is later =
        let front : front_of (b ∷ rest) ≡ Ok R.Space = rw is refl in
        let width : leading_spaces (b ∷ rest) ≡ 1 + leading_spaces rest = rw is refl in
        let steps : words_from line at 0 (b ∷ rest) ≡ words_from line (suc at) 0 rest >>= (λ others. Ok ([] ++ others)) =
        rw front refl in
        let second = steps-ok (words_from line (suc at) 0 rest) (λ others. Ok ([] ++ others)) own (sym steps ∙ e) in
        let same : second.value ≡ own = ok-same _ _ _ refl second.then in
        omega (arith, width, later second.value second.is, ap length same)
    at_first false is later =
        let width : leading_spaces (b ∷ rest) ≡ 0 = rw is refl in
        omega (arith, width, words-few line at 0 (b ∷ rest) own e)

-- a line has at most one Newline, and none without words
newline-few : (own : List Token) (brackets : List Bracket) (newline : Token)
    → length (newline_after own brackets newline) ≤ length own
newline-few [] brackets newline = omega arith
newline-few (t ∷ own) [] newline = omega arith
newline-few (t ∷ own) (b ∷ brackets) newline = omega arith

-- closing widths leaves no more
closed-fewer : (width : ℕ) (widths : List ℕ) → length (closed_down_to width widths) ≤ length widths
closed-fewer width [] = omega arith
closed-fewer width (w ∷ widths) =
    cond_both (nat_lt width w) _ _ (λ (ws : List ℕ). length ws ≤ suc (length widths)) (λ _. omega (arith, closed-fewer width widths)) (λ _. omega arith)

-- marks and the widths that are open behind them, against those before and the spaces
abbrev pub IsPaid : (widths : List ℕ) (width : ℕ) → Margin → Type 0
IsPaid widths width m = length m.marks + length m.widths ≤ length widths + 2 * width

margin-paid : (at : ℕ) (widths : List ℕ) (width : ℕ) (m : Margin)
    → margin_or_fault at (margin widths width) ≡ Ok m → IsPaid widths width m
margin-paid at widths width m =
    cond_both (nat_lt (top_of widths) width) _ _ (λ r. margin_or_fault at r ≡ Ok m → IsPaid widths width m)
    (λ above e. subst (IsPaid widths width) (ok-same _ (record { marks = T.Indent ∷ []; widths = width ∷ widths }) m refl e) (opened (ltb-true (top_of widths) width above)))
    (λ _. cond_both (nat_eq (top_of (closed_down_to width widths)) width) _ _ (λ r. margin_or_fault at r ≡ Ok m → IsPaid widths width m)
    (λ _ e. subst (IsPaid widths width) (ok-same _ (record { marks = replicate (length widths - length (closed_down_to width widths)) T.Dedent; widths = closed_down_to width widths }) m refl e) closed)
    (λ _ e. absurd cc))
  where
    opened : top_of widths < width → 1 + suc (length widths) ≤ length widths + 2 * width
    opened above = omega arith

    closed : length (replicate (length widths - length (closed_down_to width widths)) T.Dedent) + length (closed_down_to width widths) ≤ length widths + 2 * width
    closed = omega (arith, closed-fewer width widths, length-replicate (length widths - length (closed_down_to width widths)) T.Dedent)

unmarked-paid : (widths : List ℕ) (width : ℕ) (m : Margin) → Ok (unmarked widths) ≡ margin_or_fault 0 (Some m)
    → IsPaid widths width m
unmarked-paid widths width m e = subst (IsPaid widths width) (ok-same _ (unmarked widths) m refl e) here
  where
    here : 0 + length widths ≤ length widths + 2 * width
    here = omega arith

line-paid : (brackets : List Bracket) (widths : List ℕ) (at : ℕ) (code : Bytes) (m : Margin)
    → margin_of brackets widths at code ≡ Ok m → IsPaid widths (leading_spaces code) m
line-paid [] widths at code m =
    cond_both (begins_token (drop (leading_spaces code) code)) _ _ (λ r. r ≡ Ok m → IsPaid widths (leading_spaces code) m)
    (λ _. margin-paid (at + leading_spaces code) widths (leading_spaces code) m)
    (λ _. unmarked-paid widths (leading_spaces code) m)
line-paid (b ∷ more) widths at code m = unmarked-paid widths (leading_spaces code) m

-- a line's tokens and the widths that are open behind it
line-count : (left : Left) (line at : ℕ) (code : Bytes) (newline : Token) (found : LineTokens)
    → line_tokens left line at code newline ≡ Ok found
    → length found.tokens + length (found.left).widths ≤ length left.widths + 2 * length code
line-count left line at code newline found e =
    let first = steps-ok (margin_of left.brackets left.widths at code) _ found e in
    let second = steps-ok (words_from line at 0 code) _ found first.then in
    let own : List Token = second.value in
    let m : Margin = first.value in
    let marks : List Token = marks_at line (at + leading_spaces code) m.marks in
    let closing : List Token = newline_after own (open_behind left.brackets own) newline in
    let made : LineTokens =
    record { tokens = marks ++ own ++ closing; left = record { widths = m.widths; brackets = open_behind left.brackets own } } in
    let same : made ≡ found = ok-same _ _ _ refl second.then in
    let marked : length marks ≡ length m.marks = length-map m.marks _ in
    let tokens : length (marks ++ own ++ closing) ≡ length marks + length own + length closing =
    length-append (marks ++ own) closing
    ∙ ap (λ n. n + length closing) (length-append marks own) in
    let paid : length m.marks + length m.widths ≤ length left.widths + 2 * leading_spaces code =
    line-paid left.brackets left.widths at code m first.is in
    let few : length own + leading_spaces code ≤ length code = line-few line at code own second.is in
    let ending : length closing ≤ length own = newline-few own (open_behind left.brackets own) newline in
    let count : length (marks ++ own ++ closing) + length m.widths ≤ length left.widths + 2 * length code =
    omega (arith, marked, tokens, paid, few, ending) in
    subst (λ (l : LineTokens). length l.tokens + length (l.left).widths ≤ length left.widths + 2 * length code) same count

-- the Dedents and the End
end-count : (left : Left) (line at : ℕ) → length (end_tokens left line at) ≡ length left.widths + 1
end-count left line at = length-map (replicate (length left.widths) T.Dedent ++ T.End ∷ []) _
    ∙ length-append (replicate (length left.widths) T.Dedent) (T.End ∷ [])
    ∙ ap (λ n. n + 1) (length-replicate (length left.widths) T.Dedent)

-- the tokens of lines
lines-count : (left : Left) (line at : ℕ) (lines : List Bytes) (tokens : List Token)
    → tokens_from left line at lines ≡ Ok tokens
    → length tokens ≤ length left.widths + 2 * length (join_with_byte 10 lines) + 1
lines-count left line at [] tokens e =
    let same : end_tokens left line at ≡ tokens = ok-same _ _ _ refl e in omega (arith, ap length same, end-count left line at)
lines-count left line at (last ∷ []) tokens e =
    let read = steps-ok (last_line left line at last) _ tokens e in
    let same : (read.value).tokens ++ end_tokens (read.value).left line (at + length last) ≡ tokens =
    ok-same _ _ _ refl read.then in
    let count = line-count left line at (without_comment last) _ read.value read.is in
    omega (arith, ap length same, length-append (read.value).tokens (end_tokens (read.value).left line (at + length last)), end-count (read.value).left line (at + length last), count, comment-shorter last)
lines-count left line at (first ∷ next ∷ rest) tokens e =
    let read = steps-ok (ended_line left line at first) _ tokens e in
    let later = steps-ok (tokens_from (read.value).left (suc line) (suc (at + length first)) (next ∷ rest)) _ tokens read.then in
    let same : (read.value).tokens ++ later.value ≡ tokens = ok-same _ _ _ refl later.then in
    let count = line-count left line at (without_comment (without_return first)) _ read.value read.is in
    let others = lines-count (read.value).left (suc line) (suc (at + length first)) (next ∷ rest) later.value later.is in
    let long : length (first ++ 10 ∷ join_with_byte 10 (next ∷ rest)) ≡ length first + suc (length (join_with_byte 10 (next ∷ rest))) =
    length-append first (10 ∷ join_with_byte 10 (next ∷ rest)) in
    omega (arith, ap length same, length-append (read.value).tokens later.value, count, others, return-shorter first, comment-shorter (without_return first), long)

-- a text has at most two tokens a byte, and one more
pub text-count : (text : Bytes) (tokens : List Token) → tokens_of text ≡ Ok tokens
    → length tokens ≤ 2 * length text + 1
unfolding tokens_of
text-count text tokens e =
    omega (arith, lines-count (record { widths = []; brackets = [] }) 1 0 (lines_of text) tokens e, ap length (join_with_byte-slice_split 10 text))
