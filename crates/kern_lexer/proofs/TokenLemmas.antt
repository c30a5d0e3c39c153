-- Lemmas on the tokens of a text: each lies within it and is of its form, and End is the last.
use Rattle.std.proofs.Common.{◌≡◌, ℕ, zero, suc, ◌+◌, ◌-◌, ◌<◌, ◌≤◌, ◌⊎◌, inl, inr, ◌∙◌, Bool, true, false, cond, List, [], ◌∷◌, ◌++◌, All, drop, length, replicate, Some, Result, Ok, Err, ap, refl, sym, subst, arith, nat_eq, nat_lt, append_assoc, length-append, length-drop, take-append-drop}
use Rattle.std.specs.List.{join_with_byte, position_or_len}
use Rattle.std.proofs.lemmas.Bool.{cond_both}
use Rattle.std.proofs.lemmas.List.{drop-drop, drop_at, map_push}
use Rattle.std.proofs.lemmas.List.Elements.{All-nil, All-cons, All-append, All-map, All-replicate}
use Rattle.std.proofs.lemmas.List.Splits.{join_with_byte-slice_split}
use Rattle.std.proofs.lemmas.List.Sums.{prefix_len-le-length}
use Rattle.std.proofs.lemmas.Result.{IfOk-at_ok}
use Rattle.kern_lexer.specs.Brackets.{open_behind}
use Rattle.kern_lexer.specs.Bytes.{Bytes}
use Rattle.kern_lexer.specs.Faults.{LexFault, ◌>>=◌, placed}
use Rattle.kern_lexer.specs.Fronts.{front_of, bytes_of, begins_token}
use Rattle.kern_lexer.specs.Lines.{lines_of, without_return, without_comment}
use Rattle.kern_lexer.specs.Margins.{Margin, leading_spaces, margin, unmarked, closed_down_to, top_of}
use Rattle.kern_lexer.specs.Spelled.{IsInner, IsInnerToken, EndsOnce}
use Rattle.kern_lexer.specs.Symbols.{symbol_of}
use Rattle.kern_lexer.specs.Tokens.{Left, LineTokens, marks_at, margin_of, margin_or_fault, newline_after, line_tokens, ended_line, last_line, end_tokens, tokens_from, tokens_of}
use Rattle.kern_lexer.specs.Words.{tokens_at, words_from}
use Rattle.kern_lexer.specs.declared.front.Front.{Front}
use Rattle.kern_lexer.specs.declared.front.Front.TheVariants as R
use Rattle.kern_lexer.specs.declared.layout.Bracket.{Bracket}
use Rattle.kern_lexer.specs.declared.token.Token.{Token}
use Rattle.kern_lexer.specs.declared.token.TokenKind.{TokenKind}
use Rattle.kern_lexer.specs.declared.token.TokenKind.TheVariants as T
use Rattle.kern_lexer.proofs.FrontLemmas.{IsWithin, front-is_within}
use Rattle.kern_lexer.proofs.SpellingLemmas.{IsSpelled, front-spelled, symbol-at}
use Rattle.kern_lexer.proofs.TextLemmas.{return-shorter, comment-shorter}

-- an answer has one value
pub ok-same : {A : Type 0} (r : Result A LexFault) (x y : A) → r ≡ Ok x → r ≡ Ok y → x ≡ y
ok-same r x y a b = cc

-- what both steps gave
pub record Steps {A B : Type 0} (first : Result A LexFault) (next : A → Result B LexFault) (given : B) : Type 0 where
  pub value : A
  pub is : first ≡ Ok value
  pub then : next value ≡ Ok given

pub steps-ok : {A B : Type 0} (first : Result A LexFault) (next : A → Result B LexFault) (given : B)
    → first >>= next ≡ Ok given → Steps first next given
steps-ok (Ok x) next given e = record { value = x; is = refl; then = e }
steps-ok (Err fault) next given e = absurd cc

-- a token of a front is of its form, wherever its bytes stand
front-inner : (text bytes more : Bytes) (line at : ℕ) (front : Front) → bytes ++ more ≡ drop at text
    → 0 < length bytes → at + length bytes ≤ length text → front_of bytes ≡ Ok front
    → All (IsInnerToken text) (tokens_at line at front)
front-inner text bytes more line at R.Space is some below e = All-nil (IsInnerToken text)
front-inner text bytes more line at (R.Token kind len) is some below e =
    let within : IsWithin (length bytes) (R.Token kind len) = front-is_within bytes (R.Token kind len) some e in
    let spelled : IsInner (symbol_of bytes 0 len kind) = IfOk-at_ok (IsSpelled bytes) e (front-spelled bytes) in
    let same : symbol_of text at len kind ≡ symbol_of bytes 0 len kind =
    symbol-at text bytes more at len kind is within.some within.within in
    All-cons (IsInnerToken text) (record { kind = kind; at = at; len = len; line = line }) []
    (record { within = omega (arith, within.within); inner = subst IsInner (sym same) spelled }) (All-nil (IsInnerToken text))

-- each token of a line's bytes is of its form
words-inner : (text bytes more : Bytes) (line at taken : ℕ) (own : List Token) → bytes ++ more ≡ drop at text
    → at + length bytes ≤ length text → words_from line at taken bytes ≡ Ok own → All (IsInnerToken text) own
words-inner text [] more line at taken own is below e =
    let none : [] ≡ own = cc in subst (All (IsInnerToken text)) none (All-nil (IsInnerToken text))
words-inner text (b ∷ rest) more line at (suc taken) own is below e =
    let next : rest ++ more ≡ drop (suc at) text = ap (drop 1) is ∙ drop-drop 1 at text
    ∙ ap (λ n. drop n text) (next_place at) in
    words-inner text rest more line (suc at) taken own next (omega arith) e
  where
    next_place : (at : ℕ) → at + 1 ≡ suc at
    next_place at = omega arith
words-inner text (b ∷ rest) more line at zero own is below e =
    let first = steps-ok (placed at (front_of (b ∷ rest))) _ own e in
    let second = steps-ok (words_from line (suc at) (bytes_of first.value - 1) rest) _ own first.then in
    let next : rest ++ more ≡ drop (suc at) text = ap (drop 1) is ∙ drop-drop 1 at text
    ∙ ap (λ n. drop n text) (next_place at) in
    let others : All (IsInnerToken text) second.value =
    words-inner text rest more line (suc at) (bytes_of first.value - 1) second.value next (omega arith) second.is in
    let here : All (IsInnerToken text) (tokens_at line at first.value) =
    front-inner text (b ∷ rest) more line at first.value is (omega arith) below (unplaced at (front_of (b ∷ rest)) first.value first.is) in
    let whole : tokens_at line at first.value ++ second.value ≡ own = ok-same _ _ _ refl second.then in
    subst (All (IsInnerToken text)) whole (All-append (IsInnerToken text) (tokens_at line at first.value) second.value here others)
  where
    next_place : (at : ℕ) → at + 1 ≡ suc at
    next_place at = omega arith

    unplaced : (at : ℕ) (r : Result Front _) (front : Front) → placed at r ≡ Ok front → r ≡ Ok front
    unplaced at (Ok x) front e = let s : x ≡ front = cc in ap Ok s
    unplaced at (Err kind) front e = absurd cc

-- a mark's kind
abbrev IsMark : TokenKind → Type 0
IsMark kind = (kind ≡ T.Indent) ⊎ (kind ≡ T.Dedent)

mark-inner : (text : Bytes) (at : ℕ) (kind : TokenKind) → IsMark kind → IsInner (symbol_of text at 0 kind)
mark-inner text at kind mark =
    elim mark as (λ _. IsInner (symbol_of text at 0 kind)) [ inl e ↦ rw e tt | inr e ↦ rw e tt ]

-- marks are of their form
marks-inner : (text : Bytes) (line at : ℕ) (kinds : List TokenKind) → at ≤ length text → All IsMark kinds
    → All (IsInnerToken text) (marks_at line at kinds)
marks-inner text line at kinds within marks =
    All-map (IsInnerToken text) (λ kind. record { kind = kind; at = at; len = 0; line = line }) kinds
    (λ k d l. record { within = omega arith; inner = mark-inner text at _ (marks k d l) })

-- a margin's marks are marks
margin-marks : (at : ℕ) (widths : List ℕ) (width : ℕ) (m : Margin)
    → margin_or_fault at (margin widths width) ≡ Ok m → All IsMark m.marks
margin-marks at widths width m =
    cond_both (nat_lt (top_of widths) width) _ _ (λ r. margin_or_fault at r ≡ Ok m → All IsMark m.marks)
    (λ _ e. marked _ e (All-cons IsMark T.Indent [] (inl refl) (All-nil IsMark)))
    (λ _. cond_both (nat_eq (top_of (closed_down_to width widths)) width) _ _ (λ r. margin_or_fault at r ≡ Ok m → All IsMark m.marks)
    (λ _ e. marked _ e (All-replicate IsMark _ T.Dedent (inr refl)))
    (λ _ e. absurd cc))
  where
    marked : (given : Margin) → Ok given ≡ margin_or_fault at (Some m) → All IsMark given.marks
        → All IsMark m.marks
    marked given e marks = subst (λ (g : Margin). All IsMark g.marks) (ok-same _ given m refl e) marks

none-marked : (widths : List ℕ) (m : Margin) → Ok (unmarked widths) ≡ margin_or_fault 0 (Some m)
    → All IsMark m.marks
none-marked widths m e =
    subst (λ (g : Margin). All IsMark g.marks) (ok-same _ (unmarked widths) m refl e) (All-nil IsMark)

line-marks : (brackets : List Bracket) (widths : List ℕ) (at : ℕ) (code : Bytes) (m : Margin)
    → margin_of brackets widths at code ≡ Ok m → All IsMark m.marks
line-marks [] widths at code m =
    cond_both (begins_token (drop (leading_spaces code) code)) _ _ (λ r. r ≡ Ok m → All IsMark m.marks)
    (λ _. margin-marks (at + leading_spaces code) widths (leading_spaces code) m)
    (λ _ e. none-marked widths m e)
line-marks (b ∷ more) widths at code m = none-marked widths m

-- a line's Newline is of its form
newline-inner : (text : Bytes) (own : List Token) (brackets : List Bracket) (newline : Token)
    → IsInnerToken text newline → All (IsInnerToken text) (newline_after own brackets newline)
newline-inner text [] brackets newline inner = All-nil (IsInnerToken text)
newline-inner text (t ∷ own) [] newline inner =
    All-cons (IsInnerToken text) newline [] inner (All-nil (IsInnerToken text))
newline-inner text (t ∷ own) (b ∷ brackets) newline inner = All-nil (IsInnerToken text)

-- each token of a line is of its form
line-inner : (text code more : Bytes) (left : Left) (line at : ℕ) (newline : Token) (found : LineTokens)
    → code ++ more ≡ drop at text → at + length code ≤ length text → IsInnerToken text newline
    → line_tokens left line at code newline ≡ Ok found → All (IsInnerToken text) found.tokens
line-inner text code more left line at newline found is below ending e =
    let first = steps-ok (margin_of left.brackets left.widths at code) _ found e in
    let second = steps-ok (words_from line at 0 code) _ found first.then in
    let own : List Token = second.value in
    let marks : List Token = marks_at line (at + leading_spaces code) (first.value).marks in
    let closing : List Token = newline_after own (open_behind left.brackets own) newline in
    let width : leading_spaces code ≤ length code = prefix_len-le-length (λ b. nat_eq b 32) code in
    let marked : All (IsInnerToken text) marks =
    marks-inner text line (at + leading_spaces code) (first.value).marks (omega (arith, width)) (line-marks left.brackets left.widths at code first.value first.is) in
    let words : All (IsInnerToken text) own = words-inner text code more line at 0 own is below second.is in
    let ended : All (IsInnerToken text) closing =
    newline-inner text own (open_behind left.brackets own) newline ending in
    let same : record {
      tokens =
          marks ++ own ++ closing;
      left = record { widths = (first.value).widths; brackets = open_behind left.brackets own };
    } ≡ found = ok-same _ _ _ refl second.then in
    subst (λ (l : LineTokens). All (IsInnerToken text) l.tokens) same (All-append (IsInnerToken text) (marks ++ own) closing (All-append (IsInnerToken text) marks own marked words) ended)

-- a line without its carriage return is the front of it
return-front : (line : Bytes) → (more : Bytes) × (without_return line ++ more ≡ line)
return-front [] = ([], refl)
return-front (b ∷ []) = at_last (nat_eq b 13)
  where
    at_last : (t : Bool) → (more : Bytes) × (cond t [] (b ∷ []) ++ more ≡ b ∷ [])
    at_last true = (b ∷ [], refl)
    at_last false = ([], refl)
return-front (b ∷ c ∷ rest) = let later = return-front (c ∷ rest) in (later.0, ap (λ bytes. b ∷ bytes) later.1)

-- so is a line without its comment
comment-front : (line : Bytes)
    → without_comment line ++ drop (position_or_len (λ b. nat_eq b 35) line) line ≡ line
comment-front line = take-append-drop (position_or_len (λ b. nat_eq b 35) line) line

-- each token of a line that a line feed ends is of its form
ended-inner : (text first tail : Bytes) (left : Left) (line at : ℕ) (found : LineTokens)
    → first ++ tail ≡ drop at text → at + length first + 1 ≤ length text
    → ended_line left line at first ≡ Ok found → All (IsInnerToken text) found.tokens
ended-inner text first tail left line at found is below e =
    let returned = return-front first in
    let kept : Bytes = without_return first in
    let cut : Bytes = drop (position_or_len (λ b. nat_eq b 35) kept) kept in
    let whole : without_comment kept ++ (cut ++ (returned.0 ++ tail)) ≡ drop at text =
    sym (append_assoc (without_comment kept) cut (returned.0 ++ tail))
    ∙ ap (λ bytes. bytes ++ (returned.0 ++ tail)) (comment-front kept)
    ∙ sym (append_assoc kept (returned.0) tail) ∙ ap (λ bytes. bytes ++ tail) returned.1 ∙ is in
    line-inner text (without_comment kept) (cut ++ (returned.0 ++ tail)) left line at (record { kind = T.Newline; at = at + length first; len = 1; line = line }) found whole
    (omega (arith, return-shorter first, comment-shorter kept)) (record { within = omega arith; inner = tt }) e

-- so is each of the last line
last-inner : (text last : Bytes) (left : Left) (line at : ℕ) (found : LineTokens) → last ≡ drop at text
    → at + length last ≤ length text → last_line left line at last ≡ Ok found
    → All (IsInnerToken text) found.tokens
last-inner text last left line at found is below e =
    line-inner text (without_comment last) (drop (position_or_len (λ b. nat_eq b 35) last) last) left line at (record { kind = T.Newline; at = at + length last; len = 0; line = line }) found (comment-front last ∙ is)
    (omega (arith, comment-shorter last)) (record { within = omega arith; inner = tt }) e

-- the Dedents and the End behind tokens of their form
end-once : (text : Bytes) (front : List Token) (left : Left) (line at : ℕ) → at ≡ length text
    → All (IsInnerToken text) front → EndsOnce text (front ++ end_tokens left line at)
end-once text front left line at here each =
    let mark : TokenKind → Token = λ kind. record { kind = kind; at = at; len = 0; line = line } in
    let dedents : List TokenKind = replicate (length left.widths) T.Dedent in
    let inner : All (IsInnerToken text) (marks_at line at dedents) =
    marks-inner text line at dedents (omega arith) (All-replicate IsMark (length left.widths) T.Dedent (inr refl)) in
    record {
      before = front ++ marks_at line at dedents;
      last = record { kind = T.End; at = at; len = 0; line = line };
      whole = ap (λ ts. front ++ ts) (map_push mark dedents T.End)
          ∙ sym (append_assoc front (marks_at line at dedents) _);
      each = All-append (IsInnerToken text) front (marks_at line at dedents) each inner;
      ends = record { kind = refl; at = here; len = refl };
    }

-- tokens of their form before some that end once
once-more : (text : Bytes) (front others : List Token) → All (IsInnerToken text) front → EndsOnce text others
    → EndsOnce text (front ++ others)
once-more text front others each once = record {
  before = front ++ once.before;
  last = once.last;
  whole = ap (λ ts. front ++ ts) once.whole ∙ sym (append_assoc front once.before (once.last ∷ []));
  each = All-append (IsInnerToken text) front once.before each once.each;
  ends = once.ends;
}

-- the tokens of the lines of a text end once
lines-once : (text : Bytes) (left : Left) (line at : ℕ) (lines : List Bytes) (tokens : List Token)
    → join_with_byte 10 lines ≡ drop at text → at ≤ length text → tokens_from left line at lines ≡ Ok tokens
    → EndsOnce text tokens
lines-once text left line at [] tokens is within e =
    let here : at ≡ length text = omega (arith, ap length is, length-drop at text) in
    subst (EndsOnce text) (ok-same _ _ _ refl e) (end-once text [] left line at here (All-nil (IsInnerToken text)))
lines-once text left line at (last ∷ []) tokens is within e =
    let read = steps-ok (last_line left line at last) _ tokens e in
    let here : at + length last ≡ length text = omega (arith, ap length is, length-drop at text) in
    let inner : All (IsInnerToken text) (read.value).tokens =
    last-inner text last left line at read.value is (omega arith) read.is in
    subst (EndsOnce text) (ok-same _ _ _ refl read.then) (end-once text (read.value).tokens (read.value).left line (at + length last) here inner)
lines-once text left line at (first ∷ next ∷ rest) tokens is within e =
    let read = steps-ok (ended_line left line at first) _ tokens e in
    let later = steps-ok (tokens_from (read.value).left (suc line) (suc (at + length first)) (next ∷ rest)) _ tokens read.then in
    let following : Bytes = join_with_byte 10 (next ∷ rest) in
    let long : length first + (1 + length following) ≡ length text - at =
    sym (length-append first (10 ∷ following) ∙ ap (λ n. length first + n) (one_more (length following)))
    ∙ ap length is ∙ length-drop at text in
    let below : at + length first + 1 ≤ length text = omega (arith, long) in
    let inner : All (IsInnerToken text) (read.value).tokens =
    ended-inner text first (10 ∷ following) left line at read.value is below read.is in
    let behind : following ≡ drop (suc (at + length first)) text =
    ap (drop 1) (sym (drop_at first (10 ∷ following) (length first) refl) ∙ ap (drop (length first)) is ∙ drop-drop (length first) at text)
    ∙ drop-drop 1 (at + length first) text ∙ ap (λ n. drop n text) (one_behind (at + length first)) in
    let once : EndsOnce text later.value =
    lines-once text (read.value).left (suc line) (suc (at + length first)) (next ∷ rest) later.value behind (omega arith) later.is in
    subst (EndsOnce text) (ok-same _ _ _ refl later.then) (once-more text (read.value).tokens later.value inner once)
  where
    one_more : (n : ℕ) → suc n ≡ 1 + n
    one_more n = omega arith

    one_behind : (n : ℕ) → n + 1 ≡ suc n
    one_behind n = omega arith

-- the tokens of a text end once
pub text-once : (text : Bytes) (tokens : List Token) → tokens_of text ≡ Ok tokens → EndsOnce text tokens
unfolding tokens_of
text-once text tokens e =
    lines-once text (record { widths = []; brackets = [] }) 1 0 (lines_of text) tokens (join_with_byte-slice_split 10 text) (omega arith) e
