-- Lemmas on pieces that make no token, and on what a word and a line's end change.
use Rattle.std.proofs.Common.{◌≡◌, ℕ, suc, zero, ◌+◌, ◌∙◌, ◌++◌, ◌&&◌, ◌||◌, Bool, true, false, cond, List, [], ◌∷◌, length, replicate, ap, refl, sym, subst, arith, append_assoc, append-nil, length-append, nat_eq, Result}
use Rattle.std.specs.List.{list_all, list_any}
use Rattle.std.proofs.lemmas.Bool.{and_parts, and_right, or_right}
use Rattle.std.proofs.lemmas.Grind.{flat_map-append}
use Rattle.std.proofs.lemmas.List.Folds.{list_all-append, list_any-append}
use Rattle.kern_lexer.specs.Bytes.{Bytes, space}
use Rattle.kern_lexer.specs.Cuts.{EachStands}
use Rattle.kern_lexer.specs.Faults.{LexFault}
use Rattle.kern_lexer.specs.Layouts.{place_behind, line_behind, open_by, brackets_behind, is_outside, this_line, is_first_word, width_made, widths_of}
use Rattle.kern_lexer.specs.Pieces.{Piece, blank, skipped_return, comment, line_end, word, bytes_of_piece, bytes_of_pieces, is_blank, is_line_end, is_word}
use Rattle.kern_lexer.specs.declared.token.Token.{Token}
use Rattle.kern_lexer.specs.declared.token.TokenKind.{TokenKind}
use Rattle.kern_lexer.proofs.LayoutLemmas.{one-more, line-more, brackets-more, this_line-more, widths-more}
use Rattle.kern_lexer.proofs.LineCuts.{is_quiet}
use Rattle.kern_lexer.proofs.Reached.{IsReadBehind, read-more}
use Rattle.kern_lexer.proofs.TextLemmas.{text_after-none}

-- whether the line so far has a word
abbrev pub has_word : List Piece → Bool
has_word before = list_any is_word (this_line before)

-- the same line, brackets and widths behind some pieces as behind others, and words in this line or none
pub record SameLine (before after : List Piece) : Type 0 where
  pub line : line_behind after ≡ line_behind before
  pub brackets : brackets_behind after ≡ brackets_behind before
  pub widths : widths_of after ≡ widths_of before
  pub words : has_word after ≡ has_word before

same-again : (a b c : List Piece) → SameLine a b → SameLine b c → SameLine a c
same-again a b c first second = record {
  line = second.line ∙ first.line;
  brackets = second.brackets ∙ first.brackets;
  widths = second.widths ∙ first.widths;
  words = second.words ∙ first.words;
}

pub or_false : (t : Bool) → (t || false) ≡ t
or_false true = refl
or_false false = refl

and_true : (t : Bool) → (t && true) ≡ t
and_true true = refl
and_true false = refl

-- the line goes on with a piece that doesn't end it
pub line-goes_on : (before : List Piece) (p : Piece) → is_line_end p ≡ false
    → this_line (before ++ p ∷ []) ≡ this_line before ++ p ∷ []
line-goes_on before p inner = this_line-more before p ∙ rw inner refl

-- one more quiet piece
same-more : (before : List Piece) (q : Piece) → is_line_end q ≡ false → is_word q ≡ false
    → open_by (brackets_behind before) q ≡ brackets_behind before → width_made before q ≡ []
    → SameLine before (before ++ q ∷ [])
same-more before q inner no_word open_ones no_width = record {
  line = let more : line_behind (before ++ q ∷ []) ≡ line_behind before + cond (is_line_end q) 1 0 = line-more before q in
      let none : cond {A = ℕ} (is_line_end q) 1 0 ≡ 0 = rw inner refl in
      omega (arith, more, none);
  brackets = brackets-more before q ∙ open_ones;
  widths = widths-more before q ∙ ap (λ ws. widths_of before ++ ws) no_width ∙ append-nil (widths_of before);
  words = ap (list_any is_word) (line-goes_on before q inner) ∙ list_any-append is_word (this_line before) (q ∷ [])
      ∙ ap (λ t. has_word before || (t || false)) no_word ∙ or_false (has_word before);
}

pub quiet-more : (before : List Piece) (q : Piece) → is_quiet q ≡ true → SameLine before (before ++ q ∷ [])
quiet-more before blank quiet = same-more before blank refl refl refl refl
quiet-more before skipped_return quiet = same-more before skipped_return refl refl refl refl
quiet-more before (comment body) quiet = same-more before (comment body) refl refl refl refl
quiet-more before line_end quiet = absurd cc
quiet-more before (word kind bytes) quiet = absurd cc

-- and all of them
pub quiet-all : (before tail : List Piece) → list_all is_quiet tail ≡ true → SameLine before (before ++ tail)
quiet-all before [] quiet = subst (SameLine before) (sym (append-nil before)) (record { line = refl; brackets = refl; widths = refl; words = refl })
quiet-all before (q ∷ tail) quiet =
    let parts = and_parts (is_quiet q) (list_all is_quiet tail) quiet in
    subst (SameLine before) (one-more before q tail)
    (same-again before (before ++ q ∷ []) ((before ++ q ∷ []) ++ tail) (quiet-more before q parts.0) (quiet-all (before ++ q ∷ []) tail parts.1))

-- where some pieces end
pub place-all : (before pieces : List Piece)
    → place_behind (before ++ pieces) ≡ place_behind before + length (bytes_of_pieces pieces)
place-all before pieces =
    ap length (flat_map-append bytes_of_piece before pieces)
    ∙ length-append (bytes_of_pieces before) (bytes_of_pieces pieces)

-- what is read behind quiet pieces is read in front of them
read-quiet_one : (before : List Piece) (q : Piece) (following : Bytes) (read : Result (List Token) LexFault) (others : List Piece) (rest : Bytes)
    → is_quiet q ≡ true → EachStands (q ∷ others) rest → following ≡ bytes_of_pieces others ++ rest
    → IsReadBehind (before ++ q ∷ []) following read → IsReadBehind before (bytes_of_piece q ++ following) read
read-quiet_one before blank following read others rest quiet stands whole is =
    subst (IsReadBehind before (space ∷ following)) (text_after-none read) (read-more before blank following read tt tt is)
read-quiet_one before skipped_return following read others rest quiet stands whole is =
    subst (IsReadBehind before (bytes_of_piece skipped_return ++ following)) (text_after-none read) (read-more before skipped_return following read (rw whole (stands.0)) tt is)
read-quiet_one before (comment body) following read others rest quiet stands whole is =
    subst (IsReadBehind before (bytes_of_piece (comment body) ++ following)) (text_after-none read) (read-more before (comment body) following read (rw whole (stands.0)) tt is)
read-quiet_one before line_end following read others rest quiet stands whole is = absurd cc
read-quiet_one before (word kind bytes) following read others rest quiet stands whole is = absurd cc

pub read-quiet : (before tail : List Piece) (following : Bytes) (read : Result (List Token) LexFault)
    → list_all is_quiet tail ≡ true → EachStands tail following → IsReadBehind (before ++ tail) following read
    → IsReadBehind before (bytes_of_pieces tail ++ following) read
read-quiet before [] following read quiet stands is =
    subst (λ ps. IsReadBehind ps following read) (append-nil before) is
read-quiet before (q ∷ tail) following read quiet stands is =
    let parts = and_parts (is_quiet q) (list_all is_quiet tail) quiet in
    let there : IsReadBehind ((before ++ q ∷ []) ++ tail) following read =
    subst (λ ps. IsReadBehind ps following read) (sym (one-more before q tail)) is in
    subst (λ bytes. IsReadBehind before bytes read) (sym (append_assoc (bytes_of_piece q) (bytes_of_pieces tail) following))
    (read-quiet_one before q (bytes_of_pieces tail ++ following) read tail following parts.0 stands refl (read-quiet (before ++ q ∷ []) tail following read parts.1 stands.1 there))

-- a space doesn't change whether a word would be the first
pub blank-first : (before : List Piece) → is_first_word (before ++ blank ∷ []) ≡ is_first_word before
blank-first before =
    ap (λ bs. nat_eq (length bs) 0 && list_all is_blank (this_line (before ++ blank ∷ []))) (brackets-more before blank)
    ∙ ap (λ ps. is_outside before && list_all is_blank ps) (line-goes_on before blank refl)
    ∙ ap (λ t. is_outside before && t) (list_all-append is_blank (this_line before) (blank ∷ []) ∙ and_true (list_all is_blank (this_line before)))

-- behind a word no other is the first
pub word-second : (before : List Piece) (kind : TokenKind) (bytes : Bytes)
    → is_first_word (before ++ word kind bytes ∷ []) ≡ false
word-second before kind bytes =
    ap (λ ps. is_outside (before ++ word kind bytes ∷ []) && list_all is_blank ps) (line-goes_on before (word kind bytes) refl)
    ∙ ap (λ t. is_outside (before ++ word kind bytes ∷ []) && t) (list_all-append is_blank (this_line before) (word kind bytes ∷ []) ∙ and_right (list_all is_blank (this_line before)) false refl)
    ∙ and_right (is_outside (before ++ word kind bytes ∷ [])) false refl

pub word-there : (before : List Piece) (kind : TokenKind) (bytes : Bytes)
    → has_word (before ++ word kind bytes ∷ []) ≡ true
word-there before kind bytes =
    ap (list_any is_word) (line-goes_on before (word kind bytes) refl)
    ∙ list_any-append is_word (this_line before) (word kind bytes ∷ []) ∙ or_right (has_word before) true refl

-- a word's line
pub word-line : (before : List Piece) (kind : TokenKind) (bytes : Bytes)
    → line_behind (before ++ word kind bytes ∷ []) ≡ line_behind before
word-line before kind bytes =
    let more : line_behind (before ++ word kind bytes ∷ []) ≡ line_behind before + 0 = line-more before (word kind bytes) in
    omega (arith, more)

-- so many spaces
pub blanks-quiet : (n : ℕ) → list_all is_quiet (replicate n blank) ≡ true
blanks-quiet zero = refl
blanks-quiet (suc n) = blanks-quiet n

pub blanks-stand : (n : ℕ) (rest : Bytes) → EachStands (replicate n blank) rest
blanks-stand zero rest = tt
blanks-stand (suc n) rest = (tt, blanks-stand n rest)

pub blanks-all : (n : ℕ) → list_all is_blank (replicate n blank) ≡ true
blanks-all zero = refl
blanks-all (suc n) = blanks-all n

pub blanks-line : (n : ℕ) (before : List Piece) → this_line (before ++ replicate n blank) ≡ this_line before ++ replicate n blank
blanks-line zero before = ap this_line (append-nil before) ∙ sym (append-nil (this_line before))
blanks-line (suc n) before =
    ap this_line (sym (one-more before blank (replicate n blank)))
    ∙ blanks-line n (before ++ blank ∷ [])
    ∙ ap (λ ps. ps ++ replicate n blank) (line-goes_on before blank refl)
    ∙ one-more (this_line before) blank (replicate n blank)
