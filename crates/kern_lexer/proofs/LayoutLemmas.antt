-- Lemmas on where pieces stand: what one more piece changes.
use Rattle.std.proofs.Common.{◌≡◌, ◌+◌, ◌∙◌, ◌++◌, Bool, true, false, cond, not, List, [], ◌∷◌, length, reverse, ap, refl, sym, arith, append_assoc, append-nil, length-append, count_by}
use Rattle.std.specs.List.{take_while}
use Rattle.std.proofs.lemmas.Grind.{flat_map-append}
use Rattle.std.proofs.lemmas.List.{reverse-append}
use Rattle.std.proofs.lemmas.List.Sums.{fold-append, sum_by-append, take_while-cons}
use Rattle.kern_lexer.specs.Layouts.{place_behind, line_behind, open_by, brackets_behind, this_line, is_first_word, made_behind, width_made, widths_of, has_right_width}
use Rattle.kern_lexer.specs.Pieces.{Piece, bytes_of_piece, bytes_of_pieces, is_line_end}

-- one more piece, and those behind it
pub one-more : (before : List Piece) (p : Piece) (pieces : List Piece) → (before ++ p ∷ []) ++ pieces ≡ before ++ p ∷ pieces
one-more before p pieces = append_assoc before (p ∷ []) pieces

pub place-more : (before : List Piece) (p : Piece)
    → place_behind (before ++ p ∷ []) ≡ place_behind before + length (bytes_of_piece p)
place-more before p =
    ap length (flat_map-append bytes_of_piece before (p ∷ []))
    ∙ length-append (bytes_of_pieces before) (bytes_of_piece p ++ [])
    ∙ ap (λ bytes. place_behind before + length bytes) (append-nil (bytes_of_piece p))

pub line-more : (before : List Piece) (p : Piece)
    → line_behind (before ++ p ∷ []) ≡ line_behind before + cond (is_line_end p) 1 0
line-more before p =
    let more : count_by is_line_end (before ++ p ∷ []) ≡ count_by is_line_end before + (0 + cond (is_line_end p) 1 0) =
    sum_by-append (λ q. cond (is_line_end q) 1 0) before (p ∷ []) in
    omega (arith, more)

pub brackets-more : (before : List Piece) (p : Piece)
    → brackets_behind (before ++ p ∷ []) ≡ open_by (brackets_behind before) p
brackets-more before p = fold-append open_by [] before (p ∷ [])

-- the line goes on, or a new one begins
pub this_line-more : (before : List Piece) (p : Piece)
    → this_line (before ++ p ∷ []) ≡ cond (is_line_end p) [] (this_line before ++ p ∷ [])
this_line-more before p =
    ap (λ ps. reverse (take_while goes_on ps)) (reverse-append before (p ∷ []))
    ∙ ap reverse (take_while-cons goes_on p (reverse before)) ∙ turned (is_line_end p)
  where
    goes_on : Piece → Bool
    goes_on q = not (is_line_end q)

    turned : (b : Bool) → reverse (cond (not b) (p ∷ take_while goes_on (reverse before)) []) ≡ cond b [] (this_line before ++ p ∷ [])
    turned true = refl
    turned false = reverse-append (p ∷ []) (take_while goes_on (reverse before))

pub made-append : {A : Type 0} (make : List Piece → Piece → List A) (before pieces more : List Piece)
    → made_behind make before (pieces ++ more) ≡ made_behind make before pieces ++ made_behind make (before ++ pieces) more
made-append make before [] more = ap (λ ps. made_behind make ps more) (sym (append-nil before))
made-append make before (p ∷ pieces) more =
    ap (λ made. make before p ++ made) (made-append make (before ++ p ∷ []) pieces more
    ∙ ap (λ ps. made_behind make (before ++ p ∷ []) pieces ++ made_behind make ps more) (one-more before p pieces))
    ∙ sym (append_assoc (make before p) (made_behind make (before ++ p ∷ []) pieces) (made_behind make (before ++ p ∷ pieces) more))

pub widths-more : (before : List Piece) (p : Piece)
    → widths_of (before ++ p ∷ []) ≡ widths_of before ++ width_made before p
widths-more before p =
    made-append width_made [] before (p ∷ [])
    ∙ ap (λ widths. widths_of before ++ widths) (append-nil (width_made before p))

-- where a word wouldn't be a first one, no width is wrong
pub right-within : (before : List Piece) → is_first_word before ≡ false → has_right_width before ≡ true
right-within before within = rw within refl
