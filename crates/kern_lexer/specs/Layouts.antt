-- What holds behind some pieces: the place, the line, the open brackets, and the widths of the lines.
use Rattle.std.specs.Prelude.{ℕ, ◌+◌, List, [], ◌∷◌, ◌++◌, Bool, not, ◌&&◌, ◌||◌, ◌==◌, nat_lt}
use Rattle.std.specs.Prelude.{count_by, fold, length, reverse, take_while, if◌then◌else◌}
use Rattle.std.specs.List.{list_all, list_any}
use Rattle.kern_lexer.specs.Brackets.{open_after}
use Rattle.kern_lexer.specs.Pieces.{Piece, word, bytes_of_pieces, is_blank, is_line_end}
use Rattle.kern_lexer.specs.declared.layout.Bracket.{Bracket}

-- the place behind some pieces, in bytes
abbrev pub place_behind : List Piece → ℕ
place_behind before = length (bytes_of_pieces before)

-- the line behind some pieces, from 1
abbrev pub line_behind : List Piece → ℕ
line_behind before = 1 + count_by is_line_end before

-- the open brackets behind a piece
abbrev pub open_by : List Bracket → Piece → List Bracket
open_by open_ones (word kind bytes) = open_after open_ones kind
open_by open_ones piece = open_ones

-- the open brackets behind some pieces, the last first
abbrev pub brackets_behind : List Piece → List Bracket
brackets_behind before = fold open_by [] before

-- whether no bracket is open behind some pieces
abbrev pub is_outside : List Piece → Bool
is_outside before = length (brackets_behind before) == 0

-- the pieces of the line so far: those behind the last line's end
abbrev pub this_line : List Piece → List Piece
this_line before = reverse (take_while (λ p. not (is_line_end p)) (reverse before))

-- whether a word behind these pieces is the first of its line, and no bracket is open
abbrev pub is_first_word : List Piece → Bool
is_first_word before = is_outside before && list_all is_blank (this_line before)

-- the width that a first word gives its line: the spaces before it
abbrev pub width_behind : List Piece → ℕ
width_behind before = length (this_line before)

-- what each of some pieces makes by those before it, one after another
abbrev pub made_behind : {A : Type 0} → (List Piece → Piece → List A) → (before : List Piece) → List Piece → List A
made_behind make before [] = []
made_behind make before (p ∷ pieces) = make before p ++ made_behind make (before ++ p ∷ []) pieces

-- the width that a piece gives its line, if it is the line's first word
abbrev pub width_made : List Piece → Piece → List ℕ
width_made before (word kind bytes) = if is_first_word before then width_behind before ∷ [] else []
width_made before piece = []

-- the widths of the lines of some pieces, in order
abbrev pub widths_of : List Piece → List ℕ
widths_of pieces = made_behind width_made [] pieces

-- the width of the last line, or 0
abbrev pub last_width : List ℕ → ℕ
last_width widths = fold (λ earlier width. width) 0 widths

-- the widths that are open behind these lines: those above 0 that all later ones are greater than
abbrev pub open_widths : List ℕ → List ℕ
open_widths [] = []
open_widths (width ∷ later) =
    if nat_lt 0 width && list_all (λ w. nat_lt width w) later then width ∷ open_widths later
    else open_widths later

-- a line may have this width behind these: a greater one than the last, 0, or an open one
abbrev pub is_right_width : List ℕ → ℕ → Bool
is_right_width widths width =
    nat_lt (last_width widths) width || (width == 0) || list_any (λ w. w == width) (open_widths widths)

-- whether a word may stand behind these pieces: it isn't the first of its line, or its line has a right width
abbrev pub has_right_width : List Piece → Bool
has_right_width before = not (is_first_word before) || is_right_width (widths_of before) (width_behind before)
