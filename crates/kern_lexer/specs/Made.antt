-- The tokens that the pieces of a text make, and its end.
use Rattle.std.specs.Prelude.{ℕ, List, [], ◌∷◌, ◌++◌, ◌&&◌, nat_lt, count_by, length, map, replicate, if◌then◌else◌}
use Rattle.std.specs.List.{list_any}
use Rattle.kern_lexer.specs.Layouts.{place_behind, line_behind, is_outside, this_line, is_first_word}
use Rattle.kern_lexer.specs.Layouts.{width_behind, made_behind, widths_of, last_width, open_widths}
use Rattle.kern_lexer.specs.Pieces.{Piece, blank, skipped_return, comment, line_end, word, is_word}
use Rattle.kern_lexer.specs.declared.token.Token.{Token}
use Rattle.kern_lexer.specs.declared.token.TokenKind.{TokenKind}
use Rattle.kern_lexer.specs.declared.token.TokenKind.TheVariants as T

-- the token of so many bytes behind some pieces
abbrev pub token_behind : List Piece → TokenKind → (len : ℕ) → Token
token_behind before kind len = record { kind = kind; at = place_behind before; len = len; line = line_behind before }

-- tokens of no bytes behind some pieces
abbrev pub marks_behind : List Piece → List TokenKind → List Token
marks_behind before kinds = map (λ kind. token_behind before kind 0) kinds

-- behind lines of these widths: an Indent for one that is greater than the last, a Dedent for each greater open one
abbrev pub marks_of_width : List ℕ → ℕ → List TokenKind
marks_of_width widths width =
    (if nat_lt (last_width widths) width then T.Indent ∷ [] else [])
    ++ replicate (count_by (λ w. nat_lt width w) (open_widths widths)) T.Dedent

-- the marks before a word: those of its line, if it is the first there
abbrev pub marks_of_word : List Piece → List TokenKind
marks_of_word before =
    if is_first_word before then marks_of_width (widths_of before) (width_behind before) else []

-- the Newline of a line that has words, where no bracket is open
abbrev pub newline_behind : List Piece → (len : ℕ) → List Token
newline_behind before len =
    if is_outside before && list_any is_word (this_line before) then token_behind before T.Newline len ∷ [] else []

-- the tokens of a piece behind some others
abbrev pub tokens_made : List Piece → Piece → List Token
tokens_made before blank = []
tokens_made before skipped_return = []
tokens_made before (comment body) = []
tokens_made before line_end = newline_behind before 1
tokens_made before (word kind bytes) =
    marks_behind before (marks_of_word before) ++ token_behind before kind (length bytes) ∷ []

-- the tokens of the end of a text: the Newline that its last line lacks, a Dedent for each open width, and End
abbrev pub tokens_of_end : List Piece → List Token
tokens_of_end pieces =
    newline_behind pieces 0
    ++ marks_behind pieces (replicate (length (open_widths (widths_of pieces))) T.Dedent ++ T.End ∷ [])

-- the tokens of a text that is cut into these pieces
abbrev pub tokens_of_pieces : List Piece → List Token
tokens_of_pieces pieces = made_behind tokens_made [] pieces ++ tokens_of_end pieces
