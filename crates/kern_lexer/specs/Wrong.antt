-- What is wrong where no right piece can stand.
use Rattle.std.specs.Prelude.{◌≡◌, List, [], ◌∷◌, ◌++◌, Bool, true, ◌&&◌, ◌||◌, ◌==◌, IsTrue, not, Err}
use Rattle.kern_lexer.specs.Bytes.{Bytes, line_feed, carriage_return, number_sign}
use Rattle.kern_lexer.specs.Fronts.{front_of, begins_token}
use Rattle.kern_lexer.specs.Layouts.{has_right_width}
use Rattle.kern_lexer.specs.Pieces.{Piece, word, begins_line_end}
use Rattle.kern_lexer.specs.declared.fault.LexKind.{LexKind}
use Rattle.kern_lexer.specs.declared.fault.LexKind.TheVariants as F

-- a piece behind some others, if it is the first word of its line, gives it a right width
abbrev pub FitsLine : (before : List Piece) → Piece → Type 0
FitsLine before (word kind bytes) = IsTrue (has_right_width before)
FitsLine before piece = Unit {0}

-- so does each of some pieces
abbrev pub EachFits : (before : List Piece) → List Piece → Type 0
EachFits before [] = Unit {0}
EachFits before (p ∷ pieces) = FitsLine before p × EachFits (before ++ p ∷ []) pieces

-- whether some bytes are none, or begin with a comment, a line feed, or a carriage return before one
abbrev pub begins_no_word : Bytes → Bool
begins_no_word [] = true
begins_no_word (b ∷ rest) = (b == number_sign) || (b == line_feed) || ((b == carriage_return) && begins_line_end rest)

-- what is wrong behind some pieces; an Indent is a token at a wrong width, a wrong number, text or name included
abbrev pub IsWrong : LexKind → (before : List Piece) → (rest : Bytes) → Type 0
IsWrong F.Tab before rest = front_of rest ≡ Err F.Tab
IsWrong F.Byte before rest = (front_of rest ≡ Err F.Byte) × IsTrue (not (begins_no_word rest))
IsWrong F.Indent before rest = IsTrue (begins_token rest) × IsTrue (not (has_right_width before))
IsWrong F.Number before rest = (front_of rest ≡ Err F.Number) × IsTrue (has_right_width before)
IsWrong F.Text before rest = (front_of rest ≡ Err F.Text) × IsTrue (has_right_width before)
IsWrong F.Name before rest = (front_of rest ≡ Err F.Name) × IsTrue (has_right_width before)
