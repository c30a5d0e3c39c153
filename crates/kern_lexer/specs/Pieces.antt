-- The pieces that a text is cut into: words, and what stands between them.
use Rattle.std.specs.Prelude.{◌≡◌, List, [], ◌∷◌, ◌++◌, Bool, true, false, ◌==◌, IsTrue, Ok, flat_map, length}
use Rattle.std.specs.List.{before_first}
use Rattle.kern_lexer.specs.Bytes.{Bytes, space, line_feed, carriage_return, number_sign}
use Rattle.kern_lexer.specs.Fronts.{front_of}
use Rattle.kern_lexer.specs.declared.front.Front.TheVariants.{Token}
use Rattle.kern_lexer.specs.declared.token.TokenKind.{TokenKind}

-- a space, a carriage return that is skipped, `#` with the bytes of a comment, a line feed, or the bytes of a token
pub data Piece : Type 0 where
  blank : Piece
  skipped_return : Piece
  comment : Bytes → Piece
  line_end : Piece
  word : TokenKind → Bytes → Piece

-- the bytes of a piece
abbrev pub bytes_of_piece : Piece → Bytes
bytes_of_piece blank = space ∷ []
bytes_of_piece skipped_return = carriage_return ∷ []
bytes_of_piece (comment body) = number_sign ∷ body
bytes_of_piece line_end = line_feed ∷ []
bytes_of_piece (word kind bytes) = bytes

-- the bytes of some pieces, one after another
abbrev pub bytes_of_pieces : List Piece → Bytes
bytes_of_pieces pieces = flat_map bytes_of_piece pieces

-- whether some bytes begin with a line feed
abbrev pub begins_line_end : Bytes → Bool
begins_line_end [] = false
begins_line_end (b ∷ rest) = b == line_feed

-- a carriage return stands before a line feed, a comment goes up to the line's end, a word is the token at the front
abbrev pub StandsRightly : Piece → (following : Bytes) → Type 0
StandsRightly blank following = Unit {0}
StandsRightly skipped_return following = IsTrue (begins_line_end following)
StandsRightly (comment body) following = before_first (λ b. b == line_feed) (body ++ following) ≡ body
StandsRightly line_end following = Unit {0}
StandsRightly (word kind bytes) following = front_of (bytes ++ following) ≡ Ok (Token kind (length bytes))

-- whether a piece is a space
abbrev pub is_blank : Piece → Bool
is_blank blank = true
is_blank piece = false

-- whether a piece is a line's end
abbrev pub is_line_end : Piece → Bool
is_line_end line_end = true
is_line_end piece = false

-- whether a piece is a word
abbrev pub is_word : Piece → Bool
is_word (word kind bytes) = true
is_word piece = false
