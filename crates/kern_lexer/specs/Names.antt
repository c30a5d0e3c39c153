-- The words that are names, and the texts in quotes.
use Rattle.std.specs.Prelude.{Bool, not, ◌&&◌, nat_le, length, is_none, slice_index}
use Rattle.std.specs.Char.{is_ascii_digit}
use Rattle.std.specs.List.{list_all}
use Rattle.kern_lexer.specs.Bytes.{Bytes, is_word_byte}
use Rattle.kern_lexer.specs.Keys.{key_of}

-- whether a word begins with a digit
abbrev pub begins_with_digit : Bytes → Bool
begins_with_digit word = is_ascii_digit (slice_index word 0)

-- a name: 1 to 64 letters, digits and underscores, the first no digit, and no keyword
abbrev pub is_name : Bytes → Bool
is_name word =
    nat_le 1 (length word) && nat_le (length word) 64 && list_all is_word_byte word
    && not (begins_with_digit word) && is_none (key_of word)

-- what may stand in quotes: 1 to 32 letters, digits and underscores
abbrev pub is_quotable : Bytes → Bool
is_quotable text = nat_le 1 (length text) && nat_le (length text) 32 && list_all is_word_byte text
