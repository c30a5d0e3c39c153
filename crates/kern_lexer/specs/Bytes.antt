-- The kinds of bytes in a kernel's text.
use Rattle.std.specs.Prelude.{ℕ, List, Bool, ◌||◌, ◌==◌}
use Rattle.std.specs.Char.{is_ascii_alphanumeric}

-- a text's bytes
abbrev pub Bytes : Type 0
Bytes = List ℕ

-- a tab
abbrev pub tab : ℕ
tab = 9

-- a line feed
abbrev pub line_feed : ℕ
line_feed = 10

-- a carriage return
abbrev pub carriage_return : ℕ
carriage_return = 13

-- a space
abbrev pub space : ℕ
space = 32

-- a quote
abbrev pub quote : ℕ
quote = 34

-- `#`, which begins a comment
abbrev pub number_sign : ℕ
number_sign = 35

-- `_`
abbrev pub underscore : ℕ
underscore = 95

-- a letter, a digit or an underscore
abbrev pub is_word_byte : ℕ → Bool
is_word_byte b = is_ascii_alphanumeric b || (b == underscore)
