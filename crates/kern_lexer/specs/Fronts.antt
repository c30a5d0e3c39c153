-- The token at the front of some bytes.
use Rattle.std.specs.Prelude.{ℕ, ◌+◌, Bool, true, false, ◌&&◌, ◌==◌, nat_le, Option, Some, None}
use Rattle.std.specs.Prelude.{Result, Ok, Err, length, drop, take_while, slice_index, if◌then◌else◌}
use Rattle.std.specs.List.{prefix_len}
use Rattle.kern_lexer.specs.Bytes.{Bytes, is_word_byte, tab, space, quote}
use Rattle.kern_lexer.specs.Keys.{key_of}
use Rattle.kern_lexer.specs.Names.{begins_with_digit}
use Rattle.kern_lexer.specs.Numbers.{number_of}
use Rattle.kern_lexer.specs.Signs.{sign_at, sign_text}
use Rattle.kern_lexer.specs.declared.fault.LexKind.{LexKind}
use Rattle.kern_lexer.specs.declared.fault.LexKind.TheVariants as F
use Rattle.kern_lexer.specs.declared.front.Front.{Front}
use Rattle.kern_lexer.specs.declared.front.Front.TheVariants.{Space, Token}
use Rattle.kern_lexer.specs.declared.token.Key.{Key}
use Rattle.kern_lexer.specs.declared.token.Sign.{Sign}
use Rattle.kern_lexer.specs.declared.token.TokenKind.TheVariants as T

-- a front, or what is wrong there
abbrev pub Fronted : Type 0
Fronted = Result Front LexKind

-- a word that begins with a digit is a number
abbrev pub number_front : Option ℕ → (len : ℕ) → Fronted
number_front None len = Err F.Number
number_front (Some n) len = Ok (Token (T.Integer n) len)

-- any other word is a keyword or a name
abbrev pub name_front : Option Key → (len : ℕ) → Fronted
name_front (Some k) len = Ok (Token (T.Key k) len)
name_front None len = if nat_le len 64 then Ok (Token T.Name len) else Err F.Name

-- a whole word, which is a run of letters, digits and underscores
abbrev pub word_front : Bytes → Fronted
word_front word =
    if begins_with_digit word then number_front (number_of word) (length word)
    else name_front (key_of word) (length word)

-- what follows an opening quote: 1 to 32 letters, digits and underscores, and a closing quote
abbrev pub text_front : Bytes → Fronted
text_front rest =
    let len = prefix_len is_word_byte rest in
    if nat_le 1 len && nat_le len 32 && (slice_index rest len == quote)
    then Ok (Token T.Text (len + 2))
    else Err F.Text

-- a sign
abbrev pub found_sign : Option Sign → Fronted
found_sign None = Err F.Byte
found_sign (Some s) = Ok (Token (T.Sign s) (length (sign_text s)))

-- the longest sign
abbrev pub sign_front : Bytes → Fronted
sign_front bytes = found_sign (sign_at bytes)

-- by its first byte: a space, a tab, a text in quotes, a word, or a sign
abbrev pub front_of : Bytes → Fronted
front_of bytes =
    let first = slice_index bytes 0 in
    if first == space then Ok Space
    else if first == tab then Err F.Tab
    else if first == quote then text_front (drop 1 bytes)
    else if is_word_byte first then word_front (take_while is_word_byte bytes)
    else sign_front bytes

-- how many bytes a front has
abbrev pub bytes_of : Front → ℕ
bytes_of Space = 1
bytes_of (Token kind len) = len

-- whether a token stands at the front, a wrong number, text or name included
abbrev pub is_token_front : Fronted → Bool
is_token_front (Ok Space) = false
is_token_front (Ok (Token kind len)) = true
is_token_front (Err F.Tab) = false
is_token_front (Err F.Byte) = false
is_token_front (Err kind) = true

-- whether some bytes begin with a token
abbrev pub begins_token : Bytes → Bool
begins_token bytes = is_token_front (front_of bytes)
