-- How a line begins behind its leading spaces: with a token.
use Rattle.std.proofs.Common.{◌≡◌, ℕ, Bool, true, false, cond, List, [], ◌∷◌, length, take_while, Option, Some, None, Result, Ok, Err, refl, arith, nat_eq, nat_le, ◌&&◌}
use Rattle.std.specs.Bool.{◌==◌}
use Rattle.std.specs.List.{prefix_len, slice_index}
use Rattle.kern_lexer.specs.Bytes.{Bytes, is_word_byte, space, tab, quote}
use Rattle.kern_lexer.specs.Faults.{LexFault, ◌>>=◌, placed}
use Rattle.kern_lexer.specs.Fronts.{Fronted, number_front, name_front, word_front, text_front, found_sign, front_of, begins_token, is_token_front}
use Rattle.kern_lexer.specs.Keys.{key_of}
use Rattle.kern_lexer.specs.Names.{begins_with_digit}
use Rattle.kern_lexer.specs.Numbers.{number_of}
use Rattle.kern_lexer.specs.Signs.{sign_at}
use Rattle.kern_lexer.specs.Symbols.{Symbol}
use Rattle.kern_lexer.specs.declared.fault.LexKind.{LexKind}
use Rattle.kern_lexer.specs.declared.fault.LexKind.TheVariants as F
use Rattle.kern_lexer.specs.declared.token.Key.{Key}
use Rattle.kern_lexer.specs.declared.token.Sign.{Sign}
use Rattle.kern_canonical.proofs.Beginnings.{begins_operand}
use Rattle.kern_canonical.proofs.Plain.{are_plain}
use Rattle.kern_canonical.proofs.Words.{Words}

-- the bytes of a line behind its leading spaces
pub record Starts (code : Bytes) : Type 0 where
  pub plain : are_plain code ≡ true
  pub begins : begins_operand code ≡ true
  pub token : begins_token code ≡ true

-- a front is a token or a fault
data TokenOrFault (front : Fronted) : Type 0 where
  a_token : is_token_front front ≡ true → TokenOrFault front
  a_fault : (kind : LexKind) → front ≡ Err kind → TokenOrFault front

-- so is each of two
either : (t : Bool) (a b : Fronted) → TokenOrFault a → TokenOrFault b → TokenOrFault (cond t a b)
either true a b x y = x
either false a b x y = y

-- what begins with a digit, and any other word
number-found : (n : Option ℕ) (len : ℕ) → TokenOrFault (number_front n len)
number-found None len = a_fault F.Number refl
number-found (Some n) len = a_token refl

name-found : (k : Option Key) (len : ℕ) → TokenOrFault (name_front k len)
name-found (Some k) len = a_token refl
name-found None len = either (nat_le len 64) _ _ (a_token refl) (a_fault F.Name refl)

word-found : (word : Bytes) → TokenOrFault (word_front word)
word-found word =
    either (begins_with_digit word) (number_front (number_of word) (length word)) (name_front (key_of word) (length word))
    (number-found (number_of word) (length word)) (name-found (key_of word) (length word))

-- a text in quotes
text-found : (rest : Bytes) → TokenOrFault (text_front rest)
text-found rest = by_test (nat_le 1 len && nat_le len 32 && (slice_index rest len == quote)) refl
  where
    len : ℕ
    len = prefix_len is_word_byte rest

    by_test : (t : Bool) → (nat_le 1 len && nat_le len 32 && (slice_index rest len == quote)) ≡ t → TokenOrFault (text_front rest)
    by_test true e = a_token (rw e refl)
    by_test false e = a_fault F.Text (rw e refl)

-- a sign
sign-found : (s : Option Sign) → TokenOrFault (found_sign s)
sign-found None = a_fault F.Byte refl
sign-found (Some s) = a_token refl

-- any front, where no space stands there
front-found : (b : ℕ) (rest : Bytes) → nat_eq b space ≡ false → TokenOrFault (front_of (b ∷ rest))
front-found b rest no_space =
    rw no_space (either (nat_eq b tab) _ _ (a_fault F.Tab refl) (either (nat_eq b quote) (text_front rest) _ (text-found rest)
    (either (is_word_byte b) (word_front (take_while is_word_byte (b ∷ rest))) (found_sign (sign_at (b ∷ rest))) (word-found (take_while is_word_byte (b ∷ rest))) (sign-found (sign_at (b ∷ rest))))))

-- a fault isn't read
fault-unread : {A B : Type 0} (first : Result A LexKind) (next : A → Result B LexFault) (given : B) (kind : LexKind)
    → first ≡ Err kind → placed 0 first >>= next ≡ Ok given → ⊥
fault-unread (Ok x) next given kind is read = cc
fault-unread (Err k) next given kind is read = cc

-- so a front that is read is a token
token-found : (front : Fronted) → TokenOrFault front → ((kind : LexKind) → front ≡ Err kind → ⊥) → is_token_front front ≡ true
token-found front (a_token is) never = is
token-found front (a_fault kind is) never = absurd (never kind is)

-- a text that has symbols and doesn't begin with a space begins with a token
words-begin : (code : Bytes) (symbols : List Symbol) → Words code symbols → begins_operand code ≡ true → begins_token code ≡ true
words-begin [] symbols w begins = absurd cc
words-begin (b ∷ rest) symbols w begins =
    let no_space : nat_eq b space ≡ false = grind arith in
    token-found (front_of (b ∷ rest)) (front-found b rest no_space) (λ kind is. fault-unread (front_of (b ∷ rest)) _ (w.tokens 0 0) kind is (w.read 0 0))

-- so such a text can begin a line
pub starts : (code : Bytes) (symbols : List Symbol) → Words code symbols → begins_operand code ≡ true → Starts code
starts code symbols w begins = record { plain = w.plain; begins = begins; token = words-begin code symbols w begins }
