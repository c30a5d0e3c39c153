-- Bytes that neither end a line nor begin a comment: those of every spelling.
use Rattle.std.proofs.Common.{◌≡◌, ℕ, ◌∙◌, Bool, true, false, not, ◌&&◌, [], ◌∷◌, ◌++◌, ap, refl, arith, nat_eq}
use Rattle.std.specs.Fmt.{decimal}
use Rattle.std.specs.List.{list_all}
use Rattle.std.specs.Str.{all_ascii_digits}
use Rattle.std.proofs.lemmas.Bool.{and_parts, eqb-true}
use Rattle.std.proofs.lemmas.List.Folds.{list_all-append}
use Rattle.kern_lexer.specs.Bytes.{Bytes, is_word_byte, quote, line_feed, carriage_return, number_sign}
use Rattle.kern_lexer.specs.Keys.{key_text}
use Rattle.kern_lexer.specs.Signs.{sign_text}
use Rattle.kern_lexer.specs.Spelled.{IsInner}
use Rattle.kern_lexer.specs.Spellings.{spelling}
use Rattle.kern_lexer.specs.Symbols.{Symbol, name, key, number, quoted, sign, newline, indent, dedent, end}
use Rattle.kern_lexer.specs.declared.token.Key.{Key}
use Rattle.kern_lexer.specs.declared.token.Key.TheVariants as K
use Rattle.kern_lexer.specs.declared.token.Sign.{Sign}
use Rattle.kern_lexer.specs.declared.token.Sign.TheVariants as S
use Rattle.kern_lexer.proofs.DecimalLemmas.{decimal-digits_are}

-- a byte that is no line feed, no carriage return and no `#`
abbrev pub is_plain : ℕ → Bool
is_plain b = not (nat_eq b line_feed) && not (nat_eq b carriage_return) && not (nat_eq b number_sign)

-- whether all bytes are
abbrev pub are_plain : Bytes → Bool
are_plain bytes = list_all is_plain bytes

-- two plain texts, one behind the other
pub plain-append : (a b : Bytes) → are_plain a ≡ true → are_plain b ≡ true → are_plain (a ++ b) ≡ true
plain-append a b p q = list_all-append is_plain a b ∙ rw (p, q) refl

-- a byte of a word is no other byte
pub word_byte-other : (b c : ℕ) → is_word_byte b ≡ true → is_word_byte c ≡ false → nat_eq b c ≡ false
word_byte-other b c word other = apart (nat_eq b c) refl
  where
    apart : (t : Bool) → nat_eq b c ≡ t → nat_eq b c ≡ false
    apart true e = absurd (let same : is_word_byte b ≡ is_word_byte c = ap is_word_byte (eqb-true b c e) in cc)
    apart false e = e

-- and no other byte is it
pub other-word_byte : (c b : ℕ) → is_word_byte c ≡ false → is_word_byte b ≡ true → nat_eq c b ≡ false
other-word_byte c b other word = apart (nat_eq c b) refl
  where
    apart : (t : Bool) → nat_eq c b ≡ t → nat_eq c b ≡ false
    apart true e = absurd (let same : is_word_byte c ≡ is_word_byte b = ap is_word_byte (eqb-true c b e) in cc)
    apart false e = e

-- bytes of words are plain
word-plain : (word : Bytes) → list_all is_word_byte word ≡ true → are_plain word ≡ true
word-plain [] run = refl
word-plain (b ∷ rest) run =
    let both = and_parts (is_word_byte b) (list_all is_word_byte rest) run in
    let no_feed : nat_eq b line_feed ≡ false = word_byte-other b line_feed both.0 refl in
    let no_return : nat_eq b carriage_return ≡ false = word_byte-other b carriage_return both.0 refl in
    let no_comment : nat_eq b number_sign ≡ false = word_byte-other b number_sign both.0 refl in
    rw (no_feed, no_return, no_comment, word-plain rest both.1) refl

-- digits are bytes of words
pub digits-run : (ds : Bytes) → all_ascii_digits ds ≡ true → list_all is_word_byte ds ≡ true
digits-run [] digits = refl
digits-run (c ∷ cs) digits =
    let first : is_word_byte c ≡ true = grind arith in
    let others : all_ascii_digits cs ≡ true = grind arith in
    rw (first, digits-run cs others) refl

-- so are the bytes of keywords and signs
key-plain : (k : Key) → are_plain (key_text k) ≡ true
key-plain K.Def = refl
key-plain _ = refl

sign-plain : (s : Sign) → are_plain (sign_text s) ≡ true
sign-plain S.Comma = refl
sign-plain _ = refl

-- every spelling is plain
pub spelling-plain : (s : Symbol) → IsInner s → are_plain (spelling s) ≡ true
spelling-plain (name word) inner = word-plain word (grind arith)
spelling-plain (key k) inner = key-plain k
spelling-plain (number n) inner = word-plain (decimal n) (digits-run (decimal n) (decimal-digits_are n (omega arith)))
spelling-plain (quoted text) inner =
    let run : list_all is_word_byte text ≡ true = grind arith in
    plain-append text (quote ∷ []) (word-plain text run) refl
spelling-plain (sign s) inner = sign-plain s
spelling-plain newline inner = refl
spelling-plain indent inner = refl
spelling-plain dedent inner = refl
spelling-plain end inner = absurd inner
