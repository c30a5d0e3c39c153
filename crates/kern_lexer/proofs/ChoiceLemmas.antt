-- Lemmas on what is chosen by a first byte or by a length: whether a token stands there, its keyword and its sign.
use Rattle.std.proofs.Common.{◌≡◌, ◌≢◌, ℕ, Bool, true, false, cond, drop, length, get_or, Option, Some, None, Ok, Err, refl, nat_le}
use Rattle.std.specs.Prelude.{is_some}
use Rattle.std.specs.List.{take_while}
use Rattle.std.proofs.lemmas.Bool.{cond_both, ne_eqb}
use Rattle.kern_lexer.specs.Bytes.{Bytes, is_word_byte}
use Rattle.kern_lexer.specs.Fronts.{number_front, name_front, word_front, text_front, found_sign, is_token_front, begins_token}
use Rattle.kern_lexer.specs.Keys.{key_of}
use Rattle.kern_lexer.specs.Names.{begins_with_digit}
use Rattle.kern_lexer.specs.Numbers.{number_of}
use Rattle.kern_lexer.specs.Signs.{sign_at}
use Rattle.kern_lexer.specs.declared.fault.LexKind.TheVariants as F
use Rattle.kern_lexer.specs.declared.front.Front.TheVariants.{Token}
use Rattle.kern_lexer.specs.declared.token.Key.{Key}
use Rattle.kern_lexer.specs.declared.token.Sign.{Sign}
use Rattle.kern_lexer.specs.declared.token.TokenKind.TheVariants as T

-- a number, a keyword and a name are tokens, and so are wrong ones
number_token : (value : Option ℕ) (len : ℕ) → is_token_front (number_front value len) ≡ true
number_token None len = refl
number_token (Some n) len = refl

name_token : (key : Option Key) (len : ℕ) → is_token_front (name_front key len) ≡ true
name_token (Some k) len = refl
name_token None len = cond_both (nat_le len 64) (Ok (Token T.Name len)) (Err F.Name) (λ r. is_token_front r ≡ true) (λ _. refl) (λ _. refl)

word_token : (word : Bytes) → is_token_front (word_front word) ≡ true
word_token word = cond_both (begins_with_digit word) _ _ (λ r. is_token_front r ≡ true) (λ _. number_token (number_of word) (length word)) (λ _. name_token (key_of word) (length word))

text_token : (rest : Bytes) → is_token_front (text_front rest) ≡ true
text_token rest = cond_both _ (Ok (Token T.Text _)) (Err F.Text) (λ r. is_token_front r ≡ true) (λ _. refl) (λ _. refl)

sign_token : (found : Option Sign) → is_token_front (found_sign found) ≡ is_some found
sign_token None = refl
sign_token (Some s) = refl

-- where the first byte is a quote, or one of a word, a token begins
pub begins_text : (bytes : Bytes) → get_or bytes 0 0 ≡ 34 → begins_token bytes ≡ true
begins_text bytes is = rw is (text_token (drop 1 bytes))

begins_other_by : (bytes : Bytes) (word : Bool) → is_word_byte (get_or bytes 0 0) ≡ word → get_or bytes 0 0 ≢ 32 → get_or bytes 0 0 ≢ 9 → get_or bytes 0 0 ≢ 34 → begins_token bytes ≡ cond word true (is_some (sign_at bytes))
begins_other_by bytes true is a b c = rw (ne_eqb (get_or bytes 0 0) 32 a, ne_eqb (get_or bytes 0 0) 9 b, ne_eqb (get_or bytes 0 0) 34 c, is) (word_token (take_while is_word_byte bytes))
begins_other_by bytes false is a b c = rw (ne_eqb (get_or bytes 0 0) 32 a, ne_eqb (get_or bytes 0 0) 9 b, ne_eqb (get_or bytes 0 0) 34 c, is) (sign_token (sign_at bytes))

pub begins_other : (bytes : Bytes) → get_or bytes 0 0 ≢ 32 → get_or bytes 0 0 ≢ 9 → get_or bytes 0 0 ≢ 34 → begins_token bytes ≡ cond (is_word_byte (get_or bytes 0 0)) true (is_some (sign_at bytes))
begins_other bytes a b c = begins_other_by bytes (is_word_byte (get_or bytes 0 0)) refl a b c
