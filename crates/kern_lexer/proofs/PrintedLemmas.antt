-- Lemmas on the spelling of symbols, which is read as them.
use Rattle.std.proofs.Common.{◌≡◌, ℕ, suc, ◌+◌, ◌<◌, ◌^◌, ◌∙◌, Bool, true, false, List, [], ◌∷◌, ◌++◌, take, drop, length, get_or, Option, Some, None, Result, Ok, Err, ap, refl, sym, arith, nat_eq, nat_le, append_assoc, is_none, lit<, length-append}
use Rattle.std.specs.Fmt.{decimal}
use Rattle.std.specs.List.{prefix_len, take_while, list_all}
use Rattle.std.specs.Str.{all_ascii_digits}
use Rattle.std.proofs.lemmas.Bool.{eqb-true, leb-true}
use Rattle.std.proofs.lemmas.Fmt.{decimal_nonempty}
use Rattle.std.proofs.lemmas.List.{take_at, drop_at, get_or_at}
use Rattle.kern_lexer.specs.Bytes.{Bytes, is_word_byte, space, tab, quote}
use Rattle.kern_lexer.specs.Faults.{LexFault, ◌>>=◌}
use Rattle.kern_lexer.specs.Fronts.{word_front, text_front, found_sign, sign_front, front_of}
use Rattle.kern_lexer.specs.Keys.{key_of, key_text}
use Rattle.kern_lexer.specs.Names.{begins_with_digit, is_name, is_quotable}
use Rattle.kern_lexer.specs.Signs.{sign_at, sign_text}
use Rattle.kern_lexer.specs.Spelled.{IsInner}
use Rattle.kern_lexer.specs.Spellings.{spelling, kind_of, ends_word, StandsBefore}
use Rattle.kern_lexer.specs.Symbols.{Symbol, name, key, number, quoted, sign, newline, indent, dedent, end}
use Rattle.kern_lexer.specs.Words.{words_from}
use Rattle.kern_lexer.specs.declared.front.Front.TheVariants.{Token}
use Rattle.kern_lexer.specs.declared.token.Key.{Key}
use Rattle.kern_lexer.specs.declared.token.Key.TheVariants as K
use Rattle.kern_lexer.specs.declared.token.Sign.{Sign}
use Rattle.kern_lexer.specs.declared.token.Sign.TheVariants as S
use Rattle.kern_lexer.specs.declared.token.TokenKind.TheVariants as T
use Rattle.kern_lexer.proofs.DecimalLemmas.{decimal-is_read, decimal-digits_are}
use Rattle.kern_lexer.specs.declared.token.Token.{Token as LexToken}
use Rattle.kern_lexer.proofs.FrontLemmas.{sign-some}
use Rattle.kern_lexer.proofs.WordLemmas.{words_from-front}

-- a run ends where what follows doesn't go on with it
pub run-ends : (word rest : Bytes) → list_all is_word_byte word ≡ true → ends_word rest ≡ true → prefix_len is_word_byte (word ++ rest) ≡ length word
run-ends [] [] run ends = refl
run-ends [] (b ∷ rest) run ends = let stop : is_word_byte b ≡ false = grind arith in rw stop refl
run-ends (b ∷ word) rest run ends =
    let first : is_word_byte b ≡ true = grind arith in
    let others : list_all is_word_byte word ≡ true = grind arith in
    let later : prefix_len is_word_byte (word ++ rest) ≡ length word = run-ends word rest others ends in
    rw (first, later) (omega arith)

-- a byte of a word is no space, tab or quote
word-apart : (b c : ℕ) → is_word_byte b ≡ true → is_word_byte c ≡ false → nat_eq b c ≡ false
word-apart b c word other = apart (nat_eq b c) refl
  where
    apart : (t : Bool) → nat_eq b c ≡ t → nat_eq b c ≡ false
    apart true e = absurd (let same : is_word_byte b ≡ is_word_byte c = ap is_word_byte (eqb-true b c e) in cc)
    apart false e = e

-- a word stands at the front
word-front : (word rest : Bytes) → 0 < length word → list_all is_word_byte word ≡ true → ends_word rest ≡ true → front_of (word ++ rest) ≡ word_front word
word-front [] rest some run ends = absurd (omega arith)
word-front (b ∷ more) rest some run ends =
    let first : is_word_byte b ≡ true = grind arith in
    let no_space : nat_eq b space ≡ false = word-apart b space first refl in
    let no_tab : nat_eq b tab ≡ false = word-apart b tab first refl in
    let no_quote : nat_eq b quote ≡ false = word-apart b quote first refl in
    let whole : take_while is_word_byte ((b ∷ more) ++ rest) ≡ b ∷ more =
    ap (λ n. take n ((b ∷ more) ++ rest)) (run-ends (b ∷ more) rest run ends) ∙ take_at (b ∷ more) rest (length (b ∷ more)) refl in
    let reached : front_of ((b ∷ more) ++ rest) ≡ word_front (take_while is_word_byte ((b ∷ more) ++ rest)) = rw (no_space, no_tab, no_quote, first) refl in
    reached ∙ ap word_front whole

-- a name
name-front : (word rest : Bytes) → is_name word ≡ true → ends_word rest ≡ true → front_of (word ++ rest) ≡ Ok (Token T.Name (length word))
name-front word rest named ends =
    let low : nat_le 1 (length word) ≡ true = grind arith in
    let high : nat_le (length word) 64 ≡ true = grind arith in
    let run : list_all is_word_byte word ≡ true = grind arith in
    let no_digit : begins_with_digit word ≡ false = grind arith in
    let no_key : key_of word ≡ None = no_one (key_of word) (grind arith) in
    let some : 0 < length word = omega (arith, leb-true 1 (length word) low) in
    word-front word rest some run ends ∙ rw (no_digit, no_key, high) refl
  where
    no_one : (found : Option Key) → is_none found ≡ true → found ≡ None
    no_one None none = refl
    no_one (Some k) none = absurd cc

-- a keyword
key-front : (k : Key) (rest : Bytes) → ends_word rest ≡ true → front_of (key_text k ++ rest) ≡ Ok (Token (T.Key k) (length (key_text k)))
key-front k rest ends = word-front (key_text k) rest (some k) (run k) ends ∙ is k
  where
    some : (k : Key) → 0 < length (key_text k)
    some K.Def = lit< tt
    some _ = lit< tt

    run : (k : Key) → list_all is_word_byte (key_text k) ≡ true
    run K.Def = refl
    run _ = refl

    is : (k : Key) → word_front (key_text k) ≡ Ok (Token (T.Key k) (length (key_text k)))
    is K.Def = refl
    is _ = refl

-- digits are bytes of a word
digits-run : (ds : Bytes) → all_ascii_digits ds ≡ true → list_all is_word_byte ds ≡ true
digits-run [] digits = refl
digits-run (c ∷ cs) digits =
    let first : is_word_byte c ≡ true = grind arith in
    let others : all_ascii_digits cs ≡ true = grind arith in
    rw (first, digits-run cs others) refl

digits-first : (ds : Bytes) → all_ascii_digits ds ≡ true → 0 < length ds → begins_with_digit ds ≡ true
digits-first [] digits some = absurd (omega arith)
digits-first (c ∷ cs) digits some = grind arith

-- a number in decimal digits
number-front : (n : ℕ) (rest : Bytes) → n < 2 ^ 63 → ends_word rest ≡ true → front_of (decimal n ++ rest) ≡ Ok (Token (T.Integer n) (length (decimal n)))
number-front n rest small ends =
    let fits : n < 2 ^ 64 = omega arith in
    let some : 0 < length (decimal n) = decimal_nonempty n fits in
    let digits : all_ascii_digits (decimal n) ≡ true = decimal-digits_are n fits in
    word-front (decimal n) rest some (digits-run (decimal n) digits) ends ∙ rw (digits-first (decimal n) digits some, decimal-is_read n small) refl

-- a text in quotes
text-front : (text rest : Bytes) → is_quotable text ≡ true → front_of (quote ∷ text ++ quote ∷ [] ++ rest) ≡ Ok (Token T.Text (length text + 2))
text-front text rest good =
    let low : nat_le 1 (length text) ≡ true = grind arith in
    let high : nat_le (length text) 32 ≡ true = grind arith in
    let run : list_all is_word_byte text ≡ true = grind arith in
    let count : prefix_len is_word_byte (text ++ quote ∷ rest) ≡ length text = run-ends text (quote ∷ rest) run refl in
    let closed : get_or (text ++ quote ∷ rest) (length text) 0 ≡ quote = get_or_at text quote rest 0 (length text) refl in
    let read : text_front (text ++ quote ∷ rest) ≡ Ok (Token T.Text (length text + 2)) = rw (count, low, high, closed) refl in
    ap (λ bytes. front_of (quote ∷ bytes)) (append_assoc text (quote ∷ []) rest) ∙ read

-- a sign
sign-front : (s : Sign) (rest : Bytes) → sign_at (sign_text s ++ rest) ≡ Some s → front_of (sign_text s ++ rest) ≡ Ok (Token (T.Sign s) (length (sign_text s)))
sign-front s rest longest = reached s ∙ ap found_sign longest
  where
    reached : (s : Sign) → front_of (sign_text s ++ rest) ≡ sign_front (sign_text s ++ rest)
    reached S.Comma = refl
    reached _ = refl

-- the spelling of a symbol before what doesn't go on with it is its token
spelled-front : (s : Symbol) (rest : Bytes) → IsInner s → StandsBefore s rest → front_of (spelling s ++ rest) ≡ Ok (Token (kind_of s) (length (spelling s)))
spelled-front (name word) rest inner stands = name-front word rest inner stands
spelled-front (key k) rest inner stands = key-front k rest stands
spelled-front (number n) rest inner stands = number-front n rest inner stands
spelled-front (quoted text) rest inner stands =
    let long : length text + 2 ≡ length (quote ∷ text ++ quote ∷ []) = omega (arith, length-append (quote ∷ text) (quote ∷ [])) in
    text-front text rest inner ∙ ap (λ n. Ok (Token T.Text n)) long
spelled-front (sign s) rest inner stands = sign-front s rest stands
spelled-front newline rest inner stands = absurd stands
spelled-front indent rest inner stands = absurd stands
spelled-front dedent rest inner stands = absurd stands
spelled-front end rest inner stands = absurd stands

-- a symbol that is spelled has a byte
spelled-some : (s : Symbol) (rest : Bytes) → IsInner s → StandsBefore s rest → 0 < length (spelling s)
spelled-some (name word) rest inner stands =
    let low : nat_le 1 (length word) ≡ true = grind arith in
    omega (arith, leb-true 1 (length word) low)
spelled-some (key k) rest inner stands = some k
  where
    some : (k : Key) → 0 < length (key_text k)
    some K.Def = lit< tt
    some _ = lit< tt
spelled-some (number n) rest inner stands = decimal_nonempty n (omega (arith, inner))
spelled-some (quoted text) rest inner stands = omega arith
spelled-some (sign s) rest inner stands = sign-some s
spelled-some newline rest inner stands = absurd stands
spelled-some indent rest inner stands = absurd stands
spelled-some dedent rest inner stands = absurd stands
spelled-some end rest inner stands = absurd stands

-- so the words behind it are those of the rest
pub spelled-is_read : (line at : ℕ) (s : Symbol) (rest : Bytes) → IsInner s → StandsBefore s rest
    → words_from line at 0 (spelling s ++ rest) ≡ words_from line (at + length (spelling s)) 0 rest >>= (λ others. Ok (record { kind = kind_of s; at = at; len = length (spelling s); line = line } ∷ others))
spelled-is_read line at s rest inner stands =
    let here : 0 < length (spelling s ++ rest) = omega (arith, spelled-some s rest inner stands, length-append (spelling s) rest) in
    words_from-front line at (spelling s ++ rest) (Token (kind_of s) (length (spelling s))) here (spelled-front s rest inner stands)
    ∙ ap (λ bytes. words_from line (at + length (spelling s)) 0 bytes >>= (λ others. Ok (record { kind = kind_of s; at = at; len = length (spelling s); line = line } ∷ others))) (drop_at (spelling s) rest (length (spelling s)) refl)

-- a space makes no token
pub space-is_skipped : (line at : ℕ) (rest : Bytes) → words_from line at 0 (space ∷ rest) ≡ words_from line (suc at) 0 rest
space-is_skipped line at rest = same (words_from line (suc at) 0 rest)
  where
    same : (words : Result (List LexToken) LexFault) → words >>= (λ others. Ok ([] ++ others)) ≡ words
    same (Ok others) = refl
    same (Err fault) = refl

-- the same of bytes whose first is a space
pub space-first : (line at : ℕ) (bytes : Bytes) → get_or bytes 0 0 ≡ space → words_from line (at + 1) 0 (drop 1 bytes) ≡ words_from line at 0 bytes
space-first line at [] is = refl
space-first line at (b ∷ rest) is =
    let e : suc at ≡ at + 1 = omega arith in
    sym (ap (λ x. words_from line at 0 (x ∷ rest)) is ∙ space-is_skipped line at rest ∙ ap (λ n. words_from line n 0 rest) e)
