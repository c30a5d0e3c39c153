-- Lemmas on what a token spells.
use Rattle.std.proofs.Common.{◌≡◌, ℕ, suc, ◌+◌, ◌-◌, ◌<◌, ◌≤◌, ◌^◌, ◌&&◌, ◌∙◌, Bool, true, false, [], ◌∷◌, ◌++◌, drop, take, length, get_or, Option, Some, None, Ok, Err, ap, refl, sym, arith, nat_eq, nat_le, nat_lt, length-drop}
use Rattle.std.specs.List.{prefix_len, take_while, list_all}
use Rattle.std.specs.Result.{IfOk}
use Rattle.std.proofs.lemmas.Bool.{cond_both, ltb-true, le-leb}
use Rattle.std.proofs.lemmas.List.{take-append-le, drop-append-le, drop-drop}
use Rattle.std.proofs.lemmas.List.Folds.{length-prefix_len}
use Rattle.kern_lexer.specs.Bytes.{Bytes, is_word_byte, space, tab, quote}
use Rattle.kern_lexer.specs.Fronts.{number_front, name_front, word_front, text_front, found_sign, front_of}
use Rattle.kern_lexer.specs.Keys.{key_of}
use Rattle.kern_lexer.specs.Names.{begins_with_digit, is_name, is_quotable}
use Rattle.kern_lexer.specs.Numbers.{is_decimal, is_hexadecimal, number_of, value_of, within_limit}
use Rattle.kern_lexer.specs.Signs.{sign_at}
use Rattle.kern_lexer.specs.Spelled.{IsInner}
use Rattle.kern_lexer.specs.Symbols.{bytes_at, symbol_of, name, quoted}
use Rattle.kern_lexer.specs.declared.fault.LexKind.TheVariants as F
use Rattle.kern_lexer.specs.declared.front.Front.{Front}
use Rattle.kern_lexer.specs.declared.front.Front.TheVariants.{Space, Token}
use Rattle.kern_lexer.specs.declared.token.Key.{Key}
use Rattle.kern_lexer.specs.declared.token.Sign.{Sign}
use Rattle.kern_lexer.specs.declared.token.TokenKind.{TokenKind}
use Rattle.kern_lexer.specs.declared.token.TokenKind.TheVariants as T
use Rattle.kern_lexer.proofs.FrontLemmas.{run-some}

-- the token at the front of some bytes is of its form
abbrev pub IsSpelled : Bytes → Front → Type 0
IsSpelled bytes Space = Unit {0}
IsSpelled bytes (Token kind len) = IsInner (symbol_of bytes 0 len kind)

-- each byte of a run passes
pub run-passes : (p : ℕ → Bool) (bytes : Bytes) → list_all p (take (prefix_len p bytes) bytes) ≡ true
run-passes p [] = refl
run-passes p (b ∷ rest) = at_head (p b) refl (run-passes p rest)
  where
    at_head : (t : Bool) → p b ≡ t → list_all p (take (prefix_len p rest) rest) ≡ true
        → list_all p (take (prefix_len p (b ∷ rest)) (b ∷ rest)) ≡ true
    at_head true e later =
        let count : prefix_len p (b ∷ rest) ≡ suc (prefix_len p rest) = rw e (omega arith) in
        rw (count, e, later) refl
    at_head false e later = let none : prefix_len p (b ∷ rest) ≡ 0 = rw e refl in rw none refl

-- a value within the limit
limit : (m n : ℕ) → within_limit m ≡ Some n → n < 2 ^ 63
limit m n e = below (nat_lt m (2 ^ 63)) refl
  where
    below : (t : Bool) → nat_lt m (2 ^ 63) ≡ t → n < 2 ^ 63
    below true is = let same : within_limit m ≡ Some m = rw is refl in let eq : m ≡ n = cc in omega (arith, eq, ltb-true m (2 ^ 63) is)
    below false is = absurd (let none : within_limit m ≡ None = rw is refl in cc)

number-below : (word : Bytes) (n : ℕ) → number_of word ≡ Some n → n < 2 ^ 63
number-below word n = cond_both (is_decimal word) _ _ (λ r. r ≡ Some n → n < 2 ^ 63) (λ _. limit (value_of 10 word) n)
    (λ _. cond_both (is_hexadecimal word) _ _ (λ r. r ≡ Some n → n < 2 ^ 63) (λ _. limit (value_of 16 (drop 2 word)) n) (λ _ e. absurd cc))

number-spelled : (bytes word : Bytes) (value : Option ℕ) → number_of word ≡ value
    → IfOk (number_front value (length word)) (IsSpelled bytes)
number-spelled bytes word None is = tt
number-spelled bytes word (Some n) is = number-below word n is

name-spelled : (bytes word : Bytes) (found : Option Key) → take (length word) bytes ≡ word
    → key_of word ≡ found → 1 ≤ length word → list_all is_word_byte word ≡ true
    → begins_with_digit word ≡ false → IfOk (name_front found (length word)) (IsSpelled bytes)
name-spelled bytes word (Some k) front is some run first = tt
name-spelled bytes word None front is some run first =
    cond_both (nat_le (length word) 64) (Ok (Token T.Name (length word))) (Err F.Name) (λ r. IfOk r (IsSpelled bytes)) named (λ _. tt)
  where
    named : nat_le (length word) 64 ≡ true → IsInner (name (take (length word) bytes))
    named short =
        let one : nat_le 1 (length word) ≡ true = le-leb 1 (length word) some in
        let is_one : is_name word ≡ true = rw (one, short, run, first, is) refl in
        rw front is_one

word-spelled : (bytes word : Bytes) → take (length word) bytes ≡ word → 1 ≤ length word
    → list_all is_word_byte word ≡ true → IfOk (word_front word) (IsSpelled bytes)
word-spelled bytes word front some run =
    cond_both (begins_with_digit word) _ _ (λ r. IfOk r (IsSpelled bytes)) (λ _. number-spelled bytes word (number_of word) refl) (λ first. name-spelled bytes word (key_of word) front refl some run first)

text-spelled : (bytes : Bytes) → IfOk (text_front (drop 1 bytes)) (IsSpelled bytes)
text-spelled bytes =
    cond_both _ (Ok (Token T.Text (prefix_len is_word_byte (drop 1 bytes) + 2))) (Err F.Text) (λ r. IfOk r (IsSpelled bytes)) (λ good. quoted_well (prefix_len is_word_byte (drop 1 bytes)) refl good) (λ _. tt)
  where
    quoted_well : (len : ℕ) → prefix_len is_word_byte (drop 1 bytes) ≡ len
        → (nat_le 1 len && nat_le len 32 && nat_eq (get_or (drop 1 bytes) len 0) 34) ≡ true
        → IsInner (quoted (take (len + 2 - 2) (drop 1 bytes)))
    quoted_well len is good =
        let count : len + 2 - 2 ≡ len = omega arith in
        let long : length (take len (drop 1 bytes)) ≡ len = ap (λ n. length (take n (drop 1 bytes))) (sym is)
        ∙ length-prefix_len is_word_byte (drop 1 bytes) ∙ is in
        let low : nat_le 1 len ≡ true = grind arith in
        let high : nat_le len 32 ≡ true = grind arith in
        let run : list_all is_word_byte (take len (drop 1 bytes)) ≡ true =
        ap (λ n. list_all is_word_byte (take n (drop 1 bytes))) (sym is)
        ∙ run-passes is_word_byte (drop 1 bytes) in
        let is_one : is_quotable (take len (drop 1 bytes)) ≡ true = rw (long, low, high, run) refl in
        rw count is_one

sign-spelled : (bytes : Bytes) (found : Option Sign) → IfOk (found_sign found) (IsSpelled bytes)
sign-spelled bytes None = tt
sign-spelled bytes (Some s) = tt

-- what stands at the front of some bytes is of its form
pub front-spelled : (bytes : Bytes) → IfOk (front_of bytes) (IsSpelled bytes)
front-spelled bytes =
    cond_both (nat_eq (get_or bytes 0 0) space) _ _ (λ r. IfOk r (IsSpelled bytes)) (λ _. tt)
    (λ _. cond_both (nat_eq (get_or bytes 0 0) tab) _ _ (λ r. IfOk r (IsSpelled bytes)) (λ _. tt)
    (λ _. cond_both (nat_eq (get_or bytes 0 0) quote) _ _ (λ r. IfOk r (IsSpelled bytes)) (λ _. text-spelled bytes)
    (λ _. cond_both (is_word_byte (get_or bytes 0 0)) _ _ (λ r. IfOk r (IsSpelled bytes))
    (λ word.
    let long : length (take_while is_word_byte bytes) ≡ prefix_len is_word_byte bytes =
    length-prefix_len is_word_byte bytes in
    word-spelled bytes (take_while is_word_byte bytes) (ap (λ n. take n bytes) long) (omega (arith, long, run-some bytes word)) (run-passes is_word_byte bytes))
    (λ _. sign-spelled bytes (sign_at bytes)))))

-- the bytes of a text from a place on
pub bytes-at : (text bytes more : Bytes) (at len : ℕ) → bytes ++ more ≡ drop at text → len ≤ length bytes
    → bytes_at at len text ≡ take len bytes
bytes-at text bytes more at len is within = ap (take len) (sym is) ∙ take-append-le len bytes more within

-- a token's symbol is that of the bytes from its place on
pub symbol-at : (text bytes more : Bytes) (at len : ℕ) (kind : TokenKind) → bytes ++ more ≡ drop at text
    → 0 < len → len ≤ length bytes → symbol_of text at len kind ≡ symbol_of bytes 0 len kind
symbol-at text bytes more at len T.Name is some within = ap name (bytes-at text bytes more at len is within)
symbol-at text bytes more at len T.Text is some within =
    let behind : drop 1 bytes ++ more ≡ drop (at + 1) text = sym (drop-append-le 1 bytes more (omega arith))
    ∙ ap (drop 1) is ∙ drop-drop 1 at text in
    ap quoted (bytes-at text (drop 1 bytes) more (at + 1) (len - 2) behind (omega (arith, length-drop 1 bytes)))
symbol-at text bytes more at len (T.Key k) is some within = refl
symbol-at text bytes more at len (T.Integer n) is some within = refl
symbol-at text bytes more at len (T.Sign s) is some within = refl
symbol-at text bytes more at len T.Newline is some within = refl
symbol-at text bytes more at len T.Indent is some within = refl
symbol-at text bytes more at len T.Dedent is some within = refl
symbol-at text bytes more at len T.End is some within = refl
