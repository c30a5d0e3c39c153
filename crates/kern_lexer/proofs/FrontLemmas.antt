-- Lemmas on what stands at the front of some bytes.
use Rattle.std.proofs.Common.{◌≡◌, ℕ, ◌+◌, ◌<◌, ◌≤◌, ◌&&◌, ◌∙◌, Bool, true, false, List, [], ◌∷◌, drop, length, get_or, Option, Some, None, Ok, Err, refl, sym, arith, nat_eq, nat_le, ◌++◌, lit<, length-drop}
use Rattle.std.specs.List.{prefix_len, take_while, find, starts_with}
use Rattle.std.specs.Result.{IfOk}
use Rattle.std.proofs.lemmas.Bool.{cond_both, eqb-true}
use Rattle.std.proofs.lemmas.Bool.Decides.{Decides-eqb}
use Rattle.std.proofs.lemmas.List.{get_or_past}
use Rattle.std.proofs.lemmas.List.Folds.{length-prefix_len}
use Rattle.std.proofs.lemmas.List.Prefix.{front_fits}
use Rattle.std.proofs.lemmas.List.Sums.{prefix_len-le-length}
use Rattle.std.proofs.lemmas.Result.{IfOk-at_ok}
use Rattle.std.proofs.lemmas.Slice.Eq.{starts_is}
use Rattle.kern_lexer.specs.Bytes.{Bytes, is_word_byte, space, tab, quote}
use Rattle.kern_lexer.specs.Fronts.{number_front, name_front, word_front, text_front, found_sign, front_of, bytes_of}
use Rattle.kern_lexer.specs.Keys.{key_of}
use Rattle.kern_lexer.specs.Names.{begins_with_digit}
use Rattle.kern_lexer.specs.Numbers.{number_of}
use Rattle.kern_lexer.specs.Signs.{sign_at, sign_text, signs}
use Rattle.kern_lexer.specs.declared.fault.LexKind.TheVariants as F
use Rattle.kern_lexer.specs.declared.front.Front.{Front}
use Rattle.kern_lexer.specs.declared.front.Front.TheVariants.{Token}
use Rattle.kern_lexer.specs.declared.token.Key.{Key}
use Rattle.kern_lexer.specs.declared.token.Sign.{Sign}
use Rattle.kern_lexer.specs.declared.token.Sign.TheVariants as S
use Rattle.kern_lexer.specs.declared.token.TokenKind.TheVariants as T

-- a front has at least one byte, and no more than there are
pub record IsWithin (n : ℕ) (front : Front) : Type 0 where
  pub some : 0 < bytes_of front
  pub within : bytes_of front ≤ n

number-within : (n len : ℕ) (value : Option ℕ) → 0 < len → len ≤ n
    → IfOk (number_front value len) (IsWithin n)
number-within n len None some within = tt
number-within n len (Some v) some within = record { some = some; within = within }

name-within : (n len : ℕ) (key : Option Key) → 0 < len → len ≤ n → IfOk (name_front key len) (IsWithin n)
name-within n len (Some k) some within = record { some = some; within = within }
name-within n len None some within =
    cond_both (nat_le len 64) _ _ (λ r. IfOk r (IsWithin n)) (λ _. record { some = some; within = within }) (λ _. tt)

word-within : (n : ℕ) (word : Bytes) → 0 < length word → length word ≤ n → IfOk (word_front word) (IsWithin n)
word-within n word some within =
    cond_both (begins_with_digit word) _ _ (λ r. IfOk r (IsWithin n)) (λ _. number-within n (length word) (number_of word) some within) (λ _. name-within n (length word) (key_of word) some within)

-- the run at the front is some bytes where the first is one of it
pub run-some : (bytes : Bytes) → is_word_byte (get_or bytes 0 0) ≡ true → 0 < prefix_len is_word_byte bytes
run-some [] word = absurd cc
run-some (b ∷ rest) word = rw word (omega arith)

-- a byte that isn't 0 stands within the list
inside : (bytes : Bytes) (i : ℕ) → nat_eq (get_or bytes i 0) 34 ≡ true → i < length bytes
inside bytes i found = grind (arith, get_or_past bytes i 0, eqb-true (get_or bytes i 0) 34 found)

text-within : (n : ℕ) (rest : Bytes) → length rest + 1 ≤ n → IfOk (text_front rest) (IsWithin n)
text-within n rest within =
    cond_both _ (Ok (Token T.Text (prefix_len is_word_byte rest + 2))) (Err F.Text) (λ r. IfOk r (IsWithin n)) (λ good. quoted (prefix_len is_word_byte rest) good) (λ _. tt)
  where
    quoted : (len : ℕ) → (nat_le 1 len && nat_le len 32 && nat_eq (get_or rest len 0) 34) ≡ true
        → IsWithin n (Token T.Text (len + 2))
    quoted len good =
        let closed : nat_eq (get_or rest len 0) 34 ≡ true = grind arith in
        let here : len < length rest = inside rest len closed in
        record { some = omega arith; within = omega arith }

-- what `find` finds passes the test
pub found-passes : {X : Type 0} (p : X → Bool) (xs : List X) (x : X) → find p xs ≡ Some x → p x ≡ true
found-passes p [] x found = absurd cc
found-passes p (y ∷ ys) x found = at_head (p y) refl (found-passes p ys x)
  where
    at_head : (b : Bool) → p y ≡ b → (find p ys ≡ Some x → p x ≡ true) → p x ≡ true
    at_head true e later = let here : find p (y ∷ ys) ≡ Some y = rw e refl in let same : y ≡ x = cc in cc
    at_head false e later = let there : find p (y ∷ ys) ≡ find p ys = rw e refl in later (sym there ∙ found)

-- a sign has one byte or two
pub sign-some : (s : Sign) → 0 < length (sign_text s)
sign-some S.OpenParenthesis = lit< tt
sign-some _ = lit< tt

sign-within : (bytes : Bytes) (found : Option Sign) → sign_at bytes ≡ found
    → IfOk (found_sign found) (IsWithin (length bytes))
sign-within bytes None e = tt
sign-within bytes (Some s) e =
    let starts : starts_with nat_eq bytes (sign_text s) ≡ true =
    found-passes (λ s. starts_with nat_eq bytes (sign_text s)) signs s e in
    let begins : bytes ≡ sign_text s ++ drop (length (sign_text s)) bytes =
    (starts_is Decides-eqb bytes (sign_text s) (starts_with nat_eq bytes (sign_text s)) refl).0 starts in
    record { some = sign-some s; within = front_fits bytes (sign_text s) (drop (length (sign_text s)) bytes) begins }

-- what stands at the front of some bytes is within them
pub front-within : (bytes : Bytes) → 0 < length bytes → IfOk (front_of bytes) (IsWithin (length bytes))
front-within bytes some =
    cond_both (nat_eq (get_or bytes 0 0) space) _ _ (λ r. IfOk r (IsWithin (length bytes))) (λ _. record { some = lit< tt; within = omega arith })
    (λ _. cond_both (nat_eq (get_or bytes 0 0) tab) _ _ (λ r. IfOk r (IsWithin (length bytes))) (λ _. tt)
    (λ _. cond_both (nat_eq (get_or bytes 0 0) quote) _ _ (λ r. IfOk r (IsWithin (length bytes))) (λ _. text-within (length bytes) (drop 1 bytes) (omega (arith, length-drop 1 bytes)))
    (λ _. cond_both (is_word_byte (get_or bytes 0 0)) _ _ (λ r. IfOk r (IsWithin (length bytes)))
    (λ word. word-within (length bytes) (take_while is_word_byte bytes)
    (omega (arith, length-prefix_len is_word_byte bytes, run-some bytes word))
    (omega (arith, length-prefix_len is_word_byte bytes, prefix_len-le-length is_word_byte bytes)))
    (λ _. sign-within bytes (sign_at bytes) refl))))

-- the same of what is known to stand there
pub front-is_within : (bytes : Bytes) (front : Front) → 0 < length bytes → front_of bytes ≡ Ok front
    → IsWithin (length bytes) front
front-is_within bytes front some e = IfOk-at_ok (IsWithin (length bytes)) e (front-within bytes some)
