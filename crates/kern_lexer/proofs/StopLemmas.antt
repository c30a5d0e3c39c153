-- Lemmas on what stands at the front of bytes that end before a comment or a line's end.
use Rattle.std.proofs.Common.{◌≡◌, inl, inr, ℕ, zero, suc, ◌+◌, ◌≤◌, ◌∙◌, ◌++◌, ◌||◌, Bool, true, false, cond, [], ◌∷◌, length, get_or, take, Option, Some, None, Ok, Err, ap, refl, sym, subst, arith, nat_eq, nat_le, ◌&&◌}
use Rattle.std.specs.List.{prefix_len, take_while}
use Rattle.std.proofs.lemmas.Bool.{eqb-true, cond_both, or_cases}
use Rattle.std.proofs.lemmas.List.{take-append-le}
use Rattle.std.proofs.lemmas.List.Sums.{prefix_len-le-length}
use Rattle.kern_lexer.specs.Bytes.{Bytes, is_word_byte, space, tab, quote, line_feed, carriage_return, number_sign}
use Rattle.kern_lexer.specs.Fronts.{Fronted, number_front, name_front, word_front, text_front, found_sign, front_of}
use Rattle.kern_lexer.specs.Keys.{key_of}
use Rattle.kern_lexer.specs.Names.{begins_with_digit}
use Rattle.kern_lexer.specs.Numbers.{number_of}
use Rattle.kern_lexer.specs.Signs.{sign_at}
use Rattle.kern_lexer.specs.declared.fault.LexKind.TheVariants as F
use Rattle.kern_lexer.specs.declared.front.Front.TheVariants.{Space, Token}
use Rattle.kern_lexer.specs.declared.token.Key.{Key}
use Rattle.kern_lexer.specs.declared.token.Sign.{Sign}
use Rattle.kern_lexer.specs.declared.token.TokenKind.TheVariants as T

-- whether a byte is `#`, a line feed or a carriage return
abbrev pub is_stop : ℕ → Bool
is_stop b = nat_eq b number_sign || nat_eq b line_feed || nat_eq b carriage_return

-- some bytes are none, or begin with such a byte
abbrev pub Stops : Bytes → Type 0
Stops [] = Unit {0}
Stops (b ∷ rest) = is_stop b ≡ true

-- what holds of those three bytes
stop-byte : (P : ℕ → Type 0) (b : ℕ) → is_stop b ≡ true → P number_sign → P line_feed → P carriage_return → P b
stop-byte P b stops comment feed return_ =
    elim (or_cases (nat_eq b number_sign || nat_eq b line_feed) (nat_eq b carriage_return) stops) as (λ _. P b) [
      | inl first ↦ elim (or_cases (nat_eq b number_sign) (nat_eq b line_feed) first) as (λ _. P b) [
        | inl is ↦ subst P (sym (eqb-true b number_sign is)) comment
        | inr is ↦ subst P (sym (eqb-true b line_feed is)) feed
      ]
      | inr is ↦ subst P (sym (eqb-true b carriage_return is)) return_
    ]

-- a run of word bytes ends there
run-stops : (bytes stop : Bytes) → Stops stop
    → prefix_len is_word_byte (bytes ++ stop) ≡ prefix_len is_word_byte bytes
run-stops [] [] stops = refl
run-stops [] (b ∷ rest) stops =
    let other : is_word_byte b ≡ false = stop-byte (λ c. is_word_byte c ≡ false) b stops refl refl refl in
    rw other refl
run-stops (b ∷ bytes) stop stops = ap (λ n. cond (is_word_byte b) (1 + n) 0) (run-stops bytes stop stops)

word-stops : (bytes stop : Bytes) → Stops stop → take_while is_word_byte (bytes ++ stop) ≡ take_while is_word_byte bytes
word-stops bytes stop stops =
    ap (λ n. take n (bytes ++ stop)) (run-stops bytes stop stops)
    ∙ take-append-le (prefix_len is_word_byte bytes) bytes stop (prefix_len-le-length is_word_byte bytes)

-- and no quote stands there
quote-stops : (bytes stop : Bytes) (n : ℕ) → Stops stop → n ≤ length bytes
    → nat_eq (get_or (bytes ++ stop) n 0) quote ≡ nat_eq (get_or bytes n 0) quote
quote-stops [] [] n stops within = refl
quote-stops [] (b ∷ rest) zero stops within = stop-byte (λ c. nat_eq c quote ≡ false) b stops refl refl refl
quote-stops [] (b ∷ rest) (suc n) stops within = absurd (omega arith)
quote-stops (b ∷ bytes) stop zero stops within = refl
quote-stops (b ∷ bytes) stop (suc n) stops within = quote-stops bytes stop n stops (omega arith)

text-stops : (bytes stop : Bytes) → Stops stop → text_front (bytes ++ stop) ≡ text_front bytes
text-stops bytes stop stops =
    let run : prefix_len is_word_byte (bytes ++ stop) ≡ prefix_len is_word_byte bytes = run-stops bytes stop stops in
    let closed : nat_eq (get_or (bytes ++ stop) (prefix_len is_word_byte bytes) 0) quote ≡ nat_eq (get_or bytes (prefix_len is_word_byte bytes) 0) quote =
    quote-stops bytes stop (prefix_len is_word_byte bytes) stops (prefix_len-le-length is_word_byte bytes) in
    ap (λ n. quoted n (nat_eq (get_or (bytes ++ stop) n 0) quote)) run
    ∙ ap (quoted (prefix_len is_word_byte bytes)) closed
  where
    quoted : ℕ → Bool → Fronted
    quoted n ends = cond (nat_le 1 n && nat_le n 32 && ends) (Ok (Token T.Text (n + 2))) (Err F.Text)

-- nor a byte of a sign
sign-stops : (b : ℕ) (bytes stop : Bytes) → Stops stop → sign_at (b ∷ bytes ++ stop) ≡ sign_at (b ∷ bytes)
sign-stops b [] [] stops = refl
sign-stops b [] (c ∷ rest) stops =
    stop-byte (λ x. sign_at (b ∷ x ∷ rest) ≡ sign_at (b ∷ [])) c stops refl refl refl
sign-stops b (c ∷ bytes) stop stops = refl

-- so the front is the same
pub front-stops : (b : ℕ) (bytes stop : Bytes) → Stops stop → front_of (b ∷ bytes ++ stop) ≡ front_of (b ∷ bytes)
front-stops b bytes stop stops =
    ap (λ t. by_first t (take_while is_word_byte (b ∷ bytes ++ stop)) (sign_at (b ∷ bytes ++ stop))) (text-stops bytes stop stops)
    ∙ ap (λ w. by_first (text_front bytes) w (sign_at (b ∷ bytes ++ stop))) (word-stops (b ∷ bytes) stop stops)
    ∙ ap (by_first (text_front bytes) (take_while is_word_byte (b ∷ bytes))) (sign-stops b bytes stop stops)
  where
    by_first : Fronted → Bytes → Option Sign → Fronted
    by_first text word sign =
        cond (nat_eq b space) (Ok Space) (cond (nat_eq b tab) (Err F.Tab) (cond (nat_eq b quote) text (cond (is_word_byte b) (word_front word) (found_sign sign))))

-- a front that is a space begins with one, and no front is a wrong width
abbrev pub FrontFact : ℕ → Fronted → Type 0
FrontFact b (Ok Space) = b ≡ space
FrontFact b (Ok (Token kind len)) = Unit {0}
FrontFact b (Err F.Indent) = ⊥
FrontFact b (Err F.Byte) = Unit {0}
FrontFact b (Err F.Tab) = Unit {0}
FrontFact b (Err F.Number) = Unit {0}
FrontFact b (Err F.Text) = Unit {0}
FrontFact b (Err F.Name) = Unit {0}

number-fact : (b len : ℕ) (value : Option ℕ) → FrontFact b (number_front value len)
number-fact b len None = tt
number-fact b len (Some n) = tt

name-fact : (b len : ℕ) (key : Option Key) → FrontFact b (name_front key len)
name-fact b len (Some k) = tt
name-fact b len None = cond_both (nat_le len 64) (Ok (Token T.Name len)) (Err F.Name) (FrontFact b) (λ _. tt) (λ _. tt)

sign-fact : (b : ℕ) (sign : Option Sign) → FrontFact b (found_sign sign)
sign-fact b None = tt
sign-fact b (Some s) = tt

pub front-fact : (b : ℕ) (rest : Bytes) → FrontFact b (front_of (b ∷ rest))
front-fact b rest =
    cond_both (nat_eq b space) _ _ (FrontFact b) (λ is. eqb-true b space is)
    (λ _. cond_both (nat_eq b tab) _ _ (FrontFact b) (λ _. tt)
    (λ _. cond_both (nat_eq b quote) _ _ (FrontFact b) (λ _. cond_both _ (Ok (Token T.Text (prefix_len is_word_byte rest + 2))) (Err F.Text) (FrontFact b) (λ _. tt) (λ _. tt))
    (λ _. cond_both (is_word_byte b) _ _ (FrontFact b)
    (λ _. word-fact (take_while is_word_byte (b ∷ rest)))
    (λ _. sign-fact b (sign_at (b ∷ rest))))))
  where
    word-fact : (word : Bytes) → FrontFact b (word_front word)
    word-fact word =
        cond_both (begins_with_digit word) _ _ (FrontFact b) (λ _. number-fact b (length word) (number_of word)) (λ _. name-fact b (length word) (key_of word))
