-- Numbers in few bytes: what is written is read, and what is read is written.
use Rattle.std.proofs.Common.{◌≡◌, ◌≢◌, ℕ, zero, suc, ◌+◌, ◌-◌, ◌*◌, ◌/◌, ◌%◌, ◌<◌, ◌≤◌, ◌^◌, ◌==◌, true, false, not, List, [], ◌∷◌, ◌++◌, length, replicate, get_or, Some, w64, refl, sym, ap, ◌∙◌, arith}
use Rattle.std.specs.Prelude.{slice_get}
use Rattle.std.specs.Int.{from_le_bytes}
use Rattle.std.proofs.lemmas.Bool.Decides.{nat_tests}
use Rattle.recording_bytes.specs.Numbers.{few_bytes, number_of, is_short}

-- below this a number needs no more bytes
abbrev pub limit : ℕ → ℕ
limit zero = 1
limit (suc k) = 256 * limit k

pub nonzero-test : (n : ℕ) → 0 < n → (n == 0) ≡ false
nonzero-test n positive = grind (arith, nat_tests)

limit-positive : (k : ℕ) → 0 < limit k
limit-positive zero = omega arith
limit-positive (suc k) = let rest = limit-positive k in omega arith

-- a number that isn't 0 has a low byte
few-step : (k n : ℕ) → 0 < n → few_bytes (suc k) n ≡ n % 256 ∷ few_bytes k (n / 256)
few-step k zero positive = absurd (omega arith)
few-step k (suc n) positive = refl

few-zero : (k : ℕ) → few_bytes k 0 ≡ []
few-zero zero = refl
few-zero (suc k) = refl

-- what was written is read
pub few-number : (k n : ℕ) → n < limit k → number_of (few_bytes k n) ≡ n
few-number zero n small = omega arith
few-number (suc k) zero small = refl
few-number (suc k) (suc m) small = let rest = few-number k (suc m / 256) (omega arith) in omega arith

front-short : (b k h : ℕ) → h < limit k → 0 < b + 256 * h → is_short (few_bytes k h) ≡ true → is_short (b ∷ few_bytes k h) ≡ true
front-short zero zero h small positive rest = absurd (omega arith)
front-short (suc b) zero h small positive rest = ap not (nonzero-test (suc b) (omega arith))
front-short zero (suc k) zero small positive rest = absurd (omega arith)
front-short (suc b) (suc k) zero small positive rest = ap not (nonzero-test (suc b) (omega arith))
front-short zero (suc k) (suc h) small positive rest = rest
front-short (suc b) (suc k) (suc h) small positive rest = rest

-- no byte that was written is spare
pub few-short : (k n : ℕ) → n < limit k → is_short (few_bytes k n) ≡ true
few-short zero n small = refl
few-short (suc k) zero small = refl
few-short (suc k) (suc m) small =
    let below : suc m / 256 < limit k = omega arith in
    let positive : 0 < suc m % 256 + 256 * (suc m / 256) = omega arith in
    front-short (suc m % 256) k (suc m / 256) below positive (few-short k (suc m / 256) below)

-- how many bytes there are at most
pub few-length : (j k n : ℕ) → n < limit j → length (few_bytes k n) ≤ j
few-length j zero n small = omega arith
few-length j (suc k) zero small = omega arith
few-length zero (suc k) (suc m) small = absurd (omega arith)
few-length (suc j) (suc k) (suc m) small = let rest = few-length j k (suc m / 256) (omega arith) in omega arith

-- room for one byte more changes nothing
few-more : (k n : ℕ) → n < limit k → few_bytes (suc k) n ≡ few_bytes k n
few-more zero zero small = refl
few-more zero (suc m) small = absurd (omega arith)
few-more (suc k) zero small = refl
few-more (suc k) (suc m) small = ap (λ rest. suc m % 256 ∷ rest) (few-more k (suc m / 256) (omega arith))

-- the first of a number's bytes, and those of what is left
pub next-byte : (n : ℕ) → n < 2 ^ 64 → n ≢ 0 → few_bytes 8 n ≡ n % 256 ∷ few_bytes 8 (n / 256)
next-byte n fits other =
    let small : n / 256 < limit 7 = omega arith in
    few-step 7 n (omega arith) ∙ ap (λ rest. n % 256 ∷ rest) (sym (few-more 7 (n / 256) small))

short-positive : (b : ℕ) (bytes : List ℕ) → is_short (b ∷ bytes) ≡ true → 0 < number_of (b ∷ bytes)
short-positive zero [] short = absurd (cc)
short-positive (suc b) [] short = omega arith
short-positive b (c ∷ bytes) short = let rest = short-positive c bytes short in omega arith

short-tail : (b : ℕ) (bytes : List ℕ) → is_short (b ∷ bytes) ≡ true → is_short bytes ≡ true
short-tail b [] short = refl
short-tail b (c ∷ bytes) short = short

-- what was read is written
pub number-few : (k : ℕ) (bytes : List ℕ) → ((i : ℕ) → get_or bytes i 0 < 256) → is_short bytes ≡ true → length bytes ≤ k → few_bytes k (number_of bytes) ≡ bytes
number-few k [] are short few = few-zero k
number-few zero (b ∷ bytes) are short few = absurd (omega arith)
number-few (suc k) (b ∷ bytes) are short few =
    let first : b < 256 = are 0 in
    let rest = number-few k bytes (λ i. are (suc i)) (short-tail b bytes short) (omega arith) in
    let low : (b + 256 * number_of bytes) % 256 ≡ b = omega arith in
    let high : (b + 256 * number_of bytes) / 256 ≡ number_of bytes = omega arith in
    few-step k (b + 256 * number_of bytes) (short-positive b bytes short) ∙ (λ j. low j ∷ few_bytes k (high j)) ∙ ap (λ bs. b ∷ bs) rest

-- what so many bytes hold
pub number-below : (k : ℕ) (bytes : List ℕ) → ((i : ℕ) → get_or bytes i 0 < 256) → length bytes ≤ k → number_of bytes < limit k
number-below k [] are few = limit-positive k
number-below zero (b ∷ bytes) are few = absurd (omega arith)
number-below (suc k) (b ∷ bytes) are few =
    let first : b < 256 = are 0 in
    let rest = number-below k bytes (λ i. are (suc i)) (omega arith) in
    omega arith

-- the number in some bytes with zeros behind them
pub padded-number : (bytes : List ℕ) → length bytes ≤ 8 → from_le_bytes w64 (bytes ++ replicate (8 - length bytes) 0) ≡ number_of bytes
padded-number [] few = omega arith
padded-number (a ∷ []) few = omega arith
padded-number (a ∷ b ∷ []) few = omega arith
padded-number (a ∷ b ∷ c ∷ []) few = omega arith
padded-number (a ∷ b ∷ c ∷ d ∷ []) few = omega arith
padded-number (a ∷ b ∷ c ∷ d ∷ e ∷ []) few = omega arith
padded-number (a ∷ b ∷ c ∷ d ∷ e ∷ f ∷ []) few = omega arith
padded-number (a ∷ b ∷ c ∷ d ∷ e ∷ f ∷ g ∷ []) few = omega arith
padded-number (a ∷ b ∷ c ∷ d ∷ e ∷ f ∷ g ∷ h ∷ []) few = omega arith
padded-number (a ∷ b ∷ c ∷ d ∷ e ∷ f ∷ g ∷ h ∷ i ∷ bytes) few = absurd (omega arith)

-- the last byte says whether one is spare
pub last-short : (bytes : List ℕ) (last : ℕ) → slice_get bytes (length bytes - 1) ≡ Some last → not (last == 0) ≡ is_short bytes
last-short [] last is = absurd (cc)
last-short (b ∷ []) last is = let same : b ≡ last = cc in ap (λ n. not (n == 0)) (sym same)
last-short (b ∷ c ∷ bytes) last is =
    let at : length (b ∷ c ∷ bytes) - 1 ≡ suc (length (c ∷ bytes) - 1) = omega arith in
    last-short (c ∷ bytes) last (sym (ap (slice_get (b ∷ c ∷ bytes)) at) ∙ is)
