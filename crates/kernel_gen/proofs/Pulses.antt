-- The pulses of a generated kernel, one after another.
use Rattle.std.proofs.Common.{◌≡◌, ℕ, zero, suc, ◌+◌, ◌*◌, ◌/◌, ◌^◌, ◌<◌, ◌≤◌, List, [], ◌∷◌, ◌++◌, length, sym, ap, ap₂, ◌∙◌, arith, add-one, lit<, lit≤}
use Rattle.std.specs.Prelude.{flat_map, decimal, codes}
use Rattle.std.specs.List.{range_with_len}
use Rattle.std.proofs.Math.Nat.{mod-lt, div-lt_iff_lt-mul}
use Rattle.std.proofs.lemmas.List.{length-append, flat_map_more, append_assoc}
use Rattle.std.proofs.lemmas.Fmt.{length-decimal-le}
use Rattle.kernel_gen.specs.Generated.{next_number, number_of, delay_of, output_of, length_of, delay_line, pulse_line, pulse_lines, head, kernel_text}

-- the pieces of a line, one behind another
pub grouped : (a d b e c : List ℕ) → a ++ d ++ b ++ e ++ c ≡ a ++ (d ++ (b ++ (e ++ c)))
grouped a d b e c = append_assoc (a ++ d ++ b) e c ∙ append_assoc (a ++ d) b (e ++ c) ∙ append_assoc a d (b ++ (e ++ c))

-- a number more stands behind the numbers from a on
range-more : (a n : ℕ) → range_with_len a (n + 1) ≡ range_with_len a n ++ (a + n) ∷ []
range-more a zero = ap (λ (k : ℕ). k ∷ []) (omega arith)
range-more a (suc n) =
    ap (range_with_len a) (add-one (suc n))
    ∙ ap (λ (l : List ℕ). a ∷ l) (ap (range_with_len (a + 1)) (sym (add-one n)) ∙ range-more (a + 1) n ∙ ap (λ (k : ℕ). range_with_len (a + 1) n ++ k ∷ []) (same n))
  where
    same : (n : ℕ) → a + 1 + n ≡ a + suc n
    same n = omega arith

-- the lines of one pulse more
lines-more : (start n : ℕ) → flat_map (pulse_lines start) (range_with_len 1 (n + 1)) ≡ flat_map (pulse_lines start) (range_with_len 1 n) ++ pulse_lines start (n + 1)
lines-more start n =
    let same : 1 + n ≡ n + 1 = omega arith in
    ap (flat_map (pulse_lines start)) (range-more 1 n)
    ∙ sym (flat_map_more (pulse_lines start) [] (range_with_len 1 n) (1 + n))
    ∙ ap (λ (k : ℕ). flat_map (pulse_lines start) (range_with_len 1 n) ++ pulse_lines start k) same

-- the number of the next pulse
pub next-there : (start n x y : ℕ) → x ≡ number_of start n → y ≡ next_number x → y ≡ number_of start (n + 1)
next-there start n x y is next = next ∙ ap next_number is ∙ sym (ap (number_of start) (add-one n))

-- its lines
there : (start n x delay output long : ℕ) → x ≡ number_of start n → delay ≡ delay_of x → output ≡ output_of x → long ≡ length_of x
    → delay_line delay ++ pulse_line output long ≡ pulse_lines start n
unfolding pulse_lines
there start n x delay output long is d o l =
    let lines : ℕ → ℕ → ℕ → List ℕ = λ d o l. delay_line d ++ pulse_line o l in
    ap (λ (d : ℕ). lines d output long) d
    ∙ ap (λ (o : ℕ). lines (delay_of x) o long) o
    ∙ ap (λ (l : ℕ). lines (delay_of x) (output_of x) l) l
    ∙ ap (λ (x : ℕ). lines (delay_of x) (output_of x) (length_of x)) is

-- the text with the next pulse
pub text-more : (start n x delay output long : ℕ) (old between new : List ℕ) → x ≡ number_of start (n + 1) → delay ≡ delay_of x → output ≡ output_of x → long ≡ length_of x
    → old ≡ head ++ flat_map (pulse_lines start) (range_with_len 1 n) → between ≡ old ++ delay_line delay → new ≡ between ++ pulse_line output long
    → new ≡ head ++ flat_map (pulse_lines start) (range_with_len 1 (n + 1))
text-more start n x delay output long old between new is d o l before first second =
    second
    ∙ ap (λ (text : List ℕ). text ++ pulse_line output long) first
    ∙ append_assoc old (delay_line delay) (pulse_line output long)
    ∙ ap₂ ◌++◌ before (there start (n + 1) x delay output long is d o l)
    ∙ append_assoc head (flat_map (pulse_lines start) (range_with_len 1 n)) (pulse_lines start (n + 1))
    ∙ ap (λ (lines : List ℕ). head ++ lines) (sym (lines-more start n))

-- the whole text
pub whole : (start n : ℕ) (text : List ℕ) → n ≤ 200 → 200 ≤ n → text ≡ head ++ flat_map (pulse_lines start) (range_with_len 1 n) → text ≡ kernel_text start
unfolding kernel_text
whole start n text most least is =
    let all : n ≡ 200 = omega (arith, most, least) in
    is ∙ ap (λ (n : ℕ). head ++ flat_map (pulse_lines start) (range_with_len 1 n)) all

-- ---- how long the text is

-- the numbers behind the first are of 64 bits
fits : (start k : ℕ) → 0 < k → number_of start k < 2 ^ 64
fits start zero some = absurd (omega (arith, some))
fits start (suc k) some = mod-lt (number_of start k * 6364136223846793005 + 1442695040888963407) (lit< tt)

-- eight pieces, three of them numbers
pieces : (a d b c o e l f : List ℕ) → length d ≤ 4 → length o ≤ 2 → length l ≤ 2 → length a + length b + length c + length e + length f ≤ 42
    → length ((a ++ d ++ b) ++ (c ++ o ++ e ++ l ++ f)) ≤ 50
pieces a d b c o e l f few-d few-o few-l rest =
    let e1 = length-append (a ++ d ++ b) (c ++ o ++ e ++ l ++ f) in
    let e2 = length-append (a ++ d) b in
    let e3 = length-append a d in
    let e4 = length-append (c ++ o ++ e ++ l) f in
    let e5 = length-append (c ++ o ++ e) l in
    let e6 = length-append (c ++ o) e in
    let e7 = length-append c o in
    omega (arith, e1, e2, e3, e4, e5, e6, e7, few-d, few-o, few-l, rest)

-- a number below 10 ^ k has at most k digits
digits : (k n : ℕ) → 0 < k → 10 ^ k ≤ 10000 → n < 10 ^ k → length (decimal n) ≤ k
digits k n some small below = length-decimal-le k n some below (lt-trans-le below small)
  where
    lt-trans-le : n < 10 ^ k → 10 ^ k ≤ 10000 → n < 2 ^ 64
    lt-trans-le below small = omega (arith, below, small)

lines-of-small : (delay output long : ℕ) → delay < 10000 → output < 100 → long < 100 → length (delay_line delay ++ pulse_line output long) ≤ 50
lines-of-small delay output long d o l =
    pieces (codes "        delay_mu(") (decimal delay) (codes ")\n") (codes "        ttl") (decimal output) (codes ".pulse_mu(") (decimal long) (codes ")\n")
    (digits 4 delay (lit< tt) (lit≤ tt) d) (digits 2 output (lit< tt) (lit≤ tt) o) (digits 2 long (lit< tt) (lit≤ tt) l) (lit≤ tt)

delay-small : (x : ℕ) → delay_of x < 10000
delay-small x = let m = mod-lt (x / 2 ^ 33) {m = 1000} (lit< tt) in omega (arith, m)

length-small : (x : ℕ) → length_of x < 100
length-small x = let m = mod-lt (x / 2 ^ 20) {m = 64} (lit< tt) in omega (arith, m)

output-small : (x : ℕ) → x < 2 ^ 64 → output_of x < 100
output-small x fits = let b : x / 2 ^ 60 < 16 = (div-lt_iff_lt-mul {k = 2 ^ 60} {x = x} {y = 16} (lit< tt)).1 fits in omega (arith, b)

-- a pulse has at most 50 bytes
pulse-small : (start k : ℕ) → 0 < k → length (pulse_lines start k) ≤ 50
unfolding pulse_lines
pulse-small start k some =
    let x = number_of start k in
    lines-of-small (delay_of x) (output_of x) (length_of x) (delay-small x) (output-small x (fits start k some)) (length-small x)

lines-small : (start a n : ℕ) → 0 < a → length (flat_map (pulse_lines start) (range_with_len a n)) ≤ n * 50
lines-small start a zero some = omega arith
lines-small start a (suc n) some =
    let first = pulse-small start a some in
    let others = lines-small start (a + 1) n (omega arith) in
    let both = length-append (pulse_lines start a) (flat_map (pulse_lines start) (range_with_len (a + 1) n)) in
    omega (arith, first, others, both)

behind-head : (lines : List ℕ) → length lines ≤ 10000 → length (head ++ lines) ≤ 10054
behind-head lines few = let e = length-append head lines in omega (arith, e, few)

pub text-small : (start : ℕ) → length (kernel_text start) ≤ 10054
unfolding kernel_text
text-small start = behind-head (flat_map (pulse_lines start) (range_with_len 1 200)) (lines-small start 1 200 (lit< tt))
