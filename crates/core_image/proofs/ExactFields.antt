-- Each field of an image is read as it is spelled.
use Rattle.std.proofs.Common.{◌≡◌, ℕ, zero, suc, ◌+◌, ◌^◌, ◌/◌, ◌%◌, ◌<◌, ◌≤◌, Bool, true, false, cond, [], ◌∷◌, ◌++◌, take, drop, length, Ok, Err, refl, sym, ap, subst, ◌∙◌, arith, eqb}
use Rattle.std.specs.Prelude.{IsTrue, ◌&&◌, nat_le, bytes_eq}
use Rattle.std.specs.List.{list_all}
use Rattle.std.specs.Int.{Width, w16, w32, w64, byte_len, to_le_bytes, from_le_bytes}
use Rattle.std.proofs.lemmas.Bool.{and_parts, and_from, leb-true, le-leb}
use Rattle.std.proofs.lemmas.List.{take_at, drop_at, take-append-drop, length-append, length-take-le, get_or-drop}
use Rattle.std.proofs.lemmas.Nat.{le_bytes_2, le_bytes_4, le_bytes_8, from_le_bytes-to_le_bytes_2, from_le_bytes-to_le_bytes_4, from_le_bytes-to_le_bytes_8}
use Rattle.std.proofs.lemmas.Slice.Eq.{bytes_eq-Decides}
use Rattle.core_isa.specs.declared.code.CodeFunction.{CodeFunction}
use Rattle.core_isa.specs.declared.code.Mark.{Mark}
use Rattle.core_image.specs.Fields.{Bytes, AreBytes, is_between}
use Rattle.core_image.specs.Reading.{byte_at, number_at, bytes_at, magic_at, name_at, function_at, mark_at}
use Rattle.core_image.specs.Spelling.{magic_bytes, name_bytes, function_bytes, flags_of}
use Rattle.core_image.proofs.Exact.{Takes, IsSpelled, given_exact, then_exact, spelled_exact, exact_spelled, found, same_found}
use Rattle.rtio_types.specs.Names.{is_word_byte, is_name}

-- what a test let through
taken : {A : Type 0} (b : Bool) (x y : A) (bytes behind rest : Bytes) → cond b (found x behind) (Err bytes) ≡ found y rest → (b ≡ true) × (x ≡ y) × (behind ≡ rest)
taken true x y bytes behind rest e = let p = same_found x y behind rest e in (refl, p.0, p.1)
taken false x y bytes behind rest e = absurd cc

abbrev pub InRange : (least most : ℕ) → ℕ → Type 0
InRange least most n = (least ≤ n) × (n ≤ most)

between-true : (least most n : ℕ) → is_between least most n ≡ true → InRange least most n
between-true least most n e = let p = and_parts _ _ e in (leb-true _ _ p.0, leb-true _ _ p.1)

true-between : (least most n : ℕ) → InRange least most n → is_between least most n ≡ true
true-between least most n h = and_from _ _ (le-leb _ _ h.0) (le-leb _ _ h.1)

-- ---- numbers

-- what is known of the numbers of a width
record IsWide (w : Width) (limit : ℕ) : Type 0 where
  len : (n : ℕ) → length (to_le_bytes w n) ≡ byte_len w
  back : (bytes : Bytes) → byte_len w ≤ length bytes → AreBytes bytes → to_le_bytes w (from_le_bytes w bytes) ++ drop (byte_len w) bytes ≡ bytes
  again : (n : ℕ) (rest : Bytes) → n < limit → from_le_bytes w (to_le_bytes w n ++ rest) ≡ n

AreBytes-drop : (n : ℕ) (bytes : Bytes) → AreBytes bytes → AreBytes (drop n bytes)
AreBytes-drop n bytes h i = rw get_or-drop (h (n + i))

-- the first bytes of some are bytes
front_fits : (front rest : Bytes) → AreBytes (front ++ rest) → AreBytes front
front_fits [] rest h i = omega arith
front_fits (b ∷ front) rest h zero = h 0
front_fits (b ∷ front) rest h (suc i) = front_fits front rest (λ k. h (suc k)) i

back16 : (bytes : Bytes) → 2 ≤ length bytes → AreBytes bytes → to_le_bytes w16 (from_le_bytes w16 bytes) ++ drop 2 bytes ≡ bytes
back16 [] le fits = absurd (omega arith)
back16 (a ∷ []) le fits = absurd (omega arith)
back16 (a ∷ b ∷ rest) le fits = ap (λ (t : Bytes). t ++ rest) (le_bytes_2 (a ∷ b ∷ []) _ refl (front_fits (a ∷ b ∷ []) rest fits) refl)

wide16 : IsWide w16 (2 ^ 16)
wide16 = record { len = λ n. refl; back = back16; again = λ n rest lt. from_le_bytes-to_le_bytes_2 n lt }

back32 : (bytes : Bytes) → 4 ≤ length bytes → AreBytes bytes → to_le_bytes w32 (from_le_bytes w32 bytes) ++ drop 4 bytes ≡ bytes
back32 [] le fits = absurd (omega arith)
back32 (a ∷ []) le fits = absurd (omega arith)
back32 (a ∷ b ∷ []) le fits = absurd (omega arith)
back32 (a ∷ b ∷ c ∷ []) le fits = absurd (omega arith)
back32 (a ∷ b ∷ c ∷ d ∷ rest) le fits = ap (λ (t : Bytes). t ++ rest) (le_bytes_4 (a ∷ b ∷ c ∷ d ∷ []) _ refl (front_fits (a ∷ b ∷ c ∷ d ∷ []) rest fits) refl)

wide32 : IsWide w32 (2 ^ 32)
wide32 = record { len = λ n. refl; back = back32; again = λ n rest lt. from_le_bytes-to_le_bytes_4 n lt }

back64 : (bytes : Bytes) → 8 ≤ length bytes → AreBytes bytes → to_le_bytes w64 (from_le_bytes w64 bytes) ++ drop 8 bytes ≡ bytes
back64 [] le fits = absurd (omega arith)
back64 (a ∷ []) le fits = absurd (omega arith)
back64 (a ∷ b ∷ []) le fits = absurd (omega arith)
back64 (a ∷ b ∷ c ∷ []) le fits = absurd (omega arith)
back64 (a ∷ b ∷ c ∷ d ∷ []) le fits = absurd (omega arith)
back64 (a ∷ b ∷ c ∷ d ∷ e ∷ []) le fits = absurd (omega arith)
back64 (a ∷ b ∷ c ∷ d ∷ e ∷ f ∷ []) le fits = absurd (omega arith)
back64 (a ∷ b ∷ c ∷ d ∷ e ∷ f ∷ g ∷ []) le fits = absurd (omega arith)
back64 (a ∷ b ∷ c ∷ d ∷ e ∷ f ∷ g ∷ h ∷ rest) le fits = ap (λ (t : Bytes). t ++ rest) (le_bytes_8 (a ∷ b ∷ c ∷ d ∷ e ∷ f ∷ g ∷ h ∷ []) _ refl (front_fits (a ∷ b ∷ c ∷ d ∷ e ∷ f ∷ g ∷ h ∷ []) rest fits) refl)

wide64 : IsWide w64 (2 ^ 64)
wide64 = record { len = λ n. refl; back = back64; again = λ n rest lt. from_le_bytes-to_le_bytes_8 n lt }

number_spelled : (w : Width) (limit least most : ℕ) → IsWide w limit → most < limit → IsSpelled (number_at w least most) (to_le_bytes w) (InRange least most)
unfolding number_at
number_spelled w limit least most wide small = record {
  takes = λ bytes rest n fits e.
      let p = taken _ (from_le_bytes w bytes) n bytes (drop (byte_len w) bytes) rest e in
      let tests = and_parts (nat_le (byte_len w) (length bytes)) (is_between least most (from_le_bytes w bytes)) p.0 in
      let whole = wide.back bytes (leb-true _ _ tests.0) fits in
      (record { parts = rw (← p.1, ← p.2) (sym whole); rest_fits = subst AreBytes p.2 (AreBytes-drop (byte_len w) bytes fits) }, subst (InRange least most) p.1 (between-true _ _ _ tests.1));
  again = λ n rest range.
      let lt : n < limit = omega (arith, range.1) in
      let long : nat_le (byte_len w) (length (to_le_bytes w n ++ rest)) ≡ true = le-leb _ _ (omega (arith, length-append (to_le_bytes w n) rest, wide.len n)) in
      let value = wide.again n rest lt in
      let test : is_between least most (from_le_bytes w (to_le_bytes w n ++ rest)) ≡ true = ap (is_between least most) value ∙ true-between least most n range in
      rw (long, test, value, drop_at (to_le_bytes w n) rest (byte_len w) (wide.len n)) refl;
}

pub short_spelled : (least most : ℕ) → most < 2 ^ 16 → IsSpelled (number_at w16 least most) (to_le_bytes w16) (InRange least most)
short_spelled least most small = number_spelled w16 (2 ^ 16) least most wide16 small

pub long_spelled : (least most : ℕ) → most < 2 ^ 32 → IsSpelled (number_at w32 least most) (to_le_bytes w32) (InRange least most)
long_spelled least most small = number_spelled w32 (2 ^ 32) least most wide32 small

pub double_spelled : (least most : ℕ) → most < 2 ^ 64 → IsSpelled (number_at w64 least most) (to_le_bytes w64) (InRange least most)
double_spelled least most small = number_spelled w64 (2 ^ 64) least most wide64 small

-- ---- bytes

byte_takes : (least most : ℕ) (bytes rest : Bytes) (n : ℕ) → AreBytes bytes → byte_at least most bytes ≡ Ok (n, rest) → Takes bytes (n ∷ []) rest × InRange least most n
unfolding byte_at
byte_takes least most [] rest n fits e = absurd cc
byte_takes least most (b ∷ bytes) rest n fits e =
    let p = taken _ b n (b ∷ bytes) bytes rest e in
    let tests = and_parts (nat_le 1 (suc (length bytes))) (is_between least most b) p.0 in
    (record { parts = rw (← p.1, ← p.2) refl; rest_fits = subst AreBytes p.2 (λ i. fits (suc i)) }, subst (InRange least most) p.1 (between-true _ _ _ tests.1))

pub byte_spelled : (least most : ℕ) → IsSpelled (byte_at least most) (λ n. n ∷ []) (InRange least most)
unfolding byte_at
byte_spelled least most = record {
  takes = byte_takes least most;
  again = λ n rest range.
      let long : nat_le 1 (suc (length rest)) ≡ true = le-leb _ _ (omega arith) in
      rw (long, true-between least most n range) refl;
}

-- ---- so many bytes

pub bytes_spelled : (len : ℕ) (test : Bytes → Bool) → IsSpelled (bytes_at len test) (λ bytes. bytes) (λ bytes. (length bytes ≡ len) × (test bytes ≡ true))
unfolding bytes_at
bytes_spelled len test = record {
  takes = λ bytes rest x fits e.
      let p = taken _ (take len bytes) x bytes (drop len bytes) rest e in
      let tests = and_parts (nat_le len (length bytes)) (test (take len bytes)) p.0 in
      let long : len ≤ length bytes = leb-true _ _ tests.0 in (
        record { parts = rw (← p.1, ← p.2) (sym (take-append-drop len bytes)); rest_fits = subst AreBytes p.2 (AreBytes-drop len bytes fits) },
        subst (λ (y : Bytes). (length y ≡ len) × (test y ≡ true)) p.1 (length-take-le len bytes long, tests.1),
      );
  again = λ x rest h.
      let long : nat_le len (length (x ++ rest)) ≡ true = le-leb _ _ (omega (arith, length-append x rest, h.0)) in
      let front = take_at x rest len h.0 in
      let passes : test (take len (x ++ rest)) ≡ true = ap test front ∙ h.1 in
      rw (long, passes, front, drop_at x rest len h.0) refl;
}

-- ---- the four bytes

pub magic_spelled : IsSpelled magic_at (λ bytes. bytes) (λ bytes. bytes ≡ magic_bytes)
unfolding magic_at
magic_spelled = exact_spelled (spelled_exact (bytes_spelled 4 (λ front. bytes_eq front magic_bytes))) (λ w. ((bytes_eq-Decides w.0 magic_bytes).0 w.1.1, refl)) (λ x same. ((x, (ap length same, (bytes_eq-Decides x magic_bytes).1 same)), refl, refl))

-- ---- names

pub name_fits : (x : Bytes) → is_name x ≡ true → InRange 1 32 (length x) × (list_all is_word_byte x ≡ true)
name_fits x h =
    let p = and_parts (nat_le 1 (length x)) (nat_le (length x) 32 && list_all is_word_byte x) h in
    let q = and_parts (nat_le (length x) 32) (list_all is_word_byte x) p.1 in
    ((leb-true _ _ p.0, leb-true _ _ q.0), q.1)

fits_name : (x : Bytes) → InRange 1 32 (length x) → list_all is_word_byte x ≡ true → is_name x ≡ true
fits_name x range words = and_from _ _ (le-leb _ _ range.0) (and_from _ _ (le-leb _ _ range.1) words)

pub name_spelled : IsSpelled name_at name_bytes (λ x. IsTrue (is_name x))
unfolding name_at
name_spelled =
    exact_spelled
    (then_exact _ _ _ _ (spelled_exact (byte_spelled 1 32)) (λ len. spelled_exact (bytes_spelled len.0 (list_all is_word_byte))))
    (λ w. (fits_name w.1.0 (subst (InRange 1 32) (sym w.1.1.0) w.0.1) w.1.1.1, ap (λ (n : ℕ). n ∷ w.1.0) (sym w.1.1.0)))
    (λ x h. let p = name_fits x h in (((length x, p.0), (x, (refl, p.1))), refl, refl))

-- ---- functions

-- the flags of a number, and the number of some flags
flags_back : (n : ℕ) → n ≤ 3 → (cond (eqb (n % 2) 1) 1 0) + (cond (eqb (n / 2) 1) 2 0) ≡ n
flags_back zero le = refl
flags_back (suc zero) le = refl
flags_back (suc (suc zero)) le = refl
flags_back (suc (suc (suc zero))) le = refl
flags_back (suc (suc (suc (suc n)))) le = absurd (omega arith)

flags_again : (value plain : Bool) → (eqb (((cond value 1 0) + (cond plain 2 0)) % 2) 1 ≡ value) × (eqb (((cond value 1 0) + (cond plain 2 0)) / 2) 1 ≡ plain) × ((cond value 1 0) + (cond plain 2 0) ≤ 3)
flags_again true true = (refl, refl, omega arith)
flags_again true false = (refl, refl, omega arith)
flags_again false true = (refl, refl, omega arith)
flags_again false false = (refl, refl, omega arith)

-- a function's fields are in range, its first place in this one
pub record FitsFunction (least most : ℕ) (f : CodeFunction) : Type 0 where
  pub first : InRange least most f.first
  pub params : f.params ≤ 8
  pub slots : InRange f.params 65535 f.slots

pub function_spelled : (least most : ℕ) → most < 2 ^ 32 → IsSpelled (function_at least most) function_bytes (FitsFunction least most)
unfolding function_at
function_spelled least most small =
    exact_spelled
    (then_exact _ _ _ _ (spelled_exact (long_spelled least most small)) (λ first.
    then_exact _ _ _ _ (spelled_exact (byte_spelled 0 8)) (λ params.
    then_exact _ _ _ _ (spelled_exact (short_spelled params.0 65535 (omega arith))) (λ slots.
    then_exact _ _ _ _ (spelled_exact (byte_spelled 0 3)) (λ flags. given_exact _)))))
    (λ w. (record { first = w.0.1; params = w.1.0.1.1; slots = w.1.1.0.1 }, rw (flags_back w.1.1.1.0.0 w.1.1.1.0.1.1) refl))
    (λ f h.
    let p = flags_again f.value f.plain in
    (((f.first, h.first), ((f.params, (omega arith, h.params)), ((f.slots, h.slots), ((flags_of f, (omega arith, p.2)), tt)))), rw (p.0, p.1) refl, refl))

-- ---- marks

pub record FitsMark (m : Mark) : Type 0 where
  pub height : m.height ≤ 255
  pub tries : m.tries ≤ 255
  pub rec : m.rec ≤ 255

pub mark_spelled : IsSpelled mark_at (λ m. m.height ∷ m.tries ∷ m.rec ∷ []) FitsMark
unfolding mark_at
mark_spelled =
    exact_spelled
    (then_exact _ _ _ _ (spelled_exact (byte_spelled 0 255)) (λ height.
    then_exact _ _ _ _ (spelled_exact (byte_spelled 0 255)) (λ tries.
    then_exact _ _ _ _ (spelled_exact (byte_spelled 0 255)) (λ rec. given_exact _))))
    (λ w. (record { height = w.0.1.1; tries = w.1.0.1.1; rec = w.1.1.0.1.1 }, refl))
    (λ m h. (((m.height, (omega arith, h.height)), ((m.tries, (omega arith, h.tries)), ((m.rec, (omega arith, h.rec)), tt))), refl, refl))
