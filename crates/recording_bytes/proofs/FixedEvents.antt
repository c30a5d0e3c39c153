-- An event in format 1.
use Rattle.std.proofs.Common.{◌≡◌, ℕ, zero, suc, ◌+◌, ◌<◌, ◌≤◌, ◌^◌, Bool, true, false, List, [], ◌∷◌, ◌++◌, length, take, drop, get_or, nat_lt, nat_le, w32, w64, refl, ap, ◌∙◌, arith}
use Rattle.std.specs.Int.{cast_signed, cast_unsigned, from_le_bytes, to_le_bytes}
use Rattle.std.specs.List.{list_all}
use Rattle.std.proofs.Math.Facts.{Fits-of_lt, Fits-of_z, sfits_to_z}
use Rattle.std.proofs.lemmas.Bool.Decides.{nat_tests}
use Rattle.std.proofs.lemmas.Int.{of_z-to_z, to_z-of_z}
use Rattle.std.proofs.lemmas.Nat.{le_bytes_4, le_bytes_8, from_le_bytes-to_le_bytes_4, from_le_bytes-to_le_bytes_8}
use Rattle.rtio_types.specs.Board.{kind_of_channel, has_address, is_of_board}
use Rattle.rtio_types.specs.declared.event.Event.{Event}
use Rattle.recording_bytes.specs.Spelling.{FitsFields, fixed_spelling}
use Rattle.recording_bytes.specs.Reading.{fixed_read}
use Rattle.recording_bytes.specs.Fields.{fixed_fields, is_right}
use Rattle.recording_bytes.proofs.WrongFields.{both, join}

-- numbers below 256
pub record AreBytes (bytes : List ℕ) : Type 0 where
  pub below : (i : ℕ) → get_or bytes i 0 < 256

are-nil : AreBytes []
are-nil = record { below = λ i. omega arith }

are-cons : {a : ℕ} {bytes : List ℕ} → a < 256 → AreBytes bytes → AreBytes (a ∷ bytes)
are-cons {a} {bytes} first rest = record { below = at }
  where
    at : (i : ℕ) → get_or (a ∷ bytes) i 0 < 256
    at zero = first
    at (suc i) = rest.below i

are-tail : (a : ℕ) (bytes : List ℕ) → AreBytes (a ∷ bytes) → AreBytes bytes
are-tail a bytes are = record { below = λ i. are.below (suc i) }

pub are-take : (n : ℕ) (bytes : List ℕ) → AreBytes bytes → AreBytes (take n bytes)
are-take zero bytes are = are-nil
are-take (suc n) [] are = are-nil
are-take (suc n) (b ∷ bytes) are = are-cons (are.below 0) (are-take n bytes (are-tail b bytes are))

pub are-drop : (n : ℕ) (bytes : List ℕ) → AreBytes bytes → AreBytes (drop n bytes)
are-drop zero bytes are = are
are-drop (suc n) [] are = are-nil
are-drop (suc n) (b ∷ bytes) are = are-drop n bytes (are-tail b bytes are)

-- a number that is read from four bytes fits
pub four-fit : (a b c d : ℕ) → a < 256 → b < 256 → c < 256 → d < 256 → from_le_bytes w32 (a ∷ b ∷ c ∷ d ∷ []) < 2 ^ 32
four-fit a b c d ha hb hc hd = omega arith

-- a number that is read from eight bytes fits
pub eight-fit : (a b c d e f g h : ℕ) → a < 256 → b < 256 → c < 256 → d < 256 → e < 256 → f < 256 → g < 256 → h < 256 → from_le_bytes w64 (a ∷ b ∷ c ∷ d ∷ e ∷ f ∷ g ∷ h ∷ []) < 2 ^ 64
eight-fit a b c d e f g h ha hb hc hd he hf hg hh = omega arith

-- four bytes as a number, and back
pub four-back : (a b c d : ℕ) → a < 256 → b < 256 → c < 256 → d < 256 → to_le_bytes w32 (from_le_bytes w32 (a ∷ b ∷ c ∷ d ∷ [])) ≡ a ∷ b ∷ c ∷ d ∷ []
four-back a b c d ha hb hc hd =
    le_bytes_4 (a ∷ b ∷ c ∷ d ∷ []) _ refl (are-cons ha (are-cons hb (are-cons hc (are-cons hd are-nil)))).below refl

-- eight bytes as a signed number, and back
pub eight-back : (a b c d e f g h : ℕ) → a < 256 → b < 256 → c < 256 → d < 256 → e < 256 → f < 256 → g < 256 → h < 256 → to_le_bytes w64 (cast_unsigned w64 (cast_signed w64 (from_le_bytes w64 (a ∷ b ∷ c ∷ d ∷ e ∷ f ∷ g ∷ h ∷ [])))) ≡ a ∷ b ∷ c ∷ d ∷ e ∷ f ∷ g ∷ h ∷ []
eight-back a b c d e f g h ha hb hc hd he hf hg hh =
    ap (to_le_bytes w64) (of_z-to_z w64 _ (eight-fit a b c d e f g h ha hb hc hd he hf hg hh)) ∙ le_bytes_8 (a ∷ b ∷ c ∷ d ∷ e ∷ f ∷ g ∷ h ∷ []) _ refl (are-cons ha (are-cons hb (are-cons hc (are-cons hd (are-cons he (are-cons hf (are-cons hg (are-cons hh are-nil)))))))).below refl

-- the first 14 bytes spell the event that is read from them
pub fixed-back : (bytes : List ℕ) → 14 ≤ length bytes → AreBytes bytes → fixed_spelling (fixed_read bytes) ++ drop 14 bytes ≡ bytes
fixed-back (x ∷ y ∷ a ∷ b ∷ c ∷ d ∷ e ∷ f ∷ g ∷ h ∷ i ∷ j ∷ k ∷ l ∷ rest) enough are =
    ap (λ v. ((x ∷ y ∷ [] ++ v) ++ to_le_bytes w64 (cast_unsigned w64 (cast_signed w64 (from_le_bytes w64 (e ∷ f ∷ g ∷ h ∷ i ∷ j ∷ k ∷ l ∷ []))))) ++ rest) (four-back a b c d (are.below 2) (are.below 3) (are.below 4) (are.below 5)) ∙ ap (λ s. ((x ∷ y ∷ [] ++ (a ∷ b ∷ c ∷ d ∷ [])) ++ s) ++ rest) (eight-back e f g h i j k l (are.below 6) (are.below 7) (are.below 8) (are.below 9) (are.below 10) (are.below 11) (are.below 12) (are.below 13))
fixed-back _ enough are = absurd (omega arith)

-- the numbers that are read fit their fields
pub fixed-fits : (bytes : List ℕ) → AreBytes bytes → FitsFields (fixed_read bytes)
fixed-fits bytes are =
    (four-fit _ _ _ _ (are.below 2) (are.below 3) (are.below 4) (are.below 5), sfits_to_z (Fits-of_lt (eight-fit _ _ _ _ _ _ _ _ (are.below 6) (are.below 7) (are.below 8) (are.below 9) (are.below 10) (are.below 11) (are.below 12) (are.below 13))))

-- an event that fits its fields is read from its spelling
pub fixed-again : (event : Event) (rest : List ℕ) → FitsFields event → fixed_read (fixed_spelling event ++ rest) ≡ event
fixed-again event rest fit =
    let value = from_le_bytes-to_le_bytes_4 event.value fit.0 in
    let stamp = ap (cast_signed w64) (from_le_bytes-to_le_bytes_8 (cast_unsigned w64 event.stamp) (Fits-of_z fit.1).fits) ∙ to_z-of_z w64 event.stamp fit.1 in
    λ j. record { channel = event.channel; address = event.address; value = value j; stamp = stamp j }

pub le-true : (a b : ℕ) → a ≤ b → nat_le a b ≡ true
le-true a b h = grind (arith, nat_tests)

pub lt-true : (a b : ℕ) → a < b → nat_lt a b ≡ true
lt-true a b h = grind (arith, nat_tests)

pub true-le : (a b : ℕ) → nat_le a b ≡ true → a ≤ b
true-le a b h = grind (arith, nat_tests)

-- a channel with an address is below 32
pub channel-below : (channel address : ℕ) → has_address (kind_of_channel channel) address ≡ true → nat_lt channel 32 ≡ true
channel-below channel address has = by (nat_lt channel 32) refl
  where
    by : (b : Bool) → nat_lt channel 32 ≡ b → nat_lt channel 32 ≡ true
    by true is = is
    by false isnt =
        let beyond16 : nat_lt channel 16 ≡ false = grind (arith, nat_tests) in
        let beyond24 : nat_lt channel 24 ≡ false = grind (arith, nat_tests) in
        let no : false ≡ true = rw (beyond16, beyond24, isnt) at has in
        absurd (cc)

-- what right fields say of the bytes
pub fixed-parts : (place : ℕ) (bytes : List ℕ) → list_all is_right (fixed_fields place bytes) ≡ true → (14 ≤ length bytes) × (has_address (kind_of_channel (get_or bytes 0 0)) (get_or bytes 1 0) ≡ true)
fixed-parts place bytes right =
    let p0 = both _ _ right in
    let p1 = both _ _ p0.1 in
    let p2 = both _ _ p1.1 in
    let p3 = both _ _ p2.1 in
    (true-le _ _ (both _ _ p3.0).0, (both _ _ p1.0).1)

-- the fields of an event of the board are right where its spelling stands
pub fixed-right : (place : ℕ) (event : Event) (rest : List ℕ) → is_of_board event ≡ true → list_all is_right (fixed_fields place (fixed_spelling event ++ rest)) ≡ true
fixed-right place event rest board =
    let len : 14 ≤ length (fixed_spelling event ++ rest) = omega arith in
    let one : nat_le (0 + 1) (length (fixed_spelling event ++ rest)) ≡ true = le-true _ _ (omega arith) in
    let two : nat_le (1 + 1) (length (fixed_spelling event ++ rest)) ≡ true = le-true _ _ (omega arith) in
    let six : nat_le (2 + 4) (length (fixed_spelling event ++ rest)) ≡ true = le-true _ _ (omega arith) in
    let all : nat_le (6 + 8) (length (fixed_spelling event ++ rest)) ≡ true = le-true _ _ (omega arith) in
    join (join one (channel-below event.channel event.address board)) (join (join two board) (join (join six refl) (join (join all refl) refl)))
