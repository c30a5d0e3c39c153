-- Fields one after another, each of so many bytes and in its range, and the first wrong one of some bytes.
use Rattle.std.specs.Prelude.{◌≡◌, ◌≢◌, ℕ, ◌<◌, ◌^◌, ◌⊎◌, List, [], ◌∷◌, ◌++◌, Bool}
use Rattle.std.specs.Prelude.{◌&&◌, nat_le, IsTrue, length, take, slice_index}
use Rattle.std.specs.List.{concat}
use Rattle.std.specs.Int.{Width, byte_len, from_le_bytes}

-- some bytes
abbrev pub Bytes : Type 0
Bytes = List ℕ

abbrev pub AreBytes : Bytes → Type 0
AreBytes bytes = (i : ℕ) → slice_index bytes i < 2 ^ 8

-- What stands field after field: a field has so many bytes, which meet a test, and what
-- follows it may go by these bytes. Where no field follows, the fields give a value.
pub data Format (A : Type 0) : Type 0 where
  give : A → Format A
  field : (width : ℕ) → (test : Bytes → Bool) → (next : Bytes → Format A) → Format A

-- some fields, and then those that go by the value of these
infixl 10 ◌>>=◌
abbrev pub ◌>>=◌ : {A B : Type 0} → Format A → (A → Format B) → Format B
(give x) >>= f = f x
(field width test next) >>= f = field width test (λ bytes. next bytes >>= f)

-- a number lies in a range
abbrev pub is_between : (least most : ℕ) → ℕ → Bool
is_between least most n = nat_le least n && nat_le n most

-- a field of one byte, in this range
abbrev pub byte : (least most : ℕ) → Format ℕ
byte least most = field 1 (λ bytes. is_between least most (slice_index bytes 0)) (λ bytes. give (slice_index bytes 0))

-- a field of a number of this width, its low byte first, in this range
abbrev pub number : Width → (least most : ℕ) → Format ℕ
number w least most =
    field (byte_len w) (λ bytes. is_between least most (from_le_bytes w bytes)) (λ bytes. give (from_le_bytes w bytes))

-- some fields stand where a format begins: each has its number of bytes, and these meet the test
abbrev pub StandRightly : {A : Type 0} → Format A → List Bytes → Type 0
StandRightly format [] = Unit {0}
StandRightly (give x) (bytes ∷ more) = ⊥
StandRightly (field width test next) (bytes ∷ more) =
    (length bytes ≡ width) × IsTrue (test bytes) × StandRightly (next bytes) more

-- what stands behind some fields
abbrev pub behind : {A : Type 0} → Format A → List Bytes → Format A
behind format [] = format
behind (give x) (bytes ∷ more) = give x
behind (field width test next) (bytes ∷ more) = behind (next bytes) more

-- what is wrong where a format begins: bytes stand behind the last field, or the field is cut off or out of its range
abbrev pub IsWrong : {A : Type 0} → Format A → (rest : Bytes) → Type 0
IsWrong (give x) rest = rest ≢ []
IsWrong (field width test next) rest = (length rest < width) ⊎ (¬ IsTrue (test (take width rest)))

-- Some bytes have their first wrong field at this place: before it they are fields that stand rightly, and what stands
-- at it is wrong.
pub record HasFault {A : Type 0} (format : Format A) (bytes : Bytes) (place : ℕ) : Type 0 where
  pub fields : List Bytes
  pub rest : Bytes
  pub whole : bytes ≡ concat fields ++ rest
  pub right : StandRightly format fields
  pub at : place ≡ length (concat fields)
  pub wrong : IsWrong (behind format fields) rest
