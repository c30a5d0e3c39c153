-- An event and a line at the front of bytes: what is read spells them, and what is spelled is read.
use Rattle.std.proofs.Common.{◌≡◌, ℕ, zero, suc, ◌<◌, ◌≤◌, true, List, [], ◌∷◌, ◌++◌, length, drop, get_or, nat_lt, nat_le, Option, w64, refl, ap, ◌∙◌, arith}
use Rattle.std.specs.Int.{from_le_bytes, to_le_bytes}
use Rattle.std.specs.List.{list_all}
use Rattle.std.proofs.lemmas.Bool.{ltb-true}
use Rattle.std.proofs.lemmas.Nat.{le_bytes_8, from_le_bytes-to_le_bytes_8}
use Rattle.rtio_types.specs.declared.event.Event.{Event}
use Rattle.rtio_log.specs.declared.LogLine.{LogLine}
use Rattle.rtio_log.specs.declared.LogKind.{LogKind}
use Rattle.rtio_log.specs.declared.LogKind.TheVariants.{Sequence, Collision, Busy, Cleared}
use Rattle.recording_bytes.specs.Reading.{fixed_read}
use Rattle.recording_bytes.specs.Spelling.{FitsFields, fixed_spelling}
use Rattle.recording_bytes.specs.Fields.{is_right}
use Rattle.recording_bytes.proofs.WrongFields.{both, join}
use Rattle.recording_bytes.proofs.FixedEvents.{AreBytes, are-drop, are-take, eight-fit, fixed-again, fixed-back, fixed-fits, le-true, true-le}
use Rattle.core_analyzer.specs.Dumps.{FitsEvent, FitsLine, is_next, is_of_channel, kind_byte, line_bytes}
use Rattle.core_analyzer.specs.DumpReading.{kind_read, line_read}
use Rattle.core_analyzer.specs.DumpFields.{event_fields, line_fields}

-- what right fields of an event say of the bytes
pub record IsEvent (before : Option Event) (bytes : List ℕ) : Type 0 where
  pub whole : 14 ≤ length bytes
  pub channel : nat_lt (fixed_read bytes).channel 32 ≡ true
  pub next : is_next before (fixed_read bytes) ≡ true

pub event-parts : (place : ℕ) (before : Option Event) (bytes : List ℕ) → list_all is_right (event_fields place before bytes) ≡ true → IsEvent before bytes
event-parts place before bytes right =
    let p0 = both _ _ right in
    let p1 = both _ _ p0.1 in
    let p2 = both _ _ p1.1 in
    let p3 = both _ _ p2.1 in
    let last = both (nat_le 14 (length bytes)) (is_next before (fixed_read bytes)) p3.0 in
    record {
      whole = true-le _ _ last.0;
      channel = (both (nat_le 1 (length bytes)) (nat_lt (fixed_read bytes).channel 32) p0.0).1;
      next = last.1;
    }

-- an event that is read fits its fields
pub event-fits : (bytes : List ℕ) → AreBytes bytes → FitsEvent (fixed_read bytes)
event-fits bytes are = (are.below 1, fixed-fits bytes are)

-- its fields are right where it is spelled
pub event-right : (place : ℕ) (before : Option Event) (event : Event) (rest : List ℕ) → nat_lt event.channel 32 ≡ true → is_next before event ≡ true → FitsFields event → list_all is_right (event_fields place before (fixed_spelling event ++ rest)) ≡ true
event-right place before event rest channel next fits =
    let one : nat_le 1 (length (fixed_spelling event ++ rest)) ≡ true = le-true _ _ (omega arith) in
    let two : nat_le 2 (length (fixed_spelling event ++ rest)) ≡ true = le-true _ _ (omega arith) in
    let six : nat_le 6 (length (fixed_spelling event ++ rest)) ≡ true = le-true _ _ (omega arith) in
    let all : nat_le 14 (length (fixed_spelling event ++ rest)) ≡ true = le-true _ _ (omega arith) in
    let rises : is_next before (fixed_read (fixed_spelling event ++ rest)) ≡ true = ap (is_next before) (fixed-again event rest fits) ∙ next in
    join (join one channel) (join (join two refl) (join (join six refl) (join (join all rises) refl)))

-- a kind's byte and back
kind-again : (kind : LogKind) → kind_read (kind_byte kind) ≡ kind
kind-again Sequence = refl
kind-again Collision = refl
kind-again Cleared = refl
kind-again Busy = refl

kind-small : (kind : LogKind) → nat_lt (kind_byte kind) 4 ≡ true
kind-small Sequence = refl
kind-small Collision = refl
kind-small Cleared = refl
kind-small Busy = refl

kind-back : (byte : ℕ) → nat_lt byte 4 ≡ true → kind_byte (kind_read byte) ≡ byte
kind-back zero small = refl
kind-back (suc zero) small = refl
kind-back (suc (suc zero)) small = refl
kind-back (suc (suc (suc zero))) small = refl
kind-back (suc (suc (suc (suc byte)))) small =
    let lt : suc (suc (suc (suc byte))) < 4 = ltb-true _ _ small in
    absurd (omega (arith, lt))

-- eight bytes as a number and back
pub eight-number : (a b c d e f g h : ℕ) → AreBytes (a ∷ b ∷ c ∷ d ∷ e ∷ f ∷ g ∷ h ∷ []) → to_le_bytes w64 (from_le_bytes w64 (a ∷ b ∷ c ∷ d ∷ e ∷ f ∷ g ∷ h ∷ [])) ≡ a ∷ b ∷ c ∷ d ∷ e ∷ f ∷ g ∷ h ∷ []
eight-number a b c d e f g h are = le_bytes_8 (a ∷ b ∷ c ∷ d ∷ e ∷ f ∷ g ∷ h ∷ []) _ refl are.below refl

-- what right fields of a line say of the bytes
pub record IsLine (bytes : List ℕ) : Type 0 where
  pub whole : 23 ≤ length bytes
  pub kind : nat_lt (get_or bytes 0 0) 4 ≡ true
  pub channel : is_of_channel (line_read bytes) ≡ true

pub line-parts : (place : ℕ) (bytes : List ℕ) → list_all is_right (line_fields place bytes) ≡ true → IsLine bytes
line-parts place bytes right =
    let p0 = both _ _ right in
    let p1 = both _ _ p0.1 in
    let p2 = both _ _ p1.1 in
    let p3 = both _ _ p2.1 in
    let p4 = both _ _ p3.1 in
    let p5 = both _ _ p4.1 in
    let enough : 23 ≤ length bytes = true-le _ _ (both (nat_le 23 (length bytes)) true p5.0).0 in
    record {
      whole = enough;
      kind = (both (nat_le 1 (length bytes)) (nat_lt (get_or bytes 0 0) 4) p0.0).1;
      channel = moved bytes enough (both (nat_le 10 (length bytes)) (nat_lt (get_or bytes 9 0) 32) p2.0).1;
    }
  where
    moved : (bytes : List ℕ) → 23 ≤ length bytes → nat_lt (get_or bytes 9 0) 32 ≡ true → is_of_channel (line_read bytes) ≡ true
    moved (k ∷ a ∷ b ∷ c ∷ d ∷ e ∷ f ∷ g ∷ h ∷ rest) enough is = is
    moved _ enough is = absurd (omega (arith, enough))

-- the first 23 bytes spell the line that is read from them
pub line-back : (bytes : List ℕ) → 23 ≤ length bytes → nat_lt (get_or bytes 0 0) 4 ≡ true → AreBytes bytes → line_bytes (line_read bytes) ++ drop 23 bytes ≡ bytes
line-back (k ∷ a ∷ b ∷ c ∷ d ∷ e ∷ f ∷ g ∷ h ∷ rest) enough kind are =
    let event = fixed_spelling (fixed_read rest) in
    let number : to_le_bytes w64 (from_le_bytes w64 (a ∷ b ∷ c ∷ d ∷ e ∷ f ∷ g ∷ h ∷ [])) ≡ a ∷ b ∷ c ∷ d ∷ e ∷ f ∷ g ∷ h ∷ [] =
    eight-number a b c d e f g h (are-take 8 (a ∷ b ∷ c ∷ d ∷ e ∷ f ∷ g ∷ h ∷ rest) (are-drop 1 (k ∷ a ∷ b ∷ c ∷ d ∷ e ∷ f ∷ g ∷ h ∷ rest) are)) in
    ap (λ x. (x ∷ to_le_bytes w64 (from_le_bytes w64 (a ∷ b ∷ c ∷ d ∷ e ∷ f ∷ g ∷ h ∷ [])) ++ event) ++ drop 14 rest) (kind-back k kind)
    ∙ ap (λ n. (k ∷ n ++ event) ++ drop 14 rest) number
    ∙ ap (λ r. k ∷ a ∷ b ∷ c ∷ d ∷ e ∷ f ∷ g ∷ h ∷ r) (fixed-back rest (omega (arith, enough)) (are-drop 9 (k ∷ a ∷ b ∷ c ∷ d ∷ e ∷ f ∷ g ∷ h ∷ rest) are))
line-back _ enough kind are = absurd (omega (arith, enough))

-- a line that is read fits its fields
pub line-fits : (bytes : List ℕ) → AreBytes bytes → FitsLine (line_read bytes)
line-fits bytes are =
    let number = are-drop 1 bytes are in
    (eight-fit _ _ _ _ _ _ _ _ (number.below 0) (number.below 1) (number.below 2) (number.below 3) (number.below 4) (number.below 5) (number.below 6) (number.below 7), event-fits (drop 9 bytes) (are-drop 9 bytes are))

-- a line that fits its fields is read from its spelling
pub line-again : (line : LogLine) (rest : List ℕ) → FitsLine line → line_read (line_bytes line ++ rest) ≡ line
line-again line rest fits =
    let kind = kind-again line.kind in
    let number = from_le_bytes-to_le_bytes_8 line.number fits.0 in
    let event = fixed-again line.event rest fits.1.1 in
    λ j. record { kind = kind j; number = number j; event = event j }

-- its fields are right where it is spelled
pub line-right : (place : ℕ) (line : LogLine) (rest : List ℕ) → is_of_channel line ≡ true → list_all is_right (line_fields place (line_bytes line ++ rest)) ≡ true
line-right place line rest channel =
    let n1 : nat_le 1 (length (line_bytes line ++ rest)) ≡ true = le-true _ _ (omega arith) in
    let n9 : nat_le 9 (length (line_bytes line ++ rest)) ≡ true = le-true _ _ (omega arith) in
    let n10 : nat_le 10 (length (line_bytes line ++ rest)) ≡ true = le-true _ _ (omega arith) in
    let n11 : nat_le 11 (length (line_bytes line ++ rest)) ≡ true = le-true _ _ (omega arith) in
    let n15 : nat_le 15 (length (line_bytes line ++ rest)) ≡ true = le-true _ _ (omega arith) in
    let n23 : nat_le 23 (length (line_bytes line ++ rest)) ≡ true = le-true _ _ (omega arith) in
    join (join n1 (kind-small line.kind)) (join (join n9 refl) (join (join n10 channel) (join (join n11 refl) (join (join n15 refl) (join (join n23 refl) refl)))))
