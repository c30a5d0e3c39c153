-- Bytes without a wrong field spell what is read from them, and a spelling is read as what it spells.
use Rattle.std.proofs.Common.{◌≡◌, ℕ, zero, suc, ◌+◌, ◌<◌, ◌≤◌, ◌^◌, Bool, true, false, ◌||◌, ◌==◌, cond, List, [], ◌∷◌, ◌++◌, length, drop, get_or, nat_lt, nat_le, None, IsTrue, pos, FitsSigned, w32, w64, refl, sym, ap, subst, ◌∙◌, ◌↔◌, lit<, arith}
use Rattle.std.specs.Int.{cast_signed, cast_unsigned, from_le_bytes, to_le_bytes}
use Rattle.std.specs.List.{list_all}
use Rattle.std.proofs.Math.Facts.{Fits-of_lt, Fits-of_z, sfits_to_z}
use Rattle.std.proofs.lemmas.Bool.Decides.{nat_tests, Decides-eqb}
use Rattle.std.proofs.lemmas.Int.{to_z-of_z, fits_signed_from_abs}
use Rattle.std.proofs.lemmas.List.{drop-append-le}
use Rattle.std.proofs.lemmas.List.Folds.{list_all-append}
use Rattle.std.proofs.lemmas.Nat.{from_le_bytes-to_le_bytes_4, from_le_bytes-to_le_bytes_8}
use Rattle.rtio_types.specs.Recordings.{Recorded}
use Rattle.recording_bytes.specs.declared.format.Format.{Format}
use Rattle.recording_bytes.specs.declared.format.Format.TheVariants.{Fixed, Short}
use Rattle.recording_bytes.specs.Playable.{is_playable}
use Rattle.recording_bytes.specs.Spelling.{IsSpelling, IsSpellingIn, events_spelling, format_byte, header_spelling, spelling}
use Rattle.recording_bytes.specs.Reading.{count_read, event_size, events_read, format_read, length_read, recording_read}
use Rattle.recording_bytes.specs.Fields.{fields_of, fields_of_events, first_wrong, header_fields, is_right}
use Rattle.recording_bytes.proofs.WrongFields.{all_right, both, join, none_wrong}
use Rattle.recording_bytes.proofs.FixedEvents.{AreBytes, are-drop, eight-back, eight-fit, four-back, four-fit, le-true, lt-true, true-le}
use Rattle.recording_bytes.proofs.Events.{are-events, event-front, event-whole, events-again, events-right, right-end, right-parts}

zero-fits : FitsSigned w64 (pos 0)
zero-fits = fits_signed_from_abs w64 (pos 0) (lit< tt)

-- the first byte is that of the format that it says
format-back : (b : ℕ) → ((b == 1) || (b == 2)) ≡ true → format_byte (cond (b == 1) Fixed Short) ≡ b
format-back b known = by (b == 1) refl known
  where
    by : (t : Bool) → (b == 1) ≡ t → (t || (b == 2)) ≡ true → format_byte (cond t Fixed Short) ≡ b
    by true is known = sym ((Decides-eqb b 1).0 is)
    by false isnt known = sym ((Decides-eqb b 2).0 known)

-- the first 13 bytes are the header of what is read from them
header-back : (bytes : List ℕ) → 13 ≤ length bytes → AreBytes bytes → ((get_or bytes 0 0 == 1) || (get_or bytes 0 0 == 2)) ≡ true → header_spelling (format_read bytes) (count_read bytes) (length_read bytes) ++ drop 13 bytes ≡ bytes
header-back (x ∷ a ∷ b ∷ c ∷ d ∷ e ∷ f ∷ g ∷ h ∷ i ∷ j ∷ k ∷ l ∷ rest) enough are known =
    ap (λ first. ((first ∷ [] ++ to_le_bytes w32 (from_le_bytes w32 (a ∷ b ∷ c ∷ d ∷ []))) ++ to_le_bytes w64 (cast_unsigned w64 (cast_signed w64 (from_le_bytes w64 (e ∷ f ∷ g ∷ h ∷ i ∷ j ∷ k ∷ l ∷ []))))) ++ rest) (format-back x known)
    ∙ ap (λ v. ((x ∷ [] ++ v) ++ to_le_bytes w64 (cast_unsigned w64 (cast_signed w64 (from_le_bytes w64 (e ∷ f ∷ g ∷ h ∷ i ∷ j ∷ k ∷ l ∷ []))))) ++ rest) (four-back a b c d (are.below 1) (are.below 2) (are.below 3) (are.below 4))
    ∙ ap (λ s. ((x ∷ [] ++ (a ∷ b ∷ c ∷ d ∷ [])) ++ s) ++ rest) (eight-back e f g h i j k l (are.below 5) (are.below 6) (are.below 7) (are.below 8) (are.below 9) (are.below 10) (are.below 11) (are.below 12))
header-back _ enough are known = absurd (omega arith)

-- what right fields say of the bytes
pub record IsRight (bytes : List ℕ) : Type 0 where
  pub format : ((get_or bytes 0 0 == 1) || (get_or bytes 0 0 == 2)) ≡ true
  pub header : 13 ≤ length bytes
  pub events : list_all is_right (fields_of_events (format_read bytes) 13 (count_read bytes) (drop 13 bytes)) ≡ true

pub right-bytes : (bytes : List ℕ) → first_wrong bytes ≡ None → IsRight bytes
right-bytes bytes none =
    let all = all_right (fields_of bytes) none in
    let parts = both _ _ (sym (list_all-append is_right (header_fields bytes) (fields_of_events (format_read bytes) 13 (count_read bytes) (drop 13 bytes))) ∙ all) in
    let p0 = both _ _ parts.0 in
    let p2 = both _ _ (both _ _ p0.1).1 in
    record { format = (both _ _ p0.0).1; header = true-le _ _ (both _ _ p2.0).0; events = parts.1 }

count-small : (bytes : List ℕ) → AreBytes bytes → count_read bytes < 2 ^ 32
count-small bytes are = four-fit _ _ _ _ (are.below 1) (are.below 2) (are.below 3) (are.below 4)

-- bytes without a wrong field spell what is read from them
pub read-spells : (bytes : List ℕ) → AreBytes bytes → first_wrong bytes ≡ None → IsSpellingIn (format_read bytes) bytes (recording_read bytes)
read-spells bytes are none = by (right-bytes bytes none)
  where
    by : IsRight bytes → IsSpellingIn (format_read bytes) bytes (recording_read bytes)
    by right =
        let format = format_read bytes in
        let count = count_read bytes in
        let len = length_read bytes in
        let events = events_read format (pos 0) count (drop 13 bytes) in
        let e = are-events format (pos 0) 13 count (drop 13 bytes) zero-fits (are-drop 13 bytes are) right.events in
        let small : length events < 2 ^ 32 = subst (λ n. n < 2 ^ 32) (sym e.counted) (count-small bytes are) in
        record {
          spelled = sym (ap (λ n. header_spelling format n len ++ events_spelling format (pos 0) events) e.counted ∙ ap (λ b. header_spelling format count len ++ b) e.back ∙ header-back bytes right.header are right.format);
          playable = join (lt-true _ _ small) e.board;
          length_fits = sfits_to_z (Fits-of_lt (eight-fit _ _ _ _ _ _ _ _ (are.below 5) (are.below 6) (are.below 7) (are.below 8) (are.below 9) (are.below 10) (are.below 11) (are.below 12)));
          events_fit = e.fits;
        }

-- the format and the number of events stand in a spelling
format-spelled : (format : Format) (recording : Recorded) → format_read (spelling format recording) ≡ format
format-spelled Fixed recording = refl
format-spelled Short recording = refl

known-spelled : (format : Format) → ((format_byte format == 1) || (format_byte format == 2)) ≡ true
known-spelled Fixed = refl
known-spelled Short = refl

few-playable : (recording : Recorded) → IsTrue (is_playable recording) → length recording.events < 2 ^ 32
few-playable recording playable =
    let few : nat_lt (length recording.events) (2 ^ 32) ≡ true = (both _ _ playable).0 in
    grind (arith, nat_tests)

count-spelled : (format : Format) (recording : Recorded) → IsTrue (is_playable recording) → count_read (spelling format recording) ≡ length recording.events
count-spelled format recording playable =
    from_le_bytes-to_le_bytes_4 (length recording.events) (few-playable recording playable)

length-spelled : (format : Format) (recording : Recorded) → FitsSigned w64 recording.length → length_read (spelling format recording) ≡ recording.length
length-spelled format recording fits =
    ap (cast_signed w64) (from_le_bytes-to_le_bytes_8 (cast_unsigned w64 recording.length) (Fits-of_z fits).fits) ∙ to_z-of_z w64 recording.length fits

-- the header of a spelling is right
header-right : (format : Format) (recording : Recorded) → list_all is_right (header_fields (spelling format recording)) ≡ true
header-right format recording =
    let bytes = spelling format recording in
    let one : nat_le (0 + 1) (length bytes) ≡ true = le-true _ _ (omega arith) in
    let five : nat_le (1 + 4) (length bytes) ≡ true = le-true _ _ (omega arith) in
    let thirteen : nat_le (5 + 8) (length bytes) ≡ true = le-true _ _ (omega arith) in
    join (join one (known-spelled format)) (join (join five refl) (join (join thirteen refl) refl))

-- no field of a spelling is wrong
pub spelled-right : (format : Format) (bytes : List ℕ) (recording : Recorded) → IsSpellingIn format bytes recording → first_wrong bytes ≡ None
spelled-right format bytes recording s =
    let text = spelling format recording in
    let behind = events_spelling format (pos 0) recording.events in
    let form = format-spelled format recording in
    let count = count-spelled format recording s.playable in
    let events : list_all is_right (fields_of_events (format_read text) 13 (count_read text) behind) ≡ true = (λ j. list_all is_right (fields_of_events (form j) 13 (count j) behind)) ∙ events-right format (pos 0) 13 recording.events (both _ _ s.playable).1 s.events_fit in
    ap first_wrong s.spelled ∙ none_wrong (fields_of text) (list_all-append is_right (header_fields text) (fields_of_events (format_read text) 13 (count_read text) behind) ∙ join (header-right format recording) events)

-- a spelling is read as what it spells
pub spelled-read : (format : Format) (bytes : List ℕ) (recording : Recorded) → IsSpellingIn format bytes recording → recording_read bytes ≡ recording
spelled-read format bytes recording s =
    let behind = events_spelling format (pos 0) recording.events in
    let form = format-spelled format recording in
    let count = count-spelled format recording s.playable in
    let events : events_read (format_read (spelling format recording)) (pos 0) (count_read (spelling format recording)) behind ≡ recording.events = (λ j. events_read (form j) (pos 0) (count j) behind) ∙ events-again format (pos 0) recording.events zero-fits s.events_fit in
    let len = length-spelled format recording s.length_fits in
    ap recording_read s.spelled ∙ (λ j. record { events = events j; length = len j })

-- bytes have no wrong field exactly where they spell a recording
pub right-spells : (bytes : List ℕ) → ((i : ℕ) → get_or bytes i 0 < 256) → (first_wrong bytes ≡ None) ↔ ((recording : Recorded) × IsSpelling bytes recording)
right-spells bytes are =
    (λ right. (recording_read bytes, (format_read bytes, read-spells bytes (record { below = are }) right)), λ s. spelled-right s.1.0 bytes s.0 s.1.1)

-- and then it is one recording
pub one-recording : (bytes : List ℕ) (first second : Recorded) → IsSpelling bytes first → IsSpelling bytes second → first ≡ second
one-recording bytes first second s t = sym (spelled-read s.0 bytes first s.1) ∙ spelled-read t.0 bytes second t.1

-- the size of the event at the front doesn't depend on what follows
size-append : (format : Format) (front rest : List ℕ) → 3 ≤ length front → event_size format (front ++ rest) ≡ event_size format front
size-append format (a ∷ b ∷ c ∷ front) rest enough = by format
  where
    by : (format : Format) → event_size format ((a ∷ b ∷ c ∷ front) ++ rest) ≡ event_size format (a ∷ b ∷ c ∷ front)
    by Fixed = refl
    by Short = refl
size-append format _ rest enough = absurd (omega arith)

-- behind right events nothing follows that is right
none-follow : (format : Format) (place other count : ℕ) (front rest : List ℕ) → list_all is_right (fields_of_events format place count front) ≡ true → list_all is_right (fields_of_events format other count (front ++ rest)) ≡ true → rest ≡ []
none-follow format place other zero front rest first second =
    let nothing = right-end format place front first in
    ap (λ f. f ++ rest) (sym nothing) ∙ right-end format other (front ++ rest) second
none-follow format place other (suc count) front rest first second =
    let one = right-parts format place count front first in
    let two = right-parts format other count (front ++ rest) second in
    let size = event_size format front in
    let enough = event-whole format place front one.0 in
    let same = size-append format front rest (event-front format place front one.0) in
    let behind : drop (event_size format (front ++ rest)) (front ++ rest) ≡ drop size front ++ rest = ap (λ n. drop n (front ++ rest)) same ∙ drop-append-le size front rest enough in
    none-follow format (place + size) (other + event_size format (front ++ rest)) count (drop size front) rest one.1 (subst (λ b. list_all is_right (fields_of_events format (other + event_size format (front ++ rest)) count b) ≡ true) behind two.1)

front-append : (front rest : List ℕ) → 13 ≤ length front → (format_read (front ++ rest) ≡ format_read front) × (count_read (front ++ rest) ≡ count_read front)
front-append (x ∷ a ∷ b ∷ c ∷ d ∷ front) rest enough = (refl, refl)
front-append _ rest enough = absurd (omega arith)

-- no spelling begins another
pub prefix-free : (front rest : List ℕ) (first second : Recorded) → IsSpelling front first → IsSpelling (front ++ rest) second → rest ≡ []
prefix-free front rest first second s t =
    let one = right-bytes front (spelled-right s.0 front first s.1) in
    let two = right-bytes (front ++ rest) (spelled-right t.0 (front ++ rest) second t.1) in
    let same = front-append front rest one.header in
    let behind : drop 13 (front ++ rest) ≡ drop 13 front ++ rest = drop-append-le 13 front rest one.header in
    let events : list_all is_right (fields_of_events (format_read front) 13 (count_read front) (drop 13 front ++ rest)) ≡ true = sym (λ j. list_all is_right (fields_of_events (same.0 j) 13 (same.1 j) (behind j))) ∙ two.events in
    none-follow (format_read front) 13 13 (count_read front) (drop 13 front) rest one.events events
