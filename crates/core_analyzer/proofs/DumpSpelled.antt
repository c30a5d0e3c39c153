-- Bytes without a wrong field spell what is read from them, and a spelling is read as what it spells.
use Rattle.std.proofs.Common.{◌≡◌, ℕ, zero, suc, ◌+◌, ◌-◌, ◌*◌, ◌<◌, ◌≤◌, ◌^◌, true, ◌&&◌, ◌==◌, List, [], ◌∷◌, ◌++◌, length, drop, nat_lt, nat_le, Option, Some, None, w32, w64, refl, sym, ap, subst, ◌∙◌, ◌↔◌, append_assoc, get_or, arith}
use Rattle.std.specs.Int.{from_le_bytes, to_le_bytes}
use Rattle.std.specs.List.{list_all, AllByRecursion}
use Rattle.std.proofs.lemmas.Bool.{eqb-true, ltb-true}
use Rattle.std.proofs.lemmas.List.{drop-drop, drop_at, length-drop}
use Rattle.std.proofs.lemmas.List.Folds.{list_all-append}
use Rattle.std.proofs.lemmas.Nat.{from_le_bytes-to_le_bytes_4, from_le_bytes-to_le_bytes_8}
use Rattle.rtio_types.specs.declared.event.Event.{Event}
use Rattle.rtio_log.specs.declared.LogLine.{LogLine}
use Rattle.recording_bytes.specs.declared.format.Format.TheVariants.{Fixed}
use Rattle.recording_bytes.specs.Reading.{fixed_read}
use Rattle.recording_bytes.specs.Spelling.{fixed_spelling}
use Rattle.recording_bytes.specs.Fields.{is_right, wrong_among}
use Rattle.recording_bytes.proofs.WrongFields.{all_right, both, join, none_wrong, wrong-append_none, wrong-append_some}
use Rattle.recording_bytes.proofs.FixedEvents.{AreBytes, are-drop, are-take, eight-fit, fixed-again, fixed-back, four-back, four-fit, le-true, lt-true, true-le}
use Rattle.recording_bytes.proofs.Events.{right-end}
use Rattle.core_analyzer.specs.Dumps.{Dumped, FitsEvent, FitsLine, IsSpelling, are_put_out_behind, dump_bytes, events_bytes, has_few_entries, header_bytes, is_next, is_of_channel, line_bytes, lines_bytes}
use Rattle.core_analyzer.specs.DumpReading.{behind_events, behind_header, count_read, dump_read, event_count, events_read, line_read, lines_read, number_read}
use Rattle.core_analyzer.specs.DumpFields.{event_fields, fields_of, fields_of_events, fields_of_lines, first_wrong, has_magic, header_fields, line_fields, log_fields}
use Rattle.core_analyzer.proofs.DumpParts.{eight-number, event-fits, event-parts, event-right, line-again, line-back, line-fits, line-parts, line-right}

-- right fields of the first event and of the others
split-events : (place : ℕ) (before : Option Event) (count : ℕ) (bytes : List ℕ) → list_all is_right (fields_of_events place before (suc count) bytes) ≡ true → (list_all is_right (event_fields place before bytes) ≡ true) × (list_all is_right (fields_of_events (place + 14) (Some (fixed_read bytes)) count (drop 14 bytes)) ≡ true)
split-events place before count bytes right =
    both (list_all is_right (event_fields place before bytes)) (list_all is_right (fields_of_events (place + 14) (Some (fixed_read bytes)) count (drop 14 bytes)))
    (sym (list_all-append is_right (event_fields place before bytes) (fields_of_events (place + 14) (Some (fixed_read bytes)) count (drop 14 bytes))) ∙ right)

-- there is room for so many events whose fields are right
events-room : (place : ℕ) (before : Option Event) (count : ℕ) (bytes : List ℕ) → list_all is_right (fields_of_events place before count bytes) ≡ true → 14 * count ≤ length bytes
events-room place before zero bytes right = omega arith
events-room place before (suc count) bytes right =
    let parts = split-events place before count bytes right in
    let whole = (event-parts place before bytes parts.0).whole in
    let rest = events-room (place + 14) (Some (fixed_read bytes)) count (drop 14 bytes) parts.1 in
    let left : length (drop 14 bytes) ≡ length bytes - 14 = length-drop 14 bytes in
    omega (arith, whole, rest, left)

-- what they are
record AreEvents (before : Option Event) (count : ℕ) (bytes : List ℕ) : Type 0 where
  back : events_bytes (events_read count bytes) ++ drop (14 * count) bytes ≡ bytes
  counted : length (events_read count bytes) ≡ count
  put_out : are_put_out_behind before (events_read count bytes) ≡ true
  fits : AllByRecursion FitsEvent (events_read count bytes)

are-events : (place : ℕ) (before : Option Event) (count : ℕ) (bytes : List ℕ) → AreBytes bytes → list_all is_right (fields_of_events place before count bytes) ≡ true → AreEvents before count bytes
are-events place before zero bytes are right = record { back = refl; counted = refl; put_out = refl; fits = tt }
are-events place before (suc count) bytes are right =
    let parts = split-events place before count bytes right in
    let e = event-parts place before bytes parts.0 in
    let event = fixed_read bytes in
    let rest = are-events (place + 14) (Some event) count (drop 14 bytes) (are-drop 14 bytes are) parts.1 in
    let others = events_bytes (events_read count (drop 14 bytes)) in
    let more : 14 * suc count ≡ 14 + 14 * count = omega arith in
    let shift : drop (14 * suc count) bytes ≡ drop (14 * count) (drop 14 bytes) = ap (λ n. drop n bytes) more ∙ sym (drop-drop (14 * count) 14 bytes) in
    record {
      back =
          append_assoc (fixed_spelling event) others (drop (14 * suc count) bytes)
          ∙ ap (λ b. fixed_spelling event ++ (others ++ b)) shift
          ∙ ap (λ b. fixed_spelling event ++ b) rest.back
          ∙ fixed-back bytes e.whole are;
      counted = ap suc rest.counted;
      put_out = join e.channel (join e.next rest.put_out);
      fits = (event-fits bytes are, rest.fits);
    }

-- the fields of spelled events are right
events-right : (place : ℕ) (before : Option Event) (events : List Event) (rest : List ℕ) → are_put_out_behind before events ≡ true → AllByRecursion FitsEvent events → list_all is_right (fields_of_events place before (length events) (events_bytes events ++ rest)) ≡ true
events-right place before [] rest valid fits = refl
events-right place before (event ∷ events) rest valid fits =
    let v = both (nat_lt event.channel 32) (is_next before event && are_put_out_behind (Some event) events) valid in
    let w = both (is_next before event) (are_put_out_behind (Some event) events) v.1 in
    let behind = events_bytes events ++ rest in
    let here = fixed_spelling event ++ behind in
    let again : fixed_read here ≡ event = fixed-again event behind fits.0.1 in
    let others : list_all is_right (fields_of_events (place + 14) (Some (fixed_read here)) (length events) behind) ≡ true =
    ap (λ e. list_all is_right (fields_of_events (place + 14) (Some e) (length events) behind)) again ∙ events-right (place + 14) (Some event) events rest w.1 fits.1 in
    list_all-append is_right (event_fields place before here) (fields_of_events (place + 14) (Some (fixed_read here)) (length events) behind)
    ∙ join (event-right place before event behind v.0 w.0 fits.0.1) others

-- and they are read again
events-again : (events : List Event) (rest : List ℕ) → AllByRecursion FitsEvent events → events_read (length events) (events_bytes events ++ rest) ≡ events
events-again [] rest fits = refl
events-again (event ∷ events) rest fits =
    let again = fixed-again event (events_bytes events ++ rest) fits.0.1 in
    let others = events-again events rest fits.1 in
    λ j. again j ∷ others j

events-length : (events : List Event) → length (events_bytes events) ≡ 14 * length events
events-length [] = refl
events-length (event ∷ events) =
    let rest : length (events_bytes events) ≡ 14 * length events = events-length events in
    omega (arith, rest)

-- right fields of the first line and of the others
split-lines : (place count : ℕ) (bytes : List ℕ) → list_all is_right (fields_of_lines place (suc count) bytes) ≡ true → (list_all is_right (line_fields place bytes) ≡ true) × (list_all is_right (fields_of_lines (place + 23) count (drop 23 bytes)) ≡ true)
split-lines place count bytes right =
    both (list_all is_right (line_fields place bytes)) (list_all is_right (fields_of_lines (place + 23) count (drop 23 bytes)))
    (sym (list_all-append is_right (line_fields place bytes) (fields_of_lines (place + 23) count (drop 23 bytes))) ∙ right)

lines-room : (place count : ℕ) (bytes : List ℕ) → list_all is_right (fields_of_lines place count bytes) ≡ true → 23 * count ≤ length bytes
lines-room place zero bytes right = omega arith
lines-room place (suc count) bytes right =
    let parts = split-lines place count bytes right in
    let whole = (line-parts place bytes parts.0).whole in
    let rest = lines-room (place + 23) count (drop 23 bytes) parts.1 in
    let left : length (drop 23 bytes) ≡ length bytes - 23 = length-drop 23 bytes in
    omega (arith, whole, rest, left)

-- what so many lines are, where their fields and the end are right
record AreLines (count : ℕ) (bytes : List ℕ) : Type 0 where
  back : lines_bytes (lines_read count bytes) ≡ bytes
  counted : length (lines_read count bytes) ≡ count
  of_channels : list_all is_of_channel (lines_read count bytes) ≡ true
  fits : AllByRecursion FitsLine (lines_read count bytes)

are-lines : (place count : ℕ) (bytes : List ℕ) → AreBytes bytes → list_all is_right (fields_of_lines place count bytes) ≡ true → AreLines count bytes
are-lines place zero bytes are right =
    record { back = sym (right-end Fixed place bytes right); counted = refl; of_channels = refl; fits = tt }
are-lines place (suc count) bytes are right =
    let parts = split-lines place count bytes right in
    let l = line-parts place bytes parts.0 in
    let rest = are-lines (place + 23) count (drop 23 bytes) (are-drop 23 bytes are) parts.1 in
    record {
      back = ap (λ b. line_bytes (line_read bytes) ++ b) rest.back ∙ line-back bytes l.whole l.kind are;
      counted = ap suc rest.counted;
      of_channels = join l.channel rest.of_channels;
      fits = (line-fits bytes are, rest.fits);
    }

lines-right : (place : ℕ) (lines : List LogLine) → list_all is_of_channel lines ≡ true → list_all is_right (fields_of_lines place (length lines) (lines_bytes lines)) ≡ true
lines-right place [] valid = refl
lines-right place (line ∷ lines) valid =
    let v = both (is_of_channel line) (list_all is_of_channel lines) valid in
    let here = line_bytes line ++ lines_bytes lines in
    list_all-append is_right (line_fields place here) (fields_of_lines (place + 23) (length lines) (lines_bytes lines))
    ∙ join (line-right place line (lines_bytes lines) v.0) (lines-right (place + 23) lines v.1)

lines-again : (lines : List LogLine) → AllByRecursion FitsLine lines → lines_read (length lines) (lines_bytes lines) ≡ lines
lines-again [] fits = refl
lines-again (line ∷ lines) fits =
    let again = line-again line (lines_bytes lines) fits.0 in
    let others = lines-again lines fits.1 in
    λ j. again j ∷ others j

-- the first 16 bytes are the header of what is read from them
header-back : (bytes : List ℕ) → 16 ≤ length bytes → has_magic bytes ≡ true → AreBytes bytes → header_bytes (number_read (drop 4 bytes)) (event_count bytes) ++ drop 16 bytes ≡ bytes
header-back (m ∷ n ∷ o ∷ p ∷ a ∷ b ∷ c ∷ d ∷ e ∷ f ∷ g ∷ h ∷ i ∷ j ∷ k ∷ l ∷ rest) enough magic are =
    let p0 = both (m == 68) ((n == 85) && ((o == 77) && (p == 49))) magic in
    let p1 = both (n == 85) ((o == 77) && (p == 49)) p0.1 in
    let p2 = both (o == 77) (p == 49) p1.1 in
    let m_is = eqb-true m 68 p0.0 in
    let n_is = eqb-true n 85 p1.0 in
    let o_is = eqb-true o 77 p2.0 in
    let p_is = eqb-true p 49 p2.1 in
    let whole = m ∷ n ∷ o ∷ p ∷ a ∷ b ∷ c ∷ d ∷ e ∷ f ∷ g ∷ h ∷ i ∷ j ∷ k ∷ l ∷ rest in
    let number : to_le_bytes w64 (from_le_bytes w64 (a ∷ b ∷ c ∷ d ∷ e ∷ f ∷ g ∷ h ∷ [])) ≡ a ∷ b ∷ c ∷ d ∷ e ∷ f ∷ g ∷ h ∷ [] =
    eight-number a b c d e f g h (are-take 8 (a ∷ b ∷ c ∷ d ∷ e ∷ f ∷ g ∷ h ∷ i ∷ j ∷ k ∷ l ∷ rest) (are-drop 4 whole are)) in
    let count : to_le_bytes w32 (from_le_bytes w32 (i ∷ j ∷ k ∷ l ∷ [])) ≡ i ∷ j ∷ k ∷ l ∷ [] = four-back i j k l (are.below 12) (are.below 13) (are.below 14) (are.below 15) in
    ap (λ x. ((68 ∷ 85 ∷ 77 ∷ 49 ∷ []) ++ (x ++ to_le_bytes w32 (from_le_bytes w32 (i ∷ j ∷ k ∷ l ∷ [])))) ++ rest) number
    ∙ ap (λ x. ((68 ∷ 85 ∷ 77 ∷ 49 ∷ []) ++ ((a ∷ b ∷ c ∷ d ∷ e ∷ f ∷ g ∷ h ∷ []) ++ x)) ++ rest) count
    ∙ (λ t. sym m_is t ∷ sym n_is t ∷ sym o_is t ∷ sym p_is t ∷ a ∷ b ∷ c ∷ d ∷ e ∷ f ∷ g ∷ h ∷ i ∷ j ∷ k ∷ l ∷ rest)
header-back _ enough magic are = absurd (omega (arith, enough))

count-back : (bytes : List ℕ) → 4 ≤ length bytes → AreBytes bytes → to_le_bytes w32 (count_read bytes) ++ drop 4 bytes ≡ bytes
count-back (a ∷ b ∷ c ∷ d ∷ rest) enough are =
    ap (λ x. x ++ rest) (four-back a b c d (are.below 0) (are.below 1) (are.below 2) (are.below 3))
count-back _ enough are = absurd (omega (arith, enough))

count-small : (bytes : List ℕ) → AreBytes bytes → count_read bytes < 2 ^ 32
count-small bytes are = four-fit _ _ _ _ (are.below 0) (are.below 1) (are.below 2) (are.below 3)

number-small : (bytes : List ℕ) → AreBytes bytes → number_read bytes < 2 ^ 64
number-small bytes are =
    eight-fit _ _ _ _ _ _ _ _ (are.below 0) (are.below 1) (are.below 2) (are.below 3) (are.below 4) (are.below 5) (are.below 6) (are.below 7)

-- a header whose fields are right is there as a whole
header-whole : (bytes : List ℕ) → list_all is_right (header_fields bytes) ≡ true → (16 ≤ length bytes) × (has_magic bytes ≡ true)
header-whole bytes right =
    let p0 = both _ _ right in
    let p1 = both _ _ p0.1 in
    let p2 = both _ _ p1.1 in
    (true-le _ _ (both (nat_le 16 (length bytes)) true p2.0).0, (both (nat_le 4 (length bytes)) (has_magic bytes) p0.0).1)

-- what right fields say of the bytes
pub record IsRight (bytes : List ℕ) : Type 0 where
  pub header : 16 ≤ length bytes
  pub magic : has_magic bytes ≡ true
  pub events : list_all is_right (fields_of_events 16 None (event_count bytes) (behind_header bytes)) ≡ true
  pub log : 16 + 14 * event_count bytes + 4 ≤ length bytes
  pub lines : list_all is_right (fields_of_lines (16 + 14 * event_count bytes + 4) (count_read (behind_events bytes)) (drop 4 (behind_events bytes))) ≡ true
  pub room : 16 + 14 * event_count bytes + 4 + 23 * count_read (behind_events bytes) ≤ length bytes

pub right-bytes : (bytes : List ℕ) → first_wrong bytes ≡ None → IsRight bytes
right-bytes bytes none =
    let all = all_right (fields_of bytes) none in
    let count = event_count bytes in
    let behind = behind_events bytes in
    let events = fields_of_events 16 None count (behind_header bytes) in
    let log = log_fields (16 + 14 * count) behind in
    let parts = both (list_all is_right (header_fields bytes)) (list_all is_right (events ++ log)) (sym (list_all-append is_right (header_fields bytes) (events ++ log)) ∙ all) in
    let more = both (list_all is_right events) (list_all is_right log) (sym (list_all-append is_right events log) ∙ parts.1) in
    let header = header-whole bytes parts.0 in
    let lines = both _ (list_all is_right (fields_of_lines (16 + 14 * count + 4) (count_read behind) (drop 4 behind))) more.1 in
    let four : 4 ≤ length behind = true-le _ _ (both (nat_le 4 (length behind)) true lines.0).0 in
    let left : length behind ≡ length bytes - (16 + 14 * count) = length-drop (16 + 14 * count) bytes in
    let rest : length (drop 4 behind) ≡ length behind - 4 = length-drop 4 behind in
    let room = lines-room (16 + 14 * count + 4) (count_read behind) (drop 4 behind) lines.1 in
    record {
      header = header.0;
      magic = header.1;
      events = more.0;
      log = omega (arith, four, left);
      lines = lines.1;
      room = omega (arith, four, left, rest, room);
    }

-- bytes without a wrong field spell what is read from them
pub read-spells : (bytes : List ℕ) → AreBytes bytes → first_wrong bytes ≡ None → IsSpelling bytes (dump_read bytes)
read-spells bytes are none = by (right-bytes bytes none)
  where
    by : IsRight bytes → IsSpelling bytes (dump_read bytes)
    by right =
        let count = event_count bytes in
        let behind = behind_events bytes in
        let counter = number_read (drop 4 bytes) in
        let events = events_read count (drop 16 bytes) in
        let lines = lines_read (count_read behind) (drop 4 behind) in
        let are_behind = are-drop (16 + 14 * count) bytes are in
        let e = are-events 16 None count (drop 16 bytes) (are-drop 16 bytes are) right.events in
        let l = are-lines (16 + 14 * count + 4) (count_read behind) (drop 4 behind) (are-drop 4 behind are_behind) right.lines in
        let left : length behind ≡ length bytes - (16 + 14 * count) = length-drop (16 + 14 * count) bytes in
        let four : 4 ≤ length behind = omega (arith, left, right.log) in
        let shift : drop (14 * count) (drop 16 bytes) ≡ behind = drop-drop (14 * count) 16 bytes in
        let log : to_le_bytes w32 (length lines) ++ lines_bytes lines ≡ behind =
        ap (λ n. to_le_bytes w32 n ++ lines_bytes lines) l.counted ∙ ap (λ b. to_le_bytes w32 (count_read behind) ++ b) l.back ∙ count-back behind four are_behind in
        let few_events : length events < 2 ^ 32 = subst (λ n. n < 2 ^ 32) (sym e.counted) (count-small (drop 12 bytes) (are-drop 12 bytes are)) in
        let few_lines : length lines < 2 ^ 32 = subst (λ n. n < 2 ^ 32) (sym l.counted) (count-small behind are_behind) in
        record {
          spelled = sym (ap (λ n. header_bytes counter n ++ (events_bytes events ++ (to_le_bytes w32 (length lines) ++ lines_bytes lines))) e.counted
              ∙ ap (λ b. header_bytes counter count ++ (events_bytes events ++ b)) (log ∙ sym shift)
              ∙ ap (λ b. header_bytes counter count ++ b) e.back
              ∙ header-back bytes right.header right.magic are);
          valid = join (join (lt-true _ _ few_events) (lt-true _ _ few_lines)) (join e.put_out l.of_channels);
          counter_fits = number-small (drop 4 bytes) (are-drop 4 bytes are);
          events_fit = e.fits;
          lines_fit = l.fits;
        }

-- what a spelling says of its parts
record Spelled (dump : Dumped) : Type 0 where
  few_events : length dump.events < 2 ^ 32
  few_lines : length dump.lines < 2 ^ 32
  put_out : are_put_out_behind None dump.events ≡ true
  of_channels : list_all is_of_channel dump.lines ≡ true

spelled-parts : (dump : Dumped) (bytes : List ℕ) → IsSpelling bytes dump → Spelled dump
spelled-parts dump bytes s =
    let v = both (has_few_entries dump) (are_put_out_behind None dump.events && list_all is_of_channel dump.lines) s.valid in
    let few = both (nat_lt (length dump.events) (2 ^ 32)) (nat_lt (length dump.lines) (2 ^ 32)) v.0 in
    let w = both (are_put_out_behind None dump.events) (list_all is_of_channel dump.lines) v.1 in
    record { few_events = ltb-true _ _ few.0; few_lines = ltb-true _ _ few.1; put_out = w.0; of_channels = w.1 }

-- the numbers of events and of lines stand in a spelling
event-count : (dump : Dumped) → length dump.events < 2 ^ 32 → event_count (dump_bytes dump) ≡ length dump.events
event-count dump few = from_le_bytes-to_le_bytes_4 (length dump.events) few

line-count : (lines : List LogLine) → length lines < 2 ^ 32 → count_read (to_le_bytes w32 (length lines) ++ lines_bytes lines) ≡ length lines
line-count lines few = from_le_bytes-to_le_bytes_4 (length lines) few

behind-spelled : (dump : Dumped) → length dump.events < 2 ^ 32 → behind_events (dump_bytes dump) ≡ to_le_bytes w32 (length dump.lines) ++ lines_bytes dump.lines
behind-spelled dump few =
    let text = dump_bytes dump in
    let log = to_le_bytes w32 (length dump.lines) ++ lines_bytes dump.lines in
    ap (λ n. drop (16 + 14 * n) text) (event-count dump few)
    ∙ sym (drop-drop (14 * length dump.events) 16 text)
    ∙ drop_at (events_bytes dump.events) log (14 * length dump.events) (events-length dump.events)

header-right : (dump : Dumped) → list_all is_right (header_fields (dump_bytes dump)) ≡ true
header-right dump =
    let four : nat_le 4 (length (dump_bytes dump)) ≡ true = le-true _ _ (omega arith) in
    let twelve : nat_le 12 (length (dump_bytes dump)) ≡ true = le-true _ _ (omega arith) in
    let sixteen : nat_le 16 (length (dump_bytes dump)) ≡ true = le-true _ _ (omega arith) in
    join (join four refl) (join (join twelve refl) (join (join sixteen refl) refl))

log-right : (place : ℕ) (lines : List LogLine) → length lines < 2 ^ 32 → list_all is_of_channel lines ≡ true → list_all is_right (log_fields place (to_le_bytes w32 (length lines) ++ lines_bytes lines)) ≡ true
log-right place lines few valid =
    let four : nat_le 4 (length (to_le_bytes w32 (length lines) ++ lines_bytes lines)) ≡ true = le-true _ _ (omega arith) in
    join (join four refl)
    (ap (λ n. list_all is_right (fields_of_lines (place + 4) n (lines_bytes lines))) (line-count lines few) ∙ lines-right (place + 4) lines valid)

-- no field of a spelling is wrong
pub spelled-right : (bytes : List ℕ) (dump : Dumped) → IsSpelling bytes dump → first_wrong bytes ≡ None
spelled-right bytes dump s =
    let text = dump_bytes dump in
    let parts = spelled-parts dump bytes s in
    let count = event-count dump parts.few_events in
    let behind = behind-spelled dump parts.few_events in
    let log = to_le_bytes w32 (length dump.lines) ++ lines_bytes dump.lines in
    let event_fields = fields_of_events 16 None (event_count text) (behind_header text) in
    let line_fields = log_fields (16 + 14 * event_count text) (behind_events text) in
    let events : list_all is_right event_fields ≡ true =
    ap (λ n. list_all is_right (fields_of_events 16 None n (events_bytes dump.events ++ log))) count ∙ events-right 16 None dump.events log parts.put_out s.events_fit in
    let lines : list_all is_right line_fields ≡ true =
    (λ j. list_all is_right (log_fields (16 + 14 * count j) (behind j))) ∙ log-right (16 + 14 * length dump.events) dump.lines parts.few_lines parts.of_channels in
    ap first_wrong s.spelled
    ∙ none_wrong (fields_of text) (list_all-append is_right (header_fields text) (event_fields ++ line_fields) ∙ join (header-right dump) (list_all-append is_right event_fields line_fields ∙ join events lines))

-- a spelling is read as what it spells
pub spelled-read : (bytes : List ℕ) (dump : Dumped) → IsSpelling bytes dump → dump_read bytes ≡ dump
spelled-read bytes dump s =
    let text = dump_bytes dump in
    let parts = spelled-parts dump bytes s in
    let log = to_le_bytes w32 (length dump.lines) ++ lines_bytes dump.lines in
    let counter : number_read (drop 4 text) ≡ dump.counter = from_le_bytes-to_le_bytes_8 dump.counter s.counter_fits in
    let events : events_read (event_count text) (behind_header text) ≡ dump.events =
    ap (λ n. events_read n (events_bytes dump.events ++ log)) (event-count dump parts.few_events) ∙ events-again dump.events log s.events_fit in
    let lines : lines_read (count_read (behind_events text)) (drop 4 (behind_events text)) ≡ dump.lines =
    ap (λ b. lines_read (count_read b) (drop 4 b)) (behind-spelled dump parts.few_events)
    ∙ ap (λ n. lines_read n (lines_bytes dump.lines)) (line-count dump.lines parts.few_lines)
    ∙ lines-again dump.lines s.lines_fit in
    ap dump_read s.spelled ∙ (λ j. record { counter = counter j; events = events j; lines = lines j })

-- bytes have no wrong field exactly where they spell a dump
pub right-spells : (bytes : List ℕ) → ((i : ℕ) → get_or bytes i 0 < 256) → (first_wrong bytes ≡ None) ↔ ((dump : Dumped) × IsSpelling bytes dump)
right-spells bytes are =
    (λ right. (dump_read bytes, read-spells bytes (record { below = are }) right), λ s. spelled-right bytes s.0 s.1)

-- and then it is one dump
pub one-dump : (bytes : List ℕ) (first second : Dumped) → IsSpelling bytes first → IsSpelling bytes second → first ≡ second
one-dump bytes first second s t = sym (spelled-read bytes first s) ∙ spelled-read bytes second t

-- the first wrong field, part by part
pub first-in-events : (bytes : List ℕ) (offset : ℕ) → wrong_among (header_fields bytes) ≡ None → wrong_among (fields_of_events 16 None (event_count bytes) (behind_header bytes)) ≡ Some offset → first_wrong bytes ≡ Some offset
first-in-events bytes offset header found =
    let events = fields_of_events 16 None (event_count bytes) (behind_header bytes) in
    let log = log_fields (16 + 14 * event_count bytes) (behind_events bytes) in
    wrong-append_none (header_fields bytes) (events ++ log) header ∙ wrong-append_some events log offset found

pub first-in-log : (bytes : List ℕ) → wrong_among (header_fields bytes) ≡ None → wrong_among (fields_of_events 16 None (event_count bytes) (behind_header bytes)) ≡ None → first_wrong bytes ≡ wrong_among (log_fields (16 + 14 * event_count bytes) (behind_events bytes))
first-in-log bytes header right =
    let events = fields_of_events 16 None (event_count bytes) (behind_header bytes) in
    let log = log_fields (16 + 14 * event_count bytes) (behind_events bytes) in
    wrong-append_none (header_fields bytes) (events ++ log) header ∙ wrong-append_none events log right

pub log-inside : (bytes : List ℕ) (count : ℕ) → wrong_among (header_fields bytes) ≡ None → wrong_among (fields_of_events 16 None count (drop 16 bytes)) ≡ None → 16 + 14 * count ≤ length bytes
log-inside bytes count header right =
    let whole = (header-whole bytes (all_right (header_fields bytes) header)).0 in
    let room = events-room 16 None count (drop 16 bytes) (all_right (fields_of_events 16 None count (drop 16 bytes)) right) in
    let left : length (drop 16 bytes) ≡ length bytes - 16 = length-drop 16 bytes in
    omega (arith, whole, room, left)
