-- Events one behind another, in either format.
use Rattle.std.proofs.Common.{◌≡◌, ℕ, zero, suc, ◌+◌, ◌≤◌, true, List, [], ◌∷◌, ◌++◌, length, drop, ℤ, FitsSigned, w64, refl, sym, ap, ◌∙◌, arith}
use Rattle.std.specs.List.{list_all, AllByRecursion}
use Rattle.std.proofs.lemmas.Bool.Decides.{Decides-eqb}
use Rattle.std.proofs.lemmas.List.{drop_at, nil_from_length}
use Rattle.std.proofs.lemmas.List.Folds.{list_all-append}
use Rattle.rtio_types.specs.Board.{is_of_board, are_of_board}
use Rattle.rtio_types.specs.declared.event.Event.{Event}
use Rattle.recording_bytes.specs.declared.format.Format.{Format}
use Rattle.recording_bytes.specs.declared.format.Format.TheVariants.{Fixed, Short}
use Rattle.recording_bytes.specs.Spelling.{FitsFields, event_spelling, events_spelling}
use Rattle.recording_bytes.specs.Reading.{event_read, event_size, events_read}
use Rattle.recording_bytes.specs.Fields.{event_fields, fields_of_events, is_right}
use Rattle.recording_bytes.proofs.WrongFields.{both, join}
use Rattle.recording_bytes.proofs.FixedEvents.{AreBytes, are-drop, fixed-again, fixed-back, fixed-fits, fixed-parts, fixed-right}
use Rattle.recording_bytes.proofs.ShortEvents.{short-again, short-back, short-fits, short-right, short-size, whole}

-- the event at the front is there as a whole
pub event-whole : (format : Format) (place : ℕ) (bytes : List ℕ) → list_all is_right (event_fields format place bytes) ≡ true → event_size format bytes ≤ length bytes
event-whole Fixed place bytes right = (fixed-parts place bytes right).0
event-whole Short place bytes right = (whole place bytes right).room

-- and has a front
pub event-front : (format : Format) (place : ℕ) (bytes : List ℕ) → list_all is_right (event_fields format place bytes) ≡ true → 3 ≤ length bytes
event-front Fixed place bytes right =
    let enough : 14 ≤ length bytes = event-whole Fixed place bytes right in
    omega arith
event-front Short place bytes right = (whole place bytes right).front

-- what the event at the front is, where its fields are right
record IsEvent (format : Format) (before : ℤ) (bytes : List ℕ) : Type 0 where
  back : event_spelling format before (event_read format before bytes) ++ drop (event_size format bytes) bytes ≡ bytes
  board : is_of_board (event_read format before bytes) ≡ true
  fits : FitsFields (event_read format before bytes)

is-event : (format : Format) (before : ℤ) (place : ℕ) (bytes : List ℕ) → FitsSigned w64 before → AreBytes bytes → list_all is_right (event_fields format place bytes) ≡ true → IsEvent format before bytes
is-event Fixed before place bytes fit are right =
    let parts = fixed-parts place bytes right in
    record {
      back = fixed-back bytes parts.0 are;
      board = parts.1;
      fits = fixed-fits bytes are;
    }
is-event Short before place bytes fit are right =
    let w = whole place bytes right in
    record { back = short-back before bytes fit are w; board = w.has; fits = short-fits before bytes are w }

event-right : (format : Format) (before : ℤ) (place : ℕ) (event : Event) (rest : List ℕ) → is_of_board event ≡ true → FitsFields event → list_all is_right (event_fields format place (event_spelling format before event ++ rest)) ≡ true
event-right Fixed before place event rest board fits = fixed-right place event rest board
event-right Short before place event rest board fits = short-right place before event rest board fits

event-size : (format : Format) (before : ℤ) (event : Event) (rest : List ℕ) → FitsFields event → event_size format (event_spelling format before event ++ rest) ≡ length (event_spelling format before event)
event-size Fixed before event rest fits = refl
event-size Short before event rest fits = short-size before event rest fits

event-again : (format : Format) (before : ℤ) (event : Event) (rest : List ℕ) → FitsSigned w64 before → FitsFields event → event_read format before (event_spelling format before event ++ rest) ≡ event
event-again Fixed before event rest fit fits = fixed-again event rest fits
event-again Short before event rest fit fits = short-again before event rest fit fits

-- what is left behind the spelling of an event
behind-event : (format : Format) (before : ℤ) (event : Event) (rest : List ℕ) → FitsFields event → drop (event_size format (event_spelling format before event ++ rest)) (event_spelling format before event ++ rest) ≡ rest
behind-event format before event rest fits = drop_at (event_spelling format before event) rest _ (sym (event-size format before event rest fits))

-- what so many events are, where their fields and the end are right
pub record AreEvents (format : Format) (before : ℤ) (count : ℕ) (bytes : List ℕ) : Type 0 where
  pub back : events_spelling format before (events_read format before count bytes) ≡ bytes
  pub counted : length (events_read format before count bytes) ≡ count
  pub board : are_of_board (events_read format before count bytes) ≡ true
  pub fits : AllByRecursion FitsFields (events_read format before count bytes)

-- right fields of the first event and of the others
pub right-parts : (format : Format) (place count : ℕ) (bytes : List ℕ) → list_all is_right (fields_of_events format place (suc count) bytes) ≡ true → (list_all is_right (event_fields format place bytes) ≡ true) × (list_all is_right (fields_of_events format (place + event_size format bytes) count (drop (event_size format bytes) bytes)) ≡ true)
right-parts format place count bytes right =
    both _ _ (sym (list_all-append is_right (event_fields format place bytes) (fields_of_events format (place + event_size format bytes) count (drop (event_size format bytes) bytes))) ∙ right)

pub right-end : (format : Format) (place : ℕ) (bytes : List ℕ) → list_all is_right (fields_of_events format place zero bytes) ≡ true → bytes ≡ []
right-end format place bytes right =
    nil_from_length bytes ((Decides-eqb _ _).0 (both _ _ (both _ _ right).0).1)

pub are-events : (format : Format) (before : ℤ) (place count : ℕ) (bytes : List ℕ) → FitsSigned w64 before → AreBytes bytes → list_all is_right (fields_of_events format place count bytes) ≡ true → AreEvents format before count bytes
are-events format before place zero bytes fit are right =
    record { back = sym (right-end format place bytes right); counted = refl; board = refl; fits = tt }
are-events format before place (suc count) bytes fit are right =
    let parts = right-parts format place count bytes right in
    let size = event_size format bytes in
    let event = event_read format before bytes in
    let first = is-event format before place bytes fit are parts.0 in
    let rest = are-events format event.stamp (place + size) count (drop size bytes) first.fits.1 (are-drop size bytes are) parts.1 in
    record {
      back = ap (λ others. event_spelling format before event ++ others) rest.back ∙ first.back;
      counted = ap suc rest.counted;
      board = join first.board rest.board;
      fits = (first.fits, rest.fits);
    }

-- the fields of a spelling of events are right
pub events-right : (format : Format) (before : ℤ) (place : ℕ) (events : List Event) → are_of_board events ≡ true → AllByRecursion FitsFields events → list_all is_right (fields_of_events format place (length events) (events_spelling format before events)) ≡ true
events-right format before place [] board fits = refl
events-right format before place (event ∷ events) board fits =
    let rest = events_spelling format event.stamp events in
    let bytes = event_spelling format before event ++ rest in
    let size = event_size format bytes in
    let others : list_all is_right (fields_of_events format (place + size) (length events) (drop size bytes)) ≡ true = ap (λ b. list_all is_right (fields_of_events format (place + size) (length events) b)) (behind-event format before event rest fits.0) ∙ events-right format event.stamp (place + size) events (both _ _ board).1 fits.1 in
    list_all-append is_right (event_fields format place bytes) (fields_of_events format (place + size) (length events) (drop size bytes)) ∙ join (event-right format before place event rest (both _ _ board).0 fits.0) others

-- and the events are read from it
pub events-again : (format : Format) (before : ℤ) (events : List Event) → FitsSigned w64 before → AllByRecursion FitsFields events → events_read format before (length events) (events_spelling format before events) ≡ events
events-again format before [] fit fits = refl
events-again format before (event ∷ events) fit fits =
    let rest = events_spelling format event.stamp events in
    let again = event-again format before event rest fit fits.0 in
    let behind = behind-event format before event rest fits.0 in
    (λ j. again j ∷ events_read format (again j).stamp (length events) (behind j)) ∙ ap (λ others. event ∷ others) (events-again format event.stamp events fits.0.1 fits.1)

-- where an event stands its fields are right wherever they are said to begin
pub event-moved : (format : Format) (place other : ℕ) (bytes : List ℕ) → list_all is_right (event_fields format place bytes) ≡ true → list_all is_right (event_fields format other bytes) ≡ true
event-moved Fixed place other bytes right = right
event-moved Short place other bytes right = right
