-- Going from event to event, as the loops do.
use Rattle.std.proofs.Common.{◌≡◌, ℕ, suc, ◌+◌, ◌-◌, ◌<◌, ◌≤◌, List, [], ◌∷◌, ◌++◌, length, take, drop, None, Some, ℤ, sym, ap, ◌∙◌, append_assoc, arith}
use Rattle.std.proofs.lemmas.List.{append-nil, drop-drop, length-drop, take_all}
use Rattle.rtio_types.specs.declared.event.Event.{Event}
use Rattle.recording_bytes.specs.declared.format.Format.{Format}
use Rattle.recording_bytes.specs.Reading.{event_read, event_size, events_read}
use Rattle.recording_bytes.specs.Fields.{event_fields, fields_of_events, wrong_among}
use Rattle.recording_bytes.proofs.WrongFields.{all_right, none_wrong, wrong-append_none, wrong-append_some}
use Rattle.recording_bytes.proofs.Events.{event-front, event-moved, event-whole, right-parts}

-- all bytes from a place on
pub tail : (at : ℕ) (bytes : List ℕ) → take (length bytes - at) (drop at bytes) ≡ drop at bytes
tail at bytes = take_all (length bytes - at) (drop at bytes) (omega (arith, length-drop at bytes))

-- a wrong field of the next event
pub event-wrong : (format : Format) (count i at : ℕ) (rest : List ℕ) (offset : ℕ) → i < count → wrong_among (event_fields format at rest) ≡ Some offset → wrong_among (fields_of_events format at (count - i) rest) ≡ Some offset
event-wrong format count i at rest offset more found =
    let left : count - i ≡ suc (count - (i + 1)) = omega arith in
    ap (λ n. wrong_among (fields_of_events format at n rest)) left
    ∙ wrong-append_some (event_fields format at rest) (fields_of_events format (at + event_size format rest) (count - (i + 1)) (drop (event_size format rest) rest)) offset found

-- an event without a wrong field
pub event-past : (format : Format) (count i at size : ℕ) (bytes : List ℕ) → i < count → wrong_among (event_fields format at (drop at bytes)) ≡ None → size ≡ event_size format (drop at bytes) → wrong_among (fields_of_events format at (count - i) (drop at bytes)) ≡ wrong_among (fields_of_events format (at + size) (count - (i + 1)) (drop (at + size) bytes))
event-past format count i at size bytes more right is =
    let left : count - i ≡ suc (count - (i + 1)) = omega arith in
    let rest = drop at bytes in
    let others = count - (i + 1) in
    ap (λ n. wrong_among (fields_of_events format at n rest)) left
    ∙ wrong-append_none (event_fields format at rest) (fields_of_events format (at + event_size format rest) others (drop (event_size format rest) rest)) right
    ∙ ap (λ n. wrong_among (fields_of_events format (at + n) others (drop n rest))) (sym is)
    ∙ ap (λ b. wrong_among (fields_of_events format (at + size) others b)) (drop-drop size at bytes)

-- it lies within the bytes
pub event-inside : (format : Format) (at size : ℕ) (bytes : List ℕ) → at ≤ length bytes → wrong_among (event_fields format at (drop at bytes)) ≡ None → size ≡ event_size format (drop at bytes) → at + size ≤ length bytes
event-inside format at size bytes inside right is =
    let whole = event-whole format at (drop at bytes) (all_right (event_fields format at (drop at bytes)) right) in
    let left : length (drop at bytes) ≡ length bytes - at = length-drop at bytes in
    omega arith

pub event-there : (format : Format) (at : ℕ) (rest : List ℕ) → wrong_among (event_fields format at rest) ≡ None → 3 ≤ length rest
event-there format at rest right = event-front format at rest (all_right (event_fields format at rest) right)

-- where no field of the events is wrong, none of the next one is
pub next-right : (format : Format) (count i at : ℕ) (rest : List ℕ) → i < count → wrong_among (fields_of_events format at (count - i) rest) ≡ None → wrong_among (event_fields format at rest) ≡ None
next-right format count i at rest more right =
    let left : count - i ≡ suc (count - (i + 1)) = omega arith in
    let all = all_right (fields_of_events format at (suc (count - (i + 1))) rest) (sym (ap (λ n. wrong_among (fields_of_events format at n rest)) left) ∙ right) in
    none_wrong (event_fields format at rest) (right-parts format at (count - (i + 1)) rest all).0

pub right-anywhere : (format : Format) (place other : ℕ) (rest : List ℕ) → wrong_among (event_fields format place rest) ≡ None → wrong_among (event_fields format other rest) ≡ None
right-anywhere format place other rest right =
    none_wrong (event_fields format other rest) (event-moved format place other rest (all_right (event_fields format place rest) right))

-- one event more was read
pub read-more : (format : Format) (count i at size : ℕ) (bytes : List ℕ) (before : ℤ) (event : Event) (read more all : List Event) → i < count → size ≡ event_size format (drop at bytes) → event ≡ event_read format before (drop at bytes) → more ≡ read ++ event ∷ [] → read ++ events_read format before (count - i) (drop at bytes) ≡ all → more ++ events_read format event.stamp (count - (i + 1)) (drop (at + size) bytes) ≡ all
read-more format count i at size bytes before event read more all lt is reads grown so_far =
    let left : count - i ≡ suc (count - (i + 1)) = omega arith in
    let rest = drop at bytes in
    let others = count - (i + 1) in
    let next : events_read format before (count - i) rest ≡ event ∷ events_read format event.stamp others (drop (at + size) bytes) =
    ap (λ n. events_read format before n rest) left
    ∙ ap (λ e. e ∷ events_read format e.stamp others (drop (event_size format rest) rest)) (sym reads)
    ∙ ap (λ n. event ∷ events_read format event.stamp others (drop n rest)) (sym is)
    ∙ ap (λ b. event ∷ events_read format event.stamp others b) (drop-drop size at bytes) in
    ap (λ es. es ++ events_read format event.stamp others (drop (at + size) bytes)) grown
    ∙ append_assoc read (event ∷ []) (events_read format event.stamp others (drop (at + size) bytes))
    ∙ ap (λ es. read ++ es) (sym next)
    ∙ so_far

-- nothing is left to be read
pub read-all : (format : Format) (count i at : ℕ) (bytes : List ℕ) (before : ℤ) (read all : List Event) → count ≤ i → read ++ events_read format before (count - i) (drop at bytes) ≡ all → read ≡ all
read-all format count i at bytes before read all done so_far =
    let none : count - i ≡ 0 = omega arith in
    sym (append-nil read) ∙ ap (λ n. read ++ events_read format before n (drop at bytes)) (sym none) ∙ so_far
