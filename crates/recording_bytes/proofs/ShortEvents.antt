-- An event in format 2.
use Rattle.std.proofs.Common.{◌≡◌, ℕ, suc, ◌+◌, ◌-◌, ◌*◌, ◌/◌, ◌%◌, ◌<◌, ◌≤◌, ◌^◌, true, List, ◌∷◌, ◌++◌, length, take, drop, get_or, nat_le, ℤ, FitsSigned, w64, refl, sym, ap, ◌∙◌, append_assoc, length-append, arith}
use Rattle.std.specs.Int.{int_wrapping_add}
use Rattle.std.specs.List.{list_all}
use Rattle.std.proofs.lemmas.List.{take_at, drop_at, drop-drop, take-append-drop, length-drop, length-take, length-take-le}
use Rattle.rtio_types.specs.Board.{kind_of_channel, has_address, is_of_board}
use Rattle.rtio_types.specs.declared.event.Event.{Event}
use Rattle.recording_bytes.specs.Numbers.{distance, few_bytes, folded, is_short, number_of, unfolded}
use Rattle.recording_bytes.specs.Spelling.{FitsFields, short_spelling}
use Rattle.recording_bytes.specs.Reading.{data_bytes, data_width, short_read, step_bytes, step_width}
use Rattle.recording_bytes.specs.Fields.{front_fields, is_right, short_fields}
use Rattle.recording_bytes.proofs.WrongFields.{both, join}
use Rattle.recording_bytes.proofs.FewBytes.{few-length, few-number, few-short, limit, number-below, number-few}
use Rattle.recording_bytes.proofs.Steps.{add-distance, distance-add, fits-add, fits-distance, fits-unfolded, folded-below, folded-unfolded, unfolded-folded}
use Rattle.recording_bytes.proofs.FixedEvents.{AreBytes, are-drop, are-take, channel-below, le-true, true-le}

-- data and step behind a front whose third byte has their widths
pub record Laid (widths : ℕ) (value step tail : List ℕ) : Type 0 where
  pub data_is : take (widths % 16) tail ≡ value
  pub step_is : take (widths / 16) (drop (widths % 16) tail) ≡ step
  pub low : widths % 16 ≡ length value
  pub high : widths / 16 ≡ length step
  pub room : length value + length step ≤ length tail

laid : (value step rest : List ℕ) → length value ≤ 4 → Laid (length value + 16 * length step) value step ((value ++ step) ++ rest)
laid value step rest few =
    let low : (length value + 16 * length step) % 16 ≡ length value = omega arith in
    let high : (length value + 16 * length step) / 16 ≡ length step = omega arith in
    let regrouped = append_assoc value step rest in
    let behind : drop ((length value + 16 * length step) % 16) ((value ++ step) ++ rest) ≡ step ++ rest = ap (drop ((length value + 16 * length step) % 16)) regrouped ∙ drop_at value (step ++ rest) _ (sym low) in
    record {
      data_is = ap (take ((length value + 16 * length step) % 16)) regrouped ∙ take_at value (step ++ rest) _ (sym low);
      step_is = ap (take ((length value + 16 * length step) / 16)) behind ∙ take_at step rest _ (sym high);
      low = low;
      high = high;
      room = omega (arith, length-append (value ++ step) rest, length-append value step);
    }

-- the fields are right where the parts are
laid-right : (place channel address widths : ℕ) (value step tail : List ℕ) → Laid widths value step tail → has_address (kind_of_channel channel) address ≡ true → length value ≤ 4 → length step ≤ 8 → is_short value ≡ true → is_short step ≡ true → list_all is_right (short_fields place (channel ∷ address ∷ widths ∷ tail)) ≡ true
laid-right place channel address widths value step tail l board few most short1 short2 =
    let bytes : List ℕ = channel ∷ address ∷ widths ∷ tail in
    let low : widths % 16 ≡ length value = l.low in
    let high : widths / 16 ≡ length step = l.high in
    let room : length value + length step ≤ length tail = l.room in
    let one : nat_le (0 + 1) (length bytes) ≡ true = le-true _ _ (omega arith) in
    let two : nat_le (1 + 1) (length bytes) ≡ true = le-true _ _ (omega arith) in
    let three : nat_le (2 + 1) (length bytes) ≡ true = le-true _ _ (omega arith) in
    let data_in : nat_le (3 + widths % 16) (length bytes) ≡ true = le-true _ _ (omega arith) in
    let step_in : nat_le (3 + widths % 16 + widths / 16) (length bytes) ≡ true = le-true _ _ (omega arith) in
    let low_in : nat_le (widths % 16) 4 ≡ true = le-true _ _ (omega arith) in
    let high_in : nat_le (widths / 16) 8 ≡ true = le-true _ _ (omega arith) in
    let data_short : is_short (take (widths % 16) tail) ≡ true = ap is_short l.data_is ∙ short1 in
    let step_short : is_short (take (widths / 16) (drop (widths % 16) tail)) ≡ true = ap is_short l.step_is ∙ short2 in
    join (join one (channel-below channel address board)) (join (join two board) (join (join three (join low_in high_in)) (join (join data_in data_short) (join (join step_in step_short) refl))))

-- the step to a stamp, as its bytes
abbrev step_of : ℤ → Event → List ℕ
step_of before event = few_bytes 8 (folded (distance before event.stamp))

few-data : (event : Event) → FitsFields event → length (few_bytes 8 event.value) ≤ 4
few-data event fits = let small : event.value < limit 4 = fits.0 in few-length 4 8 event.value small

step-small : (before : ℤ) (event : Event) → folded (distance before event.stamp) < limit 8
step-small before event = folded-below (distance before event.stamp) (fits-distance before event.stamp)

-- the fields of an event of the board are right where its spelling stands
pub short-right : (place : ℕ) (before : ℤ) (event : Event) (rest : List ℕ) → is_of_board event ≡ true → FitsFields event → list_all is_right (short_fields place (short_spelling before event ++ rest)) ≡ true
short-right place before event rest board fits =
    let value = few_bytes 8 event.value in
    let step = step_of before event in
    let small : event.value < limit 8 = omega (arith, fits.0) in
    let few = few-data event fits in
    laid-right place event.channel event.address (length value + 16 * length step) value step ((value ++ step) ++ rest) (laid value step rest few) board few (few-length 8 8 _ (step-small before event)) (few-short 8 event.value small) (few-short 8 _ (step-small before event))

-- and it has as many bytes as its spelling
pub short-size : (before : ℤ) (event : Event) (rest : List ℕ) → FitsFields event → 3 + data_width (short_spelling before event ++ rest) + step_width (short_spelling before event ++ rest) ≡ length (short_spelling before event)
short-size before event rest fits =
    let l = laid (few_bytes 8 event.value) (step_of before event) rest (few-data event fits) in
    let both_parts = length-append (few_bytes 8 event.value) (step_of before event) in
    omega (arith, l.low, l.high, both_parts)

-- an event that fits its fields is read from its spelling
pub short-again : (before : ℤ) (event : Event) (rest : List ℕ) → FitsSigned w64 before → FitsFields event → short_read before (short_spelling before event ++ rest) ≡ event
short-again before event rest fit fits =
    let l = laid (few_bytes 8 event.value) (step_of before event) rest (few-data event fits) in
    let small : event.value < limit 8 = omega (arith, fits.0) in
    let value : number_of (data_bytes (short_spelling before event ++ rest)) ≡ event.value = ap number_of l.data_is ∙ few-number 8 event.value small in
    let step : number_of (step_bytes (short_spelling before event ++ rest)) ≡ folded (distance before event.stamp) = ap number_of l.step_is ∙ few-number 8 _ (step-small before event) in
    let stamp : int_wrapping_add w64 before (unfolded (number_of (step_bytes (short_spelling before event ++ rest)))) ≡ event.stamp = ap (λ n. int_wrapping_add w64 before (unfolded n)) step ∙ ap (int_wrapping_add w64 before) (unfolded-folded (distance before event.stamp)) ∙ add-distance before event.stamp fit fits.1 in
    λ j. record { channel = event.channel; address = event.address; value = value j; stamp = stamp j }

-- what right fields say of the bytes
pub record IsWhole (bytes : List ℕ) : Type 0 where
  pub front : 3 ≤ length bytes
  pub room : 3 + data_width bytes + step_width bytes ≤ length bytes
  pub low : data_width bytes ≤ 4
  pub high : step_width bytes ≤ 8
  pub has : has_address (kind_of_channel (get_or bytes 0 0)) (get_or bytes 1 0) ≡ true
  pub data_short : is_short (data_bytes bytes) ≡ true
  pub step_short : is_short (step_bytes bytes) ≡ true

pub whole : (place : ℕ) (bytes : List ℕ) → list_all is_right (short_fields place bytes) ≡ true → IsWhole bytes
whole place bytes right =
    let p0 = both _ _ right in
    let p1 = both _ _ p0.1 in
    let p2 = both _ _ p1.1 in
    let p3 = both _ _ p2.1 in
    let p4 = both _ _ p3.1 in
    let widths = both _ _ (both _ _ p2.0).1 in
    record {
      front = true-le _ _ (both _ _ p2.0).0;
      room = true-le _ _ (both _ _ p4.0).0;
      low = true-le _ _ widths.0;
      high = true-le _ _ widths.1;
      has = (both _ _ p1.0).1;
      data_short = (both _ _ p3.0).1;
      step_short = (both _ _ p4.0).1;
    }

-- the bytes at the front spell the event that is read from them
pub short-back : (before : ℤ) (bytes : List ℕ) → FitsSigned w64 before → AreBytes bytes → IsWhole bytes → short_spelling before (short_read before bytes) ++ drop (3 + data_width bytes + step_width bytes) bytes ≡ bytes
short-back before (c ∷ a ∷ w ∷ tail) fit are is =
    let room : 3 + w % 16 + w / 16 ≤ suc (suc (suc (length tail))) = is.room in
    let low : w % 16 ≤ 4 = is.low in
    let high : w / 16 ≤ 8 = is.high in
    let value = take (w % 16) tail in
    let behind = drop (w % 16) tail in
    let step = take (w / 16) behind in
    let left : length behind ≡ length tail - (w % 16) = length-drop (w % 16) tail in
    let len1 : length value ≡ w % 16 = length-take-le (w % 16) tail (omega arith) in
    let len2 : length step ≡ w / 16 = length-take-le (w / 16) behind (omega arith) in
    let are_tail = are-drop 3 (c ∷ a ∷ w ∷ tail) are in
    let are1 = are-take (w % 16) tail are_tail in
    let are2 = are-take (w / 16) behind (are-drop (w % 16) tail are_tail) in
    let data_is : few_bytes 8 (number_of value) ≡ value = number-few 8 value are1.below is.data_short (omega arith) in
    let small : number_of step < 2 ^ 64 = number-below 8 step are2.below (omega arith) in
    let read : folded (distance before (int_wrapping_add w64 before (unfolded (number_of step)))) ≡ number_of step = ap folded (distance-add before (unfolded (number_of step)) fit (fits-unfolded (number_of step) small)) ∙ folded-unfolded (number_of step) in
    let step_is : few_bytes 8 (folded (distance before (int_wrapping_add w64 before (unfolded (number_of step))))) ≡ step = ap (few_bytes 8) read ∙ number-few 8 step are2.below is.step_short (omega arith) in
    let widths_are : length value + 16 * length step ≡ w = omega arith in
    let regrouped : 3 + w % 16 + w / 16 ≡ 3 + (w % 16 + w / 16) = omega arith in
    let left_behind : drop (3 + w % 16 + w / 16) (c ∷ a ∷ w ∷ tail) ≡ drop (w % 16 + w / 16) tail = ap (λ n. drop n (c ∷ a ∷ w ∷ tail)) regrouped ∙ sym (drop-drop (w % 16 + w / 16) 3 (c ∷ a ∷ w ∷ tail)) in
    let dropped : drop (w % 16 + w / 16) tail ≡ drop (w / 16) behind = sym (drop-drop (w / 16) (w % 16) tail) in
    let rest : (value ++ step) ++ drop (w % 16 + w / 16) tail ≡ tail = append_assoc value step (drop (w % 16 + w / 16) tail) ∙ ap (λ r. value ++ (step ++ r)) dropped ∙ ap (λ r. value ++ r) (take-append-drop (w / 16) behind) ∙ take-append-drop (w % 16) tail in
    (λ j. c ∷ a ∷ (length (data_is j) + 16 * length (step_is j)) ∷ ((data_is j ++ step_is j) ++ left_behind j))
    ∙ (λ j. c ∷ a ∷ widths_are j ∷ rest j)
short-back before _ fit are is = absurd (omega (arith, is.front))

-- the numbers that are read fit their fields
pub short-fits : (before : ℤ) (bytes : List ℕ) → AreBytes bytes → IsWhole bytes → FitsFields (short_read before bytes)
short-fits before bytes are is =
    let low : data_width bytes ≤ 4 = is.low in
    let room : 3 + data_width bytes + step_width bytes ≤ length bytes = is.room in
    let left : length (drop 3 bytes) ≡ length bytes - 3 = length-drop 3 bytes in
    let len : length (data_bytes bytes) ≡ data_width bytes = length-take-le (data_width bytes) (drop 3 bytes) (omega arith) in
    (number-below 4 (data_bytes bytes) (are-take (data_width bytes) (drop 3 bytes) (are-drop 3 bytes are)).below (omega arith), fits-add before (unfolded (number_of (step_bytes bytes))))

-- the front is there where its fields are right
pub front-there : (place : ℕ) (bytes : List ℕ) → list_all is_right (front_fields place bytes) ≡ true → 3 ≤ length bytes
front-there place bytes right =
    let p0 = both _ _ right in
    let p1 = both _ _ p0.1 in
    let p2 = both _ _ p1.1 in
    true-le _ _ (both _ _ p2.0).0

-- a number that is read from data fits
pub data-small : (bytes : List ℕ) → AreBytes bytes → data_width bytes ≤ 4 → number_of (data_bytes bytes) < 2 ^ 32
data-small bytes are low =
    let len = length-take (data_width bytes) (drop 3 bytes) in
    number-below 4 (data_bytes bytes) (are-take (data_width bytes) (drop 3 bytes) (are-drop 3 bytes are)).below (omega arith)
