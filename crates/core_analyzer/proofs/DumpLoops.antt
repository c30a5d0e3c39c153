-- Going from event to event and from line to line, as the loops do.
use Rattle.std.proofs.Common.{◌≡◌, ℕ, suc, ◌+◌, ◌-◌, ◌<◌, ◌≤◌, List, [], ◌∷◌, ◌++◌, length, take, drop, get_or, Option, None, Some, sym, ap, subst, ◌∙◌, append_assoc, drop-cons, add-one, arith}
use Rattle.std.specs.List.{AllByRecursion}
use Rattle.std.proofs.lemmas.List.{drop-drop, length-drop, take_more}
use Rattle.rtio_types.specs.declared.event.Event.{Event}
use Rattle.rtio_log.specs.declared.LogLine.{LogLine}
use Rattle.recording_bytes.specs.Reading.{fixed_read}
use Rattle.recording_bytes.specs.Fields.{wrong_among}
use Rattle.recording_bytes.proofs.WrongFields.{all_right, wrong-append_none, wrong-append_some}
use Rattle.core_analyzer.specs.DumpReading.{events_read, line_read, lines_read}
use Rattle.core_analyzer.specs.DumpFields.{event_fields, fields_of_events, fields_of_lines, line_fields}
use Rattle.core_analyzer.proofs.DumpParts.{event-parts, line-parts}

-- an event without a wrong field lies within the bytes
pub event-inside : (at : ℕ) (before : Option Event) (bytes : List ℕ) → at ≤ length bytes → wrong_among (event_fields at before (drop at bytes)) ≡ None → at + 14 ≤ length bytes
event-inside at before bytes inside right =
    let whole = (event-parts at before (drop at bytes) (all_right (event_fields at before (drop at bytes)) right)).whole in
    let left : length (drop at bytes) ≡ length bytes - at = length-drop at bytes in
    omega (arith, whole, left, inside)

-- a wrong field of the next event
pub event-wrong : (place : ℕ) (before : Option Event) (count i : ℕ) (rest : List ℕ) (offset : ℕ) → i < count → wrong_among (event_fields place before rest) ≡ Some offset → wrong_among (fields_of_events place before (count - i) rest) ≡ Some offset
event-wrong place before count i rest offset more found =
    let left : count - i ≡ suc (count - (i + 1)) = omega (arith, more) in
    ap (λ n. wrong_among (fields_of_events place before n rest)) left
    ∙ wrong-append_some (event_fields place before rest) (fields_of_events (place + 14) (Some (fixed_read rest)) (count - (i + 1)) (drop 14 rest)) offset found

-- an event without a wrong field
pub event-past : (at : ℕ) (before : Option Event) (count i : ℕ) (bytes : List ℕ) (event : Event) → i < count → wrong_among (event_fields at before (drop at bytes)) ≡ None → event ≡ fixed_read (drop at bytes) → wrong_among (fields_of_events at before (count - i) (drop at bytes)) ≡ wrong_among (fields_of_events (at + 14) (Some event) (count - (i + 1)) (drop (at + 14) bytes))
event-past at before count i bytes event more right is =
    let left : count - i ≡ suc (count - (i + 1)) = omega (arith, more) in
    let rest = drop at bytes in
    let others = count - (i + 1) in
    ap (λ n. wrong_among (fields_of_events at before n rest)) left
    ∙ wrong-append_none (event_fields at before rest) (fields_of_events (at + 14) (Some (fixed_read rest)) others (drop 14 rest)) right
    ∙ ap (λ e. wrong_among (fields_of_events (at + 14) (Some e) others (drop 14 rest))) (sym is)
    ∙ ap (λ b. wrong_among (fields_of_events (at + 14) (Some event) others b)) (drop-drop 14 at bytes)

-- a line without a wrong field lies within the bytes
pub line-inside : (at : ℕ) (bytes : List ℕ) → at ≤ length bytes → wrong_among (line_fields at (drop at bytes)) ≡ None → at + 23 ≤ length bytes
line-inside at bytes inside right =
    let whole = (line-parts at (drop at bytes) (all_right (line_fields at (drop at bytes)) right)).whole in
    let left : length (drop at bytes) ≡ length bytes - at = length-drop at bytes in
    omega (arith, whole, left, inside)

-- a wrong field of the next line
pub line-wrong : (place count i : ℕ) (rest : List ℕ) (offset : ℕ) → i < count → wrong_among (line_fields place rest) ≡ Some offset → wrong_among (fields_of_lines place (count - i) rest) ≡ Some offset
line-wrong place count i rest offset more found =
    let left : count - i ≡ suc (count - (i + 1)) = omega (arith, more) in
    ap (λ n. wrong_among (fields_of_lines place n rest)) left
    ∙ wrong-append_some (line_fields place rest) (fields_of_lines (place + 23) (count - (i + 1)) (drop 23 rest)) offset found

-- a line without a wrong field
pub line-past : (at count i : ℕ) (bytes : List ℕ) → i < count → wrong_among (line_fields at (drop at bytes)) ≡ None → wrong_among (fields_of_lines at (count - i) (drop at bytes)) ≡ wrong_among (fields_of_lines (at + 23) (count - (i + 1)) (drop (at + 23) bytes))
line-past at count i bytes more right =
    let left : count - i ≡ suc (count - (i + 1)) = omega (arith, more) in
    let rest = drop at bytes in
    let others = count - (i + 1) in
    ap (λ n. wrong_among (fields_of_lines at n rest)) left
    ∙ wrong-append_none (line_fields at rest) (fields_of_lines (at + 23) others (drop 23 rest)) right
    ∙ ap (λ b. wrong_among (fields_of_lines (at + 23) others b)) (drop-drop 23 at bytes)

-- one event more was read
pub event-read : (count i at : ℕ) (bytes : List ℕ) (event : Event) (read more all : List Event) → i < count → event ≡ fixed_read (drop at bytes) → more ≡ read ++ event ∷ [] → read ++ events_read (count - i) (drop at bytes) ≡ all → more ++ events_read (count - (i + 1)) (drop (at + 14) bytes) ≡ all
event-read count i at bytes event read more all lt is grown so_far =
    let left : count - i ≡ suc (count - (i + 1)) = omega (arith, lt) in
    let others = events_read (count - (i + 1)) (drop (at + 14) bytes) in
    let next : events_read (count - i) (drop at bytes) ≡ event ∷ others =
    ap (λ n. events_read n (drop at bytes)) left
    ∙ ap (λ e. e ∷ events_read (count - (i + 1)) (drop 14 (drop at bytes))) (sym is)
    ∙ ap (λ b. event ∷ events_read (count - (i + 1)) b) (drop-drop 14 at bytes) in
    ap (λ es. es ++ others) grown ∙ append_assoc read (event ∷ []) others ∙ ap (λ es. read ++ es) (sym next) ∙ so_far

-- one line more was read
pub line-read : (count i at : ℕ) (bytes : List ℕ) (line : LogLine) (read more all : List LogLine) → i < count → line ≡ line_read (drop at bytes) → more ≡ read ++ line ∷ [] → read ++ lines_read (count - i) (drop at bytes) ≡ all → more ++ lines_read (count - (i + 1)) (drop (at + 23) bytes) ≡ all
line-read count i at bytes line read more all lt is grown so_far =
    let left : count - i ≡ suc (count - (i + 1)) = omega (arith, lt) in
    let others = lines_read (count - (i + 1)) (drop (at + 23) bytes) in
    let next : lines_read (count - i) (drop at bytes) ≡ line ∷ others =
    ap (λ n. lines_read n (drop at bytes)) left
    ∙ ap (λ e. e ∷ lines_read (count - (i + 1)) (drop 23 (drop at bytes))) (sym is)
    ∙ ap (λ b. line ∷ lines_read (count - (i + 1)) b) (drop-drop 23 at bytes) in
    ap (λ es. es ++ others) grown ∙ append_assoc read (line ∷ []) others ∙ ap (λ es. read ++ es) (sym next) ∙ so_far

-- what was written of a list, and what is still to be written
pub record IsWritten {X : Type 0} (bytes_of : List X → List ℕ) (Fits : X → Type 0) (all bytes : List ℕ) (i : ℕ) (xs : List X) : Type 0 where
  pub written : bytes ++ bytes_of (drop i xs) ≡ all
  pub fit : AllByRecursion Fits (take i xs)

fits-more : {X : Type 0} (Fits : X → Type 0) (xs : List X) (x : X) → AllByRecursion Fits xs → Fits x → AllByRecursion Fits (xs ++ x ∷ [])
fits-more Fits [] x fit one = (one, fit)
fits-more Fits (first ∷ xs) x fit one = (fit.0, fits-more Fits xs x fit.1 one)

-- one element more was written
pub written-more : {X : Type 0} (bytes_of : List X → List ℕ) (spelled : X → List ℕ) (Fits : X → Type 0) (all bytes more : List ℕ) (i : ℕ) (xs : List X) (d : X) → ((x : X) (others : List X) → bytes_of (x ∷ others) ≡ spelled x ++ bytes_of others) → i < length xs → IsWritten bytes_of Fits all bytes i xs → more ≡ bytes ++ spelled (get_or xs i d) → Fits (get_or xs i d) → IsWritten bytes_of Fits all more (i + 1) xs
written-more bytes_of spelled Fits all bytes more i xs d step lt w grown fits =
    let x = get_or xs i d in
    let next : drop i xs ≡ x ∷ drop (i + 1) xs = drop-cons xs i d lt ∙ ap (λ k. x ∷ drop k xs) (sym (add-one i)) in
    record {
      written =
          ap (λ b. b ++ bytes_of (drop (i + 1) xs)) grown
          ∙ append_assoc bytes (spelled x) (bytes_of (drop (i + 1) xs))
          ∙ ap (λ b. bytes ++ b) (sym (step x (drop (i + 1) xs)))
          ∙ ap (λ ys. bytes ++ bytes_of ys) (sym next)
          ∙ w.written;
      fit = subst (AllByRecursion Fits) (sym (take_more xs i d lt)) (fits-more Fits (take i xs) x w.fit fits);
    }

-- four pieces that were written one after another
pub four-added : (first second third all a b c d : List ℕ) → first ≡ a → second ≡ first ++ b → third ≡ second ++ c → all ≡ third ++ d → all ≡ a ++ (b ++ (c ++ d))
four-added first second third all a b c d is1 is2 is3 is4 =
    is4 ∙ ap (λ xs. xs ++ d) (is3 ∙ ap (λ xs. xs ++ c) (is2 ∙ ap (λ xs. xs ++ b) is1)) ∙ simp append_assoc
