-- The lines that are written so far.
use Rattle.std.proofs.Common.{◌≡◌, ℕ, ◌+◌, ◌<◌, ℤ, true, List, [], ◌∷◌, ◌++◌, length, take, drop, get_or, map, ap, sym, subst, ◌∙◌, append_assoc, drop-cons, add-one, zero-add}
use Rattle.std.specs.Prelude.{nat_lt}
use Rattle.std.specs.List.{AllByRecursion, list_all, range_with_len}
use Rattle.std.proofs.lemmas.Bool.{and_parts}
use Rattle.std.proofs.lemmas.List.{flat_map_more, take_more}
use Rattle.std.proofs.lemmas.Grind.{flat_map-append}
use Rattle.std.proofs.lemmas.List.FromFn.{map-range_with_len_more}
use Rattle.rtio_types.specs.declared.event.Event.{Event}
use Rattle.recording_bytes.specs.Spelling.{FitsFields}
use Rattle.core_analyzer.specs.Waveform.{data_line, text_of_lines}
use Rattle.core_analyzer.specs.Running.{lines_behind, moment_behind}

-- a line for one channel more
pub line-more : (line : ℕ → List ℕ) (old : List ℕ) (i : ℕ) → (old ++ text_of_lines (map line (range_with_len 0 i))) ++ (line i ++ (10 ∷ [])) ≡ old ++ text_of_lines (map line (range_with_len 0 (i + 1)))
line-more line old i =
    flat_map_more (λ (l : List ℕ). l ++ (10 ∷ [])) old (map line (range_with_len 0 i)) (line i)
    ∙ ap (λ lines. old ++ text_of_lines lines) (sym (map-range_with_len_more line 0 i i (zero-add i)))

-- a text of more lines is longer by their text
pub text-append : (xs ys : List (List ℕ)) → text_of_lines (xs ++ ys) ≡ text_of_lines xs ++ text_of_lines ys
text-append = flat_map-append (λ (line : List ℕ). line ++ (10 ∷ []))

-- the text so far, with the lines of the events that are left, is all of it
pub record IsWritten (all text : List ℕ) (before : ℤ) (i : ℕ) (events : List Event) : Type 0 where
  pub written : text ++ text_of_lines (lines_behind before (drop i events)) ≡ all
  pub left : list_all (λ (event : Event). nat_lt event.channel 32) (drop i events) ≡ true
  pub fit : AllByRecursion FitsFields (take i events)

fits-more : (events : List Event) (event : Event) → AllByRecursion FitsFields events → FitsFields event → AllByRecursion FitsFields (events ++ event ∷ [])
fits-more [] event fit one = (one, fit)
fits-more (first ∷ events) event fit one = (fit.0, fits-more events event fit.1 one)

-- the first of the events that are left
left-cons : (i : ℕ) (events : List Event) (d : Event) → i < length events → drop i events ≡ get_or events i d ∷ drop (i + 1) events
left-cons i events d lt = drop-cons events i d lt ∙ ap (λ k. get_or events i d ∷ drop k events) (sym (add-one i))

pub left-parts : (i : ℕ) (events : List Event) (d : Event) → i < length events → list_all (λ (event : Event). nat_lt event.channel 32) (drop i events) ≡ true →
    (nat_lt (get_or events i d).channel 32 ≡ true) × (list_all (λ (event : Event). nat_lt event.channel 32) (drop (i + 1) events) ≡ true)
left-parts i events d lt h = and_parts _ _ (ap (list_all (λ (event : Event). nat_lt event.channel 32)) (sym (left-cons i events d lt)) ∙ h)

-- one event more
pub written-more : (all text more : List ℕ) (before : ℤ) (i : ℕ) (events : List Event) (d : Event) → i < length events → IsWritten all text before i events →
    more ≡ text ++ text_of_lines (moment_behind before (get_or events i d).stamp ++ (data_line (get_or events i d).channel (get_or events i d).value ∷ [])) →
    FitsFields (get_or events i d) → IsWritten all more (get_or events i d).stamp (i + 1) events
written-more all text more before i events d lt w grown fits =
    let event = get_or events i d in
    let rest = lines_behind event.stamp (drop (i + 1) events) in
    let moment = moment_behind before event.stamp in
    let data' = data_line event.channel event.value in
    record {
      written =
          ap (λ (t : List ℕ). t ++ text_of_lines rest) grown
          ∙ append_assoc text (text_of_lines (moment ++ (data' ∷ []))) (text_of_lines rest)
          ∙ ap (λ (t : List ℕ). text ++ t) (sym (text-append (moment ++ (data' ∷ [])) rest) ∙ ap text_of_lines (append_assoc moment (data' ∷ []) rest))
          ∙ ap (λ (es : List Event). text ++ text_of_lines (lines_behind before es)) (sym (left-cons i events d lt))
          ∙ w.written;
      left = (left-parts i events d lt w.left).1;
      fit = subst (AllByRecursion FitsFields) (sym (take_more events i d lt)) (fits-more (take i events) event w.fit fits);
    }
