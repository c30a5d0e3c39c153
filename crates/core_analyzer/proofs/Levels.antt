-- The level that is read from a waveform is the data of the last event.
use Rattle.std.proofs.Common.{◌≡◌, ℕ, ◌<◌, ◌^◌, ℤ, pos, negsuc, Bool, true, false, not, ◌&&◌, cond, List, [], ◌∷◌, ◌++◌, refl, ap, sym, ◌∙◌, lit≤, arith, Some, None, inl, inr, codes, fold}
use Rattle.std.specs.Prelude.{◌==◌, int_le}
use Rattle.std.specs.Fmt.{digits}
use Rattle.std.specs.List.{AllByRecursion}
use Rattle.std.specs.Ordering.{int_eq}
use Rattle.std.proofs.lemmas.Bool.{cases_Bool, and_from, ne_eqb}
use Rattle.std.proofs.lemmas.Bool.Decides.{Decides-int_eq}
use Rattle.std.proofs.lemmas.Fmt.{digits_is_IsNumeral}
use Rattle.std.proofs.lemmas.List.Folds.{list_all-append}
use Rattle.rtio_types.specs.declared.event.Event.{Event}
use Rattle.core_analyzer.specs.Waveform.{data_line, identifier, moment_line}
use Rattle.core_analyzer.specs.Level.{is_shown, is_due_below, last_number, level_in}
use Rattle.core_analyzer.proofs.Lines.{data-read, time-read}
use Rattle.core_analyzer.proofs.Numerals.{digits-lack}
use Rattle.core_analyzer.specs.Running.{lines_behind, moment_behind}
use Rattle.core_analyzer.proofs.Split.{IsUnbroken, lacks}

-- a stamp that a line can tell
abbrev pub IsTime : ℤ → Type 0
IsTime (pos n) = n < 10 ^ 64
IsTime (negsuc n) = ⊥

-- an event that lines can tell
abbrev pub IsReadable : Event → Type 0
IsReadable event = (event.value < 2 ^ 64) × IsTime event.stamp

lacks-append : (mark : ℕ) (xs ys : List ℕ) → lacks mark xs ≡ true → lacks mark ys ≡ true → lacks mark (xs ++ ys) ≡ true
lacks-append mark xs ys h k = list_all-append (λ byte. not (byte == mark)) xs ys ∙ and_from _ _ h k

data-unbroken : (c value : ℕ) → value < 2 ^ 64 → IsUnbroken (data_line c value)
data-unbroken c value fits =
    let numeral = digits_is_IsNumeral 2 false (lit≤ tt) (lit≤ tt) value fits in
    lacks-append 10 (digits 2 false value ++ codes " ") (identifier c ∷ [])
    (lacks-append 10 (digits 2 false value) (codes " ") (digits-lack 2 10 (digits 2 false value) (lit≤ tt) numeral.0.1) refl)
    (and_from _ _ (ap not (ne_eqb (identifier c) 10 (omega arith))) refl)

moment-unbroken : (stamp : ℤ) → IsTime stamp → IsUnbroken (moment_line stamp)
moment-unbroken (pos n) fits = digits-lack 10 10 (digits 10 false n) (lit≤ tt) (digits_is_IsNumeral 10 false (lit≤ tt) (lit≤ tt) n fits).0.1
moment-unbroken (negsuc n) fits = absurd fits

moments-unbroken : (before stamp : ℤ) (lines : List (List ℕ)) → IsTime stamp → AllByRecursion IsUnbroken lines → AllByRecursion IsUnbroken (moment_behind before stamp ++ lines)
moments-unbroken before stamp lines fits h =
    elim (int_eq stamp before) as (λ b. AllByRecursion IsUnbroken (cond b [] (moment_line stamp ∷ []) ++ lines)) [ true ↦ h | false ↦ (moment-unbroken stamp fits, h) ]

-- no line feed stands in the lines of events
pub lines-unbroken : (before : ℤ) (events : List Event) → AllByRecursion IsReadable events → AllByRecursion IsUnbroken (lines_behind before events)
lines-unbroken before [] h = tt
lines-unbroken before (event ∷ events) h =
    moments-unbroken before event.stamp _ h.0.1 (data-unbroken event.channel event.value h.0.0, lines-unbroken event.stamp events h.1)

counted : (is_due named : Bool) (value number : ℕ) → last_number is_due number (cond named (Some value) None) ≡ cond (named && is_due) value number
counted true true value number = refl
counted true false value number = refl
counted false true value number = refl
counted false false value number = refl

data-step : (channel time : ℕ) (is_due : Bool) (number c value : ℕ) (rest : List (List ℕ)) → value < 2 ^ 64 →
    level_in channel time is_due number (data_line c value ∷ rest) ≡ level_in channel time is_due (cond ((c == channel) && is_due) value number) rest
data-step channel time is_due number c value rest fits =
    ap (λ n. level_in channel time is_due n rest) (ap (last_number is_due number) (data-read channel c value fits) ∙ counted is_due (c == channel) value number)

moment-step : (channel time : ℕ) (is_due : Bool) (number : ℕ) (stamp : ℤ) (rest : List (List ℕ)) → IsTime stamp →
    level_in channel time is_due number (moment_line stamp ∷ rest) ≡ level_in channel time (int_le stamp (pos time)) number rest
moment-step channel time is_due number (pos n) rest fits =
    ap (λ o. level_in channel time (is_due_below time is_due o) number rest) (time-read n fits)
moment-step channel time is_due number (negsuc n) rest fits = absurd fits

-- the line of a stamp, where there is one, says whether what follows counts
moments-step : (channel time : ℕ) (number : ℕ) (before stamp : ℤ) (lines rest : List (List ℕ)) → IsTime stamp →
    level_in channel time (int_le before (pos time)) number ((moment_behind before stamp ++ lines) ++ rest) ≡ level_in channel time (int_le stamp (pos time)) number (lines ++ rest)
moments-step channel time number before stamp lines rest fits = elim (cases_Bool (int_eq stamp before)) [
  | inl one ↦
      ap (λ b. level_in channel time (int_le before (pos time)) number ((cond b [] (moment_line stamp ∷ []) ++ lines) ++ rest)) one
      ∙ ap (λ s. level_in channel time (int_le s (pos time)) number (lines ++ rest)) (sym ((Decides-int_eq stamp before).0 one))
  | inr two ↦
      ap (λ b. level_in channel time (int_le before (pos time)) number ((cond b [] (moment_line stamp ∷ []) ++ lines) ++ rest)) two
      ∙ moment-step channel time (int_le before (pos time)) number stamp (lines ++ rest) fits
]

-- behind a stamp the reader's number is what the events make of it
pub levels-behind : (channel time : ℕ) (before : ℤ) (number : ℕ) (events : List Event) → AllByRecursion IsReadable events →
    level_in channel time (int_le before (pos time)) number (lines_behind before events ++ ([] ∷ []))
    ≡ fold (λ value (event : Event). cond (is_shown channel time event) event.value value) number events
levels-behind channel time before number [] h = refl
levels-behind channel time before number (event ∷ events) h =
    let rest = lines_behind event.stamp events in
    moments-step channel time number before event.stamp (data_line event.channel event.value ∷ rest) ([] ∷ []) h.0.1
    ∙ data-step channel time (int_le event.stamp (pos time)) number event.channel event.value (rest ++ ([] ∷ [])) h.0.0
    ∙ levels-behind channel time event.stamp (cond (is_shown channel time event) event.value number) events h.1
