-- What the reader takes from the lines of a waveform.
use Rattle.std.proofs.Common.{◌≡◌, ℕ, ◌<◌, ◌^◌, pos, Bool, true, false, cond, List, [], ◌∷◌, ◌++◌, map, refl, ap, sym, ◌∙◌, lit<, lit≤, arith, Some, None, append_assoc, inl, inr, codes}
use Rattle.std.specs.Prelude.{◌==◌, nat_le, Option}
use Rattle.std.specs.Fmt.{digits}
use Rattle.std.specs.List.{slice_split, AllByRecursion}
use Rattle.std.proofs.lemmas.Bool.{cases_Bool, eq-eqb, ne_eqb, eqb-true, eqb-false, le-leb}
use Rattle.std.proofs.lemmas.Fmt.{digits_is_IsNumeral}
use Rattle.core_analyzer.specs.Waveform.{channels, data_line, first_lines, identifier, moment_line, variable_line}
use Rattle.core_analyzer.specs.Level.{data_in, data_in_parts, is_due_below, last_number, level_in, number_in, time_in}
use Rattle.core_analyzer.proofs.Numerals.{digits-lack, numeral-read}
use Rattle.core_analyzer.proofs.Split.{split-at}

-- the bytes of two channels are the same where the channels are
same-byte : (c channel : ℕ) → (identifier c == identifier channel) ≡ (c == channel)
same-byte c channel = elim (cases_Bool (c == channel)) [
  | inl one ↦ eq-eqb _ _ (ap identifier (eqb-true c channel one)) ∙ sym one
  | inr two ↦ ne_eqb _ _ (λ same. eqb-false c channel two (omega arith)) ∙ sym two
]

-- a line of data is cut at its space
cut-data : (c value : ℕ) → value < 2 ^ 64 → slice_split (λ b. b == 32) (digits 2 false value ++ codes " " ++ (identifier c ∷ [])) ≡ digits 2 false value ∷ (identifier c ∷ []) ∷ []
cut-data c value fits =
    let numeral = digits_is_IsNumeral 2 false (lit≤ tt) (lit≤ tt) value fits in
    ap (slice_split (λ b. b == 32)) (append_assoc (digits 2 false value) (32 ∷ []) (identifier c ∷ []))
    ∙ split-at 32 (digits 2 false value) (identifier c ∷ []) (digits-lack 2 32 (digits 2 false value) (lit≤ tt) numeral.0.1)
    ∙ ap (λ b. digits 2 false value ∷ cond b ([] ∷ [] ∷ []) ((identifier c ∷ []) ∷ [])) (ne_eqb (identifier c) 32 (omega arith))

-- a line of data tells its channel its number, and no other channel any
pub data-read : (channel c value : ℕ) → value < 2 ^ 64 → data_in channel (data_line c value) ≡ cond (c == channel) (Some value) None
data-read channel c value fits =
    let numeral = digits_is_IsNumeral 2 false (lit≤ tt) (lit≤ tt) value fits in
    ap (data_in_parts channel) (cut-data c value fits)
    ∙ ap (λ b. cond b (number_in 2 (digits 2 false value)) None) (same-byte c channel)
    ∙ ap (λ o. cond (c == channel) o None) (numeral-read 2 (digits 2 false value) numeral.0 ∙ ap Some numeral.1)

-- the line of a moment tells its time
pub time-read : (n : ℕ) → n < 10 ^ 64 → time_in (moment_line (pos n)) ≡ Some n
time-read n fits =
    let numeral = digits_is_IsNumeral 10 false (lit≤ tt) (lit≤ tt) n fits in
    numeral-read 10 (digits 10 false n) numeral.0 ∙ ap Some numeral.1

still : (is_due named : Bool) → last_number is_due 0 (cond named (Some 0) None) ≡ 0
still true true = refl
still true false = refl
still false true = refl
still false false = refl

kept : (o : Option ℕ) → last_number false 0 o ≡ 0
kept None = refl
kept (Some n) = refl

-- lines of zeros leave a level of 0
zeros-read : (channel time : ℕ) (is_due : Bool) (cs : List ℕ) (rest : List (List ℕ)) → level_in channel time is_due 0 (map (λ c. data_line c 0) cs ++ rest) ≡ level_in channel time is_due 0 rest
zeros-read channel time is_due [] rest = refl
zeros-read channel time is_due (c ∷ cs) rest =
    ap (λ n. level_in channel time is_due n (map (λ c. data_line c 0) cs ++ rest)) (ap (last_number is_due 0) (data-read channel c 0 (lit< tt)) ∙ still is_due (c == channel))
    ∙ zeros-read channel time is_due cs rest

-- the lines that end the names of channels, and the time from which on they have data
abbrev last_of_header : List (List ℕ)
last_of_header = codes "$upscope $end" ∷ codes "$enddefinitions $end" ∷ codes "#0" ∷ []

-- the line tells no time
abbrev IsTimeless : List ℕ → Type 0
IsTimeless line = time_in line ≡ None

-- before the first time no line counts
header-read : (channel time : ℕ) (lines zeros rest : List (List ℕ)) → AllByRecursion IsTimeless lines →
    level_in channel time false 0 (lines ++ last_of_header ++ zeros ++ rest) ≡ level_in channel time (nat_le 0 time) 0 (zeros ++ rest)
header-read channel time [] zeros rest h = refl
header-read channel time (line ∷ lines) zeros rest h =
    ap (λ o. level_in channel time (is_due_below time false o) (last_number false 0 (data_in channel line)) (lines ++ last_of_header ++ zeros ++ rest)) h.0
    ∙ ap (λ n. level_in channel time false n (lines ++ last_of_header ++ zeros ++ rest)) (kept (data_in channel line))
    ∙ header-read channel time lines zeros rest h.1

-- the names of channels tell no time
names-timeless : (cs : List ℕ) → AllByRecursion IsTimeless (map variable_line cs)
names-timeless [] = tt
names-timeless (c ∷ cs) = (refl, names-timeless cs)

-- behind the first lines each channel has 0
pub first-read : (channel time : ℕ) (rest : List (List ℕ)) → level_in channel time false 0 (first_lines ++ rest) ≡ level_in channel time true 0 rest
first-read channel time rest =
    header-read channel time (map variable_line channels) (map (λ c. data_line c 0) channels) rest (names-timeless channels)
    ∙ ap (λ b. level_in channel time b 0 (map (λ c. data_line c 0) channels ++ rest)) (le-leb 0 time (omega arith))
    ∙ zeros-read channel time true channels rest
