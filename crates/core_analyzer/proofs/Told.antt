-- What the text of a waveform is, and what it tells.
use Rattle.std.proofs.Common.{◌≡◌, ℕ, ◌<◌, pos, true, false, List, [], ◌∷◌, ◌++◌, map, refl, ap, sym, ◌∙◌, arith, append_assoc, codes}
use Rattle.std.specs.Char.{encode_utf8}
use Rattle.std.specs.Fmt.{digits}
use Rattle.std.specs.List.{AllByRecursion, list_all}
use Rattle.std.proofs.lemmas.Bool.{and_parts, le-leb}
use Rattle.std.proofs.lemmas.Str.{encode_ascii}
use Rattle.rtio_types.specs.Board.{name_of_channel}
use Rattle.rtio_types.specs.declared.event.Event.{Event}
use Rattle.recording_bytes.specs.Spelling.{FitsFields}
use Rattle.core_analyzer.specs.Waveform.{channels, data_line, first_lines, identifier, text_of_lines, variable_line, waveform_lines, waveform_text}
use Rattle.core_analyzer.specs.Running.{lines_behind}
use Rattle.core_analyzer.specs.Level.{last_data, level, level_in}
use Rattle.core_analyzer.specs.Rising.{are_rising}
use Rattle.core_analyzer.proofs.InOrder.{all-readable, rising-dont-fall, rising-late}
use Rattle.core_analyzer.proofs.Levels.{IsReadable, levels-behind, lines-unbroken}
use Rattle.core_analyzer.proofs.Lines.{first-read}
use Rattle.core_analyzer.proofs.Moments.{moments-lines}
use Rattle.core_analyzer.proofs.Split.{IsUnbroken, lacks, split-lines}
use Rattle.core_analyzer.proofs.Written.{text-append}

-- the line that names a channel, as it is written
pub variable-spelled : (channel id : ℕ) (word number : List ℕ) → channel < 32 → id ≡ identifier channel → word ++ number ≡ name_of_channel channel →
    codes "$var wire 32 " ++ (encode_utf8 id ++ (32 ∷ (word ++ (number ++ codes " $end\n")))) ≡ variable_line channel ++ codes "\n"
variable-spelled channel id word number low is-id is-name =
    ap (λ (x : List ℕ). codes "$var wire 32 " ++ (x ++ (32 ∷ (word ++ (number ++ codes " $end\n"))))) (encode_ascii id (omega arith) ∙ ap (λ (x : ℕ). x ∷ []) is-id)
    ∙ ap (λ (x : List ℕ). codes "$var wire 32 " ++ (identifier channel ∷ 32 ∷ x))
    (sym (append_assoc word number (codes " $end\n")) ∙ ap (λ (x : List ℕ). x ++ codes " $end\n") is-name ∙ sym (append_assoc (name_of_channel channel) (codes " $end") (codes "\n")))

regrouped : (t a v b z : List ℕ) → (((t ++ a) ++ v) ++ b) ++ z ≡ t ++ (((a ++ v) ++ b) ++ z)
regrouped t a v b z = simp append_assoc

-- the lines before those of the events, written in four parts
first-joined : (t0 t1 t2 t3 : List ℕ) (front names middle zeros : List (List ℕ)) → t1 ≡ t0 ++ text_of_lines front → t2 ≡ t1 ++ text_of_lines names → t3 ≡ t2 ++ text_of_lines middle →
    t3 ++ text_of_lines zeros ≡ t0 ++ text_of_lines (front ++ names ++ middle ++ zeros)
first-joined t0 t1 t2 t3 front names middle zeros is1 is2 is3 =
    ap (λ (t : List ℕ). t ++ text_of_lines zeros) (is3 ∙ ap (λ (t : List ℕ). t ++ text_of_lines middle) (is2 ∙ ap (λ (t : List ℕ). t ++ text_of_lines names) is1))
    ∙ regrouped t0 (text_of_lines front) (text_of_lines names) (text_of_lines middle) (text_of_lines zeros)
    ∙ sym (ap (λ (t : List ℕ). t0 ++ t) (text-append (front ++ names ++ middle) zeros
    ∙ ap (λ (t : List ℕ). t ++ text_of_lines zeros) (text-append (front ++ names) middle ∙ ap (λ (t : List ℕ). t ++ text_of_lines middle) (text-append front names))))

pub first-written : (t0 t1 t2 t3 : List ℕ) → t1 ≡ t0 ++ codes "$timescale 1ns $end\n$scope module artiq $end\n" → t2 ≡ t1 ++ text_of_lines (map variable_line channels) → t3 ≡ t2 ++ codes "$upscope $end\n$enddefinitions $end\n#0\n" →
    t3 ++ text_of_lines (map (λ channel. data_line channel 0) channels) ≡ t0 ++ text_of_lines first_lines
first-written t0 t1 t2 t3 is1 is2 is3 =
    first-joined t0 t1 t2 t3 (codes "$timescale 1ns $end" ∷ codes "$scope module artiq $end" ∷ []) (map variable_line channels)
    (codes "$upscope $end" ∷ codes "$enddefinitions $end" ∷ codes "#0" ∷ []) (map (λ channel. data_line channel 0) channels) is1 is2 is3

-- the lines of the events by their stamps are those one after another
lines-told : (events : List Event) → are_rising events ≡ true → first_lines ++ lines_behind (pos 0) events ≡ waveform_lines events
lines-told events h = ap (λ (lines : List (List ℕ)). first_lines ++ lines) (moments-lines (pos 0) events (rising-late events h) (rising-dont-fall events h))

-- the text, written in two parts
pub text-written : (events : List Event) (t0 t1 t2 : List ℕ) → are_rising events ≡ true → t0 ≡ [] → t1 ≡ t0 ++ text_of_lines first_lines → t2 ≡ t1 ++ text_of_lines (lines_behind (pos 0) events) → t2 ≡ waveform_text events
text-written events t0 t1 t2 h none is1 is2 =
    is2 ∙ ap (λ (t : List ℕ). t ++ text_of_lines (lines_behind (pos 0) events)) (is1 ∙ ap (λ (t : List ℕ). t ++ text_of_lines first_lines) none)
    ∙ sym (text-append first_lines (lines_behind (pos 0) events)) ∙ ap text_of_lines (lines-told events h)

unbroken-from : (lines : List (List ℕ)) → list_all (lacks 10) lines ≡ true → AllByRecursion IsUnbroken lines
unbroken-from [] h = tt
unbroken-from (line ∷ lines) h = let p = and_parts _ _ h in (p.0, unbroken-from lines p.1)

first-lack : list_all (lacks 10) first_lines ≡ true
unfolding digits
first-lack = refl

unbroken-append : (xs ys : List (List ℕ)) → AllByRecursion IsUnbroken xs → AllByRecursion IsUnbroken ys → AllByRecursion IsUnbroken (xs ++ ys)
unbroken-append [] ys h k = k
unbroken-append (x ∷ xs) ys h k = (h.0, unbroken-append xs ys h.1 k)

level-of-lines : (events : List Event) (channel time : ℕ) → AllByRecursion IsReadable events →
    level (text_of_lines (first_lines ++ lines_behind (pos 0) events)) channel time ≡ last_data events channel time
level-of-lines events channel time h =
    let behind = lines_behind (pos 0) events in
    ap (level_in channel time false 0) (split-lines (first_lines ++ behind) (unbroken-append first_lines behind (unbroken-from first_lines first-lack) (lines-unbroken (pos 0) events h)))
    ∙ ap (level_in channel time false 0) (append_assoc first_lines behind ([] ∷ []))
    ∙ first-read channel time (behind ++ ([] ∷ []))
    ∙ ap (λ b. level_in channel time b 0 (behind ++ ([] ∷ []))) (sym (le-leb 0 time (omega arith)))
    ∙ levels-behind channel time (pos 0) 0 events h

-- the level that is read from the text is the data of the last event
pub level-told : (events : List Event) (channel time : ℕ) → are_rising events ≡ true → AllByRecursion FitsFields events → level (waveform_text events) channel time ≡ last_data events channel time
level-told events channel time h fits =
    ap (λ (lines : List (List ℕ)). level (text_of_lines lines) channel time) (sym (lines-told events h))
    ∙ level-of-lines events channel time (all-readable events (rising-late events h) fits)
