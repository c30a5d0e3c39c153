-- A text of lines, cut into its lines again.
use Rattle.std.proofs.Common.{◌≡◌, ℕ, Bool, true, not, List, [], ◌∷◌, ◌++◌, refl, ap, ◌∙◌, append_assoc}
use Rattle.std.specs.Prelude.{◌==◌}
use Rattle.std.specs.List.{list_all, slice_split, onto_first, AllByRecursion}
use Rattle.std.proofs.lemmas.Bool.{and_parts, not-true, eq-eqb}
use Rattle.std.proofs.lemmas.List.Splits.{slice_split-cons_yes, slice_split-cons_no}
use Rattle.core_analyzer.specs.Waveform.{text_of_lines}

-- the line has no such byte
abbrev pub lacks : ℕ → List ℕ → Bool
lacks mark line = list_all (λ byte. not (byte == mark)) line

-- a line before the byte at which a text is cut
pub split-at : (mark : ℕ) (line rest : List ℕ) → lacks mark line ≡ true → slice_split (λ b. b == mark) (line ++ (mark ∷ rest)) ≡ line ∷ slice_split (λ b. b == mark) rest
split-at mark [] rest h = slice_split-cons_yes (λ b. b == mark) mark rest (eq-eqb mark mark refl)
split-at mark (byte ∷ line) rest h =
    let parts = and_parts (not (byte == mark)) (lacks mark line) h in
    slice_split-cons_no (λ b. b == mark) byte (line ++ (mark ∷ rest)) (not-true (byte == mark) parts.0)
    ∙ ap (onto_first byte) (split-at mark line rest parts.1)

-- no line feed stands in the line
abbrev pub IsUnbroken : List ℕ → Type 0
IsUnbroken line = lacks 10 line ≡ true

-- the lines of a text, and behind the last line feed nothing
pub split-lines : (lines : List (List ℕ)) → AllByRecursion IsUnbroken lines → slice_split (λ b. b == 10) (text_of_lines lines) ≡ lines ++ ([] ∷ [])
split-lines [] h = refl
split-lines (line ∷ lines) h =
    ap (slice_split (λ b. b == 10)) (append_assoc line (10 ∷ []) (text_of_lines lines))
    ∙ split-at 10 line (text_of_lines lines) h.0
    ∙ ap (λ (rest : List (List ℕ)). line ∷ rest) (split-lines lines h.1)
