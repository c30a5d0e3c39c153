-- The parts of a text.
use Rattle.std.specs.Prelude.{ℕ, ◌==◌, List, [], ◌∷◌, Option, Some, None, option_map, option_and_then, if◌then◌else◌}
use Rattle.std.specs.List.{after_first, before_first, list_any, slice_split}

-- what stands before and after the first such byte, if the text has one
abbrev pub cut : ℕ → List ℕ → Option (List ℕ × List ℕ)
cut byte text =
    if list_any (λ b. b == byte) text
    then Some (before_first (λ b. b == byte) text, after_first (λ b. b == byte) text)
    else None

-- the first reading and the others, if there is each
abbrev pub in_front : {X : Type 0} → Option X → Option (List X) → Option (List X)
in_front None others = None
in_front (Some x) others = option_map (λ xs. x ∷ xs) others

-- all readings, if there is each
abbrev pub each_of : {X : Type 0} → (List ℕ → Option X) → List (List ℕ) → Option (List X)
each_of read [] = Some []
each_of read (text ∷ texts) = in_front (read text) (each_of read texts)

-- a comma is 44: the readings of what stands before, between and behind the commas
abbrev pub listed : {X : Type 0} → (List ℕ → Option X) → List ℕ → Option (List X)
listed read text = each_of read (slice_split (λ b. b == 44) text)

-- a colon is 58: what is read of the texts before and after the first colon
abbrev pub at_colon : {X : Type 0} → (List ℕ → List ℕ → Option X) → List ℕ → Option X
at_colon read text = option_and_then (λ (parts : List ℕ × List ℕ). read parts.0 parts.1) (cut 58 text)
