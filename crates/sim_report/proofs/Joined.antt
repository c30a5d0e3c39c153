-- A text that was written part by part.
use Rattle.std.proofs.Common.{◌≡◌, ℕ, ◌+◌, List, [], ◌∷◌, ◌++◌, take, ap, sym, ◌∙◌, flat_map, Some}
use Rattle.std.specs.Prelude.{slice_get}
use Rattle.std.proofs.lemmas.List.{flat_map_more, take_more}
use Rattle.std.proofs.lemmas.Option.{get_or_from_slice_get, slice_get_within}

pub three : (t0 t1 t2 t3 a b c : List ℕ) → t0 ≡ [] → t1 ≡ t0 ++ a → t2 ≡ t1 ++ b → t3 ≡ t2 ++ c → t3 ≡ a ++ b ++ c
three t0 t1 t2 t3 a b c none first second third =
    third ∙ ap (λ (t : List ℕ). t ++ c) (second ∙ ap (λ (t : List ℕ). t ++ b) (first ∙ ap (λ (t : List ℕ). t ++ a) none))

pub five : (t0 t1 t2 t3 t4 t5 a b c d e : List ℕ) → t0 ≡ [] → t1 ≡ t0 ++ a → t2 ≡ t1 ++ b → t3 ≡ t2 ++ c → t4 ≡ t3 ++ d → t5 ≡ t4 ++ e → t5 ≡ a ++ b ++ c ++ d ++ e
five t0 t1 t2 t3 t4 t5 a b c d e none first second third fourth fifth =
    fifth ∙ ap (λ (t : List ℕ). t ++ e) (fourth ∙ ap (λ (t : List ℕ). t ++ d) (three t0 t1 t2 t3 a b c none first second third))

-- one line more of a list
pub lines-more : {X : Type 0} (line : X → List ℕ) (before : List ℕ) (items : List X) (position : ℕ) (item : X) → slice_get items position ≡ Some item → (before ++ flat_map line (take position items)) ++ line item ≡ before ++ flat_map line (take (position + 1) items)
lines-more {X} line before items position item at =
    let more : take (position + 1) items ≡ take position items ++ item ∷ [] =
    take_more items position item (slice_get_within items position item at) ∙ ap (λ (x : X). take position items ++ x ∷ []) (get_or_from_slice_get items position item item at) in
    flat_map_more line before (take position items) item ∙ ap (λ (xs : List X). before ++ flat_map line xs) (sym more)
