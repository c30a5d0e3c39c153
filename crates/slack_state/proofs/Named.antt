-- A name among others gets something new: what changes the first that has the name changes the item where it stands.
use Rattle.std.proofs.Common.{◌≡◌, ℕ, suc, ◌<◌, ◌≤◌, true, List, [], ◌∷◌, ◌++◌, length, get_or, take, drop, set, sym, ap, ◌∙◌, drop-cons, bytes_eq, if◌then◌else◌}
use Rattle.std.specs.Prelude.{Option}
use Rattle.std.proofs.Math.ListN.{drop_of_length-le}
use Rattle.std.proofs.lemmas.List.{set_split, take-append-drop}
use Rattle.kern_syntax.specs.Tree.{Bytes}
use Rattle.slack_meaning.specs.Actions.{Held, SpanRecording}
use Rattle.slack_meaning.specs.Answers.{with_recording}
use Rattle.slack_meaning.specs.Expressions.{with_held}

-- behind items that stay
changed_at : {A : Type 0} (change : List A → List A) (xs : List A) (i : ℕ) (e new : A) (whole : List A) → i < length xs → e ≡ get_or xs i e → change (e ∷ drop (suc i) xs) ≡ new ∷ drop (suc i) xs → whole ≡ take i xs ++ change (drop i xs) → set xs i new ≡ whole
changed_at change xs i e new whole within is first so =
    let here : drop i xs ≡ e ∷ drop (suc i) xs = drop-cons xs i e within ∙ ap (λ y. y ∷ drop (suc i) xs) (sym is) in
    set_split xs i new within ∙ ap (λ rest. take i xs ++ rest) (sym (ap change here ∙ first)) ∙ sym so

-- a name that is held
pub held_at : (xs : List (Bytes × Held)) (i : ℕ) (e : Bytes × Held) (x : Bytes) (new : Held) (whole : List (Bytes × Held)) → i < length xs → e ≡ get_or xs i e → bytes_eq e.0 x ≡ true → whole ≡ take i xs ++ with_held (drop i xs) x new → set xs i (e.0, new) ≡ whole
held_at xs i e x new whole within is named so =
    let rest = drop (suc i) xs in
    changed_at (λ left. with_held left x new) xs i e (e.0, new) whole within is (ap (λ b. if b then (e.0, new) ∷ rest else e ∷ with_held rest x new) named) so

-- no name is the one
pub held_nowhere : (xs : List (Bytes × Held)) (i : ℕ) (x : Bytes) (new : Held) (whole : List (Bytes × Held)) → length xs ≤ i → whole ≡ take i xs ++ with_held (drop i xs) x new → xs ≡ whole
held_nowhere xs i x new whole past so =
    let none : drop i xs ≡ [] = drop_of_length-le xs past in
    sym (take-append-drop i xs)
    ∙ ap (λ left. take i xs ++ left) (none ∙ sym (ap (λ left. with_held left x new) none))
    ∙ sym so

-- a name that was saved
pub recorded_at : (xs : List (Bytes × Option SpanRecording)) (i : ℕ) (e : Bytes × Option SpanRecording) (x : Bytes) (new : Option SpanRecording) (whole : List (Bytes × Option SpanRecording)) → i < length xs → e ≡ get_or xs i e → bytes_eq x e.0 ≡ true → whole ≡ take i xs ++ with_recording (drop i xs) x new → set xs i (e.0, new) ≡ whole
recorded_at xs i e x new whole within is named so =
    let rest = drop (suc i) xs in
    changed_at (λ left. with_recording left x new) xs i e (e.0, new) whole within is (ap (λ b. if b then (e.0, new) ∷ rest else e ∷ with_recording rest x new) named) so
