-- What the merge has sorted out, from the last event back to one.
use Rattle.std.proofs.Common.{◌≡◌, ◌+◌, ℕ, Bool, true, false, List, [], ◌∷◌, ◌++◌, take, drop, length, refl, ap, ◌∙◌, sym, cond}
use Rattle.std.specs.Prelude.{Some, filter, if◌then◌else◌}
use Rattle.std.specs.List.{slice_get}
use Rattle.rtio_types.specs.declared.event.Event.{Event}
use Rattle.sed_lanes.specs.Sorting.{inserted, sorted}
use Rattle.output_merge.proofs.Placing.{drop-item}

-- those that pass a test, in order, behind what a list had
abbrev pub Behind : (before : ℕ × Event → ℕ × Event → Bool) (test : ℕ × Event → Bool) (had : List (ℕ × Event)) (events : List (ℕ × Event)) (left : ℕ) → List (ℕ × Event) → Type 0
Behind before test had events left now = now ≡ had ++ sorted before (filter test (drop left events))

parted : (had tail : List (ℕ × Event)) → (take (length had) (had ++ tail) ≡ had) × (drop (length had) (had ++ tail) ≡ tail)
parted [] tail = (refl, refl)
parted (x ∷ had) tail =
    let ih = parted had tail in
    (ap (λ (xs : List (ℕ × Event)). x ∷ xs) ih.0, ih.1)

-- one event more
pub behind-more : (before : ℕ × Event → ℕ × Event → Bool) (test : ℕ × Event → Bool) (had events now later : List (ℕ × Event)) (left from : ℕ) (p : ℕ × Event) (wanted : Bool) → from ≡ length had → slice_get events left ≡ Some p → wanted ≡ test p → Behind before test had events (left + 1) now → later ≡ take from now ++ (if wanted then inserted before p (drop from now) else drop from now) → Behind before test had events left later
behind-more before test had events now later left from p wanted is at wants behind put =
    let tail : List (ℕ × Event) = sorted before (filter test (drop (left + 1) events)) in
    let halves : (take from now ≡ had) × (drop from now ≡ tail) = split now from behind is in
    put ∙ ap (λ (ps : List (ℕ × Event)). ps ++ cond wanted (inserted before p (drop from now)) (drop from now)) halves.0
    ∙ ap (λ (ps : List (ℕ × Event)). had ++ cond wanted (inserted before p ps) ps) halves.1
    ∙ ap (λ (b : Bool). had ++ cond b (inserted before p tail) tail) wants
    ∙ ap (λ (ps : List (ℕ × Event)). had ++ ps) (one-more (test p) refl)
    ∙ ap (λ (ps : List (ℕ × Event)). had ++ sorted before (filter test ps)) (sym (drop-item events left p at))
  where
    split : (now : List (ℕ × Event)) (from : ℕ) → now ≡ had ++ sorted before (filter test (drop (left + 1) events)) → from ≡ length had → (take from now ≡ had) × (drop from now ≡ sorted before (filter test (drop (left + 1) events)))
    split now from e is =
        let parts = parted had (sorted before (filter test (drop (left + 1) events))) in
        (ap (λ (n : ℕ). take n now) is ∙ ap (take (length had)) e ∙ parts.0, ap (λ (n : ℕ). drop n now) is ∙ ap (drop (length had)) e ∙ parts.1)

    one-more : (b : Bool) → test p ≡ b → cond b (inserted before p (sorted before (filter test (drop (left + 1) events)))) (sorted before (filter test (drop (left + 1) events))) ≡ sorted before (filter test (p ∷ drop (left + 1) events))
    one-more true e = rw e refl
    one-more false e = rw e refl
