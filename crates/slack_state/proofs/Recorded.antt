-- Names that weren't saved.
use Rattle.std.proofs.Common.{◌≡◌, Bool, true, false, List, [], ◌∷◌, ◌++◌, sym, ap, ◌∙◌, bytes_eq, if◌then◌else◌, Option, None, refl}
use Rattle.std.specs.Prelude.{◌||◌}
use Rattle.kern_syntax.specs.Tree.{Bytes}
use Rattle.slack_meaning.specs.Actions.{SpanRecording}
use Rattle.slack_meaning.specs.Answers.{at_hand, is_known, with_recording}

-- one goes to the end
pub recorded_last : (xs : List (Bytes × Option SpanRecording)) (x : Bytes) (new : Option SpanRecording) → is_known xs x ≡ false → with_recording xs x new ≡ xs ++ (x, new) ∷ []
recorded_last [] x new h = refl
recorded_last (e ∷ xs) x new h = by (bytes_eq x e.0) refl h (recorded_last xs x new)
  where
    by : (b : Bool) → bytes_eq x e.0 ≡ b → (bytes_eq x e.0 || is_known xs x) ≡ false → (is_known xs x ≡ false → with_recording xs x new ≡ xs ++ (x, new) ∷ []) → (if bytes_eq x e.0 then (e.0, new) ∷ xs else e ∷ with_recording xs x new) ≡ e ∷ xs ++ (x, new) ∷ []
    by true is h ih = let clash : true ≡ false = sym (ap (λ c. c || is_known xs x) is) ∙ h in absurd (cc)
    by false isnt h ih = rw isnt (ap (λ rest. e ∷ rest) (ih (sym (ap (λ c. c || is_known xs x) isnt) ∙ h)))

-- one has no recording
pub unknown_none : (xs : List (Bytes × Option SpanRecording)) (x : Bytes) → is_known xs x ≡ false → at_hand xs x ≡ None
unknown_none [] x h = refl
unknown_none (e ∷ xs) x h = by (bytes_eq x e.0) refl h (unknown_none xs x)
  where
    by : (b : Bool) → bytes_eq x e.0 ≡ b → (bytes_eq x e.0 || is_known xs x) ≡ false → (is_known xs x ≡ false → at_hand xs x ≡ None) → (if bytes_eq x e.0 then e.1 else at_hand xs x) ≡ None
    by true is h ih = let clash : true ≡ false = sym (ap (λ c. c || is_known xs x) is) ∙ h in absurd (cc)
    by false isnt h ih = rw isnt (ih (sym (ap (λ c. c || is_known xs x) isnt) ∙ h))
