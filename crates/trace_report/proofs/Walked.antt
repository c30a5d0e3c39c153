-- What is left of a walk through a history.
use Rattle.std.proofs.Common.{◌≡◌, ◌⊎◌, inl, inr, ℕ, ◌+◌, ◌<◌, ◌≤◌, Bool, true, false, List, [], ◌∷◌, ◌++◌, length, map, filter, drop, get_or, Option, Some, None, refl, sym, ap, ◌∙◌, arith, append-nil, append_assoc, drop-cons, add-one, drop_of_length-le}
use Rattle.std.specs.Prelude.{slice_get, zip}
use Rattle.std.specs.Option.{option_to_list}
use Rattle.std.proofs.lemmas.Option.{slice_get_cases}
use Rattle.rtio_core.specs.declared.data.Act.{Act}
use Rattle.rtio_core.specs.declared.data.Act.TheVariants.{Start, Asked, End}
use Rattle.rtio_core.specs.declared.data.Entry.{Entry}
use Rattle.trace_fates.specs.declared.data.TracedOutput.{TracedOutput}
use Rattle.trace_report.specs.declared.outputs.Placed.{Placed}
use Rattle.trace_report.specs.declared.passed.Passed.{Passed}
use Rattle.trace_report.specs.declared.place.TextPlace.{TextPlace}
use Rattle.trace_report.specs.Outputs.{answered, is_answer, is_output, output_places, with_places}
use Rattle.trace_report.specs.Requests.{request_lines}
use Rattle.trace_report.specs.Walk.{act_text, both, line_with, next_placed, passed_by}

-- the outputs with their places among the entries that are left
abbrev pub placed_behind : List TextPlace → List TracedOutput → Passed → List Entry → List Placed
placed_behind places outputs passed entries =
    with_places (output_places (answered (drop passed.asked places) entries)) (drop passed.outputs outputs)

-- the lines of the entries that are left
abbrev pub lines_behind : List TextPlace → List TracedOutput → Passed → List Entry → List ℕ
lines_behind places outputs passed entries = request_lines outputs passed.outputs (answered (drop passed.asked places) entries)

-- a list is at its end, or it goes on with an item
abbrev Next : {X : Type 0} → List X → ℕ → Type 0
Next {X} xs i =
    ((slice_get xs i ≡ None) × (drop i xs ≡ []) × (drop (i + 1) xs ≡ []))
    ⊎ ((x : X) × (slice_get xs i ≡ Some x) × (drop i xs ≡ x ∷ drop (i + 1) xs))

drop-item : {X : Type 0} (xs : List X) (i : ℕ) (x : X) → i < length xs → x ≡ get_or xs i x → drop i xs ≡ x ∷ drop (i + 1) xs
drop-item xs i x within is =
    drop-cons xs i x within
    ∙ ap (λ k. get_or xs i x ∷ drop k xs) (sym (add-one i))
    ∙ ap (λ y. y ∷ drop (i + 1) xs) (sym is)

next : {X : Type 0} (xs : List X) (i : ℕ) → Next xs i
next {X} xs i = by (slice_get_cases xs i).1
  where
    by : ((x : X) × (i < length xs) × (slice_get xs i ≡ Some x) × (get_or xs i x ≡ x)) ⊎ ((length xs ≤ i) × (slice_get xs i ≡ None)) → Next xs i
    by (inl h) = inr (h.0, h.2, drop-item xs i h.0 h.1 (sym h.3))
    by (inr h) = inl (h.1, drop_of_length-le xs h.0, drop_of_length-le xs (omega (arith, h.0)))

-- ---- lines

-- the lines of acts that are left
abbrev lines_of : List TextPlace → List TracedOutput → (number : ℕ) → List Act → List ℕ
lines_of places outputs number acts = request_lines outputs number (zip places (filter is_answer acts))

abbrev LinesStep : List TextPlace → List TracedOutput → Passed → Act → List Act → Type 0
LinesStep places outputs passed act acts =
    lines_of (drop passed.asked places) outputs passed.outputs (act ∷ acts)
    ≡ act_text places outputs passed act
    ++ lines_of (drop (passed_by passed act).asked places) outputs (passed_by passed act).outputs acts

no-line : (found : Option TextPlace) (output : Option TracedOutput) (act : Act) → is_answer act ≡ false → line_with found output act ≡ []
no-line None output act other = refl
no-line (Some place) output act other = rw other refl

lines-act : (places : List TextPlace) (outputs : List TracedOutput) (passed : Passed) (act : Act) (acts : List Act) → LinesStep places outputs passed act acts
lines-act places outputs passed (Start of cursor at) acts =
    rw (no-line (slice_get places passed.asked) (slice_get outputs passed.outputs) (Start of cursor at) refl) refl
lines-act places outputs passed (End outcome cursor at) acts =
    rw (no-line (slice_get places passed.asked) (slice_get outputs passed.outputs) (End outcome cursor at) refl) refl
lines-act places outputs passed (Asked request reply at) acts = by (next places passed.asked)
  where
    by : Next places passed.asked → LinesStep places outputs passed (Asked request reply at) acts
    by (inl h) = rw (h.0, h.1, h.2) refl
    by (inr h) = rw (h.1, h.2) refl

-- the line of an entry, and what is left behind it
lines-step : (places : List TextPlace) (outputs : List TracedOutput) (passed : Passed) (entry : Entry) (rest : List Entry) → lines_behind places outputs passed (entry ∷ rest) ≡ act_text places outputs passed entry.act ++ lines_behind places outputs (passed_by passed entry.act) rest
lines-step places outputs passed entry rest = lines-act places outputs passed entry.act (map (λ (e : Entry). e.act) rest)

-- one entry more is written
pub lines-more : (places : List TextPlace) (outputs : List TracedOutput) (history : List Entry) (i : ℕ) (entry : Entry) (passed now : Passed) (text longer whole : List ℕ)
    → i < length history → entry ≡ get_or history i entry
    → longer ≡ text ++ act_text places outputs passed entry.act → now ≡ passed_by passed entry.act
    → text ++ lines_behind places outputs passed (drop i history) ≡ whole
    → longer ++ lines_behind places outputs now (drop (i + 1) history) ≡ whole
lines-more places outputs history i entry passed now text longer whole within is grown by left =
    ap (λ t. t ++ lines_behind places outputs now (drop (i + 1) history)) grown
    ∙ ap (λ p. (text ++ act_text places outputs passed entry.act) ++ lines_behind places outputs p (drop (i + 1) history)) by
    ∙ append_assoc text (act_text places outputs passed entry.act) (lines_behind places outputs (passed_by passed entry.act) (drop (i + 1) history))
    ∙ ap (λ t. text ++ t) (sym (lines-step places outputs passed entry (drop (i + 1) history)))
    ∙ ap (λ h. text ++ lines_behind places outputs passed h) (sym (drop-item history i entry within is))
    ∙ left

-- nothing is left
no-lines-left : (places : List TextPlace) (outputs : List TracedOutput) (number : ℕ) → request_lines outputs number (answered places []) ≡ []
no-lines-left [] outputs number = refl
no-lines-left (place ∷ places) outputs number = refl

pub lines-done : (places : List TextPlace) (outputs : List TracedOutput) (history : List Entry) (i : ℕ) (passed : Passed) (text whole : List ℕ)
    → length history ≤ i → text ++ lines_behind places outputs passed (drop i history) ≡ whole → text ≡ whole
lines-done places outputs history i passed text whole past left =
    sym (append-nil text)
    ∙ ap (λ t. text ++ t) (sym (no-lines-left (drop passed.asked places) outputs passed.outputs))
    ∙ ap (λ h. text ++ lines_behind places outputs passed h) (sym (drop_of_length-le history past))
    ∙ left

-- ---- outputs

abbrev placed_of : List TextPlace → List TracedOutput → List Act → List Placed
placed_of places outputs acts = with_places (output_places (zip places (filter is_answer acts))) outputs

abbrev PlacedStep : List TextPlace → List TracedOutput → Passed → Act → List Act → Type 0
PlacedStep places outputs passed act acts =
    placed_of (drop passed.asked places) (drop passed.outputs outputs) (act ∷ acts)
    ≡ option_to_list (next_placed places outputs passed act)
    ++ placed_of (drop (passed_by passed act).asked places) (drop (passed_by passed act).outputs outputs) acts

without-outputs : (places : List TextPlace) → with_places places [] ≡ []
without-outputs [] = refl
without-outputs (place ∷ places) = refl

no-output : (found : Option TextPlace) → both found None ≡ None
no-output None = refl
no-output (Some place) = refl

placed-act : (places : List TextPlace) (outputs : List TracedOutput) (passed : Passed) (act : Act) (acts : List Act) → PlacedStep places outputs passed act acts
placed-act places outputs passed (Start of cursor at) acts = refl
placed-act places outputs passed (End outcome cursor at) acts = refl
placed-act places outputs passed (Asked request reply at) acts = by (is_output (Asked request reply at)) refl (next places passed.asked)
  where
    out : (is_output (Asked request reply at) ≡ true) → (h : (x : TextPlace) × (slice_get places passed.asked ≡ Some x) × (drop passed.asked places ≡ x ∷ drop (passed.asked + 1) places)) → Next outputs passed.outputs → PlacedStep places outputs passed (Asked request reply at) acts
    out is h (inl o) = rw (is, h.1, h.2, is, o.0, o.1, o.2) (sym (without-outputs (output_places (zip (drop (passed.asked + 1) places) (filter is_answer acts)))))
    out is h (inr o) = rw (is, h.1, h.2, is, o.1, o.2) refl

    by : (b : Bool) → is_output (Asked request reply at) ≡ b → Next places passed.asked → PlacedStep places outputs passed (Asked request reply at) acts
    by false is (inl h) = rw (is, h.1, h.2) refl
    by false is (inr h) = rw (h.2, is) refl
    by true is (inl h) = rw (is, h.0, h.1, h.2) refl
    by true is (inr h) = out is h (next outputs passed.outputs)

-- the output that an entry is, and what is left behind it
placed-step : (places : List TextPlace) (outputs : List TracedOutput) (passed : Passed) (entry : Entry) (rest : List Entry) → placed_behind places outputs passed (entry ∷ rest) ≡ option_to_list (next_placed places outputs passed entry.act) ++ placed_behind places outputs (passed_by passed entry.act) rest
placed-step places outputs passed entry rest = placed-act places outputs passed entry.act (map (λ (e : Entry). e.act) rest)

no-placed-left : (places : List TextPlace) (outputs : List TracedOutput) → with_places (output_places (answered places [])) outputs ≡ []
no-placed-left [] outputs = refl
no-placed-left (place ∷ places) outputs = refl

-- one entry more is passed
pub placed-more : (places : List TextPlace) (outputs : List TracedOutput) (history : List Entry) (i : ℕ) (entry : Entry) (passed now : Passed) (all longer whole : List Placed) (found : Option Placed)
    → i < length history → entry ≡ get_or history i entry
    → longer ≡ all ++ option_to_list found → found ≡ next_placed places outputs passed entry.act → now ≡ passed_by passed entry.act
    → all ++ placed_behind places outputs passed (drop i history) ≡ whole
    → longer ++ placed_behind places outputs now (drop (i + 1) history) ≡ whole
placed-more places outputs history i entry passed now all longer whole found within is grown next_is by left =
    ap (λ t. t ++ placed_behind places outputs now (drop (i + 1) history)) grown
    ∙ ap (λ f. (all ++ option_to_list f) ++ placed_behind places outputs now (drop (i + 1) history)) next_is
    ∙ ap (λ p. (all ++ option_to_list (next_placed places outputs passed entry.act)) ++ placed_behind places outputs p (drop (i + 1) history)) by
    ∙ append_assoc all (option_to_list (next_placed places outputs passed entry.act)) (placed_behind places outputs (passed_by passed entry.act) (drop (i + 1) history))
    ∙ ap (λ t. all ++ t) (sym (placed-step places outputs passed entry (drop (i + 1) history)))
    ∙ ap (λ h. all ++ placed_behind places outputs passed h) (sym (drop-item history i entry within is))
    ∙ left

pub placed-done : (places : List TextPlace) (outputs : List TracedOutput) (history : List Entry) (i : ℕ) (passed : Passed) (all whole : List Placed)
    → length history ≤ i → all ++ placed_behind places outputs passed (drop i history) ≡ whole → all ≡ whole
placed-done places outputs history i passed all whole past left =
    sym (append-nil all)
    ∙ ap (λ t. all ++ t) (sym (no-placed-left (drop passed.asked places) (drop passed.outputs outputs)))
    ∙ ap (λ h. all ++ placed_behind places outputs passed h) (sym (drop_of_length-le history past))
    ∙ left
