-- That the trace leaves out no output.
use Rattle.std.proofs.Common.{◌≡◌, ℕ, Bool, true, false, List, [], ◌∷◌, ◌++◌, length, map, filter, flat_map, cond, refl, sym, ap, subst, ◌∙◌, arith}
use Rattle.std.specs.Prelude.{not, zip}
use Rattle.std.proofs.lemmas.List.{length-map}
use Rattle.rtio_types.specs.declared.request.Reply.{Reply}
use Rattle.rtio_types.specs.declared.request.Request.{Request}
use Rattle.rtio_types.specs.declared.request.Request.TheVariants as ask
use Rattle.rtio_core.specs.declared.data.Act.{Act}
use Rattle.rtio_core.specs.declared.data.Act.TheVariants.{Start, Asked, End}
use Rattle.rtio_core.specs.declared.data.Entry.{Entry}
use Rattle.rtio_core.specs.Core.{CoreState}
use Rattle.trace_fates.specs.declared.data.Fate.{Fate}
use Rattle.trace_fates.specs.declared.data.Fate.TheVariants as fate
use Rattle.trace_fates.specs.declared.data.TracedOutput.{TracedOutput}
use Rattle.trace_fates.specs.Asked.{AskedOutput, output_by, outputs_behind}
use Rattle.trace_fates.specs.Fates.{is_out, lost, traced, traced_output}
use Rattle.trace_fates.specs.Fates as fates
use Rattle.trace_report.specs.declared.outputs.Placed.{Placed}
use Rattle.trace_report.specs.declared.place.TextPlace.{TextPlace}
use Rattle.trace_report.specs.declared.texts.Ended.{Ended}
use Rattle.trace_report.specs.Laws.{HaveAllPlaces, LeavesNoneOut, outputs_in, told}
use Rattle.trace_report.specs.Lines.{counts_line, end_text, least_line, lost_if, lost_line, lost_text}
use Rattle.trace_report.specs.Outputs.{answered, is_answer, least_of, output_places, with_places}
use Rattle.trace_report.specs.Requests.{request_lines}
use Rattle.trace_report.specs.Trace.{came_out, closing_text, was_lost}

abbrev acts_of : List Entry → List Act
acts_of entries = map (λ (entry : Entry). entry.act) entries

abbrev HaveEach : List TextPlace → List Act → Type 0
HaveEach places acts = length places ≡ length (filter is_answer acts)

-- ---- the outputs

-- one place fewer
fewer : (act : Act) (place : TextPlace) (places : List TextPlace) (acts : List Act) → is_answer act ≡ true
    → HaveEach (place ∷ places) (act ∷ acts) → HaveEach places acts
fewer act place places acts is have =
    let one_more : length (place ∷ places) ≡ length (cond (is_answer act) (act ∷ filter is_answer acts) (filter is_answer acts)) = have in
    let both : length (place ∷ places) ≡ length (act ∷ filter is_answer acts) =
    subst (λ (b : Bool). length (place ∷ places) ≡ length (cond b (act ∷ filter is_answer acts) (filter is_answer acts))) is one_more
    in
    let rest : length places ≡ length (filter is_answer acts) = omega (arith, both) in
    rest

no-place : (request : Request) (reply : Reply) (at : ℕ) (acts : List Act) → HaveEach [] (Asked request reply at ∷ acts) → ⊥
no-place request reply at acts have =
    let none : length {A = TextPlace} [] ≡ length (Asked request reply at ∷ filter is_answer acts) = have in
    omega (arith, none)

module _ (f : AskedOutput → TracedOutput) where
  -- the outputs among some acts, told with their places, are these
  abbrev AreTold : List TextPlace → List Act → List AskedOutput → Type 0
  AreTold places acts asked =
      outputs_in (with_places (output_places (zip places (filter is_answer acts))) (map f asked)) ≡ map f asked

  told-act : (act : Act) (number : ℕ) (places : List TextPlace) (acts : List Act) (more : List AskedOutput)
      → HaveEach places (act ∷ acts)
      → ((rest : List TextPlace) → HaveEach rest acts → AreTold rest acts more)
      → AreTold places (act ∷ acts) (output_by number act ++ more)
  told-act (Start of cursor at) number places acts more have on = on places have
  told-act (End outcome cursor at) number places acts more have on = on places have
  told-act (Asked request reply at) number [] acts more have on = absurd (no-place request reply at acts have)
  told-act (Asked (ask.Out e) reply at) number (place ∷ places) acts more have on =
      ap (λ (ts : List TracedOutput). f (record { own = (number, e); reply = reply; at = at }) ∷ ts)
      (on places (fewer (Asked (ask.Out e) reply at) place places acts refl have))
  told-act (Asked request reply at) number (place ∷ places) acts more have on =
      on places (fewer (Asked request reply at) place places acts refl have)

  told-behind : (before rest : List Entry) (places : List TextPlace) → HaveEach places (acts_of rest)
      → AreTold places (acts_of rest) (outputs_behind before rest)
  told-behind before [] [] have = refl
  told-behind before [] (place ∷ places) have = refl
  told-behind before (entry ∷ rest) places have =
      told-act entry.act _ places (acts_of rest) (outputs_behind (before ++ entry ∷ []) rest) have
      (told-behind (before ++ entry ∷ []) rest)

-- ---- those that a test keeps

kept : (test : TracedOutput → Bool) (xs : List Placed) → outputs_in (filter (λ (x : Placed). test x.output) xs) ≡ filter test (outputs_in xs)
kept test [] = refl
kept test (x ∷ xs) = by (test x.output) (kept test xs)
  where
    by : (keeps : Bool)
        → outputs_in (filter (λ (y : Placed). test y.output) xs) ≡ filter test (outputs_in xs)
        → outputs_in (cond keeps (x ∷ filter (λ (y : Placed). test y.output) xs) (filter (λ (y : Placed). test y.output) xs))
        ≡ cond keeps (x.output ∷ filter test (outputs_in xs)) (filter test (outputs_in xs))
    by true on = ap (λ (ts : List TracedOutput). x.output ∷ ts) on
    by false on = on

-- so many outputs as a test keeps
kept-count : (test : TracedOutput → Bool) (xs : List Placed) → length (filter (λ (x : Placed). test x.output) xs) ≡ length (filter test (outputs_in xs))
kept-count test xs =
    sym (length-map (filter (λ (x : Placed). test x.output) xs) (λ (p : Placed). p.output)) ∙ ap length (kept test xs)

-- ---- the lines

abbrev lines_of : List Placed → List ℕ
lines_of xs = flat_map lost_line xs

abbrev own_lines_of : List Placed → List ℕ
own_lines_of xs = flat_map lost_text (filter was_lost xs)

lost-lines : (xs : List Placed) → lines_of xs ≡ own_lines_of xs
lost-lines [] = refl
lost-lines (x ∷ xs) = by x.output.fate (lost-lines xs)
  where
    by : (f : Fate) → lines_of xs ≡ own_lines_of xs
        → lost_if f (lost_text x) ++ lines_of xs ≡ flat_map lost_text (cond (not (is_out f)) (x ∷ filter was_lost xs) (filter was_lost xs))
    by fate.CameOut on = on
    by f on = ap (λ (t : List ℕ). lost_text x ++ t) on

-- ---- the text

-- the lines behind those of the requests, by those of the lost outputs and by the counts
abbrev text_with : (lines : List ℕ) → List Placed → Ended → (asked out lost : ℕ) → List ℕ
text_with lines xs ended asked out lost =
    lines
    ++ least_line (least_of xs)
    ++ end_text ended.horizon ended.budget ended.outcome ended.stop
    ++ counts_line asked out lost

-- some outputs with their places, which are those of a core
module _ (core : CoreState) (xs : List Placed) (all : outputs_in xs ≡ traced core) where
  as-many : length xs ≡ length (traced core)
  as-many = sym (length-map xs (λ (p : Placed). p.output)) ∙ ap length all

  as-many-out : length (filter came_out xs) ≡ length (fates.came_out core)
  as-many-out =
      kept-count (λ (t : TracedOutput). is_out t.fate) xs
      ∙ ap (λ (ts : List TracedOutput). length (filter (λ (t : TracedOutput). is_out t.fate) ts)) all

  as-many-lost : length (filter was_lost xs) ≡ length (lost core)
  as-many-lost =
      kept-count (λ (t : TracedOutput). not (is_out t.fate)) xs
      ∙ ap (λ (ts : List TracedOutput). length (filter (λ (t : TracedOutput). not (is_out t.fate)) ts)) all

  closing : (ended : Ended)
      → closing_text xs ended
      ≡ text_with (own_lines_of xs) xs ended (length (traced core)) (length (fates.came_out core)) (length (lost core))
  closing ended =
      ap (λ (lines : List ℕ). text_with lines xs ended (length xs) (length (filter came_out xs)) (length (filter was_lost xs))) (lost-lines xs)
      ∙ ap (λ n. text_with (own_lines_of xs) xs ended n (length (filter came_out xs)) (length (filter was_lost xs))) as-many
      ∙ ap (λ n. text_with (own_lines_of xs) xs ended (length (traced core)) n (length (filter was_lost xs))) as-many-out
      ∙ ap (λ n. text_with (own_lines_of xs) xs ended (length (traced core)) (length (fates.came_out core)) n) as-many-lost

pub none-left-out : (core : CoreState) (places : List TextPlace) → HaveAllPlaces places core.history → LeavesNoneOut places core
none-left-out core places have =
    let all : outputs_in (told places core) ≡ traced core = told-behind (traced_output core) [] core.history places have in
    record {
      outputs = all;
      missing =
          kept (λ (t : TracedOutput). not (is_out t.fate)) (told places core)
          ∙ ap (λ (ts : List TracedOutput). filter (λ (t : TracedOutput). not (is_out t.fate)) ts) all;
      text = λ ended.
          ap (λ (t : List ℕ). request_lines (traced core) 0 (answered places core.history) ++ t)
          (closing core (told places core) all ended);
    }
