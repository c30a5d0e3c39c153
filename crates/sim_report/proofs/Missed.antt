-- Events out of sequence, found by their numbers.
use Rattle.std.proofs.Common.{◌≡◌, ℕ, ◌+◌, ◌≤◌, List, [], ◌∷◌, ◌++◌, length, refl, sym, ap, subst, ◌∙◌, arith, append-nil, append_assoc, Bool, Some}
use Rattle.std.specs.Prelude.{map, slice_get}
use Rattle.std.proofs.lemmas.List.{map-append, length-map}
use Rattle.std.proofs.lemmas.List.Elements.{filter_map-append}
use Rattle.std.proofs.lemmas.List.Sums.{sum_by-cons}
use Rattle.rtio_types.specs.declared.event.Event.{Event}
use Rattle.sed_lanes.specs.Verdict.{Verdict, Underflow, Lane, Sequence, Undecided, verdict}
use Rattle.sed_lanes.specs.Judged.{LaneStep, Submit, Clear, Judged, Submitted, Cleared, judged, lanes_after, next_number}
use Rattle.sed_lanes.proofs.Histories.{judged-submit, judged-clear}
use Rattle.sed_lanes.proofs.Numbers.{AreNumbered, numbered, next-number-submitted}
use Rattle.output_merge.specs.Live.{out_of_sequence}
use Rattle.output_merge.proofs.Steps.{IsNoSequence, out_of_sequence-more, out_of_sequence-submitted}
use Rattle.rtio_core.specs.declared.data.Config.{Config}
use Rattle.rtio_core.specs.declared.data.Entry.{Entry}
use Rattle.rtio_core.specs.Entries.{judged_history, lane_step, lane_steps}
use Rattle.rtio_core.specs.Reply.{verdict_at}
use Rattle.sim_report.proofs.Judging.{Asks}

-- the events out of sequence in two parts of a history
both-parts : (xs ys : List Judged) → out_of_sequence (xs ++ ys) ≡ out_of_sequence xs ++ out_of_sequence ys
both-parts [] ys = refl
both-parts (Submitted number at e Sequence ∷ xs) ys = ap (λ (ps : List (ℕ × Event)). (number, e) ∷ ps) (both-parts xs ys)
both-parts (Submitted number at e Underflow ∷ xs) ys = both-parts xs ys
both-parts (Submitted number at e (Lane k) ∷ xs) ys = both-parts xs ys
both-parts (Submitted number at e Undecided ∷ xs) ys = both-parts xs ys
both-parts (Cleared at ∷ xs) ys = both-parts xs ys

numbered-behind : (first : ℕ) (xs ys : List Judged) → AreNumbered first (xs ++ ys) → AreNumbered (first + next_number xs) ys
numbered-behind first [] ys h = let P : ℕ → Type 0 = λ n. AreNumbered n ys in subst P (omega arith) h
numbered-behind first (Submitted number at e v ∷ xs) ys h =
    let more : next_number (Submitted number at e v ∷ xs) ≡ 1 + next_number xs = sum_by-cons _ (Submitted number at e v) xs in
    let P : ℕ → Type 0 = λ n. AreNumbered n ys in
    subst P (omega (arith, more)) (numbered-behind (first + 1) xs ys h.1)
numbered-behind first (Cleared at ∷ xs) ys h =
    let more : next_number (Cleared at ∷ xs) ≡ 0 + next_number xs = sum_by-cons _ (Cleared at) xs in
    let P : ℕ → Type 0 = λ n. AreNumbered n ys in
    subst P (omega (arith, more)) (numbered-behind first xs ys h)

abbrev pub numbers_of : List (ℕ × Event) → List ℕ
numbers_of events = map (λ p. p.0) events

-- the first of them isn't before the first number
first-number : (first : ℕ) (js : List Judged) (n : ℕ) → AreNumbered first js → slice_get (numbers_of (out_of_sequence js)) 0 ≡ Some n → first ≤ n
first-number first [] n h some = absurd (cc)
first-number first (Submitted number at e Sequence ∷ js) n h some = let is : number ≡ n = cc in let here = h.0 in omega (arith, is, here)
first-number first (Submitted number at e Underflow ∷ js) n h some = let rest = first-number (first + 1) js n h.1 some in omega (arith, rest)
first-number first (Submitted number at e (Lane k) ∷ js) n h some = let rest = first-number (first + 1) js n h.1 some in omega (arith, rest)
first-number first (Submitted number at e Undecided ∷ js) n h some = let rest = first-number (first + 1) js n h.1 some in omega (arith, rest)
first-number first (Cleared at ∷ js) n h some = first-number first js n h some

-- a longer history has the shorter one's verdicts first
judged-extends : (lanes depth : ℕ) (xs ys : List LaneStep) → (rest : List Judged) × (judged lanes depth (xs ++ ys) ≡ judged lanes depth xs ++ rest)
judged-extends lanes depth xs [] = ([], ap (judged lanes depth) (append-nil xs) ∙ sym (append-nil (judged lanes depth xs)))
judged-extends lanes depth xs (Submit at e ∷ ys) =
    let one : Judged = Submitted (next_number (judged lanes depth xs)) at e (verdict (lanes_after lanes depth (judged lanes depth xs) at) e at) in
    let more = judged-extends lanes depth (xs ++ Submit at e ∷ []) ys in (
      one ∷ more.0,
      ap (judged lanes depth) (sym (append_assoc xs (Submit at e ∷ []) ys)) ∙ more.1
          ∙ ap (λ (js : List Judged). js ++ more.0) (judged-submit lanes depth xs at e) ∙ append_assoc (judged lanes depth xs) (one ∷ []) more.0,
    )
judged-extends lanes depth xs (Clear at ∷ ys) =
    let more = judged-extends lanes depth (xs ++ Clear at ∷ []) ys in (
      Cleared at ∷ more.0,
      ap (judged lanes depth) (sym (append_assoc xs (Clear at ∷ []) ys)) ∙ more.1
          ∙ ap (λ (js : List Judged). js ++ more.0) (judged-clear lanes depth xs at) ∙ append_assoc (judged lanes depth xs) (Cleared at ∷ []) more.0,
    )

get-behind : (xs : List ℕ) (n : ℕ) (ys : List ℕ) → slice_get ((xs ++ n ∷ []) ++ ys) (length xs) ≡ Some n
get-behind [] n ys = refl
get-behind (x ∷ xs) n ys = get-behind xs n ys

get-after : (xs ys : List ℕ) → slice_get (xs ++ ys) (length xs) ≡ slice_get ys 0
get-after [] ys = refl
get-after (x ∷ xs) ys = get-after xs ys

-- the numbers of the events out of sequence
abbrev pub missed_numbers : Config → List Entry → List ℕ
missed_numbers config history = numbers_of (out_of_sequence (judged_history config history))

module _ (config : Config) (front : List Entry) (entry : Entry) (back : List Entry) (e : Event) (is_done : Bool) (a : Asks config front entry e is_done) where
  -- those of the whole history, behind those so far
  split : (rest : List Judged) × AreNumbered (next_number (judged_history config front) + 1) rest
      × (missed_numbers config (front ++ entry ∷ back) ≡ numbers_of (out_of_sequence (judged_history config front ++ Submitted (next_number (judged_history config front)) a.at e (verdict_at config front e a.at) ∷ [])) ++ numbers_of (out_of_sequence rest))
  split =
      let js : List Judged = judged_history config front in
      let one : List Judged = Submitted (next_number (judged_history config front)) a.at e (verdict_at config front e a.at) ∷ [] in
      let steps : lane_steps (front ++ entry ∷ back) ≡ lane_steps (front ++ entry ∷ []) ++ lane_steps back =
      ap lane_steps (sym (append_assoc front (entry ∷ []) back)) ∙ filter_map-append (λ (x : Entry). lane_step x.act) (front ++ entry ∷ []) back in
      let more = judged-extends config.lanes config.depth (lane_steps (front ++ entry ∷ [])) (lane_steps back) in
      let whole : judged_history config (front ++ entry ∷ back) ≡ (js ++ one) ++ more.0 = ap (judged config.lanes config.depth) steps ∙ more.1 ∙ ap (λ (x : List Judged). x ++ more.0) a.judged_is in
      let count : next_number (js ++ one) ≡ next_number js + 1 = next-number-submitted js (next_number js) a.at e (verdict_at config front e a.at) in
      let all : AreNumbered 0 ((js ++ one) ++ more.0) = subst (AreNumbered 0) whole (numbered config.lanes config.depth (lane_steps (front ++ entry ∷ back))) in
      let behind : AreNumbered (0 + next_number (js ++ one)) more.0 = numbered-behind 0 (js ++ one) more.0 all in
      let from : 0 + next_number (js ++ one) ≡ next_number js + 1 = omega (arith, count) in (
        more.0,
        (let P : ℕ → Type 0 = λ n. AreNumbered n more.0 in subst P from behind),
        ap (λ (x : List Judged). numbers_of (out_of_sequence x)) whole
            ∙ ap numbers_of (both-parts (js ++ one) more.0)
            ∙ map-append (λ p. p.0) (out_of_sequence (js ++ one)) (out_of_sequence more.0),
      )

  -- an output out of sequence has its number next in the list
  pub tells-missed : verdict_at config front e a.at ≡ Sequence → slice_get (missed_numbers config (front ++ entry ∷ back)) (length (out_of_sequence (judged_history config front))) ≡ Some (next_number (judged_history config front))
  tells-missed is =
      let js : List Judged = judged_history config front in
      let more : numbers_of (out_of_sequence (js ++ Submitted (next_number js) a.at e (verdict_at config front e a.at) ∷ [])) ≡ numbers_of (out_of_sequence js) ++ next_number js ∷ [] =
      ap (λ (v : Verdict). numbers_of (out_of_sequence (js ++ Submitted (next_number js) a.at e v ∷ []))) is
      ∙ ap numbers_of (out_of_sequence-more js (next_number js) a.at e)
      ∙ map-append (λ p. p.0) (out_of_sequence js) ((next_number js, e) ∷ []) in
      let count : length (out_of_sequence js) ≡ length (numbers_of (out_of_sequence js)) = sym (length-map (out_of_sequence js) (λ p. p.0)) in
      ap (λ (ns : List ℕ). slice_get ns (length (out_of_sequence js))) (split.2 ∙ ap (λ (ns : List ℕ). ns ++ numbers_of (out_of_sequence split.0)) more)
      ∙ ap (λ (n : ℕ). slice_get ((numbers_of (out_of_sequence js) ++ next_number js ∷ []) ++ numbers_of (out_of_sequence split.0)) n) count
      ∙ get-behind (numbers_of (out_of_sequence js)) (next_number js) (numbers_of (out_of_sequence split.0))

  -- another one hasn't
  pub tells-other : IsNoSequence (verdict_at config front e a.at) → slice_get (missed_numbers config (front ++ entry ∷ back)) (length (out_of_sequence (judged_history config front))) ≡ Some (next_number (judged_history config front)) → ⊥
  tells-other other some =
      let js : List Judged = judged_history config front in
      let more : numbers_of (out_of_sequence (js ++ Submitted (next_number js) a.at e (verdict_at config front e a.at) ∷ [])) ≡ numbers_of (out_of_sequence js) =
      ap numbers_of (out_of_sequence-submitted js (next_number js) a.at e (verdict_at config front e a.at) other) in
      let count : length (out_of_sequence js) ≡ length (numbers_of (out_of_sequence js)) = sym (length-map (out_of_sequence js) (λ p. p.0)) in
      let first : slice_get (numbers_of (out_of_sequence split.0)) 0 ≡ Some (next_number js) =
      sym (ap (λ (ns : List ℕ). slice_get ns (length (out_of_sequence js))) (split.2 ∙ ap (λ (ns : List ℕ). ns ++ numbers_of (out_of_sequence split.0)) more)
      ∙ ap (λ (n : ℕ). slice_get (numbers_of (out_of_sequence js) ++ numbers_of (out_of_sequence split.0)) n) count
      ∙ get-after (numbers_of (out_of_sequence js)) (numbers_of (out_of_sequence split.0))) ∙ some in
      let above = first-number (next_number js + 1) split.0 (next_number js) split.1 first in
      omega (arith, above)
