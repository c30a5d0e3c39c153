-- What a history submitted, and what the lanes were given.
use Rattle.std.proofs.Common.{◌≡◌, ◌+◌, ℕ, List, [], ◌∷◌, ◌++◌, refl, ap, ◌∙◌, sym, subst, append_assoc, append-nil, arith}
use Rattle.std.specs.Prelude.{Some, filter_map, count_by}
use Rattle.std.proofs.lemmas.List.Sums.{sum_by_push}
use Rattle.std.proofs.lemmas.List.Elements.{filter_map-append}
use Rattle.rtio_types.specs.declared.event.Event.{Event}
use Rattle.rtio_types.specs.declared.request.Request.TheVariants as ask
use Rattle.rtio_types.specs.declared.request.Reply.{Reply}
use Rattle.rtio_types.specs.declared.request.Reply.TheVariants as answer
use Rattle.sed_lanes.specs.Judged.{Judged, Submitted, Cleared, judged, next_number}
use Rattle.sed_lanes.specs.Verdict.{Verdict, Underflow, Lane, Sequence, Undecided}
use Rattle.sed_lanes.proofs.Histories.{judged-clear, judged-submit}
use Rattle.sed_lanes.proofs.Numbers.{next-number-cleared, next-number-submitted}
use Rattle.rtio_core.specs.declared.data.Act.{Act}
use Rattle.rtio_core.specs.declared.data.Act.TheVariants.{Asked}
use Rattle.rtio_core.specs.declared.data.Config.{Config}
use Rattle.rtio_core.specs.declared.data.Entry.{Entry}
use Rattle.rtio_core.specs.Entries.{judged_history, lane_step, lane_steps}
use Rattle.rtio_core.specs.Lawful.{IsLawful, IsLawfulAfter, MayFollow}
use Rattle.rtio_core.specs.Reply.{reply_to_event, verdict_at}
use Rattle.rtio_core.proofs.Laws.{IsLawfulAfter-front}
use Rattle.rtio_headline.specs.Headline.{done_output, is_output_act, outputs_asked, submitted, submitted_behind}

-- the event of a step, if it was accepted or is out of sequence
abbrev pub placed_of : Judged → List (ℕ × Event)
placed_of (Submitted number at e (Lane k)) = (number, e) ∷ []
placed_of (Submitted number at e Sequence) = (number, e) ∷ []
placed_of j = []

abbrev pub placed_in : List Judged → List (ℕ × Event)
placed_in [] = []
placed_in (j ∷ rest) = placed_of j ++ placed_in rest

placed-push : (old : List Judged) (j : Judged) → placed_in (old ++ j ∷ []) ≡ placed_in old ++ placed_of j
placed-push [] j = append-nil (placed_of j)
placed-push (i ∷ old) j =
    ap (λ (ps : List (ℕ × Event)). placed_of i ++ ps) (placed-push old j) ∙ sym (append_assoc (placed_of i) (placed_in old) (placed_of j))

pub submitted-push : (before xs : List Entry) (entry : Entry) → submitted_behind before (xs ++ entry ∷ []) ≡ submitted_behind before xs ++ done_output (outputs_asked (before ++ xs)) entry.act
submitted-push before [] entry =
    append-nil (done_output (outputs_asked before) entry.act)
    ∙ ap (λ (h : List Entry). done_output (outputs_asked h) entry.act) (sym (append-nil before))
submitted-push before (x ∷ xs) entry =
    ap (λ (ps : List (ℕ × Event)). done_output (outputs_asked before) x.act ++ ps) (submitted-push (before ++ x ∷ []) xs entry)
    ∙ ap (λ (h : List Entry). done_output (outputs_asked before) x.act ++ (submitted_behind (before ++ x ∷ []) xs ++ done_output (outputs_asked h) entry.act)) (append_assoc before (x ∷ []) xs)
    ∙ sym (append_assoc (done_output (outputs_asked before) x.act) (submitted_behind (before ++ x ∷ []) xs) (done_output (outputs_asked (before ++ x ∷ xs)) entry.act))

-- the lanes were given just what was submitted, under the same numbers
pub record Agrees (history : List Entry) (given : List Judged) : Type 0 where
  pub numbers : next_number given ≡ outputs_asked history
  pub same : submitted history ≡ placed_in given

done-by : (n at : ℕ) (e : Event) (v : Verdict) (reply : Reply) → reply_to_event v ≡ Some reply → done_output n (Asked (ask.Out e) reply at) ≡ placed_of (Submitted n at e v)
done-by n at e Underflow reply is = let same : answer.Underflow ≡ reply = cc in ap (λ (r : Reply). done_output n (Asked (ask.Out e) r at)) (sym same)
done-by n at e (Lane k) reply is = let same : answer.Done ≡ reply = cc in ap (λ (r : Reply). done_output n (Asked (ask.Out e) r at)) (sym same)
done-by n at e Sequence reply is = let same : answer.Done ≡ reply = cc in ap (λ (r : Reply). done_output n (Asked (ask.Out e) r at)) (sym same)
done-by n at e Undecided reply is = absurd (cc)

steps-push : (front : List Entry) (entry : Entry) → lane_steps (front ++ entry ∷ []) ≡ lane_steps front ++ filter_map (λ (x : Entry). lane_step x.act) (entry ∷ [])
steps-push front entry = filter_map-append _ front (entry ∷ [])

-- an entry that is nothing to the lanes
quiet : (config : Config) (front : List Entry) (entry : Entry) → lane_steps (front ++ entry ∷ []) ≡ lane_steps front → outputs_asked (front ++ entry ∷ []) ≡ outputs_asked front → done_output (outputs_asked front) entry.act ≡ []
    → Agrees front (judged_history config front) → Agrees (front ++ entry ∷ []) (judged_history config (front ++ entry ∷ []))
quiet config front entry steps count none h =
    let given : judged_history config (front ++ entry ∷ []) ≡ judged_history config front = ap (judged config.lanes config.depth) steps in
    subst (Agrees (front ++ entry ∷ [])) (sym given)
    (record {
      numbers = h.numbers ∙ sym count;
      same =
          submitted-push [] front entry ∙ ap (λ (ps : List (ℕ × Event)). submitted front ++ ps) none
          ∙ append-nil (submitted front) ∙ h.same;
    })

count-push : (front : List Entry) (entry : Entry) → outputs_asked (front ++ entry ∷ []) ≡ outputs_asked front + count_by (λ (x : Entry). is_output_act x.act) (entry ∷ [])
count-push front entry = sum_by_push _ front entry ∙ omega arith

-- one entry more
step-act : (config : Config) (front : List Entry) (chair : ℕ) (act : Act) → MayFollow config front chair act → Agrees front (judged_history config front)
    → Agrees (front ++ record { chair = chair; act = act } ∷ []) (judged_history config (front ++ record { chair = chair; act = act } ∷ []))
step-act config front chair (Asked (ask.Out e) reply at) may h =
    let entry : Entry = record { chair = chair; act = Asked (ask.Out e) reply at } in
    let old : List Judged = judged_history config front in
    let v : Verdict = verdict_at config front e at in
    let given : judged_history config (front ++ entry ∷ []) ≡ old ++ Submitted (next_number old) at e v ∷ [] =
    ap (judged config.lanes config.depth) (steps-push front entry) ∙ judged-submit config.lanes config.depth (lane_steps front) at e in
    let done : done_output (next_number old) (Asked (ask.Out e) reply at) ≡ placed_of (Submitted (next_number old) at e v) = done-by (next_number old) at e v reply may.1 in
    subst (Agrees (front ++ entry ∷ [])) (sym given)
    (record {
      numbers = next-number-submitted old (next_number old) at e v ∙ ap (λ (n : ℕ). n + 1) h.numbers ∙ sym (sum_by_push _ front entry);
      same =
          submitted-push [] front entry
          ∙ ap (λ (ps : List (ℕ × Event)). ps ++ done_output (outputs_asked front) (Asked (ask.Out e) reply at)) h.same
          ∙ ap (λ (n : ℕ). placed_in old ++ done_output n (Asked (ask.Out e) reply at)) (sym h.numbers)
          ∙ ap (λ (ps : List (ℕ × Event)). placed_in old ++ ps) done
          ∙ sym (placed-push old (Submitted (next_number old) at e v));
    })
step-act config front chair (Asked ask.Reset reply at) may h =
    let entry : Entry = record { chair = chair; act = Asked ask.Reset reply at } in
    let old : List Judged = judged_history config front in
    let given : judged_history config (front ++ entry ∷ []) ≡ old ++ Cleared at ∷ [] =
    ap (judged config.lanes config.depth) (steps-push front entry) ∙ judged-clear config.lanes config.depth (lane_steps front) at in
    let count : outputs_asked (front ++ entry ∷ []) ≡ outputs_asked front = sum_by_push _ front entry ∙ omega arith in
    subst (Agrees (front ++ entry ∷ [])) (sym given)
    (record {
      numbers = next-number-cleared old at ∙ h.numbers ∙ sym count;
      same =
          submitted-push [] front entry ∙ append-nil (submitted front) ∙ h.same
          ∙ sym (append-nil (placed_in old)) ∙ sym (placed-push old (Cleared at));
    })
step-act config front chair act may h =
    let entry : Entry = record { chair = chair; act = act } in
    quiet config front entry (steps-push front entry ∙ append-nil (lane_steps front)) (sum_by_push _ front entry ∙ omega arith) refl h

-- the last entry may follow those before it
pub last-may : (config : Config) (before front : List Entry) (entry : Entry) → IsLawfulAfter config before (front ++ entry ∷ []) → MayFollow config (before ++ front) entry.chair entry.act
last-may config before [] entry lawful = subst (λ (h : List Entry). MayFollow config h entry.chair entry.act) (sym (append-nil before)) lawful.0
last-may config before (x ∷ front) entry lawful =
    subst (λ (h : List Entry). MayFollow config h entry.chair entry.act) (append_assoc before (x ∷ []) front)
    (last-may config (before ++ x ∷ []) front entry lawful.1)

-- what holds with one more at the end holds of all
pub from-front : {X : Type 0} (P : List X → Type 0) → ((front : List X) (x : X) → P front → P (front ++ x ∷ [])) → (front rest : List X) → P front → P (front ++ rest)
from-front P more front [] h = subst P (sym (append-nil front)) h
from-front P more front (x ∷ rest) h = subst P (append_assoc front (x ∷ []) rest) (from-front P more (front ++ x ∷ []) rest (more front x h))

pub agrees : (config : Config) (history : List Entry) → IsLawful config history → Agrees history (judged_history config history)
agrees config history lawful = from-front (λ (h : List Entry). IsLawful config h → Agrees h (judged_history config h)) more [] history none lawful
  where
    none : IsLawful config [] → Agrees [] (judged_history config [])
    none h = record { numbers = refl; same = refl }

    more : (front : List Entry) (entry : Entry) → (IsLawful config front → Agrees front (judged_history config front)) → IsLawful config (front ++ entry ∷ []) → Agrees (front ++ entry ∷ []) (judged_history config (front ++ entry ∷ []))
    more front entry ih h =
        step-act config front entry.chair entry.act (last-may config [] front entry h) (ih (IsLawfulAfter-front config [] front (entry ∷ []) h))
