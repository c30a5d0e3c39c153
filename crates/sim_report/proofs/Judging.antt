-- A history entry by entry, as the lanes judge it.
use Rattle.std.proofs.Common.{◌≡◌, ℕ, ◌+◌, ◌<◌, ◌≤◌, take, drop, get_or, List, [], ◌∷◌, ◌++◌, length, true, false, Bool, Some, None, refl, sym, ap, subst, ◌∙◌, arith, append-nil, append_assoc, add-one, drop-cons, suc}
use Rattle.std.proofs.lemmas.List.{take_more, take-append-drop}
use Rattle.std.proofs.lemmas.List.Elements.{filter_map-append}
use Rattle.std.proofs.lemmas.List.Sums.{fold-append}
use Rattle.rtio_types.specs.declared.event.Event.{Event}
use Rattle.rtio_types.specs.declared.request.Request.TheVariants as ask
use Rattle.rtio_types.specs.declared.request.Reply.{Reply}
use Rattle.rtio_types.specs.declared.request.Reply.TheVariants as answer
use Rattle.sed_lanes.specs.Counters.{NeverFall}
use Rattle.sed_lanes.specs.Verdict.{Verdict, Underflow, Lane, Sequence, Undecided}
use Rattle.sed_lanes.specs.Judged.{LaneStep, Submit, Clear, Submitted, Cleared, judged, next_number}
use Rattle.sed_lanes.proofs.Histories.{judged-submit, judged-clear}
use Rattle.rtio_core.specs.declared.data.Config.{Config}
use Rattle.rtio_core.specs.declared.data.Act.{Act}
use Rattle.rtio_core.specs.declared.data.Act.TheVariants.{Start, Asked, End}
use Rattle.rtio_core.specs.declared.data.Entry.{Entry}
use Rattle.rtio_core.specs.Entries.{act_at, judged_history, lane_step, lane_steps, last_at}
use Rattle.rtio_core.specs.Lawful.{IsLawfulAfter, MayFollow}
use Rattle.rtio_core.specs.Reply.{reply_to_event, verdict_at}
use Rattle.sim_report.specs.declared.steps.Step.TheVariants.{Submits, Clears, Other}
use Rattle.sim_report.specs.Steps.{is_done_reply, step_in}

-- ---- lawful histories

-- each entry of a lawful history may follow those before it
lawful-at : (config : Config) (before front : List Entry) (entry : Entry) (back : List Entry) → IsLawfulAfter config before (front ++ entry ∷ back) → MayFollow config (before ++ front) entry.chair entry.act
lawful-at config before [] entry back lawful = let P : List Entry → Type 0 = λ h. MayFollow config h entry.chair entry.act in subst P (sym (append-nil before)) lawful.0
lawful-at config before (e ∷ front) entry back lawful =
    let P : List Entry → Type 0 = λ h. MayFollow config h entry.chair entry.act in
    subst P (append_assoc before (e ∷ []) front) (lawful-at config (before ++ e ∷ []) front entry back lawful.1)

not-earlier : (config : Config) (before : List Entry) (chair : ℕ) (act : Act) → MayFollow config before chair act → last_at before ≤ act_at act
not-earlier config before chair (Start of cursor at) may = may.2
not-earlier config before chair (Asked request reply at) may = may.2
not-earlier config before chair (End outcome cursor at) may = may.1

sooner : (steps : List LaneStep) (from before to : ℕ) → before ≤ from → NeverFall from steps to → NeverFall before steps to
sooner [] from before to le h = omega (arith, le, h)
sooner (step ∷ steps) from before to le h = let first = h.0 in (omega (arith, le, first), h.1)

step-in-time : (from to chair : ℕ) (act : Act) (rest : List Entry) → from ≤ act_at act → NeverFall (act_at act) (lane_steps rest) to → NeverFall from (lane_steps (record { chair = chair; act = act } ∷ rest)) to
step-in-time from to chair (Start of cursor at) rest le h = sooner (lane_steps rest) at from to le h
step-in-time from to chair (Asked (ask.Out e) reply at) rest le h = (le, h)
step-in-time from to chair (Asked ask.Reset reply at) rest le h = (le, h)
step-in-time from to chair (Asked request reply at) rest le h = sooner (lane_steps rest) at from to le h
step-in-time from to chair (End outcome cursor at) rest le h = sooner (lane_steps rest) at from to le h

-- the counters of its steps never fall, up to any counter that the last entry's isn't above
pub steps-in-time : (config : Config) (before rest : List Entry) (to : ℕ) → IsLawfulAfter config before rest → last_at (before ++ rest) ≤ to → NeverFall (last_at before) (lane_steps rest) to
steps-in-time config before [] to lawful reached = subst (λ (h : List Entry). last_at h ≤ to) (append-nil before) reached
steps-in-time config before (entry ∷ rest) to lawful reached =
    let at : last_at (before ++ entry ∷ []) ≡ act_at entry.act = fold-append _ _ before (entry ∷ []) in
    let more = steps-in-time config (before ++ entry ∷ []) rest to lawful.1 (subst (λ (h : List Entry). last_at h ≤ to) (sym (append_assoc before (entry ∷ []) rest)) reached) in
    step-in-time (last_at before) to entry.chair entry.act rest (not-earlier config before entry.chair entry.act lawful.0)
    (subst (λ (n : ℕ). NeverFall n (lane_steps rest) to) at more)

-- ---- one entry more

steps-more : (front : List Entry) (entry : Entry) (step : LaneStep) → lane_step entry.act ≡ Some step → lane_steps (front ++ entry ∷ []) ≡ lane_steps front ++ step ∷ []
steps-more front entry step is =
    let tail : lane_steps (entry ∷ []) ≡ step ∷ [] = rw is refl in
    filter_map-append (λ (e : Entry). lane_step e.act) front (entry ∷ []) ∙ ap (λ (steps : List LaneStep). lane_steps front ++ steps) tail

steps-quiet : (front : List Entry) (entry : Entry) → lane_step entry.act ≡ None → lane_steps (front ++ entry ∷ []) ≡ lane_steps front
steps-quiet front entry quiet =
    let tail : lane_steps (entry ∷ []) ≡ [] = rw quiet refl in
    filter_map-append (λ (e : Entry). lane_step e.act) front (entry ∷ []) ∙ ap (λ (steps : List LaneStep). lane_steps front ++ steps) tail ∙ append-nil _

quiet-act : (act : Act) → step_in act ≡ Other → lane_step act ≡ None
quiet-act (Start of cursor at) is = refl
quiet-act (Asked (ask.Out e) reply at) is = absurd (cc)
quiet-act (Asked ask.Reset reply at) is = absurd (cc)
quiet-act (Asked request reply at) is = refl
quiet-act (End outcome cursor at) is = refl

-- an entry that is nothing to the lanes
pub judged-quiet : (config : Config) (front : List Entry) (entry : Entry) → step_in entry.act ≡ Other → judged_history config (front ++ entry ∷ []) ≡ judged_history config front
judged-quiet config front entry is = ap (judged config.lanes config.depth) (steps-quiet front entry (quiet-act entry.act is))

-- a reset
pub record IsCleared (config : Config) (front : List Entry) (entry : Entry) : Type 0 where
  pub at : ℕ
  pub judged_is : judged_history config (front ++ entry ∷ []) ≡ judged_history config front ++ Cleared at ∷ []

clear-act : (act : Act) → step_in act ≡ Clears → (at : ℕ) × (lane_step act ≡ Some (Clear at))
clear-act (Start of cursor at) is = absurd (cc)
clear-act (Asked (ask.Out e) reply at) is = absurd (cc)
clear-act (Asked ask.Reset reply at) is = (at, refl)
clear-act (Asked request reply at) is = absurd (cc)
clear-act (End outcome cursor at) is = absurd (cc)

pub judged-cleared : (config : Config) (front : List Entry) (entry : Entry) → step_in entry.act ≡ Clears → IsCleared config front entry
judged-cleared config front entry is =
    let clear = clear-act entry.act is in
    record {
      at = clear.0;
      judged_is = ap (judged config.lanes config.depth) (steps-more front entry (Clear clear.0) clear.1) ∙ judged-clear config.lanes config.depth (lane_steps front) clear.0;
    }

-- what became of an output
pub data Became (is_done : Bool) : Verdict → Type 0 where
  late : is_done ≡ false → Became is_done Underflow
  taken : (k : ℕ) → is_done ≡ true → Became is_done (Lane k)
  missed : Became is_done Sequence

became-at : (v : Verdict) (reply : Reply) (is_done : Bool) → is_done ≡ is_done_reply reply → reply_to_event v ≡ Some reply → Became is_done v
became-at Underflow reply is_done done is = let same : answer.Underflow ≡ reply = cc in late (done ∙ sym (ap is_done_reply same))
became-at (Lane k) reply is_done done is = let same : answer.Done ≡ reply = cc in taken k (done ∙ sym (ap is_done_reply same))
became-at Sequence reply is_done done is = missed
became-at Undecided reply is_done done is = absurd (cc)

-- the act of an output
record IsOutput (act : Act) (e : Event) (is_done : Bool) : Type 0 where
  reply : Reply
  at : ℕ
  act_is : act ≡ Asked (ask.Out e) reply at
  done_is : is_done ≡ is_done_reply reply

output-act : (act : Act) (e : Event) (is_done : Bool) → step_in act ≡ Submits e is_done → IsOutput act e is_done
output-act (Start of cursor at) e is_done is = absurd (cc)
output-act (Asked (ask.Out f) reply at) e is_done is =
    let same : f ≡ e = cc in
    let done : is_done ≡ is_done_reply reply = cc in
    record { reply = reply; at = at; act_is = ap (λ (x : Event). Asked (ask.Out x) reply at) same; done_is = done }
output-act (Asked ask.Reset reply at) e is_done is = absurd (cc)
output-act (Asked request reply at) e is_done is = absurd (cc)
output-act (End outcome cursor at) e is_done is = absurd (cc)

-- an output among the entries, with what became of it
pub record Asks (config : Config) (front : List Entry) (entry : Entry) (e : Event) (is_done : Bool) : Type 0 where
  pub at : ℕ
  pub became : Became is_done (verdict_at config front e at)
  pub judged_is : judged_history config (front ++ entry ∷ []) ≡ judged_history config front ++ Submitted (next_number (judged_history config front)) at e (verdict_at config front e at) ∷ []

pub asks : (config : Config) (front : List Entry) (entry : Entry) (back : List Entry) (e : Event) (is_done : Bool) → IsLawfulAfter config [] (front ++ entry ∷ back) → step_in entry.act ≡ Submits e is_done → Asks config front entry e is_done
asks config front entry back e is_done lawful is =
    let o = output-act entry.act e is_done is in
    let may = subst (λ (a : Act). MayFollow config front entry.chair a) o.act_is (lawful-at config [] front entry back lawful) in
    record {
      at = o.at;
      became = became-at (verdict_at config front e o.at) o.reply is_done o.done_is may.1;
      judged_is = ap (judged config.lanes config.depth) (steps-more front entry (Submit o.at e) (ap lane_step o.act_is)) ∙ judged-submit config.lanes config.depth (lane_steps front) o.at e;
    }

-- ---- the turn of a loop over the entries

-- the place of an entry in the list
pub record Here (items : List Entry) (i : ℕ) (entry : Entry) : Type 0 where
  pub take_is : take (i + 1) items ≡ take i items ++ entry ∷ []
  pub split : items ≡ take i items ++ entry ∷ drop (i + 1) items

drop-at : (items : List Entry) (i : ℕ) (entry : Entry) → i < length items → entry ≡ get_or items i entry → drop i items ≡ entry ∷ drop (i + 1) items
drop-at items i entry below is = rw (add-one, drop-cons items i entry) (ap (λ (e : Entry). e ∷ drop (suc i) items) (sym is))

pub here : (items : List Entry) (i : ℕ) (entry : Entry) → i < length items → entry ≡ get_or items i entry → Here items i entry
here items i entry below is = record {
  take_is = take_more items i entry below ∙ ap (λ (x : Entry). take i items ++ x ∷ []) (sym is);
  split = sym (take-append-drop i items) ∙ ap (λ (r : List Entry). take i items ++ r) (drop-at items i entry below is);
}
