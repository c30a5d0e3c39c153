-- What is decided of an edge stays decided, and what a request for an edge means to a core.
use Rattle.std.proofs.Common.{◌≡◌, ◌+◌, ◌-◌, ◌≤◌, ℕ, zero, suc, Bool, true, false, List, [], ◌∷◌, ◌++◌, map, refl, ap, sym, subst, ◌∙◌, arith, append_assoc, append-nil, cond}
use Rattle.std.specs.Prelude.{ℤ, IsTrue, Option, Some, None, is_some, nat_le, ◌==◌}
use Rattle.std.proofs.lemmas.Bool.{le-leb, leb-true}
use Rattle.std.proofs.lemmas.List.Elements.{filter_map-append}
use Rattle.std.proofs.lemmas.List.Sums.{fold-append}
use Rattle.rtio_types.specs.declared.event.Event.{Event}
use Rattle.rtio_types.specs.declared.request.Request.TheVariants as ask
use Rattle.rtio_types.specs.declared.request.Reply.{Reply}
use Rattle.rtio_types.specs.declared.request.Reply.TheVariants as answer
use Rattle.rtio_types.specs.Time.{cycle_of}
use Rattle.output_merge.specs.Busy.{put_out}
use Rattle.output_merge.specs.Groups.{keepers}
use Rattle.output_merge.specs.Live.{live}
use Rattle.output_merge.specs.Outputs.{up_to}
use Rattle.output_merge.proofs.Cycles.{outputs-next}
use Rattle.output_merge.proofs.Histories.{of_cycle}
use Rattle.rtio_input.specs.Calls.{are_of_cycle}
use Rattle.rtio_input.specs.Channel.{edge_reply}
use Rattle.rtio_input.specs.Past.{InputStep, are_made_by, are_put_out_by, input_step_at, unread_at}
use Rattle.rtio_input.specs.Script.{are_edges_ok}
use Rattle.rtio_input.proofs.Lists.{all-append, all-weaker}
use Rattle.rtio_input.proofs.Undecided.{undecided-next}
use Rattle.rtio_core.specs.declared.data.Act.{Act}
use Rattle.rtio_core.specs.declared.data.Act.TheVariants.{Start, Asked, End}
use Rattle.rtio_core.specs.declared.data.Config.{Config}
use Rattle.rtio_core.specs.declared.data.Entry.{Entry}
use Rattle.rtio_core.specs.Entries.{act_at, input_step, input_steps, judged_history, last_at}
use Rattle.rtio_core.specs.Lawful.{IsLawful, IsLawfulAfter, MayFollow}
use Rattle.rtio_core.specs.Reply.{outputs_at, unread_in}

out-by : (counter : ℕ) (events : List (ℕ × Event)) → are_put_out_by counter (map (λ p. p.1) (up_to counter events)) ≡ true
out-by counter [] = refl
out-by counter (p ∷ events) = at (nat_le (cycle_of p.1) counter) refl (out-by counter events)
  where
    at : (b : Bool) → nat_le (cycle_of p.1) counter ≡ b → are_put_out_by counter (map (λ q. q.1) (up_to counter events)) ≡ true → are_put_out_by counter (map (λ q. q.1) (cond b (p ∷ up_to counter events) (up_to counter events))) ≡ true
    at true is ih = rw is ih
    at false is ih = ih

-- what is put out up to a counter is of no later cycle
outputs-by : (config : Config) (history : List Entry) (counter : ℕ) → are_put_out_by counter (outputs_at config history counter) ≡ true
outputs-by config history counter = out-by counter (put_out config.holds (keepers (live (judged_history config history))))

-- the events of the next cycle
abbrev pub next_outputs : Config → List Entry → ℕ → List Event
next_outputs config history counter = map (λ p. p.1) (of_cycle (counter + 1) (put_out config.holds (keepers (live (judged_history config history)))))

pub outputs-grow : (config : Config) (history : List Entry) (counter : ℕ) → outputs_at config history (counter + 1) ≡ outputs_at config history counter ++ next_outputs config history counter
outputs-grow config history counter = outputs-next config.holds (judged_history config history) counter

events-of : (cycle : ℕ) (events : List (ℕ × Event)) → are_of_cycle cycle (map (λ p. p.1) (of_cycle cycle events)) ≡ true
events-of cycle [] = refl
events-of cycle (p ∷ events) = at (cycle_of p.1 == cycle) refl (events-of cycle events)
  where
    at : (b : Bool) → (cycle_of p.1 == cycle) ≡ b → are_of_cycle cycle (map (λ q. q.1) (of_cycle cycle events)) ≡ true → are_of_cycle cycle (map (λ q. q.1) (cond b (p ∷ of_cycle cycle events) (of_cycle cycle events))) ≡ true
    at true is ih = rw is ih
    at false is ih = ih

pub next-of-cycle : (config : Config) (history : List Entry) (counter : ℕ) → are_of_cycle (counter + 1) (next_outputs config history counter) ≡ true
next-of-cycle config history counter = events-of (counter + 1) (put_out config.holds (keepers (live (judged_history config history))))

-- an entry isn't earlier than the last one
not-earlier : (config : Config) (before : List Entry) (chair : ℕ) (act : Act) → MayFollow config before chair act → last_at before ≤ act_at act
not-earlier config before chair (Start of cursor at) may = may.2
not-earlier config before chair (Asked request reply at) may = may.2
not-earlier config before chair (End outcome cursor at) may = may.1

made-at : (act : Act) (chair : ℕ) → are_made_by (act_at act) (input_steps (record { chair = chair; act = act } ∷ [])) ≡ true
made-at (Start of cursor at) chair = refl
made-at (Asked (ask.Edge channel up_to) (answer.Stamp x) at) chair = rw (le-leb at at (omega arith)) refl
made-at (Asked (ask.Edge channel up_to) answer.Overflow at) chair = rw (le-leb at at (omega arith)) refl
made-at (Asked ask.Reset reply at) chair = rw (le-leb at at (omega arith)) refl
made-at (Asked other reply at) chair = refl
made-at (End outcome cursor at) chair = refl

pub made-later : (from to : ℕ) (steps : List InputStep) → from ≤ to → are_made_by from steps ≡ true → are_made_by to steps ≡ true
made-later from to steps le made = all-weaker (λ s. nat_le (input_step_at s) from) (λ s. nat_le (input_step_at s) to) steps made (λ s early. le-leb (input_step_at s) to (up (input_step_at s) (leb-true (input_step_at s) from early)))
  where
    up : (n : ℕ) → n ≤ from → n ≤ to
    up n less = omega (arith, less, le)

made-after : (config : Config) (before rest : List Entry) → are_made_by (last_at before) (input_steps before) ≡ true → IsLawfulAfter config before rest → are_made_by (last_at (before ++ rest)) (input_steps (before ++ rest)) ≡ true
made-after config before [] made lawful = subst (λ (h : List Entry). are_made_by (last_at h) (input_steps h) ≡ true) (sym (append-nil before)) made
made-after config before (entry ∷ rest) made lawful =
    let at : last_at (before ++ entry ∷ []) ≡ act_at entry.act = fold-append _ _ before (entry ∷ []) in
    let grows : input_steps (before ++ entry ∷ []) ≡ input_steps before ++ input_steps (entry ∷ []) = filter_map-append (λ (e : Entry). input_step e.act) before (entry ∷ []) in
    let all : are_made_by (act_at entry.act) (input_steps before ++ input_steps (entry ∷ [])) ≡ true =
    all-append (λ s. nat_le (input_step_at s) (act_at entry.act)) (input_steps before) (input_steps (entry ∷ [])) (made-later (last_at before) (act_at entry.act) (input_steps before) (not-earlier config before entry.chair entry.act lawful.0) made) (made-at entry.act entry.chair) in
    let next : are_made_by (last_at (before ++ entry ∷ [])) (input_steps (before ++ entry ∷ [])) ≡ true = rw (at, grows) all in
    subst (λ (h : List Entry). are_made_by (last_at h) (input_steps h) ≡ true) (append_assoc before (entry ∷ []) rest) (made-after config (before ++ entry ∷ []) rest next lawful.1)

-- the steps of a lawful history are no later than its last entry
pub made-by-last : (config : Config) (history : List Entry) → IsLawful config history → are_made_by (last_at history) (input_steps history) ≡ true
made-by-last config history lawful = made-after config [] history refl lawful

-- an edge that isn't decided at the next counter isn't decided at this one
edge-before : (config : Config) (history : List Entry) (channel counter : ℕ) (bound : ℤ) → IsTrue (are_edges_ok config.edges) → are_made_by counter (input_steps history) ≡ true → edge_reply (unread_in config history (counter + 1) channel) (counter + 1) bound ≡ None → edge_reply (unread_in config history counter channel) counter bound ≡ None
edge-before config history channel counter bound ok made open_ =
    undecided-next config.edges (outputs_at config history counter) (next_outputs config history counter) (input_steps history) counter channel bound ok
    (outputs-by config history counter) made (next-of-cycle config history counter)
    (ap (λ (events : List Event). edge_reply (unread_at config.edges events (input_steps history) (counter + 1) channel) (counter + 1) bound) (sym (outputs-grow config history counter)) ∙ open_)

edge-back : (config : Config) (history : List Entry) (channel from more : ℕ) (bound : ℤ) → IsTrue (are_edges_ok config.edges) → are_made_by from (input_steps history) ≡ true → edge_reply (unread_in config history (from + more) channel) (from + more) bound ≡ None → edge_reply (unread_in config history from channel) from bound ≡ None
edge-back config history channel from zero bound ok made open_ =
    let same : from + 0 ≡ from = omega arith in
    subst (λ (n : ℕ). edge_reply (unread_in config history n channel) n bound ≡ None) same open_
edge-back config history channel from (suc more) bound ok made open_ =
    let next : from + suc more ≡ from + more + 1 = omega arith in
    edge-back config history channel from more bound ok made
    (edge-before config history channel (from + more) bound ok (made-later from (from + more) (input_steps history) (omega arith) made)
    (subst (λ (n : ℕ). edge_reply (unread_in config history n channel) n bound ≡ None) next open_))

some-later : (later before : Option Reply) → (later ≡ None → before ≡ None) → is_some before ≡ true → is_some later ≡ true
some-later (Some r) before back h = refl
some-later None before back h = let none : before ≡ None = back refl in sym (ap (λ (o : Option Reply). is_some o) none) ∙ h

-- one that is decided stays decided
pub edge-stays : (config : Config) (history : List Entry) (channel from to : ℕ) (bound : ℤ) → IsTrue (are_edges_ok config.edges) → are_made_by from (input_steps history) ≡ true → from ≤ to → is_some (edge_reply (unread_in config history from channel) from bound) ≡ true → is_some (edge_reply (unread_in config history to channel) to bound) ≡ true
edge-stays config history channel from to bound ok made le h =
    let more : from + (to - from) ≡ to = omega (arith, le) in
    some-later (edge_reply (unread_in config history to channel) to bound) (edge_reply (unread_in config history from channel) from bound)
    (λ open_. edge-back config history channel from (to - from) bound ok made (subst (λ (n : ℕ). edge_reply (unread_in config history n channel) n bound ≡ None) (sym more) open_)) h
