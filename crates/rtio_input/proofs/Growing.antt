-- What is unread, with a step or with edges more.
use Rattle.std.proofs.Common.{◌≡◌, ℕ, ◌<◌, Bool, true, false, List, [], ◌∷◌, ◌++◌, refl, ap, ◌∙◌, cond, append-nil, subst, sym}
use Rattle.std.specs.Prelude.{filter, fold, nat_lt, nat_le, ◌==◌}
use Rattle.std.specs.List.{list_all}
use Rattle.std.proofs.lemmas.Bool.{ltb-true, leb-true, eqb-true, lt-ltb, le-ltb, lt-leb}
use Rattle.std.proofs.lemmas.List.Sums.{fold-append}
use Rattle.std.proofs.lemmas.List.Elements.{filter-append}
use Rattle.rtio_types.specs.declared.event.Edge.{Edge}
use Rattle.rtio_input.specs.Script.{edge_cycle}
use Rattle.rtio_input.specs.Channel.{Unread, after_edge}
use Rattle.rtio_input.specs.Past.{InputStep, after_step, input_step_at, unread_from}
use Rattle.rtio_input.proofs.Lists.{left, right, all-filter, filter-none, filter-whole}

-- the steps from the edge's cycle on, which come after it, and those before it
abbrev behind : Edge → List InputStep → List InputStep
behind x steps = filter (λ s. nat_le (edge_cycle x) (input_step_at s)) steps

abbrev ahead : Edge → List InputStep → List InputStep
ahead x steps = filter (λ s. nat_lt (input_step_at s) (edge_cycle x)) steps

-- a step that is no earlier than the edges comes after them
pub unread-step : (channel : ℕ) (edges : List Edge) (steps : List InputStep) (step : InputStep) (u : Unread) → list_all (λ x. nat_le (edge_cycle x) (input_step_at step)) edges ≡ true → unread_from channel edges (steps ++ step ∷ []) u ≡ after_step channel (unread_from channel edges steps u) step
unread-step channel [] steps step u all = fold-append (after_step channel) u steps (step ∷ [])
unread-step channel (x ∷ edges) steps step u all =
    let here : nat_le (edge_cycle x) (input_step_at step) ≡ true = left (nat_le (edge_cycle x) (input_step_at step)) (list_all (λ x. nat_le (edge_cycle x) (input_step_at step)) edges) all in
    let rest = right (nat_le (edge_cycle x) (input_step_at step)) (list_all (λ x. nat_le (edge_cycle x) (input_step_at step)) edges) all in
    let late : nat_lt (input_step_at step) (edge_cycle x) ≡ false = le-ltb (input_step_at step) (edge_cycle x) (leb-true (edge_cycle x) (input_step_at step) here) in
    let keeps : behind x (steps ++ step ∷ []) ≡ behind x steps ++ step ∷ [] =
    filter-append _ steps (step ∷ []) ∙ ap (λ (b : Bool). behind x steps ++ cond b (step ∷ []) []) here in
    let drops : ahead x (steps ++ step ∷ []) ≡ ahead x steps =
    filter-append _ steps (step ∷ []) ∙ ap (λ (b : Bool). ahead x steps ++ cond b (step ∷ []) []) late ∙ append-nil _ in
    ap (λ ss. unread_from channel edges ss (after_edge (fold (after_step channel) u (ahead x (steps ++ step ∷ []))) x.stamp)) keeps
    ∙ ap (λ ss. unread_from channel edges (behind x steps ++ step ∷ []) (after_edge (fold (after_step channel) u ss) x.stamp)) drops
    ∙ unread-step channel edges (behind x steps) step (after_edge (fold (after_step channel) u (ahead x steps)) x.stamp) rest

-- an edge more
abbrev pub with_edge : Unread → Edge → Unread
with_edge u x = after_edge u x.stamp

no-edges : (channel : ℕ) (edges : List Edge) (u : Unread) → unread_from channel edges [] u ≡ fold with_edge u edges
no-edges channel [] u = refl
no-edges channel (x ∷ edges) u = no-edges channel edges (after_edge u x.stamp)

edges-behind : (channel : ℕ) (more : List Edge) (steps : List InputStep) (u : Unread) (cycle : ℕ) → list_all (λ s. nat_lt (input_step_at s) cycle) steps ≡ true → list_all (λ x. edge_cycle x == cycle) more ≡ true → unread_from channel more steps u ≡ fold with_edge (fold (after_step channel) u steps) more
edges-behind channel [] steps u cycle earlier these = refl
edges-behind channel (x ∷ more) steps u cycle earlier these =
    let is : edge_cycle x ≡ cycle = eqb-true (edge_cycle x) cycle (left (edge_cycle x == cycle) (list_all (λ x. edge_cycle x == cycle) more) these) in
    let none : behind x steps ≡ [] =
    filter-none _ _ steps earlier (λ s h. lt-leb (edge_cycle x) (input_step_at s) (subst (λ c. input_step_at s < c) (sym is) (ltb-true (input_step_at s) cycle h))) in
    let all : ahead x steps ≡ steps =
    filter-whole _ _ steps earlier (λ s h. lt-ltb (input_step_at s) (edge_cycle x) (subst (λ c. input_step_at s < c) (sym is) (ltb-true (input_step_at s) cycle h))) in
    ap (λ ss. unread_from channel more ss (after_edge (fold (after_step channel) u (ahead x steps)) x.stamp)) none
    ∙ ap (λ ss. unread_from channel more [] (after_edge (fold (after_step channel) u ss) x.stamp)) all
    ∙ no-edges channel more (after_edge (fold (after_step channel) u steps) x.stamp)

-- edges of a later cycle than all steps come after them
pub unread-edges : (channel : ℕ) (edges more : List Edge) (steps : List InputStep) (u : Unread) (cycle : ℕ) → list_all (λ s. nat_lt (input_step_at s) cycle) steps ≡ true → list_all (λ x. edge_cycle x == cycle) more ≡ true → unread_from channel (edges ++ more) steps u ≡ fold with_edge (unread_from channel edges steps u) more
unread-edges channel [] more steps u cycle earlier these = edges-behind channel more steps u cycle earlier these
unread-edges channel (x ∷ edges) more steps u cycle earlier these =
    unread-edges channel edges more (behind x steps) (after_edge (fold (after_step channel) u (ahead x steps)) x.stamp) cycle
    (all-filter (λ s. nat_le (edge_cycle x) (input_step_at s)) (λ s. nat_lt (input_step_at s) cycle) steps earlier) these
