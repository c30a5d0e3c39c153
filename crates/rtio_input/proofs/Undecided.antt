-- A request for an edge that isn't decided at a counter wasn't decided at the one before.
use Rattle.std.proofs.Common.{◌≡◌, ℕ, ◌+◌, ◌<◌, ◌≤◌, Bool, true, false, List, [], ◌∷◌, ◌++◌, refl, ap, ◌∙◌, arith, cond}
use Rattle.std.specs.Prelude.{ℤ, pos, negsuc, int_le, int_lt, Some, None, filter, fold, length, nat_lt, nat_le, ◌==◌, ◌&&◌}
use Rattle.std.specs.List.{list_all}
use Rattle.std.proofs.lemmas.Bool.{ltb-true, leb-false, le-leb, lt-leb}
use Rattle.rtio_types.specs.declared.event.Event.{Event}
use Rattle.rtio_types.specs.declared.event.Edge.{Edge}
use Rattle.rtio_types.specs.declared.request.Reply.TheVariants as answer
use Rattle.rtio_types.specs.Time.{reading}
use Rattle.rtio_input.specs.Script.{are_edges_ok, are_rising, edge_cycle, is_edge_ok, later_edges}
use Rattle.rtio_input.specs.Channel.{InputsState, Unread, after_edge, edge_reply, reply_to_stamps}
use Rattle.rtio_input.specs.Past.{InputStep, InputsStandFor, are_made_by, are_put_out_by, last_sensitivity, sees, unread_at}
use Rattle.rtio_input.specs.Calls.{after_own_edge, are_of_cycle, passed_before, sensitivity_among}
use Rattle.rtio_input.proofs.Lists.{right, all-kept, all-weaker}
use Rattle.rtio_input.proofs.Standing.{unread-cycle}

-- nothing is unread, and no edge was dropped
pub record IsIdle (u : Unread) : Type 0 where
  pub none : u.stamps ≡ []
  pub clear : u.overflow ≡ false

no-empty : (xs : List ℤ) (x : ℤ) → xs ++ x ∷ [] ≡ [] → ⊥
no-empty [] x e = let long : length (x ∷ []) ≡ 0 = ap (λ (l : List ℤ). length l) e in omega (arith, long)
no-empty (y ∷ xs) x e = let long : length (y ∷ (xs ++ x ∷ [])) ≡ 0 = ap (λ (l : List ℤ). length l) e in omega (arith, long)

-- an edge leaves no input idle
never-idle : (u : Unread) (stamp : ℤ) → IsIdle (after_edge u stamp) → ⊥
never-idle u stamp idle = at (nat_lt (length u.stamps) 64) idle
  where
    at : (b : Bool) → IsIdle (cond b (record u { stamps = u.stamps ++ stamp ∷ [] }) (record u { overflow = true })) → ⊥
    at true idle = no-empty u.stamps stamp idle.none
    at false idle = let e : true ≡ false = idle.clear in absurd (cc)

-- what is idle after some edges was idle before them
idle-before : (before : ℕ) (kept : List Event) (edges : List Edge) (u : Unread) → IsIdle (fold (after_own_edge before kept) u edges) → IsIdle u
idle-before before kept [] u idle = idle
idle-before before kept (x ∷ edges) u idle =
    at (sees (sensitivity_among before kept x) x.rising) (idle-before before kept edges (after_own_edge before kept u x) idle)
  where
    at : (b : Bool) → IsIdle (cond b (after_edge u x.stamp) u) → IsIdle u
    at true idle = absurd (never-idle u x.stamp idle)
    at false idle = idle

-- a request isn't decided where its input is idle and the counter's reading is below the moment
pub record IsUndecided (u : Unread) (counter : ℕ) (up_to : ℤ) : Type 0 where
  pub idle : IsIdle u
  pub early : int_le up_to (pos (reading counter)) ≡ false

pub undecided-parts : (u : Unread) (counter : ℕ) (up_to : ℤ) → edge_reply u counter up_to ≡ None → IsUndecided u counter up_to
undecided-parts u counter up_to open_ = marked u.overflow refl open_
  where
    early : (b : Bool) → int_le up_to (pos (reading counter)) ≡ b → cond b (Some answer.NoEdge) None ≡ None → int_le up_to (pos (reading counter)) ≡ false
    early true is e = absurd (cc)
    early false is e = is

    below : (b : Bool) → cond b (Some (answer.Stamp up_to)) (Some answer.NoEdge) ≡ None → ⊥
    below true e = absurd (cc)
    below false e = absurd (cc)

    some : (b : Bool) (x : ℤ) → cond b (Some (answer.Stamp x)) (Some answer.NoEdge) ≡ None → ⊥
    some true x e = absurd (cc)
    some false x e = absurd (cc)

    stamps : (xs : List ℤ) → u.stamps ≡ xs → u.overflow ≡ false → reply_to_stamps xs counter up_to ≡ None → IsUndecided u counter up_to
    stamps [] is clear e = record { idle = record { none = is; clear = clear }; early = early (int_le up_to (pos (reading counter))) refl e }
    stamps (x ∷ xs) is clear e = absurd (some (int_lt x up_to) x e)

    marked : (b : Bool) → u.overflow ≡ b → cond b (Some answer.Overflow) (reply_to_stamps u.stamps counter up_to) ≡ None → IsUndecided u counter up_to
    marked true is e = absurd (cc)
    marked false is e = stamps u.stamps refl is e

undecided-is : (u : Unread) (counter : ℕ) (up_to : ℤ) → IsUndecided u counter up_to → edge_reply u counter up_to ≡ None
undecided-is u counter up_to h =
    ap (λ (b : Bool). cond b (Some answer.Overflow) (reply_to_stamps u.stamps counter up_to)) h.idle.clear
    ∙ ap (λ (xs : List ℤ). reply_to_stamps xs counter up_to) h.idle.none
    ∙ ap (λ (b : Bool). cond b (Some answer.NoEdge) None) h.early

earlier : (up_to : ℤ) (counter cycle : ℕ) → counter < cycle → int_le up_to (pos (reading cycle)) ≡ false → int_le up_to (pos (reading counter)) ≡ false
earlier (pos n) counter cycle lt late =
    let above : reading cycle < n = leb-false n (reading cycle) late in
    lt-leb n (reading counter) (omega (arith, above, lt))
earlier (negsuc n) counter cycle lt late = absurd (cc)

-- undecided after a cycle, undecided before it
pub undecided-cycle : (script : List Edge) (outputs kept : List Event) (steps : List InputStep) (counter cycle channel : ℕ) (up_to : ℤ) → counter < cycle → are_edges_ok script ≡ true → list_all (λ x. nat_le cycle (edge_cycle x)) (later_edges counter script) ≡ true → are_put_out_by counter outputs ≡ true → are_made_by counter steps ≡ true → are_of_cycle cycle kept ≡ true → edge_reply (unread_at script (outputs ++ kept) steps cycle channel) cycle up_to ≡ None → edge_reply (unread_at script outputs steps counter channel) counter up_to ≡ None
undecided-cycle script outputs kept steps counter cycle channel up_to lt ok passed by made of open_ =
    undecided-is (unread_at script outputs steps counter channel) counter up_to (record {
      idle = idle-before (last_sensitivity outputs steps counter channel) kept (filter (λ x. x.channel == channel) (filter (λ x. edge_cycle x == cycle) (later_edges counter script))) (unread_at script outputs steps counter channel) (parts-before.idle);
      early = earlier up_to counter cycle lt parts-before.early;
    })
  where
    same : fold (after_own_edge (last_sensitivity outputs steps counter channel) kept) (unread_at script outputs steps counter channel) (filter (λ x. x.channel == channel) (filter (λ x. edge_cycle x == cycle) (later_edges counter script))) ≡ unread_at script (outputs ++ kept) steps cycle channel
    same = unread-cycle script outputs kept steps counter cycle channel lt (right (nat_le (length script) 4096 && list_all is_edge_ok script) (are_rising script) ok) passed by made of

    parts-before : IsUndecided (fold (after_own_edge (last_sensitivity outputs steps counter channel) kept) (unread_at script outputs steps counter channel) (filter (λ x. x.channel == channel) (filter (λ x. edge_cycle x == cycle) (later_edges counter script)))) cycle up_to
    parts-before = undecided-parts _ cycle up_to (ap (λ (u : Unread). edge_reply u cycle up_to) same ∙ open_)

next-passed : (counter : ℕ) (edges : List Edge) → list_all (λ x. nat_le (counter + 1) (edge_cycle x)) (later_edges counter edges) ≡ true
next-passed counter edges = all-weaker (λ x. nat_lt counter (edge_cycle x)) (λ x. nat_le (counter + 1) (edge_cycle x)) (later_edges counter edges) (all-kept (λ x. nat_lt counter (edge_cycle x)) edges) (λ x h. le-leb (counter + 1) (edge_cycle x) (over (edge_cycle x) (ltb-true counter (edge_cycle x) h)))
  where
    over : (n : ℕ) → counter < n → counter + 1 ≤ n
    over n lt = omega (arith, lt)

-- what inputs ask of the next cycle holds where they stand for a past up to the counter
pub passes-next : (s : InputsState) (script : List Edge) (outputs : List Event) (steps : List InputStep) (counter : ℕ) → InputsStandFor s script outputs steps counter → passed_before (counter + 1) s ≡ true
passes-next s script outputs steps counter h = ap (λ es. list_all (λ x. nat_le (counter + 1) (edge_cycle x)) es) h.left ∙ next-passed counter script

-- undecided at the next counter, undecided at this one
pub undecided-next : (script : List Edge) (outputs kept : List Event) (steps : List InputStep) (counter channel : ℕ) (up_to : ℤ) → are_edges_ok script ≡ true → are_put_out_by counter outputs ≡ true → are_made_by counter steps ≡ true → are_of_cycle (counter + 1) kept ≡ true → edge_reply (unread_at script (outputs ++ kept) steps (counter + 1) channel) (counter + 1) up_to ≡ None → edge_reply (unread_at script outputs steps counter channel) counter up_to ≡ None
undecided-next script outputs kept steps counter channel up_to ok by made of open_ =
    undecided-cycle script outputs kept steps counter (counter + 1) channel up_to (omega arith) ok (next-passed counter script) by made of open_
