-- Branches, loops, record blocks and handlers leave values of the names' types where their parts do.
use Rattle.std.proofs.Common.{◌≡◌, ℕ, zero, suc, ◌<◌, [], Some, subst, arith}
use Rattle.std.specs.Prelude.{ℤ, pos, ◌+ℤ◌, ⊤, Bool, true, false, if◌then◌else◌}
use Rattle.std.proofs.lemmas.Int.{ints}
use Rattle.rtio_types.specs.declared.outcome.Exc.{Exc}
use Rattle.rtio_types.specs.declared.request.Request.{Request}
use Rattle.rtio_types.specs.declared.request.Value.TheVariants as W
use Rattle.rtio_types.specs.Integers.{is_true}
use Rattle.kern_syntax.specs.Tree.{Bytes}
use Rattle.kern_calls.specs.declared.types.ValueType.{ValueType}
use Rattle.kern_calls.specs.Calls.{look_up}
use Rattle.kern_calls.specs.Types.{Names}
use Rattle.kern_judgement.specs.Fitting.{Standing, in_a_loop}
use Rattle.timeline_sem.specs.Actions.{State, break, continue, return, raised, budget, unanswered, Completion, normal, early, Action, skip, stop, take_unit_of, ask}
use Rattle.timeline_sem.specs.Statements.{when, either, after_turn, turn, while_turns, while_loop, for_turns, leave_recording, save_request, save_after, end_recording, recorded, after_try, attempt}
use Rattle.typed_runs.specs.Values.{IsValueOf, HaveValues}
use Rattle.typed_runs.specs.Ends.{EndsTyped}
use Rattle.typed_runs.proofs.Calculus.{Anything, RunsTyped, typed_go_on, typed_bind, typed_then, typed_skip, typed_stop, typed_take_unit, typed_ask}
use Rattle.typed_runs.proofs.NamedValues.{typed_write}

-- so many numbers from one on are values of a type
abbrev pub AreInReach : ValueType → ℤ → ℕ → Type 0
AreInReach t from n = (i : ℕ) → i < n → IsValueOf t (W.Int (from +ℤ pos i))

-- the first of them
first_of : (t : ValueType) (from : ℤ) (n : ℕ) → AreInReach t from (suc n) → IsValueOf t (W.Int from)
first_of t from n r =
    let same : from +ℤ pos 0 ≡ from = omega (arith, ints) in
    subst (λ z. IsValueOf t (W.Int z)) same (r 0 (omega arith))

-- the others
rest_of : (t : ValueType) (from : ℤ) (n : ℕ) → AreInReach t from (suc n) → AreInReach t (from +ℤ pos 1) n
rest_of t from n r i less =
    let same : from +ℤ pos (suc i) ≡ (from +ℤ pos 1) +ℤ pos i = omega (arith, ints) in
    subst (λ z. IsValueOf t (W.Int z)) same (r (suc i) (omega arith))

module _ (names : Names) (here : Standing) where
  -- branches
  pub typed_when : (b : Bool) (action : Action ⊤) → RunsTyped names here Anything action
      → RunsTyped names here Anything (when b action)
  typed_when true action k = k
  typed_when false action k = typed_skip names here

  pub typed_either : (b : Bool) (first second : Action ⊤) → RunsTyped names here Anything first
      → RunsTyped names here Anything second → RunsTyped names here Anything (either b first second)
  typed_either true first second k l = k
  typed_either false first second k l = l

  pub typed_if : (b : Bool) (first second : Action ⊤) → RunsTyped names here Anything first → RunsTyped names here Anything second
      → RunsTyped names here Anything (if b then first else second)
  typed_if true first second k l = k
  typed_if false first second k l = l

  -- turns of a loop, whose body may end by `break` or `continue`
  typed_after_turn : (c : Completion ⊤) (again : Action ⊤) → EndsTyped names (in_a_loop here) Anything c
      → RunsTyped names here Anything again
      → EndsTyped names here Anything (after_turn c again)
  typed_after_turn (normal a s) again r k = k.from s r.1
  typed_after_turn (early continue s) again r k = k.from s r.1
  typed_after_turn (early break s) again r k = (tt, r.1)
  typed_after_turn (early (return v) s) again r k = r
  typed_after_turn (early (raised x) s) again r k = r
  typed_after_turn (early budget s) again r k = r
  typed_after_turn (early unanswered s) again r k = r

  typed_turn : (body again : Action ⊤) → RunsTyped names (in_a_loop here) Anything body → RunsTyped names here Anything again
      → RunsTyped names here Anything (turn body again)
  typed_turn body again k l =
      typed_then names here (typed_take_unit names here) (record { from = λ s h. typed_after_turn (body s) again (k.from s h) l })

  typed_while_turns : {P : ℤ → Type 0} (n : ℕ) (condition : Action ℤ) (body : Action ⊤) → RunsTyped names here P condition
      → RunsTyped names (in_a_loop here) Anything body → RunsTyped names here Anything (while_turns n condition body)
  typed_while_turns zero condition body k l =
      typed_bind names here k (λ holds p. typed_when (is_true holds) (stop budget) (typed_stop names here budget tt))
  typed_while_turns (suc n) condition body k l =
      typed_bind names here k
      (λ holds p. typed_when (is_true holds) (turn body (while_turns n condition body))
      (typed_turn body (while_turns n condition body) l (typed_while_turns n condition body k l)))

  pub typed_while : {P : ℤ → Type 0} (condition : Action ℤ) (body : Action ⊤) → RunsTyped names here P condition
      → RunsTyped names (in_a_loop here) Anything body → RunsTyped names here Anything (while_loop condition body)
  typed_while condition body k l =
      record { from = λ s h. (typed_while_turns s.units condition body k l).from s h }

  -- the turns of a `for`, where each number is of the type of the name
  pub typed_for_turns : (n : ℕ) (x : Bytes) (t : ValueType) (from : ℤ) (body : Action ⊤) → look_up names x ≡ Some t
      → AreInReach t from n → RunsTyped names (in_a_loop here) Anything body
      → RunsTyped names here Anything (for_turns n x from body)
  typed_for_turns zero x t from body found r k = typed_skip names here
  typed_for_turns (suc n) x t from body found r k =
      typed_turn _ _
      (typed_then names (in_a_loop here) (typed_write names (in_a_loop here) x t (W.Int from) found (first_of t from n r)) k)
      (typed_for_turns n x t (from +ℤ pos 1) body found (rest_of t from n r) k)

  -- a recording that is saved, or not for want of a unit
  typed_save : (n : ℕ) (q : Request) (before s : State) → HaveValues names s.values
      → EndsTyped names here Anything (save_after q before (take_unit_of n s))
  typed_save zero q before s h = (tt, h)
  typed_save (suc n) q before s h =
      let left = leave_recording before (record s { units = n }) in
      typed_go_on names here Anything (ask q left) (λ reply. skip) ((typed_ask names here q).from left h) (λ reply p. typed_skip names here)

  typed_end_recording : (name : Bytes) (before : State) (c : Completion ⊤) → EndsTyped names here Anything c
      → EndsTyped names here Anything (end_recording name before c)
  typed_end_recording name before (normal a s) r = typed_save s.units (save_request name s) before s r.1
  typed_end_recording name before (early reason s) r = r

  -- a record block
  pub typed_recorded : (name : Bytes) (body : Action ⊤) → RunsTyped names here Anything body
      → RunsTyped names here Anything (recorded name body)
  typed_recorded name body k =
      record {
        from = λ s h.
            let begun = record s { cursor = pos 0; collected = Some [] } in
            typed_end_recording name s (body begun) (k.from begun h);
      }

  -- a body and its handlers
  typed_after_try : (c : Completion ⊤) (handle : Exc → Action ⊤) → EndsTyped names here Anything c
      → ((x : Exc) → RunsTyped names here Anything (handle x)) → EndsTyped names here Anything (after_try c handle)
  typed_after_try (normal a s) handle r k = r
  typed_after_try (early (raised x) s) handle r k = (k x).from s r.1
  typed_after_try (early continue s) handle r k = r
  typed_after_try (early break s) handle r k = r
  typed_after_try (early (return v) s) handle r k = r
  typed_after_try (early budget s) handle r k = r
  typed_after_try (early unanswered s) handle r k = r

  pub typed_attempt : (body : Action ⊤) (handle : Exc → Action ⊤) → RunsTyped names here Anything body
      → ((x : Exc) → RunsTyped names here Anything (handle x)) → RunsTyped names here Anything (attempt body handle)
  typed_attempt body handle k l =
      record { from = λ s h. typed_after_try (body s) handle (k.from s h) l }
