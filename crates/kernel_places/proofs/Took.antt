-- The instruction that took the last reply of a run.
use Rattle.std.proofs.Common.{◌≡◌, ℕ, suc, ◌+◌, ◌-◌, ◌<◌, ◌≤◌, [], ◌∷◌, ◌++◌, length, sym, ap, ◌∙◌, subst, arith, length-append}
use Rattle.std.specs.Prelude.{◌^◌}
use Rattle.std.proofs.Math.Nat.{min-le_right}
use Rattle.rtio_types.specs.declared.request.Reply.{Reply}
use Rattle.core_isa.specs.declared.code.Code.{Code}
use Rattle.core_isa.specs.Machine.{Machine, Next, goes, ends, stuck, unanswered}
use Rattle.core_isa.specs.Runs.{counted, steps}
use Rattle.core_cpu.specs.Roots.{root_of, root_place}
use Rattle.code_replies.proofs.Extends.{more}
use Rattle.kernel_places.specs.declared.place.Place.{Place}
use Rattle.kernel_places.proofs.Acts.{step_leaves}
use Rattle.kernel_places.proofs.Leaving.{Keeps, Leaves}
use Rattle.kernel_places.proofs.Stepping.{AtLeast, Counted, EndsBy, comes_with_more, counts_on, ends_by, goes_further, steps_rise_further}

-- the run came before it with a reply left, and no instruction between it and one that has so many before it was begun
pub record Took (code : Code) (first : Machine) (place : Place) (count : ℕ) : Type 0 where
  pub before : ℕ
  pub machine : Machine
  pub comes : steps code before first ≡ goes machine
  pub at : machine.top.place ≡ place.at
  pub under : root_place machine ≡ place.root
  pub left : 1 ≤ length machine.replies
  pub between : (k : ℕ) (later : Machine) → before < k → k < count → steps code k first ≡ goes later → ⊥

-- two machines with the same callers run under the same call
same_root : (one other : Machine) → one.callers ≡ other.callers → root_place one ≡ root_place other
same_root one other callers = ap root_of callers

at_most : (low high : ℕ) (next : Next) → AtLeast low next → Counted high next → low ≤ high
at_most low high (goes m) at same = let same' : m.steps ≡ high = same in let at' : low ≤ m.steps = at in omega arith
at_most low high (ends how m) at same = let same' : m.steps ≡ high = same in let at' : low ≤ m.steps = at in omega arith
at_most low high stuck at same = absurd same

-- where an instruction has been counted, none is begun behind it without being counted too
too_many : (code : Code) (first before later : Machine) (n i k count : ℕ)
    → i < k
    → k < count
    → steps code i first ≡ goes before
    → (counted before).steps ≡ n
    → steps code k first ≡ goes later
    → Counted n (steps code count first)
    → n < 2 ^ 64 - 1
    → ⊥
too_many code first before later n i k count behind less comes same is counts few =
    let one : k - i ≡ suc (k - i - 1) = omega (arith, behind) in
    let to : goes later ≡ steps code (suc (k - i - 1)) before =
    sym is ∙ goes_further code i k first before (omega (arith, behind)) comes ∙ ap (λ (j : ℕ). steps code j before) one
    in
    let here : (counted before).steps ≤ later.steps =
    subst (λ (x : Next). AtLeast (counted before).steps x) (sym to) (steps_rise_further code (k - i - 1) before)
    in
    let other : count - k ≡ suc (count - k - 1) = omega (arith, less) in
    let on : steps code count first ≡ steps code (suc (count - k - 1)) later =
    goes_further code k count first later (omega (arith, less)) is ∙ ap (λ (j : ℕ). steps code j later) other
    in
    let there : AtLeast (counted later).steps (steps code count first) =
    subst (λ (x : Next). AtLeast (counted later).steps x) (sym on) (steps_rise_further code (count - k - 1) later)
    in
    let none : (counted later).steps ≤ n = at_most (counted later).steps n (steps code count first) there counts in
    let some : n + 1 ≤ (counted later).steps = counts_on later (n + 1) (let at : n ≤ later.steps = subst (λ (x : ℕ). x ≤ later.steps) same here in omega arith) (omega (arith, few)) in
    omega (arith, none, some)

module _ (code : Code) (fewer : Machine) (reply : Reply) (place : Place) (bound count : ℕ) (last : Machine) where
  abbrev first : Machine
  first = more (reply ∷ []) fewer

  -- without the reply the run stands there, and with it the count of instructions is still the same
  pub took : steps code bound fewer ≡ ends unanswered last
      → last.top.place ≡ place.at
      → root_place last ≡ place.root
      → Counted last.steps (steps code count first)
      → last.steps < 2 ^ 64 - 1
      → Took code first place count
  took asks at under counts few =
      record {
        before = by.count;
        machine = more (reply ∷ []) by.before;
        comes = comes;
        at = sym keeps.0 ∙ at;
        under = sym (same_root last by.before keeps.1) ∙ under;
        left = (let long : length (by.before.replies ++ reply ∷ []) ≡ length by.before.replies + 1 = length-append by.before.replies (reply ∷ []) in omega arith);
        between = between;
      }
    where
      by : EndsBy code fewer unanswered last
      by = ends_by code bound fewer unanswered last asks

      keeps : Keeps (counted by.before) last
      keeps = subst (λ (x : Next). Leaves (counted by.before) x) by.ends_so (step_leaves code by.before)

      comes : steps code by.count first ≡ goes (more (reply ∷ []) by.before)
      comes = comes_with_more (reply ∷ []) code by.count fewer by.before by.comes

      between : (k : ℕ) (later : Machine) → by.count < k → k < count → steps code k first ≡ goes later → ⊥
      between k later behind before is =
          too_many code first (more (reply ∷ []) by.before) later last.steps by.count k count behind before comes (sym keeps.2) is counts few

-- the count of instructions is at most the greatest
pub ends_counted : (code : Code) (bound : ℕ) (fewer last : Machine) → steps code bound fewer ≡ ends unanswered last → last.steps ≤ 2 ^ 64 - 1
ends_counted code bound fewer last is =
    let by : EndsBy code fewer unanswered last = ends_by code bound fewer unanswered last is in
    let keeps : Keeps (counted by.before) last = subst (λ (x : Next). Leaves (counted by.before) x) by.ends_so (step_leaves code by.before) in
    subst (λ (n : ℕ). n ≤ 2 ^ 64 - 1) (sym keeps.2) (min-le_right (by.before.steps + 1) (2 ^ 64 - 1))
