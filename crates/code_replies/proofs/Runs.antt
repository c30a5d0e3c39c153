-- A run under more replies goes on from one under fewer.
use Rattle.std.proofs.Common.{◌≡◌, ℕ, suc, zero, ◌⊎◌, inl, inr, List, [], ◌++◌, Option, Some, None, sym, ap, ◌∙◌, subst, append-nil}
use Rattle.std.specs.Prelude.{slice_get}
use Rattle.rtio_types.specs.declared.request.Request.{Request}
use Rattle.rtio_types.specs.declared.request.Reply.{Reply}
use Rattle.core_isa.specs.declared.code.Code.{Code}
use Rattle.core_isa.specs.declared.code.CodeLine.{CodeLine}
use Rattle.core_isa.specs.Machine.{Machine, MachineEnd, Next, goes, ends, stuck, unanswered}
use Rattle.core_isa.specs.Runs.{Ran, Gives, counted, step_by, step, go_on, steps, boot}
use Rattle.core_isa.proofs.Decided.{found_one}
use Rattle.code_replies.specs.Laws.{GoesOn, RepliesExtendRuns}
use Rattle.code_replies.proofs.Extends.{more, Extends, act_both}
use Rattle.code_replies.proofs.Grows.{go_on_keeps, steps_keeps}
use Rattle.code_replies.proofs.Kept.{StaysKept}

module _ (rest : List Reply) (code : Code) where
  step_both : (m : Machine) → Extends rest (step code m) (step code (more rest m))
  step_both m = by_line (slice_get code.lines m.top.place)
    where
      by_line : (o : Option CodeLine) → Extends rest (step_by code o m) (step_by code o (more rest m))
      by_line None = tt
      by_line (Some line) = act_both rest code line.instr (counted m)

  -- an end that keeps some requests
  kept_end : (first : List Request) (next : Next) (b : Ran) → StaysKept first next → Gives next b → (own : List Request) × (b.requests ≡ first ++ own)
  kept_end first (goes m) b k gives = absurd gives
  kept_end first (ends outcome m) b k gives = (k.own, ap (λ (r : Ran). r.requests) gives ∙ k.is)
  kept_end first stuck b k gives = absurd gives

  ended_on : (outcome : MachineEnd) (m : Machine) (n' : Next) (k : ℕ) (a b : Ran)
      → (n' ≡ ends outcome (more rest m)) ⊎ ((outcome ≡ unanswered) × StaysKept m.asked n')
      → Gives (ends outcome m) a
      → Gives (go_on n' (steps code k)) b
      → GoesOn a b
  ended_on outcome m n' k a b (inl same) one other =
      let other' = subst (λ n. Gives (go_on n (steps code k)) b) same other in
      let is : b ≡ a = other' ∙ sym one in
      record { ended = λ e. is; asked = ([], ap (λ (r : Ran). r.requests) is ∙ sym (append-nil a.requests)) }
  ended_on outcome m n' k a b (inr lacks) one other =
      let kept = kept_end m.asked (go_on n' (steps code k)) b (go_on_keeps m.asked code n' (steps code k) lacks.1 (λ now later. steps_keeps m.asked code k now later)) other in
      let asked : a.requests ≡ m.asked = ap (λ (r : Ran). r.requests) one in
      let how : a.outcome ≡ unanswered = ap (λ (r : Ran). r.outcome) one ∙ lacks.0 in
      record { ended = λ e. absurd (e how); asked = (kept.0, kept.1 ∙ ap (λ l. l ++ kept.0) (sym asked)) }

  go_on_both : (n n' : Next) (j k : ℕ) (a b : Ran) → Extends rest n n' → ((m : Machine) → Gives (steps code j m) a → Gives (steps code k (more rest m)) b → GoesOn a b) → Gives (go_on n (steps code j)) a → Gives (go_on n' (steps code k)) b → GoesOn a b
  go_on_both (goes m) n' j k a b e on one other = on m one (subst (λ x. Gives (go_on x (steps code k)) b) e other)
  go_on_both (ends outcome m) n' j k a b e on one other = ended_on outcome m n' k a b e one other
  go_on_both stuck n' j k a b e on one other = absurd one

  both_end : (j k : ℕ) (m : Machine) (a b : Ran) → Gives (steps code j m) a → Gives (steps code k (more rest m)) b → GoesOn a b
  both_end zero k m a b one other = absurd one
  both_end (suc j) zero m a b one other = absurd other
  both_end (suc j) (suc k) m a b one other =
      go_on_both (step code m) (step code (more rest m)) j k a b (step_both m) (λ now one' other'. both_end j k now a b one' other') one other

pub replies_extend_runs : (code : Code) → RepliesExtendRuns code
replies_extend_runs code function args cursor units replies rest a b one other =
    both_end
    rest
    code
    one.bound
    other.bound
    (boot one.entry args cursor units replies)
    a
    b
    one.gives
    (subst (λ f. Gives (steps code other.bound (boot f args cursor units (replies ++ rest))) b) (found_one (sym other.found ∙ one.found)) other.gives)
