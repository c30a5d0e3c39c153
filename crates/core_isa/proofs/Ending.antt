-- Every run of marked code comes to an end, and to one only.
use Rattle.std.proofs.Common.{◌≡◌, ℕ, suc, zero, ◌<◌, ◌≤◌, inl, inr, length, Option, Some, None, refl, sym, ◌∙◌, ap, subst, arith}
use Rattle.std.specs.Prelude.{slice_get}
use Rattle.std.proofs.lemmas.Option.{slice_get_within}
use Rattle.core_isa.specs.declared.code.Code.{Code}
use Rattle.core_isa.specs.declared.code.CodeLine.{CodeLine}
use Rattle.core_isa.specs.Machine.{Machine, Next, goes, ends, stuck}
use Rattle.core_isa.specs.Marks.{takes_unit_first, MarksFollow, IsRightPlace, Marked, HasOrder}
use Rattle.core_isa.specs.Falling.{first_number, second_number, Falls, StepsFall, RunsEnd, HasOneRun}
use Rattle.core_isa.specs.Runs.{Ran, Gives, counted, step_by, step, go_on, steps, boot}
use Rattle.core_isa.specs.Sound.{IsSound, StaysSound}
use Rattle.core_isa.proofs.Decided.{found_one}
use Rattle.core_isa.proofs.Frames.{boot_sound}
use Rattle.core_isa.proofs.Nearer.{act_nearer}
use Rattle.core_isa.proofs.Safe.{step_sound}
use Rattle.core_isa.proofs.Weights.{IsNearer}

-- a step brings the run nearer to its end
pub step_nearer : (code : Code) → Marked code → (m : Machine) → IsNearer code m (step code m)
step_nearer code marked m = by_line (slice_get code.lines m.top.place) refl
  where
    by_line : (o : Option CodeLine) → slice_get code.lines m.top.place ≡ o → IsNearer code m (step_by code o m)
    by_line None gone = tt
    by_line (Some line) found =
        let within : m.top.place < length code.lines = slice_get_within code.lines m.top.place line found in
        let here : IsRightPlace code m.top.place = marked m.top.place within in
        let same : here.line ≡ line = found_one (sym here.at_place ∙ found) in
        act_nearer
        code
        (counted m)
        within
        here.function
        line.mark
        line.instr
        (ap takes_unit_first found)
        (subst (λ l. MarksFollow code here.function m.top.place l.mark l.instr) same here.right.follow)

pub steps_fall : (code : Code) → Marked code → StepsFall code
steps_fall code marked before now goes_to = subst (IsNearer code before) goes_to (step_nearer code marked before)

-- an end
abbrev IsEnd : Next → Type 0
IsEnd (goes m) = ⊥
IsEnd (ends outcome m) = Unit {0}
IsEnd stuck = ⊥

-- so many steps come to one
record Ends (code : Code) (m : Machine) : Type 0 where
  bound : ℕ
  ended : IsEnd (steps code bound m)

-- a state ends where each nearer one does
ends_after : (code : Code) (m : Machine) (next : Next) → step code m ≡ next → StaysSound code next → IsNearer code m next
    → ((now : Machine) → IsSound code now → Falls code m now → Ends code now)
    → Ends code m
ends_after code m (goes now) is sound nearer on =
    let further : Ends code now = on now sound nearer in
    record {
      bound = suc further.bound;
      ended = subst (λ next. IsEnd (go_on next (steps code further.bound))) (sym is) further.ended;
    }
ends_after code m (ends outcome now) is sound nearer on =
    record { bound = 1; ended = subst (λ next. IsEnd (go_on next (steps code 0))) (sym is) tt }
ends_after code m stuck is sound nearer on = absurd sound

module _ (code : Code) (order : HasOrder code) (marked : Marked code) where
  -- the second number falls while the first stays
  ends_by_second : (a : ℕ)
      → ((m : Machine) → IsSound code m → first_number code m < a → Ends code m)
      → (b : ℕ) (m : Machine) → IsSound code m → first_number code m ≤ a → second_number code m < b → Ends code m
  ends_by_second a smaller zero m sound first second = absurd (omega arith)
  ends_by_second a smaller (suc b) m sound first second =
      ends_after
      code
      m
      (step code m)
      refl
      (step_sound code order marked m sound)
      (step_nearer code marked m)
      (λ now sound' falls.
      elim falls [
        | inl lower ↦ smaller now sound' (omega arith)
        | inr lighter ↦ ends_by_second a smaller b now sound' (let same : first_number code now ≡ first_number code m = lighter.0 in omega arith) (let less : second_number code now < second_number code m = lighter.1 in omega arith)
      ])

  ends_by_first : (a : ℕ) (m : Machine) → IsSound code m → first_number code m < a → Ends code m
  ends_by_first zero m sound first = absurd (omega arith)
  ends_by_first (suc a) m sound first =
      ends_by_second
      a
      (λ m' sound' first'. ends_by_first a m' sound' first')
      (suc (second_number code m))
      m
      sound
      (omega arith)
      (omega arith)

-- what an end gives
given_at : (next : Next) → IsEnd next → (ran : Ran) × Gives next ran
given_at (goes m) ended = absurd ended
given_at (ends outcome m) ended =
    (record { requests = m.asked; outcome = outcome; cursor = m.cursor; units = m.units; count = m.steps }, refl)
given_at stuck ended = absurd ended

pub runs_end : (code : Code) → HasOrder code → Marked code → RunsEnd code
runs_end code order marked function f found args fit cursor units replies =
    let begin : Machine = boot f args cursor units replies in
    let all : Ends code (boot f args cursor units replies) =
    ends_by_first
    code
    order
    marked
    (suc (first_number code (boot f args cursor units replies)))
    (boot f args cursor units replies)
    (boot_sound code order marked function f found args fit cursor units replies)
    (omega arith)
    in
    let given = given_at (steps code all.bound (boot f args cursor units replies)) all.ended in
    (given.0, record { entry = f; found = found; bound = all.bound; gives = given.1 })

-- further steps give the same
same_again : (code : Code) (next : Next) (j k : ℕ) (a b : Ran)
    → ((m : Machine) → Gives (steps code j m) a → Gives (steps code k m) b → a ≡ b)
    → Gives (go_on next (steps code j)) a
    → Gives (go_on next (steps code k)) b
    → a ≡ b
same_again code (goes m) j k a b on one other = on m one other
same_again code (ends outcome m) j k a b on one other = one ∙ sym other
same_again code stuck j k a b on one other = absurd one

same_gives : (code : Code) (j k : ℕ) (m : Machine) (a b : Ran) → Gives (steps code j m) a → Gives (steps code k m) b → a ≡ b
same_gives code zero k m a b one other = absurd one
same_gives code (suc j) zero m a b one other = absurd other
same_gives code (suc j) (suc k) m a b one other =
    same_again code (step code m) j k a b (λ now one' other'. same_gives code j k now a b one' other') one other

pub has_one_run : (code : Code) → HasOneRun code
has_one_run code function args cursor units replies a b one other =
    same_gives
    code
    one.bound
    other.bound
    (boot one.entry args cursor units replies)
    a
    b
    one.gives
    (subst
    (λ f. Gives (steps code other.bound (boot f args cursor units replies)) b)
    (found_one (sym other.found ∙ one.found))
    other.gives)
