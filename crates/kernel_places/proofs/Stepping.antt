-- Runs step by step: how one ends, how it goes on under more replies, and how its instructions count.
use Rattle.std.proofs.Common.{◌≡◌, ℕ, suc, zero, ◌+◌, ◌-◌, ◌<◌, ◌≤◌, ◌⊎◌, inl, inr, List, length, Option, Some, None, refl, sym, ap, ◌∙◌, subst, arith}
use Rattle.std.specs.Prelude.{◌^◌, slice_get}
use Rattle.std.proofs.Math.Nat.{le-min, min-le_right}
use Rattle.std.proofs.lemmas.Bool.{cases_lt}
use Rattle.rtio_types.specs.declared.request.Reply.{Reply}
use Rattle.core_isa.specs.declared.code.Code.{Code}
use Rattle.core_isa.specs.declared.code.CodeLine.{CodeLine}
use Rattle.core_isa.specs.Machine.{Machine, MachineEnd, Next, goes, ends, stuck, returned, raised, budget, unanswered}
use Rattle.core_isa.specs.Runs.{Ran, Gives, counted, step_by, step, go_on, steps}
use Rattle.code_replies.proofs.Extends.{more, Extends, act_both}
use Rattle.code_replies.proofs.Together.{together}
use Rattle.kernel_places.proofs.Acts.{step_leaves}
use Rattle.kernel_places.proofs.Leaving.{Leaves}

-- where the last instruction of a run stood
pub record EndsBy (code : Code) (first : Machine) (how : MachineEnd) (last : Machine) : Type 0 where
  pub count : ℕ
  pub before : Machine
  pub comes : steps code count first ≡ goes before
  pub ends_so : step code before ≡ ends how last

pub ends_by : (code : Code) (n : ℕ) (first : Machine) (how : MachineEnd) (last : Machine) → steps code n first ≡ ends how last → EndsBy code first how last
ends_by code zero first how last is = absurd (let both : goes first ≡ ends how last = is in cc)
ends_by code (suc n) first how last is =
    by_next (step code first) refl is (λ now later. ends_by code n now how last later)
  where
    by_next : (next : Next) → step code first ≡ next → go_on next (steps code n) ≡ ends how last → ((now : Machine) → steps code n now ≡ ends how last → EndsBy code now how last) → EndsBy code first how last
    by_next (goes now) here is on =
        let rest : EndsBy code now how last = on now is in
        record {
          count = suc rest.count;
          before = rest.before;
          comes = ap (λ (x : Next). go_on x (steps code rest.count)) here ∙ rest.comes;
          ends_so = rest.ends_so;
        }
    by_next (ends how' now) here is on = record { count = 0; before = first; comes = refl; ends_so = here ∙ is }
    by_next stuck here is on = absurd (let both : stuck ≡ ends how last = is in cc)

-- a step under more replies
step_both : (rest : List Reply) (code : Code) (m : Machine) → Extends rest (step code m) (step code (more rest m))
step_both rest code m = by_line (slice_get code.lines m.top.place)
  where
    by_line : (o : Option CodeLine) → Extends rest (step_by code o m) (step_by code o (more rest m))
    by_line None = tt
    by_line (Some line) = act_both rest code line.instr (counted m)

-- a run comes to the same under more replies
pub comes_with_more : (rest : List Reply) (code : Code) (n : ℕ) (first now : Machine) → steps code n first ≡ goes now → steps code n (more rest first) ≡ goes (more rest now)
comes_with_more rest code zero first now is =
    let same : first ≡ now = (let both : goes first ≡ goes now = is in cc) in
    ap (λ (m : Machine). goes (more rest m)) same
comes_with_more rest code (suc n) first now is =
    by_next (step code first) (step_both rest code first) is (λ m here. comes_with_more rest code n m now here)
  where
    by_next : (next : Next) → Extends rest next (step code (more rest first)) → go_on next (steps code n) ≡ goes now
        → ((m : Machine) → steps code n m ≡ goes now → steps code n (more rest m) ≡ goes (more rest now))
        → go_on (step code (more rest first)) (steps code n) ≡ goes (more rest now)
    by_next (goes m) extends is on = ap (λ (x : Next). go_on x (steps code n)) extends ∙ on m is
    by_next (ends how m) extends is on = absurd (let both : ends how m ≡ goes now = is in cc)
    by_next stuck extends is on = absurd (let both : stuck ≡ goes now = is in cc)

-- ---- the count

-- at least so many instructions have begun
abbrev pub AtLeast : ℕ → Next → Type 0
AtLeast low (goes m) = low ≤ m.steps
AtLeast low (ends how m) = low ≤ m.steps
AtLeast low stuck = Unit {0}

-- just so many have
abbrev pub Counted : ℕ → Next → Type 0
Counted n (goes m) = m.steps ≡ n
Counted n (ends how m) = m.steps ≡ n
Counted n stuck = ⊥

abbrev greatest : ℕ
greatest = 2 ^ 64 - 1

step_rises : (code : Code) (m : Machine) → AtLeast (counted m).steps (step code m)
step_rises code m = by_next (step code m) (step_leaves code m)
  where
    by_next : (next : Next) → Leaves (counted m) next → AtLeast (counted m).steps next
    by_next (goes now) so = let same : now.steps ≡ (counted m).steps = so.0 in omega arith
    by_next (ends returned now) so = let same : now.steps ≡ (counted m).steps = so in omega arith
    by_next (ends (raised x) now) so = let same : now.steps ≡ (counted m).steps = so in omega arith
    by_next (ends budget now) so = let same : now.steps ≡ (counted m).steps = so in omega arith
    by_next (ends unanswered now) so = let same : now.steps ≡ (counted m).steps = so.2 in omega arith
    by_next stuck so = tt

lower : (low high : ℕ) (next : Next) → low ≤ high → AtLeast high next → AtLeast low next
lower low high (goes m) less at = omega (arith, less, at)
lower low high (ends how m) less at = omega (arith, less, at)
lower low high stuck less at = tt

pub counts_on : (m : Machine) (low : ℕ) → low ≤ m.steps + 1 → low ≤ greatest → low ≤ (counted m).steps
counts_on m low some few = le-min some few

go_on_rises : (code : Code) (low n : ℕ) (next : Next) → AtLeast low next → ((m : Machine) → low ≤ m.steps → AtLeast low (steps code n m)) → AtLeast low (go_on next (steps code n))
go_on_rises code low n (goes m) at on = on m at
go_on_rises code low n (ends how m) at on = at
go_on_rises code low n stuck at on = tt

pub steps_rise : (code : Code) (low n : ℕ) (m : Machine) → low ≤ m.steps → low ≤ greatest → AtLeast low (steps code n m)
steps_rise code low zero m at few = at
steps_rise code low (suc n) m at few =
    go_on_rises code low n (step code m)
    (lower low (counted m).steps (step code m) (counts_on m low (omega (arith, at)) few) (step_rises code m))
    (λ now at'. steps_rise code low n now at' few)

-- behind a step
pub steps_rise_further : (code : Code) (n : ℕ) (m : Machine) → AtLeast (counted m).steps (steps code (suc n) m)
steps_rise_further code n m =
    go_on_rises code (counted m).steps n (step code m) (step_rises code m)
    (λ now at. steps_rise code (counted m).steps n now at (min-le_right (m.steps + 1) greatest))

-- ---- the replies left

pub replies_fall : (code : Code) (n : ℕ) (first now : Machine) → steps code n first ≡ goes now → length now.replies ≤ length first.replies
replies_fall code zero first now is =
    let same : first ≡ now = (let both : goes first ≡ goes now = is in cc) in
    let long : length first.replies ≡ length now.replies = ap (λ (m : Machine). length m.replies) same in
    omega arith
replies_fall code (suc n) first now is =
    by_next (step code first) (step_leaves code first) is (λ m here. replies_fall code n m now here)
  where
    by_next : (next : Next) → Leaves (counted first) next → go_on next (steps code n) ≡ goes now
        → ((m : Machine) → steps code n m ≡ goes now → length now.replies ≤ length m.replies)
        → length now.replies ≤ length first.replies
    by_next (goes m) so is on =
        let here : length m.replies ≤ length first.replies = so.1 in
        let there : length now.replies ≤ length m.replies = on m is in
        omega arith
    by_next (ends how m) so is on = absurd (let both : ends how m ≡ goes now = is in cc)
    by_next stuck so is on = absurd (let both : stuck ≡ goes now = is in cc)

-- ---- one behind another

pub goes_further : (code : Code) (n k : ℕ) (first now : Machine) → n ≤ k → steps code n first ≡ goes now → steps code k first ≡ steps code (k - n) now
goes_further code n k first now less is =
    let split : n + (k - n) ≡ k = omega arith in
    ap (λ (i : ℕ). steps code i first) (sym split)
    ∙ together code n (k - n) first
    ∙ ap (λ (x : Next). go_on x (steps code (k - n))) is

pub ends_there : (code : Code) (n k : ℕ) (first last : Machine) (how : MachineEnd) → n ≤ k → steps code n first ≡ ends how last → steps code k first ≡ ends how last
ends_there code n k first last how less is =
    let split : n + (k - n) ≡ k = omega arith in
    ap (λ (i : ℕ). steps code i first) (sym split)
    ∙ together code n (k - n) first
    ∙ ap (λ (x : Next). go_on x (steps code (k - n))) is

-- one step more
stops : (next : Next) → go_on next (λ m. goes m) ≡ next
stops (goes m) = refl
stops (ends how m) = refl
stops stuck = refl

pub one_step : (code : Code) (n : ℕ) (first now : Machine) → steps code n first ≡ goes now → steps code (n + 1) first ≡ step code now
one_step code n first now is = together code n 1 first ∙ ap (λ (x : Next). go_on x (steps code 1)) is ∙ stops (step code now)

-- ---- a whole run

counted_at_least : (n : ℕ) (next : Next) → Counted n next → AtLeast n next
counted_at_least n (goes m) at = let same : m.steps ≡ n = at in omega arith
counted_at_least n (ends how m) at = let same : m.steps ≡ n = at in omega arith
counted_at_least n stuck at = absurd at

given_by : (low : ℕ) (next : Next) (ran : Ran) → AtLeast low next → Gives next ran → low ≤ ran.count
given_by low (goes m) ran at gives = absurd gives
given_by low (ends how m) ran at gives =
    let same : ran.count ≡ m.steps = ap (λ (r : Ran). r.count) gives in
    let here : low ≤ m.steps = at in
    omega arith
given_by low stuck ran at gives = absurd gives

-- a run's instructions are at least those behind any of its moments
pub run_counts : (code : Code) (low count bound : ℕ) (first : Machine) (ran : Ran)
    → low ≤ greatest
    → Counted low (steps code count first)
    → Gives (steps code bound first) ran
    → low ≤ ran.count
run_counts code low count bound first ran few at gives = by_order (cases_lt bound count)
  where
    -- the run was over before
    over : (next : Next) → steps code bound first ≡ next → bound ≤ count → Gives next ran → low ≤ ran.count
    over (goes m) is less gives = absurd gives
    over (ends how m) is less gives =
        let same : steps code count first ≡ ends how m = ends_there code bound count first m how less is in
        given_by low (ends how m) ran (counted_at_least low (ends how m) (subst (λ (x : Next). Counted low x) same at)) gives
    over stuck is less gives = absurd gives

    further : count ≤ bound → low ≤ ran.count
    further less =
        let split : count + (bound - count) ≡ bound = omega arith in
        let is : steps code bound first ≡ go_on (steps code count first) (steps code (bound - count)) =
        ap (λ (i : ℕ). steps code i first) (sym split) ∙ together code count (bound - count) first
        in
        given_by low (steps code bound first) ran
        (subst (λ (x : Next). AtLeast low x) (sym is)
        (go_on_rises code low (bound - count) (steps code count first) (counted_at_least low (steps code count first) at) (λ m at'. steps_rise code low (bound - count) m at' few)))
        gives

    by_order : (bound < count) ⊎ (count ≤ bound) → low ≤ ran.count
    by_order (inl less) = over (steps code bound first) refl (omega (arith, less)) gives
    by_order (inr less) = further less
