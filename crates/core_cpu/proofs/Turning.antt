-- Courses put together.
use Rattle.std.proofs.Common.{◌≡◌, ◌∷◌, List, Option, Some, refl, sym, ◌∙◌, ap, subst, None, false}
use Rattle.std.specs.Prelude.{ℤ, is_some}
use Rattle.std.proofs.lemmas.Bool.{false≢true}
use Rattle.rtio_types.specs.declared.request.Reply.{Reply}
use Rattle.rtio_types.specs.declared.request.Request.{Request}
use Rattle.core_isa.specs.Machine.{Machine, Next, with_operands}
use Rattle.core_isa.specs.Steps.{on_one}
use Rattle.core_cpu.specs.Courses.{WaitsAt, TurnsTo}
use Rattle.core_cpu.specs.Layout.{Held}
use Rattle.core_cpu.specs.Moments.{with_history}
use Rattle.core_cpu.specs.declared.course.Course.{Course}
use Rattle.core_cpu.specs.declared.course.Course.TheVariants.{Silent}
use Rattle.core_cpu.specs.declared.course.Way.TheVariants.{Goes}

-- something is done first that leaves the place and the width
pub first_then : (does further : Machine → Next) (old now new : Held) (course : Course)
    → ((more : List Reply) (before : List Request) → does (with_history old.machine more before) ≡ further (with_history now.machine more before))
    → now.machine.top.place ≡ old.machine.top.place
    → now.width ≡ old.width
    → TurnsTo further now course new
    → TurnsTo does old course new
first_then does further old now new course is place width turns =
    record {
      leads = λ more before. is more before ∙ turns.leads more before;
      waits = subst (λ p. WaitsAt course p new.machine) place turns.waits;
      width = turns.width ∙ width;
    }

-- an operand is taken first
pub one_popped : (does : Machine → Next) (go : ℤ → Machine → Next) (old now new : Held) (v w : ℤ) (course : Course)
    → ((more : List Reply) (before : List Request) → does (with_history old.machine more before) ≡ on_one (with_history old.machine more before) go)
    → old ≡ record now { machine = with_operands now.machine (v ∷ now.machine.top.operands) }
    → w ≡ v
    → TurnsTo (go w) now course new
    → TurnsTo does old course new
one_popped does go old now new v w course is popped same turns =
    first_then
    does
    (go w)
    old
    now
    new
    course
    (λ more before.
    is more before
    ∙ ap (λ held. on_one (with_history held.machine more before) go) popped
    ∙ ap (λ x. go x (with_history now.machine more before)) (sym same))
    (sym (ap (λ held. held.machine.top.place) popped))
    (sym (ap (λ held. held.width) popped))
    turns

-- the machine changes first
pub changed_then : (does further : Machine → Next) (old now changed new : Held) (course : Course)
    → now ≡ changed
    → ((more : List Reply) (before : List Request) → does (with_history old.machine more before) ≡ further (with_history changed.machine more before))
    → changed.machine.top.place ≡ old.machine.top.place
    → changed.width ≡ old.width
    → TurnsTo further now course new
    → TurnsTo does old course new
changed_then does further old now changed new course is leads place width turns =
    first_then
    does
    further
    old
    changed
    new
    course
    leads
    place
    width
    (subst (λ held. TurnsTo further held course new) is turns)

-- the machine comes to another frame first, and goes on
pub goes_then : (does further : Machine → Next) (old now new : Held) (course : Course)
    → ((more : List Reply) (before : List Request) → does (with_history old.machine more before) ≡ further (with_history now.machine more before))
    → now.width ≡ old.width
    → course ≡ Silent Goes
    → TurnsTo further now course new
    → TurnsTo does old course new
goes_then does further old now new course is width goes turns =
    record {
      leads = λ more before. is more before ∙ turns.leads more before;
      waits = subst (λ x. WaitsAt x old.machine.top.place new.machine) (sym goes) tt;
      width = turns.width ∙ width;
    }

-- what isn't there
pub nothing_there : {A : Type 0} (o : Option A) → is_some o ≡ false → o ≡ None
nothing_there None gone = refl
nothing_there (Some a) there = absurd (false≢true (sym there))

-- two operands are taken first
pub two_popped : (does further : Machine → Next) (old one now new : Held) (a b : ℤ) (course : Course)
    → old ≡ record one { machine = with_operands one.machine (b ∷ one.machine.top.operands) }
    → one ≡ record now { machine = with_operands now.machine (a ∷ now.machine.top.operands) }
    → ((m : Machine) (rest : List ℤ) → does (with_operands m (b ∷ a ∷ rest)) ≡ further (with_operands m rest))
    → TurnsTo further now course new
    → TurnsTo does old course new
two_popped does further old one now new a b course first second is turns =
    let both : old ≡ record now { machine = with_operands now.machine (b ∷ a ∷ now.machine.top.operands) } =
    first ∙ ap (λ (held : Held). record held { machine = with_operands held.machine (b ∷ held.machine.top.operands) }) second
    in
    first_then
    does
    further
    old
    now
    new
    course
    (λ more before.
    ap (λ held. does (with_history held.machine more before)) both
    ∙ is (with_history now.machine more before) now.machine.top.operands)
    (sym (ap (λ (held : Held). held.machine.top.place) both))
    (sym (ap (λ (held : Held). held.width) both))
    turns
