-- Instructions in a row that ask nothing.
use Rattle.std.proofs.Common.{◌≡◌, ℕ, ◌<◌, ◌≤◌, List, None, Some, IsTrue, refl, sym, subst, subst₂, arith}
use Rattle.std.specs.Prelude.{slice_get}
use Rattle.rtio_types.specs.declared.request.Reply.{Reply}
use Rattle.rtio_types.specs.declared.request.Request.{Request}
use Rattle.core_isa.specs.Marks.{HasOrder}
use Rattle.core_isa.specs.Runs.{counted}
use Rattle.core_isa.specs.Steps.{act}
use Rattle.core_isa.specs.declared.code.Code.{Code}
use Rattle.core_isa.specs.declared.code.CodeLine.{CodeLine}
use Rattle.core_cpu.specs.Courses.{phase_after, TurnsTo}
use Rattle.core_cpu.specs.Hurrying.{Hurried}
use Rattle.core_cpu.specs.Layout.{Held, IsHeld}
use Rattle.core_cpu.specs.Moments.{is_ready}
use Rattle.core_cpu.specs.Nearness.{nearness}
use Rattle.core_cpu.specs.Settled.{moment_of, IsSettled}
use Rattle.core_cpu.specs.Standing.{Start, Stands}
use Rattle.core_cpu.specs.declared.course.Course.TheVariants.{Silent}
use Rattle.core_cpu.specs.declared.course.Way.{Way}
use Rattle.core_cpu.specs.declared.course.Way.TheVariants.{Goes}
use Rattle.core_cpu.specs.declared.phase.Phase.{Phase}
use Rattle.core_cpu.specs.declared.phase.Phase.TheVariants.{Ready}
use Rattle.core_cpu.proofs.Settling.{Stepped, stepped, stepped_settles, stepped_goes, stepped_nearer}
use Rattle.core_cpu.proofs.Stops.{ready_is, stands_stepped, nothing_asked}

-- none of them
pub hurried_first : (code : Code) (held : Held) → IsSettled code held Ready → Hurried code held Ready held
hurried_first code held settled =
    let same : nearness (moment_of code held Ready) ≤ nearness (moment_of code held Ready) = omega arith in
    record { settled = settled; stands = λ start asked replies stands. stands; nearer = same }

module _ (code : Code) (order : HasOrder code) (old now new : Held) (before : Hurried code old Ready now) (place : ℕ) (at : place ≡ now.machine.top.place) (line : CodeLine) (found : slice_get code.lines place ≡ Some line) (way : Way) (turns : TurnsTo (λ m. act code line.instr (counted m)) now (Silent way) new) (held : IsHeld new) where
  one_more : Stepped code now new (Silent way)
  one_more =
      stepped code code refl now Ready refl before.settled before.settled.in_range order before.settled.marked place at line new (Silent way) found turns

  closer : nearness (moment_of code new (phase_after way)) < nearness (moment_of code now Ready)
  closer = stepped_nearer code now new (Silent way) Ready (phase_after way) one_more held refl refl

  -- one more of them
  pub hurried_next : Hurried code old (phase_after way) new
  hurried_next =
      let less : nearness (moment_of code new (phase_after way)) < nearness (moment_of code now Ready) = closer in
      let near : nearness (moment_of code now Ready) ≤ nearness (moment_of code old Ready) = before.nearer in
      let both : nearness (moment_of code new (phase_after way)) ≤ nearness (moment_of code old Ready) = omega arith in
      record {
        settled = stepped_settles code now new (Silent way) (phase_after way) one_more refl;
        stands = λ start asked replies stands.
            nothing_asked
            start
            asked
            replies
            (moment_of code new (phase_after way))
            (stands_stepped
            start
            asked
            replies
            (moment_of code now Ready)
            (moment_of code new (phase_after way))
            None
            refl
            refl
            (stepped_goes code now new (Silent way) (phase_after way) one_more refl)
            (before.stands start asked replies stands));
        nearer = both;
      }

  -- each brings it nearer
  pub hurried_nearer : way ≡ Goes → nearness (moment_of code new Ready) < nearness (moment_of code now Ready)
  hurried_nearer goes = subst (λ w. nearness (moment_of code new (phase_after w)) < nearness (moment_of code now Ready)) goes closer

-- the same of a CPU that is ready, with the code that it lends
pub ready_settled : (k code : Code) → k ≡ code → (old : Held) (before : Phase) → IsTrue (is_ready before) → IsSettled code old before → IsSettled k old Ready
ready_settled k code same old before ready settled =
    subst₂ (λ c. λ p. IsSettled c old p) (sym same) (ready_is before ready) settled

hurried_here : (k code : Code) → k ≡ code → (old new : Held) (phase : Phase) (way : Way) → phase ≡ phase_after way → Hurried k old (phase_after way) new → Hurried code old phase new
hurried_here k code same old new phase way is hurried = subst₂ (λ c. λ p. Hurried c old p new) same (sym is) hurried

pub hurry_settles : (k code : Code) → k ≡ code → (old new : Held) (phase : Phase) (way : Way) → phase ≡ phase_after way → Hurried k old (phase_after way) new → IsSettled code new phase
hurry_settles k code same old new phase way is hurried = (hurried_here k code same old new phase way is hurried).settled

pub hurry_stands : (k code : Code) → k ≡ code → (old new : Held) (before phase : Phase) (way : Way) → IsTrue (is_ready before) → phase ≡ phase_after way → Hurried k old (phase_after way) new
    → (start : Start) (asked : List Request) (replies : List Reply)
    → Stands start asked replies (moment_of code old before)
    → Stands start asked replies (moment_of code new phase)
hurry_stands k code same old new before phase way ready is hurried start asked replies stands =
    (hurried_here k code same old new phase way is hurried).stands
    start
    asked
    replies
    (subst (λ p. Stands start asked replies (moment_of code old p)) (ready_is before ready) stands)

pub hurry_nearer : (k code : Code) → k ≡ code → (old new : Held) (before phase : Phase) (way : Way) → IsTrue (is_ready before) → phase ≡ phase_after way → Hurried k old (phase_after way) new
    → nearness (moment_of code new phase) ≤ nearness (moment_of code old before)
hurry_nearer k code same old new before phase way ready is hurried =
    subst
    (λ p. nearness (moment_of code new phase) ≤ nearness (moment_of code old p))
    (sym (ready_is before ready))
    (hurried_here k code same old new phase way is hurried).nearer
