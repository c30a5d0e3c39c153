-- A halt of the scheduler.
use Rattle.std.proofs.Common.{◌≡◌, ℕ, List, [], ◌∷◌, refl, sym, ap, subst, ◌∙◌}
use Rattle.std.specs.Prelude.{IsSome, Option, Some, None}
use Rattle.std.proofs.lemmas.List.Sums.{fold-append}
use Rattle.sched_state.specs.declared.entry.SchedAct.{SchedAct}
use Rattle.sched_state.specs.declared.entry.SchedAct.TheVariants.{Halted}
use Rattle.sched_state.specs.declared.entry.SchedEntry.{SchedEntry}
use Rattle.sched_state.specs.Lawful.{halt_by, halted_by}
use Rattle.sched_core.specs.Calls.{entry_of, stopped, unless_halted}
use Rattle.sched_core.specs.Scheds.{SchedValue}
use Rattle.lab_workers.specs.Turns.{adds, halt_due}
use Rattle.lab_workers.specs.Workers.{SchedChair, sched_entries}
use Rattle.lab_workers.proofs.Turning.{adds-none}

by-cases : (who : ℕ) (value now : SchedValue) (by : Option ℕ) → now ≡ unless_halted who value by → now ≡ adds who (halt_due by) value
by-cases who value now None is = is
by-cases who value now (Some by) is = is ∙ adds-none who value

-- the chair adds a halt where one is due
pub stopped-adds : (who : ℕ) (value now : SchedValue) → now ≡ stopped who value → now ≡ adds who (halt_due (halted_by value.history)) value
stopped-adds who value now is = by-cases who value now (halted_by value.history) is

pub stopped-went : (who : ℕ) (value now : SchedValue) → now ≡ stopped who value → (acts : List SchedAct) × (now ≡ adds who acts value)
stopped-went who value now is = (halt_due (halted_by value.history), stopped-adds who value now is)

halted-so : (who : ℕ) (value now : SchedValue) (by : Option ℕ) → halted_by value.history ≡ by → now ≡ unless_halted who value by → IsSome (halted_by now.history)
halted-so who value now None none is =
    let by : halted_by now.history ≡ Some who =
    ap (λ (v : SchedValue). halted_by v.history) is
    ∙ (fold-append halt_by None value.history (entry_of who Halted ∷ []) ∙ ap (λ (o : Option ℕ). halt_by o (entry_of who Halted)) none) in
    subst IsSome (sym by) refl
halted-so who value now (Some by) some is = subst IsSome (sym (ap (λ (v : SchedValue). halted_by v.history) is ∙ some)) refl

-- it is halted then
pub halted-by : (who : ℕ) (value now : SchedValue) (e : SchedChair) → now ≡ stopped who value → sched_entries e.seen ≡ now.history
    → IsSome (halted_by (sched_entries e.seen))
halted-by who value now e is sees =
    let H : List SchedEntry → Type 0 = λ h. IsSome (halted_by h) in
    subst H (sym sees) (halted-so who value now (halted_by value.history) refl is)
