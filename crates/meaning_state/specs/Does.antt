-- How a run of a part is told, against what the part means.
use Rattle.std.specs.Prelude.{◌≡◌, List, Result, Ok, Err, Vec}
use Rattle.std.specs.Global.{Global}
use Rattle.meaning_state.specs.declared.early.Reason.{Reason}
use Rattle.meaning_state.specs.declared.early.Reason.TheVariants as R
use Rattle.meaning_state.specs.declared.early.Early.{Early}
use Rattle.meaning_state.specs.declared.early.Early.TheVariants as E
use Rattle.timeline_sem.specs.Actions as A
use Rattle.timeline_sem.specs.Actions.{State, Completion, normal, early}

-- the reason as the meaning has it
abbrev pub reason_of : Reason → A.Reason
reason_of R.Break = A.break
reason_of R.Continue = A.continue
reason_of (R.Return value) = A.return value
reason_of (R.Raised x) = A.raised x
reason_of R.Budget = A.budget
reason_of R.Unanswered = A.unanswered

-- a part ends early as it is meant to, or memory ran out
abbrev pub EndsAs : {A : Type 0} → Early → (left : State) → (meant : Completion A) → Type 0
EndsAs (E.Ended reason) left meant = meant ≡ early (reason_of reason) left
EndsAs E.Memory left meant = Unit {0}

-- a part gives the value that it is meant to give and leaves the state so, or ends early as it is meant to, unless
-- memory ran out
abbrev pub Does : {A : Type 0} → Result A Early → (left : State) → (meant : Completion A) → Type 0
Does (Ok a) left meant = meant ≡ normal a left
Does (Err end) left meant = EndsAs end left meant

-- so does a part that gives some numbers
abbrev pub DoesItems : {A : Type 0} → Result (Vec A Global) Early → (left : State) → (meant : Completion (List A)) → Type 0
DoesItems (Ok v) left meant = meant ≡ normal v.items left
DoesItems (Err end) left meant = EndsAs end left meant

-- so does a part that takes no memory, and always
abbrev pub DoesAlways : {A : Type 0} → Result A Reason → (left : State) → (meant : Completion A) → Type 0
DoesAlways (Ok a) left meant = meant ≡ normal a left
DoesAlways (Err reason) left meant = meant ≡ early (reason_of reason) left
