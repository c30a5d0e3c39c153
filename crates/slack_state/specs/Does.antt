-- How a run of a part is told, against what the part does.
use Rattle.std.specs.Prelude.{◌≡◌, Result, Ok, Err}
use Rattle.slack_meaning.specs.Actions.{State, Completion, normal, early}
use Rattle.slack_state.specs.declared.early.Early.{Early}
use Rattle.slack_state.specs.declared.early.Early.TheVariants as E
use Rattle.slack_state.specs.declared.early.Reason.{Reason}
use Rattle.slack_state.specs.Ends.{reason_of}

-- a part ends early as it is to, or memory ran out
abbrev pub EndsAs : {A : Type 0} → Early → (left : State) → Completion A → Type 0
EndsAs (E.Ended reason) left does = does ≡ early (reason_of reason) left
EndsAs E.Memory left does = Unit {0}

-- a part gives the value that it is to give and leaves the state so, or ends early as it is to, unless memory ran out
abbrev pub Does : {A : Type 0} → Result A Early → (left : State) → Completion A → Type 0
Does (Ok a) left does = does ≡ normal a left
Does (Err end) left does = EndsAs end left does

-- so does a part that takes no memory, and always
abbrev pub DoesAlways : {A : Type 0} → Result A Reason → (left : State) → Completion A → Type 0
DoesAlways (Ok a) left does = does ≡ normal a left
DoesAlways (Err reason) left does = does ≡ early (reason_of reason) left
