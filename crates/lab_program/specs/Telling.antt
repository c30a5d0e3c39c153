-- What is told of cores that went on until they were stopped.
use Rattle.std.specs.Prelude.{◌≡◌, ℕ, suc, List, [], ◌∷◌, Option, None, Some, IfSome, option_map, string_bytes}
use Rattle.rtio_core.specs.Core.{CoreState, IsCore}
use Rattle.rtio_core.specs.Entries.{open_session}
use Rattle.core_session.specs.Timed.{drained}
use Rattle.lab_report.specs.Report.{core_text}
use Rattle.lab_program.specs.declared.telling.Telling.{Telling}

-- the core of a pipeline ticked until it was stopped, and no request
-- waits on it; and the lines, where memory sufficed for them, are its own
pub record IsTold (pipeline : ℕ) (left : CoreState) (lines : Option (List ℕ)) : Type 0 where
  pub lawful : IsCore (drained left)
  pub idle : (drained left).waiting ≡ None
  pub lines_are : IfSome lines (λ text. text ≡ core_text pipeline (drained left))

-- these are the lines of these cores, where the first is that of this pipeline
abbrev pub AreTold : ℕ → List CoreState → List (List ℕ) → Type 0
AreTold pipeline [] [] = Unit {0}
AreTold pipeline (core ∷ cores) (text ∷ texts) = IsTold pipeline core (Some text) × AreTold (suc pipeline) cores texts
AreTold pipeline cores texts = ⊥

-- there is a core, on which no session is open
pub record CanBeTold (telling : Telling) : Type 0 where
  pub left : CoreState
  pub core_is : telling.core ≡ Some left
  pub closed : open_session left.history ≡ None

-- the core that was there is told
pub record IsToldAt (pipeline : ℕ) (old new : Telling) : Type 0 where
  pub told : (left : CoreState) → old.core ≡ Some left → IsTold pipeline left (option_map string_bytes new.lines)
