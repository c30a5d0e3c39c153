-- What is known of the entries of a session.
use Rattle.std.specs.Prelude.{◌≡◌, ℕ, ℤ, List, drop, length}
use Rattle.rtio_types.specs.declared.outcome.Outcome.{Outcome}
use Rattle.rtio_core.specs.declared.data.Entry.{Entry}
use Rattle.rtio_core.specs.declared.data.StartOf.{StartOf}
use Rattle.rtio_core.specs.Core.{CoreState}
use Rattle.rtio_core.specs.Entries.{last_cursor}
use Rattle.core_isa.specs.declared.code.Code.{Code}
use Rattle.core_cpu.specs.Standing.{Start as Beginning}
use Rattle.core_session.specs.Sessions.{Answered, RunsSession}

-- how the run of a session begins
abbrev pub beginning : StartOf → (cursor : ℤ) → (units : ℕ) → Beginning
beginning of cursor units = record { function = of.function; args = of.args; cursor = cursor; units = units }

-- They are those that a session of the code added to the history, whose run began at this cursor. These are its answered
-- requests, and so many instructions it began
pub record AreOfSession (code : Code) (units : ℕ) (of : StartOf) (cursor : ℤ) (entries : List Entry)
    (asked : List Answered) (count : ℕ) : Type 0 where
  pub old : CoreState
  pub new : CoreState
  pub how : Outcome
  pub session : RunsSession code units of old new how count
  pub begins : last_cursor old.history ≡ cursor
  pub added : entries ≡ drop (length old.history) new.history
  pub answered : asked ≡ session.asked
