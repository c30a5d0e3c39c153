-- What a run of a function begins with, and what it gives where it is as meant.
use Rattle.std.specs.Prelude.{◌≡◌, ℕ, List, ℤ, slice_get, FitsSigned, Some}
use Rattle.std.specs.Int.{w64}
use Rattle.rtio_types.specs.declared.request.Reply.{Reply}
use Rattle.kern_syntax.specs.Tree.{FunctionTree, ProgramTree}
use Rattle.kern_arguments.specs.Fitting.{ArgumentsFit}
use Rattle.timeline_sem.specs.declared.meant.MeantOutcome.{MeantOutcome}
use Rattle.timeline_sem.specs.declared.meant.MeantOutcome.TheVariants as M
use Rattle.timeline_sem.specs.Programs.{Meaning, meaning}
use Rattle.core_isa.specs.declared.code.Code.{Code}
use Rattle.core_isa.specs.Machine.{MachineEnd, returned, raised, budget, unanswered}
use Rattle.core_isa.specs.Runs.{Ran, Runs}
use Rattle.core_isa.specs.WellAsked.{RepliesFit}
use Rattle.code_follows.specs.Stands.{AllNumbersFit}

-- the machine's end that an outcome of the meaning is
abbrev pub machine_end : MeantOutcome → MachineEnd
machine_end M.Returned = returned
machine_end (M.Raised x) = raised x
machine_end M.Budget = budget
machine_end M.Unanswered = unanswered

-- a run that gives what the meaning gives
abbrev pub ran_as : Meaning → ℕ → Ran
ran_as meant count =
    record { requests = meant.requests; outcome = machine_end meant.outcome; cursor = meant.cursor; units = meant.units; count = count }

-- what a run of a function begins with, where it is lawful: its
-- arguments, the cursor, and replies that fit their requests
pub record IsLawfulStart (program : ProgramTree) (f : FunctionTree) (function : ℕ) (args : List ℤ) (cursor : ℤ) (units : ℕ) (replies : List Reply) : Type 0 where
  pub found : slice_get program function ≡ Some f
  pub arguments : ArgumentsFit f.parameters args
  pub cursor_fits : FitsSigned w64 cursor
  pub numbers : AllNumbersFit replies
  pub replies_fit : RepliesFit (meaning program function args cursor units replies).requests replies

-- the code's run of a function asks what the function means, and ends so
abbrev pub RunsAsMeant : ProgramTree → Code → (function : ℕ) → (args : List ℤ) → (cursor : ℤ) (units : ℕ) → List Reply → Type 0
RunsAsMeant program code function args cursor units replies =
    (count : ℕ)
    × Runs code function args cursor units replies (ran_as (meaning program function args cursor units replies) count)
