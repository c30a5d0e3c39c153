-- What a session of a program's meaning is.
use Rattle.std.specs.Prelude.{◌≡◌, ℕ, List, ◌++◌, ℤ, slice_get, Option, Some}
use Rattle.rtio_types.specs.declared.outcome.Outcome.{Outcome}
use Rattle.rtio_types.specs.declared.request.Reply.{Reply}
use Rattle.rtio_core.specs.declared.data.StartOf.{StartOf}
use Rattle.rtio_core.specs.Entries.{last_cursor}
use Rattle.rtio_core.specs.Core.{CoreState}
use Rattle.core_cpu.specs.Moments.{outcome_of}
use Rattle.core_cpu.specs.Standing.{Start as Beginning}
use Rattle.kern_syntax.specs.Tree.{FunctionTree, ProgramTree}
use Rattle.kern_arguments.specs.Fitting.{ArgumentsFit}
use Rattle.timeline_sem.specs.declared.meant.MeantOutcome.{MeantOutcome}
use Rattle.timeline_sem.specs.Programs.{Meaning, meaning}
use Rattle.code_follows.specs.Lawful.{machine_end}
use Rattle.core_session.specs.Scripts.{Next, next_of}
use Rattle.core_session.specs.Sessions.{Account, AddsSession, Answered, EndsAs, beginning_of, open_entries, replies_of}
use Rattle.kernel_session.specs.Replays.{PlaysRecordings}

-- the program has the function, and the arguments fit it
abbrev pub TakesArguments : ProgramTree → (function : ℕ) → (args : List ℤ) → Type 0
TakesArguments program function args =
    (f : FunctionTree) × (slice_get program function ≡ Some f) × ArgumentsFit f.parameters args

-- the outcome of a meaning, as the end of the machine that does so has it; one that lacks a reply has none
abbrev pub outcome_of_meant : MeantOutcome → Option Outcome
outcome_of_meant o = outcome_of (machine_end o)

-- the requests, the outcome and the cursor of a meaning
abbrev pub account_of_meaning : Meaning → Account
account_of_meaning m = record { requests = m.requests; outcome = outcome_of_meant m.outcome; cursor = m.cursor }

-- the meaning of a function that begins so, under some replies
abbrev pub meant : ProgramTree → Beginning → List Reply → Meaning
meant program start replies = meaning program start.function start.args start.cursor start.units replies

-- what comes next by the meaning
abbrev pub script_of : ProgramTree → Beginning → List Reply → Next
script_of program start replies =
    let m : Meaning = meant program start replies in
    next_of m.requests (outcome_of_meant m.outcome) m.cursor

-- the history has grown by one session, whose requests, outcome and cursor are those of the program's meaning under its
-- replies; so each recording that a reply brought was asked for
-- at the cursor where the meaning stood then, and is played there
pub record MeansSession (program : ProgramTree) (units : ℕ) (of : StartOf) (old new : CoreState) (how : Outcome) : Type 0 where
  pub asked : List Answered
  pub cursor : ℤ
  pub adds : AddsSession of old new asked how cursor
  pub ends : EndsAs
      old.config
      (old.history ++ open_entries 0 of (last_cursor old.history) old.counter asked)
      asked
      (account_of_meaning (meant program (beginning_of of units old) (replies_of asked)))
      how
      cursor
  pub plays : PlaysRecordings (script_of program (beginning_of of units old)) asked how
