-- What a kernel that was run leaves on a core, and what is reported of it.
use Rattle.std.specs.Prelude.{◌≡◌, ℕ, List, ◌++◌, FitsSigned, None}
use Rattle.std.specs.Int.{w64}
use Rattle.rtio_core.specs.declared.data.Config.{Config}
use Rattle.rtio_core.specs.declared.data.Entry.{Entry}
use Rattle.rtio_core.specs.declared.data.StartOf.{StartOf}
use Rattle.rtio_core.specs.Core.{CoreState}
use Rattle.rtio_core.specs.Entries.{last_at, last_cursor}
use Rattle.sched_state.specs.declared.entry.KernelResult.{KernelResult}
use Rattle.core_isa.specs.declared.code.Code.{Code}
use Rattle.core_isa.specs.Runs.{Ran, Runs}
use Rattle.core_isa.specs.WellAsked.{RepliesFit}
use Rattle.core_session.specs.Scripts.{HaveNumbers}
use Rattle.core_session.specs.Sessions.{EndsAs, account_of, replies_of}
use Rattle.lab_kernels.specs.Kernels.{AreAskedAtTop, ArePrompt, KernelRun}
use Rattle.lab_kernels.specs.Kernels.{entries_until_end, result_of, session_entries}

-- The history has grown by one session of the chair, which began at the counter. Each
-- request stands at its top, an end at the horizon there; and where the core had not
-- ticked since its last entry, no cycle passed before the start nor before another end
pub record AddsKernel (chair : ℕ) (of : StartOf) (old new : CoreState) (k : KernelRun) : Type 0 where
  pub of_is : k.of ≡ of
  pub started : k.started ≡ old.counter
  pub history : new.history ≡ old.history ++ session_entries chair old.history k
  pub config : new.config ≡ old.config
  pub waiting : new.waiting ≡ None
  pub counter : new.counter ≡ k.ended
  pub at_top : AreAskedAtTop old.config old.history (session_entries chair old.history k)
  pub prompt : old.counter ≡ last_at old.history → ArePrompt old.history (session_entries chair old.history k)

-- its requests, outcome and cursor are those of the run of the code under its replies, which began so many
-- instructions. The replies fit their requests, and their numbers and the cursor at which the run began are of 64 bits
pub record RunsCode (code : Code) (units chair : ℕ) (config : Config) (before : List Entry) (k : KernelRun) : Type 0 where
  pub ran : Ran
  pub runs : Runs code k.of.function k.of.args (last_cursor before) units (replies_of k.asked) ran
  pub ends : EndsAs config (before ++ entries_until_end chair before k) k.asked (account_of ran) k.how k.cursor
  pub counted : k.steps ≡ ran.count
  pub fit : RepliesFit ran.requests (replies_of k.asked)
  pub numbers : HaveNumbers (replies_of k.asked)
  pub from : FitsSigned w64 (last_cursor before)

-- both, and the result is that of the session
pub record HasRun (code : Code) (units chair : ℕ) (of : StartOf) (old new : CoreState) (result : KernelResult) : Type 0 where
  pub k : KernelRun
  pub adds : AddsKernel chair of old new k
  pub runs : RunsCode code units chair old.config old.history k
  pub told : result ≡ result_of k
