-- What a kernel that was run at a desk leaves.
use Rattle.std.specs.Prelude.{◌≡◌, ◌⊎◌, ℕ, List, ◌++◌}
use Rattle.desk_rule.specs.Histories.{acts_of}
use mathlib.Core.List.{IsPrefix}
use Rattle.rtio_core.specs.declared.data.Config.{Config}
use Rattle.rtio_core.specs.declared.data.Entry.{Entry}
use Rattle.rtio_core.specs.declared.data.StartOf.{StartOf}
use Rattle.rtio_core.specs.Booked.{booked_acts}
use Rattle.rtio_core.specs.Core.{CoreState}
use Rattle.sched_state.specs.declared.entry.KernelResult.{KernelResult}
use Rattle.core_isa.specs.declared.code.Code.{Code}
use Rattle.kern_syntax.specs.Tree.{ProgramTree}
use Rattle.core_session.specs.Sessions.{beginning_of}
use Rattle.lab_kernels.specs.CutShort.{IsCutShort}
pub use Rattle.lab_kernels.specs.Kernels.{KernelRun, entries_until_end, session_entries}
use Rattle.lab_kernels.specs.Kernels.{result_of}
pub use Rattle.lab_kernels.specs.Meanings.{IsKernelSession}
use Rattle.lab_kernels.specs.Meanings.{ProgramAsks}
use Rattle.desk_kernels.specs.Chairs.{CoreChair, KnowsItsOwn}
use Rattle.desk_kernels.specs.Holdings.{core_as_seen}

-- The chair found a history which goes on from what it had seen, without an act of its own that it hadn't put. Behind
-- that it put one session of the kernel, and nothing else stands there; and the result is that of the session
pub record RunsKernelAt (program : ProgramTree) (code : Code) (units : ℕ) (of : StartOf) (config : Config) (old new : CoreChair) (result : KernelResult) : Type 0 where
  pub before : List Entry
  pub k : KernelRun
  pub found : IsPrefix old.seen (booked_acts before)
  pub known : acts_of old.number (booked_acts before) ≡ old.own
  pub seen : new.seen ≡ booked_acts (before ++ session_entries old.number before k)
  pub own : new.own ≡ old.own ++ acts_of old.number (booked_acts (session_entries old.number before k))
  pub is_session : IsKernelSession program code units old.number of config before (before ++ session_entries old.number before k) k
  pub told : result ≡ result_of k

-- The chair found a core that goes on from what it had seen, without an act of its own that it hadn't put. To what
-- the chair has seen now, this core with these settings has changed so; and the chair knows its own acts
pub record LeavesCore (Changes : CoreState → CoreState → Type 0) (config : Config) (old new : CoreChair) : Type 0 where
  pub was : CoreState
  pub found : IsPrefix old.seen (booked_acts was.history)
  pub known : acts_of old.number (booked_acts was.history) ≡ old.own
  pub changes : Changes was (core_as_seen config new)
  pub knows : KnowsItsOwn new

-- Without memory the chair has put nothing, or its session of the program's meaning was cut short: behind what it
-- found stand the start of a session for this and answered requests, and nothing else, so no end
abbrev pub LeavesKernelAt : ProgramTree → (units : ℕ) → StartOf → Config → CoreChair → CoreChair → Type 0
LeavesKernelAt program units of config old new =
    (new.own ≡ old.own)
    ⊎ LeavesCore (λ was now. IsCutShort (ProgramAsks program (beginning_of of units was)) old.number of was now) config old new
