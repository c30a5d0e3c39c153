-- A kernel at the desk of its pipeline's core.
use Rattle.std.specs.Prelude.{◌≡◌, ◌<◌, ℕ, length, slice_get, Some}
use mathlib.Core.List.{IsPrefix}
use Rattle.desk.specs.Seated.{Opened}
use Rattle.rtio_core.specs.declared.data.Config.{Config}
use Rattle.lab_kits.specs.Kits.{program_in}
use Rattle.stage_work.specs.Doing.{Cutting, Running}
use Rattle.desk_kernels.specs.Chairs.{CoreChair, IsAt, IsSameChair, KnowsItsOwn}
use Rattle.desk_kernels.specs.Kernels.{LeavesKernelAt, RunsKernelAt}
use Rattle.worker_desks.specs.declared.desks.Desks.{Desks}

-- the pipeline has a desk, where the chair has this number and holds nothing
pub record MayUse (desks : Desks) (number pipeline : ℕ) (chair : CoreChair) : Type 0 where
  pub there : pipeline < length desks.cores.items
  pub at : (desk : Opened Config) → slice_get desks.cores.items pipeline ≡ Some desk → IsAt desk chair
  pub number_is : chair.number ≡ number

-- A chair with this number at the pipeline's desk has changed so. It is the
-- same chair, has seen more, and knows its own acts if it did
pub record UsesDesk (desks : Desks) (number pipeline : ℕ) (Changes : Config → CoreChair → CoreChair → Type 0) (was now : CoreChair) : Type 0 where
  pub desk : Opened Config
  pub at : slice_get desks.cores.items pipeline ≡ Some desk
  pub number_is : was.number ≡ number
  pub same : IsSameChair was now
  pub later : IsPrefix was.seen now.seen
  pub knows : KnowsItsOwn was → KnowsItsOwn now
  pub so : Changes desk.fixed was now

-- it has run a kernel, with the units of the laboratory's session, and the result is that of the session
abbrev pub DeskRuns : Desks → (number : ℕ) → Running CoreChair
DeskRuns desks number pipeline kit of was now result =
    UsesDesk desks number pipeline (λ config old new. RunsKernelAt (program_in kit) kit.compiled.1 desks.session.budget of config old new result) was now

-- want of memory has kept it from that, or has cut the kernel's session short
abbrev pub DeskCuts : Desks → (number : ℕ) → Cutting CoreChair
DeskCuts desks number pipeline kit of was now =
    UsesDesk desks number pipeline (λ config old new. LeavesKernelAt (program_in kit) desks.session.budget of config old new) was now
