-- What a worker does where the jobs of others have to be reported first.
use Rattle.std.specs.Prelude.{◌≡◌, ℕ, List, length, slice_get, Some}
use mathlib.Core.List.{IsPrefix}
use Rattle.desk.specs.Seated.{Opened}
use Rattle.rtio_core.specs.declared.data.Config.{Config}
use Rattle.desk_kernels.specs.Chairs.{CoreChair, IsAt, IsSameChair, KnowsItsOwn}
use Rattle.lab_workers.specs.Workers.{IsClosed}

-- the chair is the same and has put nothing; it may have seen more
pub record HasWaited (old new : CoreChair) : Type 0 where
  pub same : IsSameChair old new
  pub seen : IsPrefix old.seen new.seen
  pub own : new.own ≡ old.own
  pub knows : KnowsItsOwn old → KnowsItsOwn new
  pub closed : KnowsItsOwn old → IsClosed old.number old → IsClosed old.number new

-- each chair is at the desk of its place, and holds nothing
abbrev pub AreAt : List (Opened Config) → List CoreChair → Type 0
AreAt desks chairs =
    (pipeline : ℕ) (desk : Opened Config) (chair : CoreChair) → slice_get desks pipeline ≡ Some desk → slice_get chairs pipeline ≡ Some chair → IsAt desk chair

-- each chair has waited
pub record HaveWaited (old new : List CoreChair) : Type 0 where
  pub count : length new ≡ length old
  pub each : (pipeline : ℕ) (chair : CoreChair) → slice_get new pipeline ≡ Some chair → (was : CoreChair) × (slice_get old pipeline ≡ Some was) × HasWaited was chair
