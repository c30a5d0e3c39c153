-- Desks that are closed, and what that says of their chairs.
use Rattle.std.specs.Prelude.{◌≡◌, ℕ, suc, ◌<◌, ◌≤◌, List, [], ◌∷◌, false}
use mathlib.Core.List.{IsPrefix}
use Rattle.desk_rule.specs.Histories.{acts_of, Each}
use Rattle.desk.specs.Closing.{HasNumber}
use Rattle.desk.specs.Seated.{Opened, Seated}
use Rattle.rtio_core.specs.Booked.{booked_acts as booked_core}
use Rattle.rtio_core.specs.declared.data.Act.{Act}
use Rattle.rtio_core.specs.declared.data.Config.{Config}
use Rattle.rtio_core.specs.Core.{CoreState, IsCore}
use Rattle.exp_model.specs.declared.session.Session.{Session}
use Rattle.sched_state.specs.declared.entry.SchedAct.{SchedAct}
use Rattle.sched_core.specs.Booked.{booked_acts as booked_sched}
use Rattle.sched_core.specs.Scheds.{IsSched, SchedValue}
use Rattle.lab_desks.specs.Columns.{column}

module _ {A F : Type 0} where
  -- these are all chairs of the desk, and none of them holds anything
  pub record AreChairsOf (desk : Opened F) (chairs : List (Seated A F)) : Type 0 where
    pub of : Each (λ c. (c.desk ≡ desk.id) × (c.holds ≡ false)) chairs
    pub all : (k : ℕ) → k < desk.chairs → HasNumber chairs k

  -- the history begins with what each chair has seen, and has just what each put; no other chair put any
  pub record IsClosedBy (count : ℕ) (chairs : List (Seated A F)) (history : List (ℕ × A)) : Type 0 where
    pub seen : Each (λ c. IsPrefix c.seen history) chairs
    pub own : Each (λ c. acts_of c.number history ≡ c.own) chairs
    pub others : (k : ℕ) → count ≤ k → acts_of k history ≡ []

-- the scheduler of a desk that is closed with its chairs
pub record IsClosedSched (desk : Opened Session) (chairs : List (Seated SchedAct Session)) (sched : SchedValue) : Type 0 where
  pub session : sched.session ≡ desk.fixed
  pub closed : IsClosedBy desk.chairs chairs (booked_sched sched.history)
  pub is_sched : IsSched sched

-- the core of a desk that is closed with its chairs
pub record IsClosedCore (desk : Opened Config) (chairs : List (Seated Act Config)) (core : CoreState) : Type 0 where
  pub config : core.config ≡ desk.fixed
  pub closed : IsClosedBy desk.chairs chairs (booked_core core.history)
  pub is_core : IsCore core

-- those of the desks from a place on, each with the chairs that stand there in the rows
abbrev pub AreClosed : List (List (Seated Act Config)) → ℕ → List (Opened Config) → List CoreState → Type 0
AreClosed rows place [] [] = Unit {0}
AreClosed rows place (desk ∷ desks) (core ∷ cores) = IsClosedCore desk (column place rows) core × AreClosed rows (suc place) desks cores
AreClosed rows place desks cores = ⊥
