-- Desks with a chair for every worker, and those chairs while all are new.
use Rattle.std.specs.Prelude.{◌≡◌, ℕ, List, map}
use Rattle.desk_rule.specs.Histories.{Each}
use Rattle.desk.specs.Seated.{Opened, new_chairs}
use Rattle.rtio_core.specs.declared.data.Config.{Config}
use Rattle.desk_kernels.specs.Chairs.{CoreChair}
use Rattle.worker_desks.specs.declared.desks.Desks.{Desks}
use Rattle.worker_desks.specs.Of.{AreDesksOf, SchedChair}
use Rattle.lab_desks.specs.Columns.{Row, columns_of, items_of}

-- the desks are those of their session, and each has a chair for every worker
pub record AreSetFor (workers : ℕ) (desks : Desks) : Type 0 where
  pub of : AreDesksOf desks
  pub sched : desks.sched.chairs ≡ workers
  pub cores : Each (λ (desk : Opened Config). desk.chairs ≡ workers) desks.cores.items

-- the chairs of the desks, all new
pub record AreNewChairs (workers : ℕ) (desks : Desks) (scheds : List SchedChair) (columns : List (Row CoreChair)) : Type 0 where
  pub sched : scheds ≡ new_chairs desks.sched.id 0 workers
  pub cores : map items_of columns ≡ columns_of workers desks.cores.items
