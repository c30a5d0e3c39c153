-- A worker as it is kept.
use Rattle.desk_rule.specs.Histories.{Each}
use Rattle.lab_workers.specs.declared.worker.Worker.TheInside.{Inside}
use Rattle.lab_workers.specs.Workers.{IsFree, WorkerValue}

abbrev pub worker_value : Inside → WorkerValue
worker_value w = record { number = w.number; sched = w.sched; cores = w.cores.items }

-- between two calls none of its chairs holds anything, and all have its number
abbrev pub IsWorkerInside : Inside → Type 0
IsWorkerInside w = IsFree w.number w.sched × Each (IsFree w.number) w.cores.items
