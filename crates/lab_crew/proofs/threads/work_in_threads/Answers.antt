use mir.Syntax.{named}
use denote.Param.{param}
use denote.Param.Send.{sendable}
use Rattle.std.specs.Prelude.{codes}
use Rattle.std.proofs.Crossing.{crosses}
use Rattle.desk.proofs.Sending.{chair_send}
use Rattle.rtio_core.proofs.one_core.Core.TheSendSync as Core
use Rattle.sched_core.proofs.sched.Sched.TheSendSync as Sched
use Rattle.lab_workers.proofs.worker.WorkEnd.TheSendSync as WorkEnd
use Rattle.lab_crew.proofs.Crossing.{kit_send}
use Rattle.lab_crew.proofs.Shared.{closure_sync}
use Rattle.lab_crew.proofs.threads.work_in_threads.Goals as goal

-- the chairs may be sent where the scheduler may
pub for_each_mut-requires-send-T : goal.for_each_mut-requires-send-T
for_each_mut-requires-send-T g c κs within = search (kit_send, Sched.the_send, chair_send, Core.the_send, WorkEnd.the_send, crosses, sendable) depth 30 fits 20000

-- the desks may be shared where the scheduler may be sent
pub for_each_mut-requires-sync-F : goal.for_each_mut-requires-sync-F
for_each_mut-requires-sync-F g c κs within =
    let closure =
    closure_sync (codes "lab_crew::threads::fn::work_in_threads::for_each_mut+Self") (named 6) (named 7) (named 8) (named 9)
    κs.1.1.1.1.1.1.0 κs.1.1.1.1.1.1.1.0 κs.1.1.1.1.1.1.1.1.0 κs.1.1.1.1.1.1.1.1.1.0
    (param 0 g.row.R) (param 1 g.row.G) c.type_bounds.sync-R c.type_bounds.sync-G in
    record { shared = closure.shared }
