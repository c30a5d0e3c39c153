use Rattle.std.proofs.Common.{◌≡◌, length, map, sym, subst, ◌∙◌}
use Rattle.std.specs.Prelude.{All, Some}
use Rattle.lab_workers.specs.declared.worker.WorkEnd.TheVariants.{Finished}
use Rattle.lab_crew.specs.declared.member.Member.{Member}
use Rattle.lab_crew.specs.Crews.{IsCrewDone}
use Rattle.lab_crew.specs.Rooms.{IsRoomFor}
use Rattle.lab_crew.proofs.Ended.{as-many, crew-done, worker_of}
use Rattle.lab_crew.proofs.Ready.{all-may, crew-count}
use Rattle.lab_crew.proofs.crew.run_crew.Goals as goal

pub work_together-crew-requires-clause-crew : goal.work_together-crew-requires-clause-crew
work_together-crew-requires-clause-crew g c κs within =
    all-may c.in_ok-desks.field-0.desks c.args.workers c.in_ok-desks.field-0.crew.items c.in_ok-desks.ensures.desks.of c.in_ok-desks.ensures.crew

pub close_desks-requires-clause-crew : goal.close_desks-requires-clause-crew
close_desks-requires-clause-crew g c =
    let ended = subst (All (λ (m : Member). m.end ≡ Some Finished)) c.as_slice.ensures.value (c.have_finished.ensures c.if-not-have_finished.false) in
    subst (λ n. IsCrewDone n c.in_ok-desks.field-0.desks (map worker_of c.work_together-crew.result.items)) (sym c.in_ok-desks.ensures.desks.sched)
    (crew-done c.in_ok-desks.field-0.desks c.args.workers c.in_ok-desks.field-0.crew.items c.work_together-crew.result.items c.in_ok-desks.ensures.crew c.work_together-crew.ensures ended)

pub close_desks-requires-clause-room : goal.close_desks-requires-clause-room
close_desks-requires-clause-room g c =
    let members = as-many c.in_ok-desks.field-0.desks c.in_ok-desks.field-0.crew.items c.work_together-crew.result.items c.work_together-crew.ensures
    ∙ crew-count c.in_ok-desks.field-0.desks c.args.workers c.in_ok-desks.field-0.crew.items c.in_ok-desks.ensures.crew in
    subst (λ n. IsRoomFor n (length c.in_ok-desks.field-0.desks.cores.items) c.in_ok-desks.field-0.room) (sym members) c.in_ok-desks.ensures.room
