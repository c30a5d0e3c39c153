use Rattle.std.proofs.Common.{◌≡◌, List, map, sym, ap, subst, ◌∙◌}
use Rattle.std.specs.Prelude.{All}
use Rattle.desk_kernels.specs.Chairs.{CoreChair}
use Rattle.lab_workers.specs.Workers.{SchedChair}
use Rattle.lab_desks.specs.Closed.{AreChairsOf, AreClosed, IsClosedSched}
use Rattle.lab_desks.specs.Columns.{HasRoom, column, items_of}
use Rattle.lab_crew.proofs.Ended.{worker_of}
use Rattle.lab_crew.proofs.Leaving.{core-chairs, gathered-count, gathered-free, gathered-rows, gathered-scheds, row-lengths, rows_of, sched-chairs}
use Rattle.lab_crew.proofs.Remaining.{finished}
use Rattle.lab_crew.proofs.closing.close_desks.Goals as goal

pub close_sched-sched-requires : goal.close_sched-sched-requires
close_sched-sched-requires c =
    subst (AreChairsOf c.args.desks.sched) (sym (c.gather.ensures.scheds ∙ gathered-scheds c.args.crew.items))
    (sched-chairs _ c.args.desks (map worker_of c.args.crew.items) c.requires.desks c.requires.crew (gathered-free c.args.crew.items c.gather.ensures.free))

pub close_cores-cores-requires-clause-chairs : goal.close_cores-cores-requires-clause-chairs
close_cores-cores-requires-clause-chairs c = λ place desk at.
    let rows : map items_of c.as_mut_slice.result.now ≡ rows_of (map worker_of c.args.crew.items) =
    ap (map items_of) c.as_mut_slice.ensures.value ∙ c.gather.ensures.rows ∙ gathered-rows c.args.crew.items in
    subst (λ (l : List (List CoreChair)). AreChairsOf desk (column place l)) (sym rows)
    (core-chairs _ c.args.desks (map worker_of c.args.crew.items) c.requires.desks c.requires.crew (gathered-free c.args.crew.items c.gather.ensures.free) place desk at)

pub close_cores-cores-requires-clause-rows : goal.close_cores-cores-requires-clause-rows
close_cores-cores-requires-clause-rows c =
    row-lengths _ c.args.desks (map worker_of c.args.crew.items) c.requires.desks c.requires.crew (gathered-free c.args.crew.items c.gather.ensures.free) c.as_mut_slice.result.now
    (ap (map items_of) c.as_mut_slice.ensures.value ∙ c.gather.ensures.rows ∙ gathered-rows c.args.crew.items)

pub close_cores-cores-requires-clause-rooms : goal.close_cores-cores-requires-clause-rooms
close_cores-cores-requires-clause-rooms c =
    subst (λ n. All (HasRoom n) c.args.room.columns.items)
    (sym (gathered-count c.as_mut_slice.result.now c.args.crew.items (ap (map items_of) c.as_mut_slice.ensures.value ∙ c.gather.ensures.rows)))
    c.requires.room.columns

pub returns : goal.returns
returns c =
    finished c.ties_last.ensures c.judgements_last.ensures c.open_sessions_were_open_before.ensures c.what_is_over_stays_over.ensures c.a_run_in_flight_stands_by_its_job.ensures
    c.args.desks (map worker_of c.args.crew.items) c.close_sched-sched.result c.close_cores-cores.result.items c.requires.some c.requires.desks c.requires.crew
    (gathered-free c.args.crew.items c.gather.ensures.free)
    (subst (λ (cs : List SchedChair). IsClosedSched c.args.desks.sched cs c.close_sched-sched.result) (c.gather.ensures.scheds ∙ gathered-scheds c.args.crew.items) c.close_sched-sched.ensures)
    (subst (λ (l : List (List CoreChair)). AreClosed l 0 c.args.desks.cores.items c.close_cores-cores.result.items)
    (ap (map items_of) c.as_mut_slice.ensures.value ∙ c.gather.ensures.rows ∙ gathered-rows c.args.crew.items)
    c.close_cores-cores.ensures.cores)
