use Rattle.std.proofs.Common.{ap, ◌∙◌}
use Rattle.sched_core.specs.Scheds.{SchedValue}
use Rattle.lab_desks.proofs.Set.{new-empty, set-for}
use Rattle.lab_desks.proofs.opening.open_desks.Goals as goal

pub open_cores-requires-clause-new : goal.open_cores-requires-clause-new
open_cores-requires-clause-new c = new-empty c.args.session.now c.args.cores.items c.requires.cores

pub returns-clause-desks : goal.returns-clause-desks
returns-clause-desks c =
    set-for c.args.workers c.args.session.now c.args.cores.items (record { sched = c.in-Ok.sched; cores = c.in_ok-cores.cores; session = c.in_ok-session.session })
    c.requires.session c.requires.cores c.in_ok-session.ensures
    (c.in-Ok.ensures.desk.0 ∙ ap (λ (s : SchedValue). s.session) c.requires.sched) c.in-Ok.ensures.desk.1 c.in_ok-cores.ensures.desks
