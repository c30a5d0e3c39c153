use Rattle.lab_program.proofs.Cores.{settings-in, some-work}
use Rattle.lab_program.proofs.Finishing.{finished-told}
use Rattle.lab_program.proofs.laboratory.finish.Goals as goal

pub tell_cores-requires-clause-threads : goal.tell_cores-requires-clause-threads
tell_cores-requires-clause-threads g c κs within = some-work c.args.session.now (settings-in c.args.session.now c.requires.session)

pub tell_cores-requires-clause-closed : goal.tell_cores-requires-clause-closed
tell_cores-requires-clause-closed g c κs within = λ pipeline core at. (c.in_ok-sched.ensures.finished.each pipeline core at).closed

pub returns : goal.returns
returns g c =
    finished-told c.what_is_put_out_was_submitted.ensures c.cores_are_asked_at_top.ensures c.args.session.now c.in_ok-sched.sched c.in_ok-sched.cores.items _
    c.in_ok-sched.ensures c.history-known.ensures.sched c.in_ok-lines.ensures
