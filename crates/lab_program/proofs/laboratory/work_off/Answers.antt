use Rattle.std.proofs.Common.{arith}
use Rattle.std.proofs.lemmas.Result.{IfOk-weaker}
use Rattle.lab_program.proofs.Alone.{served-slice}
use Rattle.lab_program.proofs.Cores.{settings-in, some-work}
use Rattle.lab_program.proofs.Finishing.{crew-worked}
use Rattle.lab_program.proofs.laboratory.work_off.Goals as goal

-- several workers
pub returns-then-session-gt1 : goal.returns-then-session-gt1
returns-then-session-gt1 g c =
    IfOk-weaker c.run_crew.result _ _ (λ left f. crew-worked c.args.session.now left.0 left.1.items c.if-session-gt1.true f) c.run_crew.ensures

-- one
pub returns : goal.returns
returns g c =
    let len = c.args.cores.ok.0 in
    served-slice c.args.session.now c.serve.new.sched c.args.cores.items c.serve.new.cores c.args.cores.len (omega (arith, len)) c.requires.cores
    (some-work c.args.session.now (settings-in c.args.session.now c.requires.session))
    c.in_ok-serve.ensures.served c.in_ok-serve.ensures.over
