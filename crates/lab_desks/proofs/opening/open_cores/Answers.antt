use Rattle.lab_desks.proofs.Opened.{opened-more}
use Rattle.lab_desks.proofs.opening.open_cores.Goals as goal

pub loop-core-preserved : goal.loop-core-preserved
loop-core-preserved c =
    opened-more c.args.workers c.loop-core.yielded c.loop-core.desks.items c.push.new.self.items c.loop-core.columns.items c.push-in-loop-core.new.self.items
    c.in-Some.core c.in-Ok.desk c.in-Ok.chairs c.loop-core.invariant c.in-Ok.ensures.desk c.in-Ok.ensures.chairs c.in_ok-push.ensures.items c.in_ok-push-2.ensures.items
