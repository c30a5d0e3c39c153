use Rattle.lab_program.proofs.Finishing.{none-waits}
use Rattle.lab_program.proofs.draining.drain.Goals as goal

pub returns-clause-idle : goal.returns-clause-idle
returns-clause-idle c =
    none-waits c.args.core.now c.drain_core.new.core c.waiting-waits.result c.drain_core.ensures c.requires c.waiting-waits.ensures.value c.waiting-waits.ensures.open
