use Rattle.std.proofs.lemmas.Result.{on_ok_weaker}
use Rattle.rtio_core.specs.Told.{log_at}
use Rattle.lab_report.proofs.cores.write_told.Goals as goal

pub returns : goal.returns
returns c =
    on_ok_weaker c.write_log.result (λ told. told (log_at c.args.core.now.config c.args.core.now.history c.args.core.now.counter) c.log.ensures.kinds) c.write_log.ensures
