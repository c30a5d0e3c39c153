use Rattle.sim_program.proofs.Few.{tells-few}
use Rattle.sim_program.proofs.report.bytes_of.Goals as goal

pub write_dump-requires : goal.write_dump-requires
write_dump-requires c =
    tells-few c.args.run.now.core c.log-told.result.now c.requires (c.no_more_is_told_than_was_asked.ensures.trace c.args.run.now.core) c.log-told.ensures.lines
    (c.no_more_is_told_than_was_asked.ensures.log c.args.run.now.core c.log-told.result.now c.log-told.ensures.kinds)
