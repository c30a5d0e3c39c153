use Rattle.core_analyzer.proofs.CoreTold.{core-late, core-valid}
use Rattle.core_analyzer.proofs.laws.what_a_core_did_is_a_dump.Goals as goal

pub returns-clause-dump : goal.returns-clause-dump
returns-clause-dump c core is few = core-valid core is (c.what_is_put_out_was_submitted.ensures core is.lawful).outputs.in_order few

pub returns-clause-late : goal.returns-clause-late
returns-clause-late c core is = core-late core is
