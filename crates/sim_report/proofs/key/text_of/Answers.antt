use Rattle.sim_report.proofs.Spelled.{name-text}
use Rattle.sim_report.proofs.key.text_of.Goals as goal

pub unreachable-requires : goal.unreachable-requires
unreachable-requires c = c.in-Err.ensures.cases.0 (name-text c.bytes.result.now c.bytes.ensures.formed)
