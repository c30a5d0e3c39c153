use Rattle.core_session.proofs.Draining.{leaps-to-top}
use Rattle.core_session.proofs.running.drain_core.Goals as goal

pub returns : goal.returns
returns c = leaps-to-top c.args.core.now c.leap.new.self c.leap.result c.history-known.ensures.core c.leap.ensures.count c.leap.ensures.after
