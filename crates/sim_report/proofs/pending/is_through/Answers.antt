use Rattle.std.proofs.Common.{sym, ◌∙◌, arith}
use Rattle.sim_report.proofs.Stopped.{none_of, through_events, through_none}
use Rattle.sim_report.proofs.pending.is_through.Goals as goal

pub returns-clause-events : goal.returns-clause-events
returns-clause-events c = λ yes.
    through_events c.args.core.now (sym c.session.ensures ∙ none_of c.session.result (sym c.is_some.ensures ∙ c.if-is_some.false)) (c.stopped.ensures.0 yes)
    (omega (arith, c.if-counter-horizon.false, c.counter.ensures, c.horizon.ensures))

pub returns-clause-none : goal.returns-clause-none
returns-clause-none c = λ yes.
    through_none c.args.core.now (sym c.session.ensures ∙ none_of c.session.result (sym c.is_some.ensures ∙ c.if-is_some.false)) (c.stopped.ensures.0 yes)
    (omega (arith, c.if-counter-horizon.false, c.counter.ensures, c.horizon.ensures))
