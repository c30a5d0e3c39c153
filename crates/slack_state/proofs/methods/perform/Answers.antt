use Rattle.std.proofs.Common.{[], sym, subst, pos}
use Rattle.std.specs.Prelude.{unwrap_or}
use Rattle.kern_calls.specs.declared.calls.Operation.{Operation}
use Rattle.slack_meaning.specs.declared.span.Span.{Span}
use Rattle.slack_meaning.specs.Timeline.{gate, perform}
use Rattle.slack_state.specs.Does.{Does}
use Rattle.slack_state.proofs.methods.perform.Goals as goal

pub returns-in-GateRising : goal.returns-in-GateRising
returns-in-GateRising c =
    subst (λ (op : Operation). Does c.gate.result c.gate.new.self (perform op c.args.spans.now (unwrap_or c.args.text []) c.args.state.now)) (sym c.in-GateRising.is)
    (subst (λ (t : Span). Does c.gate.result c.gate.new.self (gate c.in-GateRising.channel (pos 1) t c.args.state.now)) c.first_span-first.ensures c.gate.ensures)

pub returns-in-GateFalling : goal.returns-in-GateFalling
returns-in-GateFalling c =
    subst (λ (op : Operation). Does c.gate-in-GateFalling.result c.gate-in-GateFalling.new.self (perform op c.args.spans.now (unwrap_or c.args.text []) c.args.state.now)) (sym c.in-GateFalling.is)
    (subst (λ (t : Span). Does c.gate-in-GateFalling.result c.gate-in-GateFalling.new.self (gate c.in-GateFalling.channel (pos 2) t c.args.state.now)) c.first_span-first.ensures c.gate-in-GateFalling.ensures)

pub returns-in-GateBoth : goal.returns-in-GateBoth
returns-in-GateBoth c =
    subst (λ (op : Operation). Does c.gate-in-GateBoth.result c.gate-in-GateBoth.new.self (perform op c.args.spans.now (unwrap_or c.args.text []) c.args.state.now)) (sym c.in-GateBoth.is)
    (subst (λ (t : Span). Does c.gate-in-GateBoth.result c.gate-in-GateBoth.new.self (gate c.in-GateBoth.channel (pos 3) t c.args.state.now)) c.first_span-first.ensures c.gate-in-GateBoth.ensures)
