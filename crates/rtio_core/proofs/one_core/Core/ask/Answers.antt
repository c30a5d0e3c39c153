use Rattle.std.proofs.Common.{◌≡◌, sym, subst, ◌∙◌}
use Rattle.rtio_types.specs.declared.event.Event.{Event}
use Rattle.rtio_types.specs.declared.request.Request.TheVariants as ask
use Rattle.rtio_core.specs.Core.{IsCore}
use Rattle.rtio_core.specs.Errors.{UnderflowHasReason}
use Rattle.rtio_core.proofs.Reasons.{answered-with-reason}
use Rattle.rtio_core.proofs.one_core.Core.ask.Goals as goal

pub returns-in-Out-clause-underflow : goal.returns-in-Out-clause-underflow
returns-in-Out-clause-underflow c = λ e reply is got.
    let both : ask.Out c.in-Out.event ≡ ask.Out e = sym c.in-Out.is ∙ is in
    let same : c.in-Out.event ≡ e = cc in
    subst (λ (x : Event). UnderflowHasReason c.args.self.now.config c.args.self.now.history x reply) same
    (answered-with-reason c.args.self.now _ c.args.who c.in-Out.event reply c.ask_output.result (subst IsCore c.self.view_is c.self.invariant.core) c.requires.open c.ask_output.ensures.answer got)
