use Rattle.std.proofs.Common.{[], ap, subst, sym, ◌∙◌}
use Rattle.core_cpu.specs.Standing.{HasEntry}
use Rattle.core_isa.specs.declared.code.Code.{Code}
use Rattle.rtio_core.specs.declared.data.StartOf.{StartOf}
use Rattle.sim_program.specs.Runs.{start_of}
use Rattle.sim_program.proofs.Running.{has-main}
use Rattle.trace_program.proofs.Placing.{placed, session-of}
use Rattle.trace_program.proofs.places.places_of_main.Goals as goal

pub places_of_session-requires-clause-entry : goal.places_of_session-requires-clause-entry
places_of_session-requires-clause-entry c =
    subst (λ (k : Code). HasEntry k c.start_of-of.result.function c.start_of-of.result.args) c.code.ensures.value
    (subst (λ (of : StartOf). HasEntry c.code.result.now of.function of.args) (sym c.start_of-of.ensures)
    (has-main c.code.result.now c.code.ensures.in_range c.code.ensures.main))

pub places_of_session-requires-clause-session : goal.places_of_session-requires-clause-session
places_of_session-requires-clause-session c =
    let of_is = c.start_of-of.ensures ∙ ap (λ (k : Code). start_of k.main) c.code.ensures.value in (
      c.requires.0,
      c.args.run.now.steps,
      session-of c.args.code.now c.args.budget c.start_of-of.result c.history.result.now _ c.requires.0 c.args.run.now.steps of_is c.history.ensures.value c.requires.1,
    )

pub returns : goal.returns
returns c = λ tell asked s.
    let of_is = c.start_of-of.ensures ∙ ap (λ (k : Code). start_of k.main) c.code.ensures.value in
    let own = session-of c.args.code.now c.args.budget c.start_of-of.result c.history.result.now _ asked c.args.run.now.steps of_is c.history.ensures.value s in
    placed c.args.code.now c.args.lines.now c.args.budget c.start_of-of.result asked c.args.run.now.outcome c.args.run.now.steps c.seeks_end.result c.in_ok-places.places of_is
    (subst (λ (k : Code). HasEntry k k.main []) c.code.ensures.value (has-main c.code.result.now c.code.ensures.in_range c.code.ensures.main))
    (c.ends_are_told.ensures c.args.code.now c.args.lines.now tell)
    (c.in_ok-places.ensures.asked asked c.args.run.now.steps own)
    (λ seeks. c.in_ok-places.ensures.end seeks asked c.args.run.now.steps own)
    c.in_ok-places.ensures.unsought
    c.seeks_end.ensures.sought
    c.seeks_end.ensures.returned
    c.seeks_end.ensures.stands
