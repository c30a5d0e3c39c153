use Rattle.std.proofs.Common.{◌≢◌, ◌<◌, arith, subst, sym, ◌∙◌}
use Rattle.sed_lanes.specs.Verdict.{Undecided}
use Rattle.rtio_types.specs.Time.{cycle_of}
use Rattle.rtio_core.specs.Core.{CoreState}
use Rattle.rtio_core.specs.Reply.{verdict_at}
use Rattle.rtio_core.proofs.Asked.{reply-placed, verdict-seen}
use Rattle.rtio_core.proofs.Waited.{no-wait, on-err, output-waits, some-reply}
use Rattle.rtio_core.proofs.one_core.Core.ask_output.Goals as goal

pub returns-in-Some-clause-answer : goal.returns-in-Some-clause-answer
returns-in-Some-clause-answer c =
    output-waits c.self.inside c.args.self.now c.args.who c.args.event c.in-Some.until c.self.view_is c.self.invariant c.requires.waiting (sym c.in-Some.ensures)

pub place-requires-clause-decided : goal.place-requires-clause-decided
place-requires-clause-decided c = λ undecided.
    no-wait c.self.inside.outputs.lanes c.args.event _ (sym c.in_default.ensures) (verdict-seen c.self.inside c.args.self.now c.args.event c.self.view_is c.self.invariant ∙ undecided)

pub returns-clause-memory : goal.returns-clause-memory
returns-clause-memory c =
    let decided : verdict_at c.args.self.now.config c.args.self.now.history c.args.event c.args.self.now.counter ≢ Undecided =
    λ undecided. no-wait c.self.inside.outputs.lanes c.args.event _ (sym c.in_default.ensures) (verdict-seen c.self.inside c.args.self.now c.args.event c.self.view_is c.self.invariant ∙ undecided) in
    let after : c.self.inside.count < cycle_of c.args.event = omega (arith, c.if-cycle_of-self.false, c.cycle_of.ensures.cycle) in
    on-err c.place.result _ (some-reply _ _ (reply-placed c.args.self.now c.args.event decided (subst (λ (s : CoreState). s.counter < cycle_of c.args.event) c.self.view_is after)))
