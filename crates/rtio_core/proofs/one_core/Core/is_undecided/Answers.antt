use Rattle.std.proofs.Common.{ap, sym, ◌∙◌, rules, SFits, w64}
use Rattle.std.specs.Prelude.{not}
use Rattle.std.proofs.lemmas.Int.{to_z-of_z}
use Rattle.rtio_types.specs.declared.request.Waiting.{Waiting}
use Rattle.rtio_types.specs.Requests.{request_waiting}
use Rattle.rtio_core.specs.Reply.{is_decided}
use Rattle.rtio_core.proofs.Tops.{edge-undecided, output-undecided}
use Rattle.rtio_core.proofs.one_core.Core.is_undecided.Goals as goal

pub returns-in-Out : goal.returns-in-Out
returns-in-Out c =
    output-undecided c.self.inside c.args.self.now c.in-Out.event c.waits.result c.self.view_is c.self.invariant c.waits.ensures
    ∙ ap (λ (w : Waiting). not (is_decided c.args.self.now.config c.args.self.now.history (request_waiting w) c.args.self.now.counter)) (sym c.in-Out.is)

pub returns-in-Edge : goal.returns-in-Edge
returns-in-Edge c =
    let in_range : SFits w64 c.in-Edge.up_to = search rules in
    edge-undecided c.self.inside c.args.self.now c.in-Edge.channel c.in-Edge.up_to _ c.is_decided.result c.self.view_is (to_z-of_z w64 c.in-Edge.up_to in_range) (c.is_decided.ensures.right _ _ _ c.self.invariant.inputs)
    ∙ ap (λ (w : Waiting). not (is_decided c.args.self.now.config c.args.self.now.history (request_waiting w) c.args.self.now.counter)) (sym c.in-Edge.is)
