use Rattle.std.proofs.Common.{sym, subst, rules, SFits, w64}
use Rattle.std.specs.Prelude.{IsSome, ℤ}
use Rattle.std.proofs.lemmas.Int.{to_z-of_z}
use Rattle.rtio_types.specs.declared.request.Request.TheVariants as ask
use Rattle.rtio_core.specs.Reply.{reply_to}
use Rattle.rtio_core.proofs.AskedEdges.{edge-decided, edge-waits, some-of}
use Rattle.rtio_core.proofs.Waited.{on-err}
use Rattle.rtio_core.proofs.one_core.Core.ask_edge.Goals as goal

pub take_edge-requires-clause-decided : goal.take_edge-requires-clause-decided
take_edge-requires-clause-decided c =
    let in_range : SFits w64 c.args.up_to = search rules in
    subst (λ (z : ℤ). IsSome (reply_to c.args.self.now.config c.args.self.now.history (ask.Edge c.args.channel z) c.args.self.now.counter)) (sym (to_z-of_z w64 c.args.up_to in_range))
    (some-of _ c.is_decided.result c.if-is_decided.true
    (edge-decided c.self.inside c.args.self.now c.args.channel c.args.up_to _ c.is_decided.result c.self.view_is (to_z-of_z w64 c.args.up_to in_range) (c.is_decided.ensures.right _ _ _ c.self.invariant.inputs)))

pub returns-then-is_decided-clause-memory : goal.returns-then-is_decided-clause-memory
returns-then-is_decided-clause-memory c =
    let in_range : SFits w64 c.args.up_to = search rules in
    on-err c.take_edge.result _
    (some-of _ c.is_decided.result c.if-is_decided.true
    (edge-decided c.self.inside c.args.self.now c.args.channel c.args.up_to _ c.is_decided.result c.self.view_is (to_z-of_z w64 c.args.up_to in_range) (c.is_decided.ensures.right _ _ _ c.self.invariant.inputs)))

pub returns-clause-answer : goal.returns-clause-answer
returns-clause-answer c =
    let in_range : SFits w64 c.args.up_to = search rules in
    edge-waits c.self.inside c.args.self.now c.args.who c.args.channel c.counter_reaching.result c.args.up_to _ c.is_decided.result c.self.view_is (to_z-of_z w64 c.args.up_to in_range) c.requires.waiting c.if-is_decided.false
    (c.is_decided.ensures.right _ _ _ c.self.invariant.inputs) c.counter_reaching.ensures
