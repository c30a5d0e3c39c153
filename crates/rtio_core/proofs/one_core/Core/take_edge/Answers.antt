use Rattle.std.proofs.Common.{sym, ◌∙◌, rules, SFits, w64}
use Rattle.std.proofs.lemmas.Int.{to_z-of_z}
use Rattle.rtio_core.proofs.AskedEdges.{edge-answered, edge-answers, edge_keeps, is-edge-reply, no-reply}
use Rattle.rtio_core.proofs.Laws.{pushed-onto}
use Rattle.rtio_core.proofs.one_core.Core.take_edge.Goals as goal

pub unreachable-requires : goal.unreachable-requires
unreachable-requires c =
    let in_range : SFits w64 c.args.up_to = search rules in
    no-reply _ c.requires.decided
    (edge-answered c.self.inside c.args.self.now c.args.channel c.args.up_to _ _ c.self.view_is (to_z-of_z w64 c.args.up_to in_range) (sym c.in_default.is ∙ c.ask_edge.ensures.right _ _ _ c.self.invariant.inputs))

pub same_edge_reply-answer-requires : goal.same_edge_reply-answer-requires
same_edge_reply-answer-requires c = is-edge-reply c.self.inside c.args.channel _ c.in-Some.reply c.self.invariant (sym c.in-Some.is ∙ c.ask_edge.ensures.right _ _ _ c.self.invariant.inputs)

pub invariant_of-self-2 : goal.invariant_of-self-2
invariant_of-self-2 c =
    let in_range : SFits w64 c.args.up_to = search rules in
    edge_keeps c.self.inside c.args.self.now c.push_reserved.new.self c.ask_edge.new.self c.args.who c.args.channel c.args.up_to _ c.in-Some.reply c.ask_edge.result _ c.self.view_is c.self.invariant (to_z-of_z w64 c.args.up_to in_range)
    (record {
      running = c.requires.open;
      no_other = c.requires.waiting;
      formed = c.requires.request;
      right = edge-answered c.self.inside c.args.self.now c.args.channel c.args.up_to _ _ c.self.view_is (to_z-of_z w64 c.args.up_to in_range) (sym c.in-Some.is ∙ c.ask_edge.ensures.right _ _ _ c.self.invariant.inputs);
    })
    c.in-Some.is (c.ask_edge.ensures.stands _ _ _ c.self.invariant.inputs) (pushed-onto _ _ _ _ c.push_reserved.ensures.items c.reserve.ensures.items) c.raised-self-inside.ensures

pub returns-clause-answer : goal.returns-clause-answer
returns-clause-answer c =
    let in_range : SFits w64 c.args.up_to = search rules in
    edge-answers c.self.inside c.args.self.now c.push_reserved.new.self c.ask_edge.new.self c.args.who c.args.channel c.args.up_to _ c.in-Some.reply c.same_edge_reply-answer.result c.raised-self-inside.result c.self.view_is (to_z-of_z w64 c.args.up_to in_range)
    c.requires.waiting (sym c.in-Some.is ∙ c.ask_edge.ensures.right _ _ _ c.self.invariant.inputs) c.same_edge_reply-answer.ensures (pushed-onto _ _ _ _ c.push_reserved.ensures.items c.reserve.ensures.items)
