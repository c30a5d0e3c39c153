use Rattle.rtio_core.proofs.Laws.{pushed-onto}
use Rattle.rtio_core.proofs.Stored.{served_keeps}
use Rattle.rtio_core.proofs.one_core.Core.ask_store.Goals as goal

pub invariant_of-self-2 : goal.invariant_of-self-2
invariant_of-self-2 c =
    served_keeps c.self.inside c.args.self.now c.push_reserved.new.self c.serve.new.store c.args.who c.args.request (c.in-Some.answer, c.in-Some.reply) _ c.self.view_is c.self.invariant c.requires.open c.requires.waiting c.requires.request c.requires.kind
    c.in-Some.ensures.some (pushed-onto _ _ _ _ c.push_reserved.ensures.items c.reserve.ensures.items) c.raised-self-inside.ensures
