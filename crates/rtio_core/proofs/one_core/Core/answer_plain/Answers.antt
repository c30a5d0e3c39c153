use Rattle.rtio_core.proofs.Asked.{plain_keeps}
use Rattle.rtio_core.proofs.Laws.{pushed-onto}
use Rattle.rtio_core.proofs.one_core.Core.answer_plain.Goals as goal

pub invariant_of-self-2 : goal.invariant_of-self-2
invariant_of-self-2 c =
    plain_keeps c.self.inside c.args.self.now c.push_reserved.new.self c.args.who c.args.request c.plain_reply-reply.result _ c.self.view_is c.self.invariant c.requires.open c.requires.waiting c.requires.request c.requires.plain c.requires.decided
    c.plain_reply-reply.ensures (pushed-onto _ _ _ _ c.push_reserved.ensures.items c.reserve.ensures.items) c.raised-self-inside.ensures
