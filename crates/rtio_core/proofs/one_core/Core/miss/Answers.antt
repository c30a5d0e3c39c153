use Rattle.std.proofs.Common.{refl, arith}
use Rattle.rtio_core.proofs.Asked.{number-few, output_keeps, reply-late}
use Rattle.rtio_core.proofs.Laws.{pushed-onto}
use Rattle.rtio_core.proofs.one_core.Core.miss.Goals as goal

pub miss-requires-clause-number : goal.miss-requires-clause-number
miss-requires-clause-number c =
    let few = number-few c.self.inside c.self.invariant in
    omega (arith, few, c.self.inside.entries.ok, c.self.inside.entries.small)

pub invariant_of-self-2 : goal.invariant_of-self-2
invariant_of-self-2 c =
    output_keeps c.self.inside c.args.self.now c.push_reserved.new.self c.miss.new.self c.args.who c.args.event _ _ c.self.view_is c.self.invariant c.requires.open c.requires.waiting c.requires.request refl
    (reply-late c.args.self.now c.args.event c.requires.late) (c.miss.ensures _ _ _ _ c.self.invariant.played)
    (pushed-onto _ _ _ _ c.push_reserved.ensures.items c.reserve.ensures.items) c.raised-self-inside.ensures
