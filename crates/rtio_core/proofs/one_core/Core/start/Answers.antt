use Rattle.std.proofs.Common.{refl, rules, SFits, w64}
use Rattle.std.proofs.lemmas.Int.{to_z-of_z}
use Rattle.rtio_core.proofs.Laws.{pushed-onto}
use Rattle.rtio_core.proofs.Next.{start_keeps}
use Rattle.rtio_core.proofs.one_core.Core.start.Goals as goal

pub invariant_of-self-2 : goal.invariant_of-self-2
invariant_of-self-2 c =
    let in_range : SFits w64 c.self.inside.cursor = search rules in
    start_keeps c.self.inside c.push_reserved.new.self c.args.who c.args.of _ _ _ c.self.invariant c.in_default.is (to_z-of_z w64 _ in_range)
    (pushed-onto _ _ _ _ c.push_reserved.ensures.items c.reserve.ensures.items) refl c.reading-self-inside.ensures
