use Rattle.std.proofs.Common.{sym, ◌∙◌}
use Rattle.rtio_core.proofs.Handing.{names-next}
use Rattle.rtio_core.proofs.named.are_names_different.Goals as goal

pub loop-first-preserved : goal.loop-first-preserved
loop-first-preserved c =
    names-next c.loop-first.left.now c.in-Some.first.now c.in-Some.rest.now c.in-Some.ensures.cases.0 (sym c.is_named_in.ensures ∙ c.if-is_named_in.false) ∙ c.loop-first.invariant
