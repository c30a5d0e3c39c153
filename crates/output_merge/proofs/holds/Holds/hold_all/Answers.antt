use Rattle.std.proofs.Common.{ℕ, List, [], ◌∷◌, ◌++◌, take, ap, sym, ◌∙◌, append_assoc}
use Rattle.rtio_types.specs.declared.event.Event.{Event}
use Rattle.output_merge.specs.Sieve.{HoldsState, held_by, holds_after}
use Rattle.output_merge.proofs.Sieves.{hold-next}
use Rattle.output_merge.proofs.Summing.{take-item}
use Rattle.output_merge.proofs.holds.Holds.hold_all.Goals as goal

pub loop-i-preserved : goal.loop-i-preserved
loop-i-preserved c = λ holds out is.
    c.hold.ensures ∙ ap (λ (s : HoldsState). held_by s c.item.result.1) (c.loop-i.invariant holds out is)
    ∙ hold-next holds (out ++ take c.loop-i.i c.args.kept.now.items) c.item.result
    ∙ ap (holds_after holds)
    (append_assoc out (take c.loop-i.i c.args.kept.now.items) (c.item.result ∷ [])
    ∙ ap (λ (ps : List (ℕ × Event)). out ++ ps) (sym (take-item c.args.kept.now.items c.loop-i.i c.item.result c.item.ensures)))
