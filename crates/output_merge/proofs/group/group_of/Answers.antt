use Rattle.std.proofs.Common.{ℕ, List, take, ap, ◌∙◌, sym}
use Rattle.std.specs.Prelude.{filter}
use Rattle.rtio_types.specs.declared.event.Event.{Event}
use Rattle.output_merge.specs.Summaries.{summary_of}
use Rattle.output_merge.proofs.Summing.{is_on, take-item}
use Rattle.output_merge.proofs.group.group_of.Goals as goal

pub loop-i-preserved : goal.loop-i-preserved
loop-i-preserved c =
    c.with_item-group.ensures (take c.loop-i.i c.args.heads.now.items) c.loop-i.invariant
    ∙ ap (λ (ps : List (ℕ × Event)). summary_of (filter (is_on c.args.channel) ps)) (sym (take-item c.args.heads.now.items c.loop-i.i c.item-number.result c.item-number.ensures))
