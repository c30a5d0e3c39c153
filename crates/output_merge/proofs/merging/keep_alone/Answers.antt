use Rattle.std.proofs.Common.{◌-◌, ◌++◌, ℕ, List, ap, sym, ◌∙◌}
use Rattle.rtio_types.specs.declared.event.Event.{Event}
use Rattle.output_merge.proofs.Single.{single-is}
use Rattle.output_merge.proofs.merging.keep_alone.Goals as goal

pub returns-clause-kept : goal.returns-clause-kept
returns-clause-kept c =
    c.push.ensures
    ∙ ap (λ (ps : List (ℕ × Event)). record { items = c.args.kept.now.items ++ ps; room = c.args.kept.now.room - 1 })
    (sym (single-is c.args.heads.now.items c.item-number.result c.requires.alone c.item-number.ensures))
