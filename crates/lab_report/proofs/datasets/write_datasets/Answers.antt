use Rattle.std.proofs.Common.{ap, sym, ◌∙◌, string_bytes}
use Rattle.std.specs.Option.{option_copied}
use Rattle.lab_report.proofs.Joined.{dataset-at, dataset-written, of-some}
use Rattle.lab_report.proofs.datasets.write_datasets.Goals as goal

pub loop-position-preserved : goal.loop-position-preserved
loop-position-preserved c =
    let at = dataset-at c.args.datasets.now c.loop-position.position c.unwrap-name.result.now c.unwrap-value.result.now c.unwrap-flags.result
    (sym (ap option_copied c.unwrap-name.ensures) ∙ c.name_at.ensures.name)
    (of-some _ c.name_at.result c.unwrap-name.result c.unwrap-name.ensures c.name_at.ensures.found)
    (sym (ap option_copied c.unwrap-value.ensures) ∙ c.get.ensures)
    (sym c.unwrap-flags.ensures ∙ c.flags.ensures) in
    dataset-written (string_bytes c.args.text.now) (string_bytes c.write_dataset.new.text) (string_bytes c.loop-position.text) c.args.datasets.now c.loop-position.position
    (record { name = c.unwrap-name.result.now; value = c.unwrap-value.result.now; flags = c.unwrap-flags.result })
    at c.loop-position.invariant c.in_ok-write_dataset.ensures
