use Rattle.std.proofs.Common.{None, Some, ◌∙◌}
use Rattle.dataset_db.proofs.Entries.{found-entries}
use Rattle.dataset_db.proofs.datasets.Datasets.flags.Goals as goal

pub returns-in_err-entry : goal.returns-in_err-entry
returns-in_err-entry c =
    c.from_residual.ensures ∙ found-entries (λ v f. f) c.args.name.now c.bytes.result.now c.self.inside.entries.entries c.args.self.now None c.self.view_is c.bytes.ensures.value c.in_err-entry.ensures.value

pub returns : goal.returns
returns c =
    found-entries (λ v f. f) c.args.name.now c.bytes.result.now c.self.inside.entries.entries c.args.self.now (Some c.in_ok-entry.entry) c.self.view_is c.bytes.ensures.value c.in_ok-entry.ensures.value
