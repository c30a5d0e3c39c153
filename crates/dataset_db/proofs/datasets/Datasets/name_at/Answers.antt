use Rattle.std.proofs.Common.{◌≡◌, Some, rules}
use Rattle.std.specs.Prelude.{slice_get}
use Rattle.dataset_db.proofs.Found.{found-at}
use Rattle.dataset_db.proofs.datasets.Datasets.name_at.Goals as goal

pub returns-clause-found : goal.returns-clause-found
returns-clause-found c =
    let at : slice_get c.self.inside.entries.entries c.args.position ≡ Some (c.in_ok-entry.field-0-0.now, c.in_ok-entry.entry.now) = search rules in
    found-at c.self.inside.entries.entries c.args.self.now c.args.position (c.in_ok-entry.field-0-0.now, c.in_ok-entry.entry.now) c.self.view_is c.self.invariant at
