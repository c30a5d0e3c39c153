use Rattle.std.proofs.Common.{◌≡◌, map}
use Rattle.std.specs.List.{AllZip}
use Rattle.lab_desks.specs.Columns.{IsDeskOf, columns_of}
use Rattle.lab_desks.proofs.opening.open_cores.Given as goal

-- there is a desk for each core so far, with its chairs
abbrev pub invariant-loop-core : goal.invariant-loop-core
invariant-loop-core l =
    AllZip (IsDeskOf l.workers) l.yielded l.desks.items
    × (map (λ column. column.items) l.columns.items ≡ columns_of l.workers l.desks.items)
