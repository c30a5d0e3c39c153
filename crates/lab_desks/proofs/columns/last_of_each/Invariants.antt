use Rattle.std.proofs.Common.{◌≡◌, ◌≤◌, vec_capacity, vec_len}
use Rattle.lab_desks.proofs.Taking.{IsTaken}
use Rattle.lab_desks.proofs.columns.last_of_each.Given as goal

-- those before this one are taken, and the column has room for the others
abbrev pub invariant-loop-row : goal.invariant-loop-row
invariant-loop-row g l =
    IsTaken l.initial.rows l.rows l.row-index l.column.items × (vec_len l.column ≡ l.row-index) × (vec_capacity l.initial.column ≤ vec_capacity l.column)
