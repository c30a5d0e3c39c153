use Rattle.std.proofs.Common.{◌≡◌, ◌≤◌, length, take}
use Rattle.rtio_core.specs.Entries.{last_cursor}
use Rattle.lab_report.proofs.cores.last_cursor.Given as goal

-- no session ended behind the entries that are left
abbrev pub invariant-loop-left : goal.invariant-loop-left
invariant-loop-left l = (l.left ≤ length l.history) × (last_cursor (take l.left l.history) ≡ last_cursor l.history)

abbrev pub decreases-loop-left : goal.decreases-loop-left
decreases-loop-left l = l.left
