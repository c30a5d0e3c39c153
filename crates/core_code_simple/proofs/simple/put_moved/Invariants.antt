use Rattle.std.proofs.Common.{◌≡◌, ◌+◌, ◌*◌, ◌-◌, ◌++◌, length}
use Rattle.code_forms.specs.Lines.{straight}
use Rattle.code_forms.specs.StatementCode.{moved}
use Rattle.core_code_simple.proofs.simple.put_moved.Given as goal

abbrev pub invariant-loop-step : goal.invariant-loop-step
invariant-loop-step l =
    (l.lines.items ++ straight l.inside.mark (moved (l.count - l.step) (l.inside.free + l.step) (l.to + l.step)) ≡ l.initial.lines.items ++ straight l.inside.mark (moved l.count l.inside.free l.to))
    × (length l.lines.items ≡ length l.initial.lines.items + 2 * l.step)
