use Rattle.std.proofs.Common.{◌≡◌, ◌+◌, ◌-◌, ◌++◌, [], ◌∷◌, length}
use Rattle.code_forms.specs.Lines.{end_tries, straight}
use Rattle.core_code_simple.proofs.leaves.put_behind_handlers.Given as goal

abbrev pub invariant-loop : goal.invariant-loop
invariant-loop l =
    (l.lines.items ++ straight l.now (end_tries (l.count - l.counter) ++ l.last ∷ []) ≡ l.initial.lines.items ++ straight l.fn.mark (end_tries l.fn.count ++ l.fn.last ∷ []))
    × (length l.lines.items ≡ length l.initial.lines.items + l.counter)
