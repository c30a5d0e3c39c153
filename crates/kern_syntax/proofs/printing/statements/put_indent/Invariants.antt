use Rattle.std.proofs.Common.{◌≡◌, ◌++◌, ◌-◌}
use Rattle.kern_syntax.specs.Print.{indent}
use Rattle.kern_syntax.proofs.printing.statements.put_indent.Given as goal

abbrev pub invariant-loop : goal.invariant-loop
invariant-loop l = l.text.items ++ indent (l.level - l.counter) ≡ l.initial.text.items ++ indent l.level
