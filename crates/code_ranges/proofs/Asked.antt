-- What is asked for a condition fits where the condition does.
use Rattle.std.proofs.Common.{◌≤◌, arith}
use Rattle.std.specs.Prelude.{Bool}
use Rattle.kern_syntax.specs.Spellable.{IsSpellable}
use Rattle.kern_syntax.specs.Tree.{Expression, integer, true_literal, false_literal, variable, element, group, unary, binary, compare, negation, conjunction, disjunction, call, method}
use Rattle.core_isa.specs.declared.code.Mark.{Mark}
use Rattle.code_forms.specs.declared.test_kind.TestKind.{TestKind}
use Rattle.code_forms.specs.Conditions.{bare, is_contrary, asked_bare, asked}
use Rattle.code_ranges.specs.Heights.{expression_height}
use Rattle.code_ranges.specs.Ready.{ExpressionFits}

bare_spelled : (c : Expression) → IsSpellable c → IsSpellable (bare c)
bare_spelled (integer n) s = s
bare_spelled true_literal s = s
bare_spelled false_literal s = s
bare_spelled (variable x) s = s
bare_spelled (element x i) s = s
bare_spelled (group e) s = bare_spelled e s
bare_spelled (unary op e) s = s
bare_spelled (binary op a b) s = s
bare_spelled (compare op a b) s = s
bare_spelled (negation e) s = bare_spelled e s
bare_spelled (conjunction a b) s = s
bare_spelled (disjunction a b) s = s
bare_spelled (call f args) s = s
bare_spelled (method o m args) s = s

meant_spelled : (test : TestKind) (contrary : Bool) (e : Expression) → IsSpellable e → IsSpellable (asked_bare test contrary e)
meant_spelled test contrary (integer n) s = s
meant_spelled test contrary true_literal s = s
meant_spelled test contrary false_literal s = s
meant_spelled test contrary (variable x) s = s
meant_spelled test contrary (element x i) s = s
meant_spelled test contrary (group e) s = s
meant_spelled test contrary (unary op e) s = s
meant_spelled test contrary (binary op a b) s = s
meant_spelled test contrary (compare op a b) s = s
meant_spelled test contrary (negation e) s = s
meant_spelled test contrary (conjunction a b) s = s
meant_spelled test contrary (disjunction a b) s = s
meant_spelled test contrary (call f args) s = s
meant_spelled test contrary (method o m args) s = s

bare_low : (c : Expression) → expression_height (bare c) ≤ expression_height c
bare_low (integer n) = omega arith
bare_low true_literal = omega arith
bare_low false_literal = omega arith
bare_low (variable x) = omega arith
bare_low (element x i) = omega arith
bare_low (group e) = bare_low e
bare_low (unary op e) = omega arith
bare_low (binary op a b) = omega arith
bare_low (compare op a b) = omega arith
bare_low (negation e) = omega (arith, bare_low e)
bare_low (conjunction a b) = omega arith
bare_low (disjunction a b) = omega arith
bare_low (call f args) = omega arith
bare_low (method o m args) = omega arith

meant_low : (test : TestKind) (contrary : Bool) (e : Expression) → expression_height (asked_bare test contrary e) ≤ expression_height e
meant_low test contrary (integer n) = omega arith
meant_low test contrary true_literal = omega arith
meant_low test contrary false_literal = omega arith
meant_low test contrary (variable x) = omega arith
meant_low test contrary (element x i) = omega arith
meant_low test contrary (group e) = omega arith
meant_low test contrary (unary op e) = omega arith
meant_low test contrary (binary op a b) = omega arith
meant_low test contrary (compare op a b) = omega arith
meant_low test contrary (negation e) = omega arith
meant_low test contrary (conjunction a b) = omega arith
meant_low test contrary (disjunction a b) = omega arith
meant_low test contrary (call f args) = omega arith
meant_low test contrary (method o m args) = omega arith

pub asked_fits : (test : TestKind) (mark : Mark) (c : Expression) → ExpressionFits mark c → ExpressionFits mark (asked test c)
asked_fits test mark c f =
    record {
      spelled = meant_spelled test (is_contrary c) (bare c) (bare_spelled c f.spelled);
      operands = omega (arith, f.operands, bare_low c, meant_low test (is_contrary c) (bare c));
      handlers = f.handlers;
      rec = f.rec;
    }
