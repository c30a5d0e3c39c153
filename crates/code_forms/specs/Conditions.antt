-- The condition of a branch or of a `while`: what stands behind its parentheses and each `not` is asked, and of a
-- comparison the opposite where that takes fewer instructions.
use Rattle.std.specs.Prelude.{ℕ, ◌+◌, List, [], ◌∷◌, Bool, true, false, not}
use Rattle.kern_syntax.specs.declared.expression.Comparison.{Comparison}
use Rattle.kern_syntax.specs.declared.expression.Comparison.TheVariants as C
use Rattle.kern_syntax.specs.Tree.{Expression, group, compare, negation}
use Rattle.core_isa.specs.declared.instr.Instr.{Instr}
use Rattle.core_isa.specs.declared.instr.Instr.TheVariants as I
use Rattle.code_forms.specs.declared.test_kind.TestKind.{TestKind}
use Rattle.code_forms.specs.declared.test_kind.TestKind.TheVariants.{Branch, LoopEnd}

-- the test is at the end of a loop
abbrev pub ends_loop : TestKind → Bool
ends_loop Branch = false
ends_loop LoopEnd = true

-- whether a comparison's opposite is asked: that of `>` and `>=`, which have no instruction of their own though their
-- opposites have one; and at the end of a loop, where the test of an opposite is shorter, that of `==` and `!=`
abbrev pub is_opposed : Comparison → TestKind → Bool
is_opposed C.Equal test = ends_loop test
is_opposed C.NotEqual test = ends_loop test
is_opposed C.Less test = false
is_opposed C.LessEqual test = false
is_opposed C.Greater test = true
is_opposed C.GreaterEqual test = true

-- what is asked for a comparison: it or its opposite
abbrev pub asked_comparison : Comparison → TestKind → Comparison
asked_comparison C.Equal Branch = C.Equal
asked_comparison C.Equal LoopEnd = C.NotEqual
asked_comparison C.NotEqual Branch = C.NotEqual
asked_comparison C.NotEqual LoopEnd = C.Equal
asked_comparison C.Less test = C.Less
asked_comparison C.LessEqual test = C.LessEqual
asked_comparison C.Greater test = C.LessEqual
asked_comparison C.GreaterEqual test = C.Less

-- the comparison that holds where this one doesn't
abbrev pub opposite : Comparison → Comparison
opposite C.Equal = C.NotEqual
opposite C.NotEqual = C.Equal
opposite C.Less = C.GreaterEqual
opposite C.LessEqual = C.Greater
opposite C.Greater = C.LessEqual
opposite C.GreaterEqual = C.Less

-- what stands behind the parentheses of a condition and each `not`
abbrev pub bare : Expression → Expression
bare (group e) = bare e
bare (negation e) = bare e
bare e = e

-- whether the condition is the opposite of that
abbrev pub is_contrary : Expression → Bool
is_contrary (group e) = is_contrary e
is_contrary (negation e) = not (is_contrary e)
is_contrary e = false

-- the comparison that is meant: this one, or its opposite where the contrary is meant
abbrev pub meant : (contrary : Bool) → Comparison → Comparison
meant false op = op
meant true op = opposite op

-- whether the opposite is asked for an expression that is bare, or for its contrary where that is meant
abbrev pub is_turned_bare : TestKind → (contrary : Bool) → Expression → Bool
is_turned_bare test contrary (compare op a b) = is_opposed (meant contrary op) test
is_turned_bare test contrary e = contrary

-- and what is asked
abbrev pub asked_bare : TestKind → (contrary : Bool) → Expression → Expression
asked_bare test contrary (compare op a b) = compare (asked_comparison (meant contrary op) test) a b
asked_bare test contrary e = e

-- whether a condition's opposite is asked
abbrev pub is_turned : TestKind → Expression → Bool
is_turned test e = is_turned_bare test (is_contrary e) (bare e)

-- what is asked for a condition
abbrev pub asked : TestKind → Expression → Expression
asked test e = asked_bare test (is_contrary e) (bare e)

-- at a place, with the answer on the operands: goes on behind
-- these where the condition holds, and elsewhere where it doesn't
abbrev pub test_instrs : (turned : Bool) → (place elsewhere : ℕ) → List Instr
test_instrs false place elsewhere = I.JumpZero elsewhere ∷ []
test_instrs true place elsewhere = I.JumpZero (place + 2) ∷ I.Jump elsewhere ∷ []

abbrev pub test_size : (turned : Bool) → ℕ
test_size false = 1
test_size true = 2

-- the same at the end of a loop: goes back to a turn where the condition
-- holds, and past the loop, which ends behind these, where it doesn't
abbrev pub loop_instrs : (turned : Bool) → (turn past : ℕ) → List Instr
loop_instrs false turn past = I.JumpZero past ∷ I.Jump turn ∷ []
loop_instrs true turn past = I.JumpZero turn ∷ []

abbrev pub loop_size : (turned : Bool) → ℕ
loop_size false = 2
loop_size true = 1
