-- What is asked for a condition is as suited as the condition, and no longer with its test.
use Rattle.std.proofs.Common.{◌≡◌, ◌+◌, ◌≤◌, List, refl, ◌∙◌, arith}
use Rattle.std.specs.Prelude.{Bool, true, false, not}
use Rattle.kern_syntax.specs.declared.expression.Comparison.{Comparison}
use Rattle.kern_syntax.specs.declared.expression.Comparison.TheVariants as C
use Rattle.kern_syntax.specs.Tree.{Bytes, Expression, integer, true_literal, false_literal, variable, element, group, unary, binary, compare, negation, conjunction, disjunction, call, method}
use Rattle.code_forms.specs.declared.test_kind.TestKind.{TestKind}
use Rattle.code_forms.specs.declared.test_kind.TestKind.TheVariants.{Branch, LoopEnd}
use Rattle.code_forms.specs.Conditions.{bare, is_contrary, is_turned_bare, asked_bare, is_turned, asked, test_size, loop_size}
use Rattle.code_forms.specs.Setting.{Setting}
use Rattle.code_forms.specs.Sizes.{expression_size}
use Rattle.code_forms.specs.Suited.{IsSuited}
use Rattle.code_forms.specs.Texts.{expression_texts}

bare_suited : (setting : Setting) (plain : List Bytes) (d : Bool) (c : Expression) → IsSuited setting plain d c → IsSuited setting plain d (bare c)
bare_suited setting plain d (integer n) r = r
bare_suited setting plain d true_literal r = r
bare_suited setting plain d false_literal r = r
bare_suited setting plain d (variable x) r = r
bare_suited setting plain d (element x i) r = r
bare_suited setting plain d (group e) r = bare_suited setting plain d e r
bare_suited setting plain d (unary op e) r = r
bare_suited setting plain d (binary op a b) r = r
bare_suited setting plain d (compare op a b) r = r
bare_suited setting plain d (negation e) r = bare_suited setting plain d e r
bare_suited setting plain d (conjunction a b) r = r
bare_suited setting plain d (disjunction a b) r = r
bare_suited setting plain d (call f args) r = r
bare_suited setting plain d (method o m args) r = r

meant_suited : (setting : Setting) (plain : List Bytes) (d : Bool) (test : TestKind) (contrary : Bool) (e : Expression) → IsSuited setting plain d e → IsSuited setting plain d (asked_bare test contrary e)
meant_suited setting plain d test contrary (integer n) r = r
meant_suited setting plain d test contrary true_literal r = r
meant_suited setting plain d test contrary false_literal r = r
meant_suited setting plain d test contrary (variable x) r = r
meant_suited setting plain d test contrary (element x i) r = r
meant_suited setting plain d test contrary (group e) r = r
meant_suited setting plain d test contrary (unary op e) r = r
meant_suited setting plain d test contrary (binary op a b) r = r
meant_suited setting plain d test contrary (compare op a b) r = r
meant_suited setting plain d test contrary (negation e) r = r
meant_suited setting plain d test contrary (conjunction a b) r = r
meant_suited setting plain d test contrary (disjunction a b) r = r
meant_suited setting plain d test contrary (call f args) r = r
meant_suited setting plain d test contrary (method o m args) r = r

pub asked_suited : (setting : Setting) (plain : List Bytes) (d : Bool) (test : TestKind) (c : Expression) → IsSuited setting plain d c → IsSuited setting plain d (asked test c)
asked_suited setting plain d test c r = meant_suited setting plain d test (is_contrary c) (bare c) (bare_suited setting plain d c r)

bare_texts : (c : Expression) → expression_texts c ≡ expression_texts (bare c)
bare_texts (integer n) = refl
bare_texts true_literal = refl
bare_texts false_literal = refl
bare_texts (variable x) = refl
bare_texts (element x i) = refl
bare_texts (group e) = bare_texts e
bare_texts (unary op e) = refl
bare_texts (binary op a b) = refl
bare_texts (compare op a b) = refl
bare_texts (negation e) = bare_texts e
bare_texts (conjunction a b) = refl
bare_texts (disjunction a b) = refl
bare_texts (call f args) = refl
bare_texts (method o m args) = refl

meant_texts : (test : TestKind) (contrary : Bool) (e : Expression) → expression_texts e ≡ expression_texts (asked_bare test contrary e)
meant_texts test contrary (integer n) = refl
meant_texts test contrary true_literal = refl
meant_texts test contrary false_literal = refl
meant_texts test contrary (variable x) = refl
meant_texts test contrary (element x i) = refl
meant_texts test contrary (group e) = refl
meant_texts test contrary (unary op e) = refl
meant_texts test contrary (binary op a b) = refl
meant_texts test contrary (compare op a b) = refl
meant_texts test contrary (negation e) = refl
meant_texts test contrary (conjunction a b) = refl
meant_texts test contrary (disjunction a b) = refl
meant_texts test contrary (call f args) = refl
meant_texts test contrary (method o m args) = refl

pub asked_texts : (test : TestKind) (c : Expression) → expression_texts c ≡ expression_texts (asked test c)
asked_texts test c = bare_texts c ∙ meant_texts test (is_contrary c) (bare c)

-- one `not` more costs an instruction more at most
test_longer : (b : Bool) → test_size (not b) ≤ test_size b + 1
test_longer false = omega arith
test_longer true = omega arith

loop_longer : (b : Bool) → loop_size (not b) ≤ loop_size b + 1
loop_longer false = omega arith
loop_longer true = omega arith

module _ (setting : Setting) where
  bare_short : (c : Expression) → expression_size setting (bare c) + test_size (is_contrary c) ≤ expression_size setting c + 1
  bare_short (integer n) = omega arith
  bare_short true_literal = omega arith
  bare_short false_literal = omega arith
  bare_short (variable x) = omega arith
  bare_short (element x i) = omega arith
  bare_short (group e) = bare_short e
  bare_short (unary op e) = omega arith
  bare_short (binary op a b) = omega arith
  bare_short (compare op a b) = omega arith
  bare_short (negation e) = omega (arith, bare_short e, test_longer (is_contrary e))
  bare_short (conjunction a b) = omega arith
  bare_short (disjunction a b) = omega arith
  bare_short (call f args) = omega arith
  bare_short (method o m args) = omega arith

  compared_short : (contrary : Bool) (op : Comparison) (a b : Expression) → expression_size setting (asked_bare Branch contrary (compare op a b)) + test_size (is_turned_bare Branch contrary (compare op a b)) ≤ expression_size setting (compare op a b) + test_size contrary
  compared_short false C.Equal a b = omega arith
  compared_short false C.NotEqual a b = omega arith
  compared_short false C.Less a b = omega arith
  compared_short false C.LessEqual a b = omega arith
  compared_short false C.Greater a b = omega arith
  compared_short false C.GreaterEqual a b = omega arith
  compared_short true C.Equal a b = omega arith
  compared_short true C.NotEqual a b = omega arith
  compared_short true C.Less a b = omega arith
  compared_short true C.LessEqual a b = omega arith
  compared_short true C.Greater a b = omega arith
  compared_short true C.GreaterEqual a b = omega arith

  meant_short : (contrary : Bool) (e : Expression) → expression_size setting (asked_bare Branch contrary e) + test_size (is_turned_bare Branch contrary e) ≤ expression_size setting e + test_size contrary
  meant_short contrary (integer n) = omega arith
  meant_short contrary true_literal = omega arith
  meant_short contrary false_literal = omega arith
  meant_short contrary (variable x) = omega arith
  meant_short contrary (element x i) = omega arith
  meant_short contrary (group e) = omega arith
  meant_short contrary (unary op e) = omega arith
  meant_short contrary (binary op a b) = omega arith
  meant_short contrary (compare op a b) = compared_short contrary op a b
  meant_short contrary (negation e) = omega arith
  meant_short contrary (conjunction a b) = omega arith
  meant_short contrary (disjunction a b) = omega arith
  meant_short contrary (call f args) = omega arith
  meant_short contrary (method o m args) = omega arith

  -- with the test of a branch
  pub asked_short : (c : Expression) → expression_size setting (asked Branch c) + test_size (is_turned Branch c) ≤ expression_size setting c + 1
  asked_short c = omega (arith, bare_short c, meant_short (is_contrary c) (bare c))

  bare_looping_short : (c : Expression) → expression_size setting (bare c) + loop_size (is_contrary c) ≤ expression_size setting c + 2
  bare_looping_short (integer n) = omega arith
  bare_looping_short true_literal = omega arith
  bare_looping_short false_literal = omega arith
  bare_looping_short (variable x) = omega arith
  bare_looping_short (element x i) = omega arith
  bare_looping_short (group e) = bare_looping_short e
  bare_looping_short (unary op e) = omega arith
  bare_looping_short (binary op a b) = omega arith
  bare_looping_short (compare op a b) = omega arith
  bare_looping_short (negation e) = omega (arith, bare_looping_short e, loop_longer (is_contrary e))
  bare_looping_short (conjunction a b) = omega arith
  bare_looping_short (disjunction a b) = omega arith
  bare_looping_short (call f args) = omega arith
  bare_looping_short (method o m args) = omega arith

  compared_looping_short : (contrary : Bool) (op : Comparison) (a b : Expression) → expression_size setting (asked_bare LoopEnd contrary (compare op a b)) + loop_size (is_turned_bare LoopEnd contrary (compare op a b)) ≤ expression_size setting (compare op a b) + loop_size contrary
  compared_looping_short false C.Equal a b = omega arith
  compared_looping_short false C.NotEqual a b = omega arith
  compared_looping_short false C.Less a b = omega arith
  compared_looping_short false C.LessEqual a b = omega arith
  compared_looping_short false C.Greater a b = omega arith
  compared_looping_short false C.GreaterEqual a b = omega arith
  compared_looping_short true C.Equal a b = omega arith
  compared_looping_short true C.NotEqual a b = omega arith
  compared_looping_short true C.Less a b = omega arith
  compared_looping_short true C.LessEqual a b = omega arith
  compared_looping_short true C.Greater a b = omega arith
  compared_looping_short true C.GreaterEqual a b = omega arith

  meant_looping_short : (contrary : Bool) (e : Expression) → expression_size setting (asked_bare LoopEnd contrary e) + loop_size (is_turned_bare LoopEnd contrary e) ≤ expression_size setting e + loop_size contrary
  meant_looping_short contrary (integer n) = omega arith
  meant_looping_short contrary true_literal = omega arith
  meant_looping_short contrary false_literal = omega arith
  meant_looping_short contrary (variable x) = omega arith
  meant_looping_short contrary (element x i) = omega arith
  meant_looping_short contrary (group e) = omega arith
  meant_looping_short contrary (unary op e) = omega arith
  meant_looping_short contrary (binary op a b) = omega arith
  meant_looping_short contrary (compare op a b) = compared_looping_short contrary op a b
  meant_looping_short contrary (negation e) = omega arith
  meant_looping_short contrary (conjunction a b) = omega arith
  meant_looping_short contrary (disjunction a b) = omega arith
  meant_looping_short contrary (call f args) = omega arith
  meant_looping_short contrary (method o m args) = omega arith

  -- and with the test of a loop
  pub asked_looping_short : (c : Expression) → expression_size setting (asked LoopEnd c) + loop_size (is_turned LoopEnd c) ≤ expression_size setting c + 2
  asked_looping_short c = omega (arith, bare_looping_short c, meant_looping_short (is_contrary c) (bare c))
