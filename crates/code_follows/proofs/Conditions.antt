-- What is asked for a condition tells whether it holds.
use Rattle.std.proofs.Common.{◌≡◌, ap, refl, sym, ◌∙◌}
use Rattle.std.specs.Ordering.{int_eq}
use Rattle.std.specs.Prelude.{Bool, true, false, not, ℤ, int_lt, int_le, ⊤}
use Rattle.rtio_types.specs.Integers.{is_true, number_of}
use Rattle.kern_syntax.specs.declared.expression.Comparison.{Comparison}
use Rattle.kern_syntax.specs.declared.expression.Comparison.TheVariants as C
use Rattle.kern_syntax.specs.Tree.{Expression, integer, true_literal, false_literal, variable, element, group, unary, binary, compare, negation, conjunction, disjunction, call, method}
use Rattle.kern_calls.specs.Types.{Scope}
use Rattle.timeline_sem.specs.Actions.{State, Completion, normal, early, Action, give, go_on, ◌>>=◌}
use Rattle.timeline_sem.specs.Expressions.{Callee, expression}
use Rattle.timeline_sem.specs.Numbers.{compares}
use Rattle.code_forms.specs.declared.test_kind.TestKind.{TestKind}
use Rattle.code_forms.specs.declared.test_kind.TestKind.TheVariants.{Branch, LoopEnd}
use Rattle.code_forms.specs.Conditions.{is_opposed, asked_comparison, opposite, meant, bare, is_contrary, is_turned_bare, asked_bare, is_turned, asked}
use Rattle.code_follows.proofs.Comparisons.{not_less, not_less_equal, number_is}
use Rattle.code_follows.proofs.Tests.{holds, Asks}

twice_not : (b : Bool) → not (not b) ≡ b
twice_not true = refl
twice_not false = refl

-- a comparison's own answer, or its opposite's
tells : (op : Comparison) (test : TestKind) (a b : ℤ) → holds (is_opposed op test) (number_of (compares (asked_comparison op test) a b)) ≡ is_true (number_of (compares op a b))
tells C.Equal Branch a b = refl
tells C.Equal LoopEnd a b =
    ap not (number_is (not (int_eq a b))) ∙ twice_not (int_eq a b) ∙ sym (number_is (int_eq a b))
tells C.NotEqual Branch a b = refl
tells C.NotEqual LoopEnd a b =
    ap not (number_is (int_eq a b)) ∙ sym (number_is (not (int_eq a b)))
tells C.Less test a b = refl
tells C.LessEqual test a b = refl
tells C.Greater test a b =
    ap not (number_is (int_le a b)) ∙ not_less_equal a b ∙ sym (number_is (int_lt b a))
tells C.GreaterEqual test a b =
    ap not (number_is (int_lt a b)) ∙ not_less a b ∙ sym (number_is (int_le b a))

-- the opposite of a comparison answers the other way
opposite_tells : (op : Comparison) (a b : ℤ) → is_true (number_of (compares (opposite op) a b)) ≡ not (is_true (number_of (compares op a b)))
opposite_tells C.Equal a b =
    number_is (not (int_eq a b)) ∙ sym (ap not (number_is (int_eq a b)))
opposite_tells C.NotEqual a b =
    number_is (int_eq a b) ∙ sym (twice_not (int_eq a b)) ∙ sym (ap not (number_is (not (int_eq a b))))
opposite_tells C.Less a b =
    number_is (int_le b a) ∙ sym (not_less a b) ∙ sym (ap not (number_is (int_lt a b)))
opposite_tells C.LessEqual a b =
    number_is (int_lt b a) ∙ sym (not_less_equal a b) ∙ sym (ap not (number_is (int_le a b)))
opposite_tells C.Greater a b =
    number_is (int_le a b) ∙ sym (not_less b a) ∙ sym (ap not (number_is (int_lt b a)))
opposite_tells C.GreaterEqual a b =
    number_is (int_lt a b) ∙ sym (not_less_equal b a) ∙ sym (ap not (number_is (int_le b a)))

meant_tells : (contrary : Bool) (op : Comparison) (a b : ℤ) → is_true (number_of (compares (meant contrary op) a b)) ≡ holds contrary (number_of (compares op a b))
meant_tells false op a b = refl
meant_tells true op a b = opposite_tells op a b

module _ (next : Bool → Action ⊤) where
  negated : (c : Completion ℤ) → go_on c (λ v. next (not (is_true v))) ≡ go_on (go_on c (λ v. give (number_of (not (is_true v))))) (λ v. next (is_true v))
  negated (normal a s) = ap (λ b. next b s) (sym (number_is (not (is_true a))))
  negated (early reason s) = refl

  -- an answer that is turned once more
  turned_once_more : (turned : Bool) (c : Completion ℤ) → go_on c (λ v. next (holds (not turned) v)) ≡ go_on c (λ v. next (not (holds turned v)))
  turned_once_more false c = refl
  turned_once_more true (normal a s) = ap (λ b. next b s) (sym (twice_not (is_true a)))
  turned_once_more true (early reason s) = refl

  second_told : (op : Comparison) (contrary : Bool) (test : TestKind) (a : ℤ) (c : Completion ℤ) → go_on (go_on c (λ b. give (number_of (compares (asked_comparison (meant contrary op) test) a b)))) (λ v. next (holds (is_opposed (meant contrary op) test) v)) ≡ go_on (go_on c (λ b. give (number_of (compares op a b)))) (λ v. next (holds contrary v))
  second_told op contrary test a (normal b s) =
      ap (λ t. next t s) (tells (meant contrary op) test a b ∙ meant_tells contrary op a b)
  second_told op contrary test a (early reason s) = refl

  first_told : (op : Comparison) (contrary : Bool) (test : TestKind) (second : Action ℤ) (c : Completion ℤ) → go_on (go_on c (λ a. second >>= λ b. give (number_of (compares (asked_comparison (meant contrary op) test) a b)))) (λ v. next (holds (is_opposed (meant contrary op) test) v)) ≡ go_on (go_on c (λ a. second >>= λ b. give (number_of (compares op a b)))) (λ v. next (holds contrary v))
  first_told op contrary test second (normal a s) =
      second_told op contrary test a (second s)
  first_told op contrary test second (early reason s) = refl

module _ (scope : Scope) (callee : Callee) where
  -- what stands behind parentheses and each `not` tells whether the condition holds
  bare_tells : (c : Expression) → Asks (is_contrary c) (expression scope callee (bare c)) (expression scope callee c)
  bare_tells (integer n) next s = refl
  bare_tells true_literal next s = refl
  bare_tells false_literal next s = refl
  bare_tells (variable x) next s = refl
  bare_tells (element x i) next s = refl
  bare_tells (group e) next s = bare_tells e next s
  bare_tells (unary op e) next s = refl
  bare_tells (binary op a b) next s = refl
  bare_tells (compare op a b) next s = refl
  bare_tells (negation e) next s = turned_once_more next (is_contrary e) (expression scope callee (bare e) s) ∙ bare_tells e (λ b. next (not b)) s ∙ negated next (expression scope callee e s)
  bare_tells (conjunction a b) next s = refl
  bare_tells (disjunction a b) next s = refl
  bare_tells (call f args) next s = refl
  bare_tells (method o m args) next s = refl

  -- and so does what is asked in its place
  meant_told : (test : TestKind) (contrary : Bool) (e : Expression) (next : Bool → Action ⊤) (s : State) → (expression scope callee (asked_bare test contrary e) >>= λ v. next (holds (is_turned_bare test contrary e) v)) s ≡ (expression scope callee e >>= λ v. next (holds contrary v)) s
  meant_told test contrary (integer n) next s = refl
  meant_told test contrary true_literal next s = refl
  meant_told test contrary false_literal next s = refl
  meant_told test contrary (variable x) next s = refl
  meant_told test contrary (element x i) next s = refl
  meant_told test contrary (group e) next s = refl
  meant_told test contrary (unary op e) next s = refl
  meant_told test contrary (binary op a b) next s = refl
  meant_told test contrary (compare op a b) next s = first_told next op contrary test (expression scope callee b) (expression scope callee a s)
  meant_told test contrary (negation e) next s = refl
  meant_told test contrary (conjunction a b) next s = refl
  meant_told test contrary (disjunction a b) next s = refl
  meant_told test contrary (call f args) next s = refl
  meant_told test contrary (method o m args) next s = refl

pub asked_tells : (scope : Scope) (callee : Callee) (test : TestKind) (c : Expression) → Asks (is_turned test c) (expression scope callee (asked test c)) (expression scope callee c)
asked_tells scope callee test c next s =
    meant_told scope callee test (is_contrary c) (bare c) next s ∙ bare_tells scope callee c next s
