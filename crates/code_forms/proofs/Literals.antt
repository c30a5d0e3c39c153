-- What is one number is `-` of an integer.
use Rattle.std.proofs.Common.{◌≡◌, ℕ, Some, refl, ap}
use Rattle.std.specs.Prelude.{is_some, unwrap_or}
use Rattle.std.proofs.lemmas.Bool.{false≢true}
use Rattle.kern_syntax.specs.declared.expression.UnaryOperator.{UnaryOperator}
use Rattle.kern_syntax.specs.declared.expression.UnaryOperator.TheVariants as U
use Rattle.kern_syntax.specs.Tree.{Expression, integer, true_literal, false_literal, variable, element, group, unary, binary, compare, negation, conjunction, disjunction, call, method}
use Rattle.code_forms.specs.Operations.{literal, negated}

pub literal_is : (e : Expression) (n : ℕ) → literal e ≡ Some n → e ≡ integer n
literal_is (integer m) n is = ap (λ o. integer (unwrap_or o m)) is
literal_is true_literal n is = absurd (false≢true (ap is_some is))
literal_is false_literal n is = absurd (false≢true (ap is_some is))
literal_is (variable x) n is = absurd (false≢true (ap is_some is))
literal_is (element x i) n is = absurd (false≢true (ap is_some is))
literal_is (group e) n is = absurd (false≢true (ap is_some is))
literal_is (unary op e) n is = absurd (false≢true (ap is_some is))
literal_is (binary op a b) n is = absurd (false≢true (ap is_some is))
literal_is (compare op a b) n is = absurd (false≢true (ap is_some is))
literal_is (negation e) n is = absurd (false≢true (ap is_some is))
literal_is (conjunction a b) n is = absurd (false≢true (ap is_some is))
literal_is (disjunction a b) n is = absurd (false≢true (ap is_some is))
literal_is (call f args) n is = absurd (false≢true (ap is_some is))
literal_is (method o m args) n is = absurd (false≢true (ap is_some is))

-- an operator and its operand that are a number below 0
pub record IsNegated (op : UnaryOperator) (e : Expression) (n : ℕ) : Type 0 where
  pub operand : e ≡ integer n
  pub operator : op ≡ U.Negate

pub negated_is : (op : UnaryOperator) (e : Expression) (n : ℕ) → negated op (literal e) ≡ Some n → IsNegated op e n
negated_is U.Negate e n is = record { operand = literal_is e n is; operator = refl }
negated_is U.Invert e n is = absurd (false≢true (ap is_some is))
