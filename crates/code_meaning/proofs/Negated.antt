-- `-` of an integer means a number below 0, of the integer's width.
use Rattle.std.proofs.Common.{◌≡◌, ◌<◌, ◌^◌, ℕ, List, Some, refl, sym, ap, subst, arith}
use Rattle.std.specs.Prelude.{Bool, true, false, pos, neg_ℤ, nat_lt, FitsSigned, if◌then◌else◌}
use Rattle.std.proofs.lemmas.Int.{int_wrap_fits}
use Rattle.kern_syntax.specs.declared.expression.UnaryOperator.{UnaryOperator}
use Rattle.kern_syntax.specs.declared.expression.UnaryOperator.TheVariants as U
use Rattle.kern_syntax.specs.Tree.{Bytes, Expression, integer, unary}
use Rattle.kern_calls.specs.declared.types.ValueType.TheVariants as V
use Rattle.kern_calls.specs.Types.{width_of, literal_type}
use Rattle.timeline_sem.specs.Actions.{State, give}
use Rattle.timeline_sem.specs.Expressions.{Callee, expression}
use Rattle.code_forms.specs.Operations.{literal, negated}
use Rattle.code_forms.specs.Setting as C
use Rattle.code_forms.specs.Suited.{IsSuited}
use Rattle.code_forms.proofs.Literals.{IsNegated, negated_is}
use Rattle.code_follows.specs.Stands.{Fits64}

-- the opposite of an integer has the integer's width
narrow_fits : (n : ℕ) (small : Bool) → nat_lt n (2 ^ 31) ≡ small → n < 2 ^ 63 → FitsSigned (width_of (if small then V.Int32 else V.Int64)) (neg_ℤ (pos n))
narrow_fits n true is less = grind (arith, is, less)
narrow_fits n false is less = grind (arith, is, less)

negative_fits : (n : ℕ) → n < 2 ^ 63 → Fits64 (neg_ℤ (pos n))
negative_fits n less = grind (arith, less)

module _ (cs : C.Setting) (callee : Callee) where
  negative_means : (n : ℕ) → n < 2 ^ 63 → (s : State) → give (neg_ℤ (pos n)) s ≡ expression cs.scope callee (unary U.Negate (integer n)) s
  negative_means n less s =
      ap (λ v. give v s) (sym (int_wrap_fits (width_of (literal_type n)) (neg_ℤ (pos n)) (narrow_fits n (nat_lt n (2 ^ 31)) refl less)))

module _ (cs : C.Setting) (plain : List Bytes) (d : Bool) (op : UnaryOperator) (e : Expression) (n : ℕ) (is : negated op (literal e) ≡ Some n) (r : IsSuited cs plain d e) where
  it : IsNegated op e n
  it = negated_is op e n is

  less : n < 2 ^ 63
  less = subst (IsSuited cs plain d) it.operand r

  pub negated_means : (callee : Callee) (s : State) → give (neg_ℤ (pos n)) s ≡ expression cs.scope callee (unary op e) s
  negated_means callee s =
      subst (λ op. give (neg_ℤ (pos n)) s ≡ expression cs.scope callee (unary op e) s) (sym it.operator) (subst (λ e. give (neg_ℤ (pos n)) s ≡ expression cs.scope callee (unary U.Negate e) s) (sym it.operand) (negative_means cs callee n less s))

  pub negated_fits : Fits64 (neg_ℤ (pos n))
  negated_fits = negative_fits n less
