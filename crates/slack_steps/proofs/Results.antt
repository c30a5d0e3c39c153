-- An operator on numbers that has a result, and one that has none.
use Rattle.std.proofs.Common.{◌≡◌, true, Option, Some, None, option_map, refl, ap, sym}
use Rattle.std.specs.Prelude.{ℤ, ◌&&◌}
use Rattle.std.specs.Int.{int_wrap}
use Rattle.rtio_types.specs.declared.outcome.Exc.TheVariants.{ZeroDivisionError}
use Rattle.kern_syntax.specs.declared.expression.BinaryOperator.{BinaryOperator}
use Rattle.kern_calls.specs.declared.types.ValueType.{ValueType}
use Rattle.kern_calls.specs.Types.{bits_of, width_of}
use Rattle.slack_meaning.specs.Actions.{State, normal, early, raised, go_on, give}
use Rattle.slack_meaning.specs.Expressions.{operate, operate_if, operate_numbers, or_raise}
use Rattle.slack_meaning.specs.Spans.{exactly, is_number}
use Rattle.slack_meaning.specs.declared.span.Span.{Span}
use Rattle.timeline_sem.specs.Numbers.{exact_result}

-- a result wraps
some_result : (f : ℤ → ℤ) (exact : Option ℤ) (n : ℤ) (s : State) → Some n ≡ option_map f exact → go_on (or_raise exact ZeroDivisionError s) (λ a. give (exactly (f a))) ≡ normal (exactly n) s
some_result f None n s is = cc
some_result f (Some a) n s is =
    let same : n ≡ f a = cc in
    ap (λ b. normal (exactly b) s) (sym same)

-- none raises
no_result : (f : ℤ → ℤ) (exact : Option ℤ) (s : State) → None ≡ option_map f exact → go_on (or_raise exact ZeroDivisionError s) (λ a. give (exactly (f a))) ≡ early (raised ZeroDivisionError) s
no_result f None s is = refl
no_result f (Some a) s is = cc

-- of two numbers
pub numbers_some : (op : BinaryOperator) (t : ValueType) (a b n : ℤ) (s : State) → Some n ≡ option_map (int_wrap (width_of t)) (exact_result op (bits_of t) a b) → operate_numbers op t a b s ≡ normal (exactly n) s
numbers_some op t a b n s is = some_result (int_wrap (width_of t)) (exact_result op (bits_of t) a b) n s is

pub numbers_none : (op : BinaryOperator) (t : ValueType) (a b : ℤ) (s : State) → None ≡ option_map (int_wrap (width_of t)) (exact_result op (bits_of t) a b) → operate_numbers op t a b s ≡ early (raised ZeroDivisionError) s
numbers_none op t a b s is = no_result (int_wrap (width_of t)) (exact_result op (bits_of t) a b) s is

-- two numbers are operated on as numbers
pub both_numbers : (op : BinaryOperator) (t : ValueType) (a b : Span) (s : State) → (is_number a && is_number b) ≡ true → operate op t a b s ≡ operate_numbers op t a.least b.least s
both_numbers op t a b s is = ap (λ c. operate_if c op t a b s) is
