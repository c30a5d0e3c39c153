-- An operator that has a result, and one that has none.
use Rattle.std.proofs.Common.{◌≡◌, Option, Some, None, option_map, refl, ap, sym}
use Rattle.std.specs.Prelude.{ℤ}
use Rattle.std.specs.Int.{int_wrap}
use Rattle.rtio_types.specs.declared.outcome.Exc.TheVariants.{ZeroDivisionError}
use Rattle.kern_syntax.specs.declared.expression.BinaryOperator.{BinaryOperator}
use Rattle.kern_calls.specs.declared.types.ValueType.{ValueType}
use Rattle.kern_calls.specs.Types.{bits_of, width_of}
use Rattle.timeline_sem.specs.Actions.{State, normal, early, raised, give, ◌>>=◌}
use Rattle.timeline_sem.specs.Expressions.{operate, or_raise}
use Rattle.timeline_sem.specs.Numbers.{exact_result}

-- a result wraps
some_result : (f : ℤ → ℤ) (exact : Option ℤ) (n : ℤ) (s : State) → Some n ≡ option_map f exact → (or_raise exact ZeroDivisionError >>= (λ a. give (f a))) s ≡ normal n s
some_result f None n s is = cc
some_result f (Some a) n s is =
    let same : n ≡ f a = cc in
    ap (λ b. normal b s) (sym same)

-- none raises
no_result : (f : ℤ → ℤ) (exact : Option ℤ) (s : State) → None ≡ option_map f exact → (or_raise exact ZeroDivisionError >>= (λ a. give (f a))) s ≡ early (raised ZeroDivisionError) s
no_result f None s is = refl
no_result f (Some a) s is = cc

pub operate_some : (op : BinaryOperator) (t : ValueType) (a b n : ℤ) (s : State) → Some n ≡ option_map (int_wrap (width_of t)) (exact_result op (bits_of t) a b) → operate op t a b s ≡ normal n s
operate_some op t a b n s is = some_result (int_wrap (width_of t)) (exact_result op (bits_of t) a b) n s is

pub operate_none : (op : BinaryOperator) (t : ValueType) (a b : ℤ) (s : State) → None ≡ option_map (int_wrap (width_of t)) (exact_result op (bits_of t) a b) → operate op t a b s ≡ early (raised ZeroDivisionError) s
operate_none op t a b s is = no_result (int_wrap (width_of t)) (exact_result op (bits_of t) a b) s is
