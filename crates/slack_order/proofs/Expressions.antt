-- Expressions follow those of the other run.
use Rattle.std.proofs.Common.{◌≡◌, Bool, true, false, not, List, length, Option, Some, None, refl, subst}
use Rattle.std.specs.Prelude.{ℤ, pos}
use Rattle.std.specs.Int.{w32, int_wrap}
use Rattle.rtio_types.specs.Integers.{number_of, is_true}
use Rattle.kern_syntax.specs.Tree.{Bytes, Expression, integer, true_literal, false_literal, variable, element, group, unary, binary, compare, negation, conjunction, disjunction, call, method, Arguments, no_more, value_then, text_then}
use Rattle.kern_calls.specs.declared.calls.Builtin.{Builtin}
use Rattle.kern_calls.specs.declared.calls.Builtin.TheVariants as B
use Rattle.kern_calls.specs.declared.calls.Operation.{Operation}
use Rattle.kern_calls.specs.Calls.{builtin_named, method_named}
use Rattle.kern_calls.specs.Types.{Scope, type_of, width_of}
use Rattle.timeline_sem.specs.Numbers.{compares, unary_result}
use Rattle.timeline_sem.specs.Expressions.{array_in, text_in}
use Rattle.slack_meaning.specs.declared.span.Span.{Span}
use Rattle.slack_meaning.specs.Spans.{exactly}
use Rattle.slack_meaning.specs.Actions.{Action, give}
use Rattle.slack_meaning.specs.Expressions.{Callee, spans_in, are_numbers, array_or_value, dataset_value, set_if, array_length, perform_builtin, perform_call, perform_method, unless_decided, expression, arguments}
use Rattle.slack_order.proofs.Inside.{IsInside, inside-exactly}
use Rattle.slack_order.proofs.Standing.{AreInside, IsHeldInside}
use Rattle.slack_order.proofs.Following.{Follows, FollowsPart, follows_bind, follows_then, follows_same, follows_give, follows_open, follows_unit, follows_cursor, follows_set, follows_number}
use Rattle.slack_order.proofs.Values.{span-in, spans-in, same-length, numbers-inside, follows_read, follows_read_element, follows_operate}
use Rattle.slack_order.proofs.Answering.{follows_answered}
use Rattle.slack_order.proofs.TimedCalls.{first-inside, follows_delay, follows_no_value, follows_perform}

-- the same number on both sides
follows_exactly : (n : ℤ) → Follows IsInside (give (exactly n)) (give (exactly n))
follows_exactly n = follows_give (inside-exactly n)

follows_array_or : (o : Option Bytes) {u v : Span} → IsInside u v → Follows IsHeldInside (array_or_value o u) (array_or_value o v)
follows_array_or (Some x) h = follows_read x
follows_array_or None h = follows_give h

follows_dataset : (scope : Scope) (args : Arguments) {u v : Span} → IsInside u v → Follows IsHeldInside (dataset_value scope args u) (dataset_value scope args v)
follows_dataset scope no_more h = follows_give h
follows_dataset scope (text_then text rest) h = follows_dataset scope rest h
follows_dataset scope (value_then e rest) h = follows_array_or (array_in scope e) h

-- a dataset is set where the other run has no span
follows_data : (p q : Bool) → (q ≡ true → p ≡ true) → FollowsPart (set_if p) (set_if q)
follows_data p false numbers = follows_open (set_if p) _
follows_data true true numbers = follows_then follows_unit follows_answered
follows_data false true numbers = absurd (let clash : false ≡ true = numbers refl in cc)

follows_length : (scope : Scope) (args : Arguments) → Follows IsInside (array_length scope args) (array_length scope args)
follows_length scope args =
    follows_bind (follows_dataset scope args (inside-exactly (pos 0)))
    (λ v w k. subst (λ n. Follows IsInside (give (exactly (pos (length (spans_in v))))) (give (exactly (pos n)))) (same-length (spans_in v) (spans_in w) (spans-in v w k)) (follows_exactly (pos (length (spans_in v)))))

follows_builtin : (scope : Scope) (f : Builtin) (args : Arguments) (us vs : List Span) → AreInside us vs → Follows IsInside (perform_builtin scope f args us) (perform_builtin scope f args vs)
follows_builtin scope B.NowMu args us vs h = follows_cursor
follows_builtin scope B.AtMu args us vs h = follows_no_value (follows_set (first-inside us vs h))
follows_builtin scope B.DelayMu args us vs h = follows_no_value (follows_delay (first-inside us vs h))
follows_builtin scope B.SetDataset args us vs h =
    follows_bind (follows_dataset scope args (first-inside us vs h))
    (λ v w k. follows_no_value (follows_data (are_numbers v) (are_numbers w) (numbers-inside v w k)))
follows_builtin scope B.Len args us vs h = follows_length scope args
follows_builtin scope B.ToInt32 args us vs h = follows_same (follows_number (first-inside us vs h)) (λ n. follows_exactly (int_wrap w32 n))
follows_builtin scope B.ToInt64 args us vs h = follows_same (follows_number (first-inside us vs h)) (λ n. follows_exactly n)

follows_method : (o : Option Operation) (us vs : List Span) (text : Bytes) → AreInside us vs → Follows IsInside (perform_method o us text) (perform_method o vs text)
follows_method (Some op) us vs text h = follows_perform op us vs text h
follows_method None us vs text h = follows_exactly (pos 0)

follows_unless : (p : Bool) (n : ℤ) {m k : Action Span} → Follows IsInside m k → Follows IsInside (unless_decided p (exactly n) m) (unless_decided p (exactly n) k)
follows_unless true n h = follows_exactly n
follows_unless false n h = h

-- a call follows itself, with arguments inside the others
abbrev pub FollowsCalls : Callee → Callee → Type 0
FollowsCalls callee called =
    (f : Bytes) (us vs : List Span) → AreInside us vs → Follows IsInside (callee f us) (called f vs)

module _ (scope : Scope) (callee called : Callee) (follows_callee : FollowsCalls callee called) where
  follows_call : (f : Bytes) (b : Option Builtin) (args : Arguments) (us vs : List Span) → AreInside us vs → Follows IsInside (perform_call scope callee f b args us) (perform_call scope called f b args vs)
  follows_call f (Some b) args us vs h = follows_builtin scope b args us vs h
  follows_call f None args us vs h = follows_callee f us vs h

  mutual
    pub follows_expression : (e : Expression) → Follows IsInside (expression scope callee e) (expression scope called e)
    follows_expression (integer n) = follows_exactly (pos n)
    follows_expression true_literal = follows_exactly (pos 1)
    follows_expression false_literal = follows_exactly (pos 0)
    follows_expression (variable x) = follows_bind (follows_read x) (λ v w h. follows_give (span-in v w h))
    follows_expression (element x i) = follows_bind (follows_expression i) (λ u v h. follows_read_element x h)
    follows_expression (group e) = follows_expression e
    follows_expression (unary op e) =
        follows_bind (follows_expression e)
        (λ u v h. follows_same (follows_number h) (λ n. follows_exactly (int_wrap (width_of (type_of scope e)) (unary_result op n))))
    follows_expression (binary op left right) =
        follows_bind (follows_expression left)
        (λ a c h. follows_bind (follows_expression right)
        (λ b d k. follows_operate op (type_of scope (binary op left right)) h k))
    follows_expression (compare op left right) =
        follows_bind (follows_expression left)
        (λ a c h. follows_bind (follows_expression right)
        (λ b d k. follows_same (follows_number h)
        (λ m. follows_same (follows_number k) (λ n. follows_exactly (number_of (compares op m n))))))
    follows_expression (negation e) =
        follows_bind (follows_expression e)
        (λ u v h. follows_same (follows_number h) (λ n. follows_exactly (number_of (not (is_true n)))))
    follows_expression (conjunction left right) =
        follows_bind (follows_expression left)
        (λ u v h. follows_same (follows_number h)
        (λ n. follows_unless (not (is_true n)) (pos 0) (follows_expression right)))
    follows_expression (disjunction left right) =
        follows_bind (follows_expression left)
        (λ u v h. follows_same (follows_number h)
        (λ n. follows_unless (is_true n) (pos 1) (follows_expression right)))
    follows_expression (call f args) =
        follows_bind (follows_arguments args) (λ us vs h. follows_call f (builtin_named f) args us vs h)
    follows_expression (method o m args) =
        follows_bind (follows_arguments args) (λ us vs h. follows_method (method_named o m) us vs (text_in args) h)

    follows_arguments : (args : Arguments) → Follows AreInside (arguments scope callee args) (arguments scope called args)
    follows_arguments no_more = follows_give tt
    follows_arguments (value_then e rest) =
        follows_bind (follows_expression e)
        (λ u v h. follows_bind (follows_arguments rest) (λ us vs k. follows_give (h, k)))
    follows_arguments (text_then text rest) = follows_arguments rest
