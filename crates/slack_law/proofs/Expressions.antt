-- Expressions follow those of the run without a core.
use Rattle.std.proofs.Common.{◌≡◌, suc, Bool, true, false, not, List, [], ◌∷◌, length, Option, Some, None, refl, ap, subst}
use Rattle.std.specs.Prelude.{ℤ, pos}
use Rattle.std.specs.Int.{w32, int_wrap}
use Rattle.rtio_types.specs.declared.request.Request.TheVariants as Q
use Rattle.rtio_types.specs.declared.request.Value.{Value}
use Rattle.rtio_types.specs.Integers.{number_of, is_true}
use Rattle.kern_syntax.specs.Tree.{Bytes, Expression, integer, true_literal, false_literal, variable, element, group, unary, binary, compare, negation, conjunction, disjunction, call, method, Arguments, no_more, value_then, text_then}
use Rattle.kern_calls.specs.declared.calls.Builtin.{Builtin}
use Rattle.kern_calls.specs.declared.calls.Builtin.TheVariants as B
use Rattle.kern_calls.specs.declared.calls.Operation.{Operation}
use Rattle.kern_calls.specs.Calls.{builtin_named, method_named}
use Rattle.kern_calls.specs.Types.{Scope, type_of, width_of}
use Rattle.timeline_sem.specs.Actions.{Action, give}
use Rattle.timeline_sem.specs.Numbers.{compares, unary_result}
use Rattle.timeline_sem.specs.Timeline.{tell, first_of_list}
use Rattle.timeline_sem.specs.Expressions.{Callee, list_in_value, array_in, array_or_number, dataset_value, text_in, array_length, perform_builtin, perform_call, perform_method, unless_decided, expression, arguments}
use Rattle.timeline_sem.proofs.Keeps.{keeps_tell}
use Rattle.timeline_sem.proofs.KeepsWhole.{AskedGrow, asked_grow}
use Rattle.slack_meaning.specs.declared.verdict.OpenKind.TheVariants as K
use Rattle.slack_meaning.specs.declared.span.Span.{Span}
use Rattle.slack_meaning.specs.Spans.{exactly}
use Rattle.slack_meaning.specs.Actions as S
use Rattle.slack_meaning.specs.Expressions as E
use Rattle.slack_law.proofs.Standing.{IsWithin, AreWithin, IsValueWithin, Session}
use Rattle.slack_law.proofs.Following.{Follows, FollowsPart}
use Rattle.slack_law.proofs.Answering.{answers-data}
use Rattle.slack_law.proofs.Within.{within-exactly}
use Rattle.slack_law.proofs.Steps.{with_number, follows_give, follows_open, follows_cursor, follows_set, follows_number}
use Rattle.slack_law.proofs.TimedCalls.{follows_tell, follows_delay}
use Rattle.slack_law.proofs.Methods.{first-within, follows_no_value, follows_perform}
use Rattle.slack_law.proofs.Values.{span-in, spans-in, with_held_value, with_numbers, follows_read, follows_read_element, follows_operate}

-- lists that go together are as long
same-length : (xs : List ℤ) (ys : List Span) → AreWithin xs ys → length xs ≡ length ys
same-length [] [] h = refl
same-length (x ∷ xs) (y ∷ ys) h = ap suc (same-length xs ys h.1)
same-length [] (y ∷ ys) h = absurd h
same-length (x ∷ xs) [] h = absurd h

-- a call follows the same call, with numbers within its spans
abbrev pub FollowsCalls : Session → Callee → E.Callee → Type 0
FollowsCalls session callee called =
    (f : Bytes) (xs : List ℤ) (ys : List Span) → AreWithin xs ys → Follows session IsWithin (callee f xs) (called f ys)

module _ {session : Session} where
  -- the same number on both sides
  pub follows_exactly : (n : ℤ) → Follows session IsWithin (give n) (S.give (exactly n))
  follows_exactly n = follows_give (within-exactly n)

  follows_array_or : (o : Option Bytes) {n : ℤ} {span : Span} → IsWithin n span → Follows session IsValueWithin (array_or_number o n) (E.array_or_value o span)
  follows_array_or (Some x) h = follows_read x
  follows_array_or None h = follows_give h

  follows_dataset : (scope : Scope) (args : Arguments) {n : ℤ} {span : Span} → IsWithin n span → Follows session IsValueWithin (dataset_value scope args n) (E.dataset_value scope args span)
  follows_dataset scope no_more h = follows_give h
  follows_dataset scope (text_then text rest) h = follows_dataset scope rest h
  follows_dataset scope (value_then e rest) h = follows_array_or (array_in scope e) h

  follows_data : (name : Bytes) (v : Value) (b : Bool) → FollowsPart session (tell (Q.Data name v)) (E.set_if b)
  follows_data name v true = follows_tell (Q.Data name v) (answers-data session.config session.ranges session.chair name v)
  follows_data name v false = follows_open K.Span (keeps_tell AskedGrow AskedGrow asked_grow (Q.Data name v))

  follows_length : (scope : Scope) (args : Arguments) → Follows session IsWithin (array_length scope args) (E.array_length scope args)
  follows_length scope args =
      with_held_value (follows_dataset scope args (within-exactly (pos 0)))
      (λ v w k. subst (λ n. Follows session IsWithin (give (pos (length (list_in_value v)))) (S.give (exactly (pos n)))) (same-length (list_in_value v) (E.spans_in w) (spans-in v w k)) (follows_exactly (pos (length (list_in_value v)))))

  follows_builtin : (scope : Scope) (f : Builtin) (args : Arguments) (xs : List ℤ) (ys : List Span) → AreWithin xs ys → Follows session IsWithin (perform_builtin scope f args xs) (E.perform_builtin scope f args ys)
  follows_builtin scope B.NowMu args xs ys h = follows_cursor
  follows_builtin scope B.AtMu args xs ys h = follows_no_value (follows_set (first-within xs ys h))
  follows_builtin scope B.DelayMu args xs ys h = follows_no_value (follows_delay (first-within xs ys h))
  follows_builtin scope B.SetDataset args xs ys h =
      with_held_value (follows_dataset scope args (first-within xs ys h))
      (λ v w k. follows_no_value (follows_data (text_in args) v (E.are_numbers w)))
  follows_builtin scope B.Len args xs ys h = follows_length scope args
  follows_builtin scope B.ToInt32 args xs ys h = follows_number _ (first-within xs ys h) (follows_exactly (int_wrap w32 (first_of_list xs)))
  follows_builtin scope B.ToInt64 args xs ys h = follows_number _ (first-within xs ys h) (follows_exactly (first_of_list xs))

  follows_method : (o : Option Operation) (xs : List ℤ) (ys : List Span) (text : Bytes) → AreWithin xs ys → Follows session IsWithin (perform_method o xs text) (E.perform_method o ys text)
  follows_method (Some op) xs ys text h = follows_perform op xs ys text h
  follows_method None xs ys text h = follows_exactly (pos 0)

  follows_unless : (b : Bool) (n : ℤ) {m : Action ℤ} {k : S.Action Span} → Follows session IsWithin m k → Follows session IsWithin (unless_decided b n m) (E.unless_decided b (exactly n) k)
  follows_unless true n f = follows_exactly n
  follows_unless false n f = f

  module _ (scope : Scope) (callee : Callee) (called : E.Callee) (follows_callee : FollowsCalls session callee called) where
    follows_call : (f : Bytes) (b : Option Builtin) (args : Arguments) (xs : List ℤ) (ys : List Span) → AreWithin xs ys → Follows session IsWithin (perform_call scope callee f b args xs) (E.perform_call scope called f b args ys)
    follows_call f (Some b) args xs ys h = follows_builtin scope b args xs ys h
    follows_call f None args xs ys h = follows_callee f xs ys h

    mutual
      pub follows_expression : (e : Expression) → Follows session IsWithin (expression scope callee e) (E.expression scope called e)
      follows_expression (integer n) = follows_exactly (pos n)
      follows_expression true_literal = follows_exactly (pos 1)
      follows_expression false_literal = follows_exactly (pos 0)
      follows_expression (variable x) = with_held_value (follows_read x) (λ v w k. follows_give (span-in v w k))
      follows_expression (element x i) = with_number (follows_expression i) (λ n span h. follows_read_element x h)
      follows_expression (group e) = follows_expression e
      follows_expression (unary op e) =
          with_number (follows_expression e)
          (λ n span h. follows_number _ h (follows_exactly (int_wrap (width_of (type_of scope e)) (unary_result op n))))
      follows_expression (binary op left right) =
          with_number (follows_expression left)
          (λ a u h. with_number (follows_expression right)
          (λ b w k. follows_operate op (type_of scope (binary op left right)) h k))
      follows_expression (compare op left right) =
          with_number (follows_expression left)
          (λ a u h. with_number (follows_expression right)
          (λ b w k. follows_number _ h (follows_number _ k (follows_exactly (number_of (compares op a b))))))
      follows_expression (negation e) =
          with_number (follows_expression e)
          (λ n span h. follows_number _ h (follows_exactly (number_of (not (is_true n)))))
      follows_expression (conjunction left right) =
          with_number (follows_expression left)
          (λ n span h. follows_number _ h (follows_unless (not (is_true n)) (pos 0) (follows_expression right)))
      follows_expression (disjunction left right) =
          with_number (follows_expression left)
          (λ n span h. follows_number _ h (follows_unless (is_true n) (pos 1) (follows_expression right)))
      follows_expression (call f args) =
          with_numbers (follows_arguments args) (λ xs ys h. follows_call f (builtin_named f) args xs ys h)
      follows_expression (method o m args) =
          with_numbers (follows_arguments args) (λ xs ys h. follows_method (method_named o m) xs ys (text_in args) h)

      follows_arguments : (args : Arguments) → Follows session AreWithin (arguments scope callee args) (E.arguments scope called args)
      follows_arguments no_more = follows_give tt
      follows_arguments (value_then e rest) =
          with_number (follows_expression e)
          (λ x y h. with_numbers (follows_arguments rest) (λ xs ys k. follows_give (h, k)))
      follows_arguments (text_then text rest) = follows_arguments rest
