-- Statements and blocks follow those of the run without a core.
use Rattle.std.proofs.Common.{ℕ, zero, suc, Bool, true, false, List, [], ◌∷◌, Option, Some, None}
use Rattle.std.specs.Prelude.{ℤ, pos, ⊤, replicate, bytes_eq, if◌then◌else◌}
use Rattle.std.specs.Int.{int_gap}
use Rattle.rtio_types.specs.declared.outcome.Exc.{Exc}
use Rattle.rtio_types.specs.declared.request.Value.TheVariants as W
use Rattle.rtio_types.specs.Integers.{is_true}
use Rattle.kern_syntax.specs.Tree.{Bytes, Expression, variable, Statement, pass, evaluate, assign, assign_element, augment, augment_element, assign_repeated, assign_list, if_then, while_do, for_range, parallel, sequential, record_as, try_do, Block, done, line_then, Otherwise, no_else, else_do, elif_then, Handlers, no_handler, except_then}
use Rattle.kern_syntax.specs.Tree as R
use Rattle.kern_calls.specs.declared.types.ValueType.TheVariants.{Int64}
use Rattle.kern_calls.specs.Types.{Scope, type_of}
use Rattle.timeline_sem.specs.Actions.{Action, ◌>>=◌}
use Rattle.timeline_sem.specs.Expressions.{Callee, expression}
use Rattle.timeline_sem.specs.Statements.{either, name_of_exception, operator_of, values, optional_value, statement, block, parallel_block, otherwise, handler}
use Rattle.slack_meaning.specs.declared.span.Span.{Span}
use Rattle.slack_meaning.specs.Spans.{span_max}
use Rattle.slack_meaning.specs.Actions as S
use Rattle.slack_meaning.specs.Expressions as E
use Rattle.slack_meaning.specs.Statements as C
use Rattle.slack_law.proofs.Standing.{IsWithin, AreWithin, Session, by_break, by_continue, by_return, by_raising}
use Rattle.slack_law.proofs.Following.{Follows, FollowsPart, after, follows_then}
use Rattle.slack_law.proofs.Within.{max-within}
use Rattle.slack_law.proofs.Steps.{with_number, follows_give, follows_skip, follows_stop, follows_cursor, follows_set, follows_number, follows_reach}
use Rattle.slack_law.proofs.Values.{span-in, with_held_value, with_numbers, follows_read, follows_write, follows_read_element, follows_write_element, follows_operate}
use Rattle.slack_law.proofs.Expressions.{FollowsCalls, follows_exactly, follows_expression}
use Rattle.slack_law.proofs.Control.{follows_either, follows_while, follows_for_turns, follows_recorded, follows_attempt}

-- an array of the same value
pub replicated : (n : ℕ) {x : ℤ} {y : Span} → IsWithin x y → AreWithin (replicate n x) (replicate n y)
replicated zero h = tt
replicated (suc n) h = (h, replicated n h)

module _ {session : Session} where
  follows_if : (b : Bool) {m k : Action ⊤} {n l : S.Action ⊤} → FollowsPart session m n → FollowsPart session k l → FollowsPart session (if b then m else k) (if b then n else l)
  follows_if true f g = f
  follows_if false f g = g

  module _ (scope : Scope) (callee : Callee) (called : E.Callee) (follows_callee : FollowsCalls session callee called) where
    follows_value : (e : Expression) → Follows session IsWithin (expression scope callee e) (E.expression scope called e)
    follows_value e = follows_expression scope callee called follows_callee e

    follows_values : (es : List Expression) → Follows session AreWithin (values scope callee es) (C.values scope called es)
    follows_values [] = follows_give tt
    follows_values (e ∷ rest) =
        with_number (follows_value e) (λ x y h. with_numbers (follows_values rest) (λ xs ys k. follows_give (h, k)))

    follows_optional : (e : Option Expression) → Follows session IsWithin (optional_value scope callee e) (C.optional_value scope called e)
    follows_optional None = follows_exactly (pos 0)
    follows_optional (Some e) = follows_value e

    -- a condition decides between two parts
    follows_choice : (condition : Expression) {m k : Action ⊤} {n l : S.Action ⊤} → FollowsPart session m n → FollowsPart session k l
        → FollowsPart session (expression scope callee condition >>= (λ holds. either (is_true holds) m k)) (after (E.expression scope called condition) (λ holds. after (S.as_number holds) (λ x. C.either (is_true x) n l)))
    follows_choice condition f g =
        with_number (follows_value condition) (λ x y h. follows_number _ h (follows_either (is_true x) f g))

    mutual
      follows_statement : (s : Statement) → FollowsPart session (statement scope callee s) (C.statement scope called s)
      follows_statement pass = follows_skip
      follows_statement R.break = follows_stop by_break
      follows_statement R.continue = follows_stop by_continue
      follows_statement (R.return e) = with_number (follows_optional e) (λ a u h. follows_stop (by_return h))
      follows_statement (evaluate e) = with_number (follows_value e) (λ a u h. follows_skip)
      follows_statement (assign x e) = with_number (follows_value e) (λ a u h. follows_write x (W.Int a) (S.number u) h)
      follows_statement (assign_element x i e) =
          with_number (follows_value e)
          (λ a u h. with_number (follows_value i) (λ n span k. follows_write_element x k h))
      follows_statement (augment x op e) =
          with_held_value (follows_read x)
          (λ v w l. with_number (follows_value e)
          (λ a u h. with_number (follows_operate (operator_of op) (type_of scope (variable x)) (span-in v w l) h)
          (λ n span k. follows_write x (W.Int n) (S.number span) k)))
      follows_statement (augment_element x i op e) =
          with_number (follows_value i)
          (λ p r j. with_number (follows_read_element x j)
          (λ v w l. with_number (follows_value e)
          (λ a u h. with_number (follows_operate (operator_of op) Int64 l h)
          (λ n span k. follows_write_element x j k))))
      follows_statement (assign_repeated x e n) =
          with_number (follows_value e)
          (λ a u h. follows_write x (W.List (replicate n a)) (S.list (replicate n u)) (replicated n h))
      follows_statement (assign_list x es) =
          with_numbers (follows_values es) (λ xs ys h. follows_write x (W.List xs) (S.list ys) h)
      follows_statement (if_then condition body rest) = follows_choice condition (follows_block body) (follows_otherwise rest)
      follows_statement (while_do condition body) = follows_while (follows_value condition) (follows_block body)
      follows_statement (for_range x from to body) =
          with_number (follows_optional from)
          (λ p u h. with_number (follows_value to)
          (λ q w k. follows_number _ h (follows_number _ k (follows_for_turns (int_gap p q) x p (follows_block body)))))
      follows_statement (parallel body) = with_number follows_cursor (λ t u h. follows_parallel body h h)
      follows_statement (sequential body) = follows_block body
      follows_statement (record_as name body) = follows_recorded name (follows_block body)
      follows_statement (try_do body handlers) = follows_attempt (follows_block body) (follows_handler handlers)

      pub follows_block : (b : Block) → FollowsPart session (block scope callee b) (C.block scope called b)
      follows_block done = follows_skip
      follows_block (line_then line first rest) = follows_then (follows_statement first) (follows_block rest)

      follows_parallel : (b : Block) {t g : ℤ} {u v : Span} → IsWithin t u → IsWithin g v → FollowsPart session (parallel_block scope callee b t g) (C.parallel_block scope called b u v)
      follows_parallel done h k = follows_set k
      follows_parallel (line_then line first rest) {g} {u} {v} h k =
          follows_then (follows_set h)
          (follows_then (follows_statement first)
          (with_number {g = λ y. after (S.within_reach (span_max v y)) (C.parallel_block scope called rest u)} follows_cursor
          (λ x y l. follows_reach (C.parallel_block scope called rest u) (follows_parallel rest h (max-within g x v y k l)))))

      follows_otherwise : (rest : Otherwise) → FollowsPart session (otherwise scope callee rest) (C.otherwise scope called rest)
      follows_otherwise no_else = follows_skip
      follows_otherwise (else_do body) = follows_block body
      follows_otherwise (elif_then line condition body rest) = follows_choice condition (follows_block body) (follows_otherwise rest)

      follows_handler : (handlers : Handlers) (x : Exc) → FollowsPart session (handler scope callee handlers x) (C.handler scope called handlers x)
      follows_handler no_handler x = follows_stop (by_raising x)
      follows_handler (except_then line name body rest) x =
          follows_if (bytes_eq name (name_of_exception x)) (follows_block body) (follows_handler rest x)
