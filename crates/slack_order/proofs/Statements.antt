-- Statements and blocks follow those of the other run.
use Rattle.std.proofs.Common.{ℕ, zero, suc, Bool, true, false, List, [], ◌∷◌, Option, Some, None}
use Rattle.std.specs.Prelude.{pos, ⊤, replicate, bytes_eq, if◌then◌else◌}
use Rattle.rtio_types.specs.declared.outcome.Exc.{Exc}
use Rattle.rtio_types.specs.Integers.{is_true}
use Rattle.kern_syntax.specs.Tree.{Bytes, Expression, variable, Statement, pass, evaluate, assign, assign_element, augment, augment_element, assign_repeated, assign_list, if_then, while_do, for_range, parallel, sequential, record_as, try_do, Block, done, line_then, Otherwise, no_else, else_do, elif_then, Handlers, no_handler, except_then}
use Rattle.kern_syntax.specs.Tree as T
use Rattle.kern_calls.specs.declared.types.ValueType.TheVariants.{Int64}
use Rattle.kern_calls.specs.Types.{Scope, type_of}
use Rattle.timeline_sem.specs.Statements.{name_of_exception, operator_of}
use Rattle.slack_meaning.specs.declared.span.Span.{Span}
use Rattle.slack_meaning.specs.Actions.{number, list, Action, as_number, ◌>>=◌}
use Rattle.slack_meaning.specs.Expressions.{Callee}
use Rattle.slack_meaning.specs.Statements.{either, value, values, optional_value, statement, block, parallel_block, otherwise, handler}
use Rattle.slack_order.proofs.Inside.{IsInside, inside-exactly, max-inside}
use Rattle.slack_order.proofs.Standing.{AreInside, by_break, by_continue, by_return, by_raising}
use Rattle.slack_order.proofs.Following.{Follows, FollowsPart, follows_bind, follows_then, follows_same, follows_give, follows_skip, follows_stop, follows_cursor, follows_set, follows_number, follows_reach}
use Rattle.slack_order.proofs.Values.{span-in, follows_read, follows_write, follows_read_element, follows_write_element, follows_operate}
use Rattle.slack_order.proofs.Expressions.{FollowsCalls, follows_expression}
use Rattle.slack_order.proofs.Control.{follows_either, follows_while, follows_between, follows_recorded, follows_attempt}

-- an array of the same value
pub replicated : (n : ℕ) {u v : Span} → IsInside u v → AreInside (replicate n u) (replicate n v)
replicated zero h = tt
replicated (suc n) h = (h, replicated n h)

follows_if : (p : Bool) {m n k l : Action ⊤} → FollowsPart m n → FollowsPart k l → FollowsPart (if p then m else k) (if p then n else l)
follows_if true h k = h
follows_if false h k = k

module _ (scope : Scope) (callee called : Callee) (follows_callee : FollowsCalls callee called) where
  follows_value : (e : Expression) → Follows IsInside (value scope callee e) (value scope called e)
  follows_value e = follows_expression scope callee called follows_callee e

  follows_values : (es : List Expression) → Follows AreInside (values scope callee es) (values scope called es)
  follows_values [] = follows_give tt
  follows_values (e ∷ rest) =
      follows_bind (follows_value e) (λ u v h. follows_bind (follows_values rest) (λ us vs k. follows_give (h, k)))

  follows_optional : (e : Option Expression) → Follows IsInside (optional_value scope callee e) (optional_value scope called e)
  follows_optional None = follows_give (inside-exactly (pos 0))
  follows_optional (Some e) = follows_value e

  -- a condition decides between two parts
  follows_choice : (condition : Expression) {m n k l : Action ⊤} → FollowsPart m n → FollowsPart k l
      → FollowsPart (do holds ← value scope callee condition; x ← as_number holds; either (is_true x) m k) (do holds ← value scope called condition; x ← as_number holds; either (is_true x) n l)
  follows_choice condition h k =
      follows_bind (follows_value condition)
      (λ u v l. follows_same (follows_number l) (λ n. follows_either (is_true n) h k))

  mutual
    follows_statement : (s : Statement) → FollowsPart (statement scope callee s) (statement scope called s)
    follows_statement pass = follows_skip
    follows_statement T.break = follows_stop by_break
    follows_statement T.continue = follows_stop by_continue
    follows_statement (T.return e) = follows_bind (follows_optional e) (λ u v h. follows_stop (by_return h))
    follows_statement (evaluate e) = follows_bind (follows_value e) (λ u v h. follows_skip)
    follows_statement (assign x e) =
        follows_bind (follows_value e) (λ u v h. follows_write x (number u) (number v) h)
    follows_statement (assign_element x i e) =
        follows_bind (follows_value e)
        (λ a b h. follows_bind (follows_value i) (λ u v k. follows_write_element x k h))
    follows_statement (augment x op e) =
        follows_bind (follows_read x)
        (λ v w l. follows_bind (follows_value e)
        (λ a b h. follows_bind (follows_operate (operator_of op) (type_of scope (variable x)) (span-in v w l) h)
        (λ s t k. follows_write x (number s) (number t) k)))
    follows_statement (augment_element x i op e) =
        follows_bind (follows_value i)
        (λ u v j. follows_bind (follows_read_element x j)
        (λ s t l. follows_bind (follows_value e)
        (λ a b h. follows_bind (follows_operate (operator_of op) Int64 l h)
        (λ c d k. follows_write_element x j k))))
    follows_statement (assign_repeated x e n) =
        follows_bind (follows_value e)
        (λ u v h. follows_write x (list (replicate n u)) (list (replicate n v)) (replicated n h))
    follows_statement (assign_list x es) =
        follows_bind (follows_values es) (λ us vs h. follows_write x (list us) (list vs) h)
    follows_statement (if_then condition body rest) = follows_choice condition (follows_block body) (follows_otherwise rest)
    follows_statement (while_do condition body) = follows_while (follows_value condition) (follows_block body)
    follows_statement (for_range x from to body) =
        follows_bind (follows_optional from)
        (λ u v h. follows_bind (follows_value to) (λ s t k. follows_between x h k (follows_block body)))
    follows_statement (parallel body) = follows_bind follows_cursor (λ u v h. follows_parallel body h h)
    follows_statement (sequential body) = follows_block body
    follows_statement (record_as name body) = follows_recorded name (follows_block body)
    follows_statement (try_do body handlers) = follows_attempt (follows_block body) (follows_handler handlers)

    pub follows_block : (b : Block) → FollowsPart (block scope callee b) (block scope called b)
    follows_block done = follows_skip
    follows_block (line_then line first rest) = follows_then (follows_statement first) (follows_block rest)

    follows_parallel : (b : Block) {u v s t : Span} → IsInside u v → IsInside s t → FollowsPart (parallel_block scope callee b u s) (parallel_block scope called b v t)
    follows_parallel done h k = follows_set k
    follows_parallel (line_then line first rest) {s} {t} h k =
        follows_then (follows_set h)
        (follows_then (follows_statement first)
        (follows_bind follows_cursor
        (λ x y l. follows_bind (follows_reach (max-inside s x t y k l)) (λ a b m. follows_parallel rest h m))))

    follows_otherwise : (rest : Otherwise) → FollowsPart (otherwise scope callee rest) (otherwise scope called rest)
    follows_otherwise no_else = follows_skip
    follows_otherwise (else_do body) = follows_block body
    follows_otherwise (elif_then line condition body rest) = follows_choice condition (follows_block body) (follows_otherwise rest)

    follows_handler : (handlers : Handlers) (x : Exc) → FollowsPart (handler scope callee handlers x) (handler scope called handlers x)
    follows_handler no_handler x = follows_stop (by_raising x)
    follows_handler (except_then line name body rest) x =
        follows_if (bytes_eq name (name_of_exception x)) (follows_block body) (follows_handler rest x)
