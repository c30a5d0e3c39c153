-- The same for statements, functions and calls, and what follows: with more replies a meaning goes on.
use Rattle.std.proofs.Common.{◌≡◌, ℕ, zero, suc, List, [], ◌∷◌, Option, Some, None, refl, sym, ◌∙◌, ap, append-nil, subst}
use Rattle.std.specs.Prelude.{slice_get, ℤ, pos, ◌+ℤ◌, ⊤, Bool, true, false, bytes_eq, if◌then◌else◌}
use Rattle.std.specs.Int.{int_gap, int_max}
use Rattle.rtio_types.specs.declared.outcome.Exc.{Exc}
use Rattle.rtio_types.specs.declared.outcome.Exc.TheVariants.{StackOverflow}
use Rattle.rtio_types.specs.declared.request.Request.{Request}
use Rattle.rtio_types.specs.declared.request.Value.{Value}
use Rattle.rtio_types.specs.declared.request.Value.TheVariants as W
use Rattle.rtio_types.specs.Integers.{is_true}
use Rattle.kern_syntax.specs.Tree.{Bytes, Expression, variable, Statement, pass, evaluate, assign, assign_element, augment, augment_element, assign_repeated, assign_list, if_then, while_do, for_range, parallel, sequential, record_as, try_do, Block, done, line_then, Otherwise, no_else, else_do, elif_then, Handlers, no_handler, except_then, FunctionTree, ProgramTree}
use Rattle.kern_syntax.specs.Tree as T
use Rattle.kern_calls.specs.declared.types.ValueType.TheVariants.{Int64}
use Rattle.kern_calls.specs.Types.{Scope, type_of, names_of, function_named}
use Rattle.timeline_sem.specs.Actions.{State, break, continue, return, raised, budget, unanswered, Completion, normal, early, Action, stop, take_unit}
use Rattle.timeline_sem.specs.Expressions.{Callee, number_in_value, expression}
use Rattle.timeline_sem.specs.Statements.{operator_of, when, either, after_turn, turn, while_turns, while_loop, for_turns, leave_recording, save_request, save_after, end_recording, recorded, after_try, attempt, values, optional_value, statement, block, parallel_block, otherwise, handler, name_of_exception}
use Rattle.timeline_sem.specs.Laws.{RepliesExtend, GoesOn, final}
use Rattle.timeline_sem.specs.Programs.{Meaning, meaning_of, opening, call_room, initial_values, leave_function, optional_body, function_call}
use Rattle.rtio_types.specs.declared.request.Reply.{Reply}
use Rattle.timeline_sem.proofs.KeepsWhole.{kept_final, AskedGrow, asked_grow, asked_grow_by_asking, grown_from, keeps_after_turn, keeps_while, keeps_save_after, keeps_end_recording, keeps_recorded, keeps_after_try, keeps_attempt, keeps_left, keeps_body}
use Rattle.timeline_sem.proofs.Extends.{Extended, Extends, with_more, extends_bind, extends_then, extends_give, extends_stop, extends_skip, extends_take_unit, extends_ask, extends_cursor_now, extends_set_cursor, extends_read, extends_write, extends_read_element, extends_write_element, extends_operate, extends_expression}

module _ (further : List Reply) where
  extends_when : (b : Bool) (action : Action ⊤) → Extends further action → Extends further (when b action)
  extends_when true action k = k
  extends_when false action k = extends_skip further

  extends_either : (b : Bool) (first second : Action ⊤) → Extends further first → Extends further second → Extends further (either b first second)
  extends_either true first second k l = k
  extends_either false first second k l = l

  extended_after_turn : (c d : Completion ⊤) (again : Action ⊤) → Extended further c d → Extends further again → Extended further (after_turn c again) (after_turn d again)
  extended_after_turn (normal a s) d again e k = subst (λ d'. Extended further (again s) (after_turn d' again)) (sym e) (k.from s)
  extended_after_turn (early continue s) d again e k = subst (λ d'. Extended further (again s) (after_turn d' again)) (sym e) (k.from s)
  extended_after_turn (early break s) d again e k = ap (λ d'. after_turn d' again) e
  extended_after_turn (early (return v) s) d again e k = ap (λ d'. after_turn d' again) e
  extended_after_turn (early (raised x) s) d again e k = ap (λ d'. after_turn d' again) e
  extended_after_turn (early budget s) d again e k = ap (λ d'. after_turn d' again) e
  extended_after_turn (early unanswered s) d again e k = keeps_after_turn AskedGrow AskedGrow asked_grow s d again e k.grows

  extends_turn : (body again : Action ⊤) → Extends further body → Extends further again → Extends further (turn body again)
  extends_turn body again k l =
      extends_then further (extends_take_unit further) (record {
        from = λ s. extended_after_turn (body s) (body (with_more further s)) again (k.from s) l;
        grows = record { from = λ s. keeps_after_turn AskedGrow AskedGrow asked_grow s (body s) again (k.grows.from s) l.grows };
      })

  extends_while_turns : (n : ℕ) (condition : Action ℤ) (body : Action ⊤) → Extends further condition → Extends further body → Extends further (while_turns n condition body)
  extends_while_turns zero condition body k l =
      extends_bind further k (λ holds. extends_when (is_true holds) (stop budget) (extends_stop further budget))
  extends_while_turns (suc n) condition body k l =
      extends_bind further k (λ holds. extends_when (is_true holds) (turn body (while_turns n condition body)) (extends_turn body (while_turns n condition body) l (extends_while_turns n condition body k l)))

  pub extends_while : (condition : Action ℤ) (body : Action ⊤) → Extends further condition → Extends further body → Extends further (while_loop condition body)
  extends_while condition body k l =
      record {
        from = λ s. (extends_while_turns s.units condition body k l).from s;
        grows = keeps_while AskedGrow AskedGrow asked_grow condition body k.grows l.grows;
      }

  extends_for_turns : (n : ℕ) (x : Bytes) (from : ℤ) (body : Action ⊤) → Extends further body → Extends further (for_turns n x from body)
  extends_for_turns zero x from body k = extends_skip further
  extends_for_turns (suc n) x from body k =
      extends_turn _ _ (extends_then further (extends_write further x (W.Int from)) k) (extends_for_turns n x (from +ℤ pos 1) body k)

  extended_save_after : (q : Request) (before : State) (c d : Completion ⊤) → Extended further c d → Extended further (save_after q before c) (save_after q (with_more further before) d)
  extended_save_after q before (normal a s) d e =
      subst (λ d'. Extended further (save_after q before (normal a s)) (save_after q (with_more further before) d')) (sym e) ((extends_bind further (extends_ask further q) (λ reply. extends_skip further)).from (leave_recording before s))
  extended_save_after q before (early break s) d e = ap (λ d'. save_after q (with_more further before) d') e
  extended_save_after q before (early continue s) d e = ap (λ d'. save_after q (with_more further before) d') e
  extended_save_after q before (early (return v) s) d e = ap (λ d'. save_after q (with_more further before) d') e
  extended_save_after q before (early (raised x) s) d e = ap (λ d'. save_after q (with_more further before) d') e
  extended_save_after q before (early budget s) d e = ap (λ d'. save_after q (with_more further before) d') e
  extended_save_after q before (early unanswered s) d e =
      grown_from (leave_recording before s) s _ (asked_grow.same s) (keeps_save_after AskedGrow AskedGrow asked_grow asked_grow_by_asking s q (with_more further before) d e)

  extended_end_recording : (name : Bytes) (before : State) (c d : Completion ⊤) → Extended further c d → Extended further (end_recording name before c) (end_recording name (with_more further before) d)
  extended_end_recording name before (normal a s) d e =
      subst (λ d'. Extended further (end_recording name before (normal a s)) (end_recording name (with_more further before) d')) (sym e) (extended_save_after (save_request name s) before (take_unit s) (take_unit (with_more further s)) ((extends_take_unit further).from s))
  extended_end_recording name before (early break s) d e = ap (λ d'. end_recording name (with_more further before) d') e
  extended_end_recording name before (early continue s) d e = ap (λ d'. end_recording name (with_more further before) d') e
  extended_end_recording name before (early (return v) s) d e = ap (λ d'. end_recording name (with_more further before) d') e
  extended_end_recording name before (early (raised x) s) d e = ap (λ d'. end_recording name (with_more further before) d') e
  extended_end_recording name before (early budget s) d e = ap (λ d'. end_recording name (with_more further before) d') e
  extended_end_recording name before (early unanswered s) d e =
      grown_from (leave_recording before s) s _ (asked_grow.same s) (keeps_end_recording AskedGrow AskedGrow asked_grow s name (with_more further before) d e)

  -- the state in which the body of a record block begins
  abbrev recording_from : State → State
  recording_from s = record s { cursor = pos 0; collected = Some [] }

  extends_recorded : (name : Bytes) (body : Action ⊤) → Extends further body → Extends further (recorded name body)
  extends_recorded name body k =
      record {
        from = λ s. extended_end_recording name s (body (recording_from s)) (body (recording_from (with_more further s))) (k.from (recording_from s));
        grows = keeps_recorded AskedGrow AskedGrow asked_grow name body k.grows;
      }

  extended_after_try : (c d : Completion ⊤) (handle : Exc → Action ⊤) → Extended further c d → ((x : Exc) → Extends further (handle x)) → Extended further (after_try c handle) (after_try d handle)
  extended_after_try (normal a s) d handle e k = ap (λ d'. after_try d' handle) e
  extended_after_try (early (raised x) s) d handle e k = subst (λ d'. Extended further (handle x s) (after_try d' handle)) (sym e) ((k x).from s)
  extended_after_try (early break s) d handle e k = ap (λ d'. after_try d' handle) e
  extended_after_try (early continue s) d handle e k = ap (λ d'. after_try d' handle) e
  extended_after_try (early (return v) s) d handle e k = ap (λ d'. after_try d' handle) e
  extended_after_try (early budget s) d handle e k = ap (λ d'. after_try d' handle) e
  extended_after_try (early unanswered s) d handle e k =
      keeps_after_try AskedGrow AskedGrow asked_grow s d handle e (λ x. (k x).grows)

  extends_attempt : (body : Action ⊤) (handle : Exc → Action ⊤) → Extends further body → ((x : Exc) → Extends further (handle x)) → Extends further (attempt body handle)
  extends_attempt body handle k l =
      record {
        from = λ s. extended_after_try (body s) (body (with_more further s)) handle (k.from s) l;
        grows = keeps_attempt AskedGrow AskedGrow asked_grow body handle k.grows (λ x. (l x).grows);
      }

  extends_if : (b : Bool) (first second : Action ⊤) → Extends further first → Extends further second → Extends further (if b then first else second)
  extends_if true first second k l = k
  extends_if false first second k l = l

  module _ (scope : Scope) (callee : Callee) (extends_callee : (f : Bytes) (numbers : List ℤ) → Extends further (callee f numbers)) where
    extends_value : (e : Expression) → Extends further (expression scope callee e)
    extends_value e = extends_expression further scope callee extends_callee e

    extends_values : (es : List Expression) → Extends further (values scope callee es)
    extends_values [] = extends_give further []
    extends_values (e ∷ rest) =
        extends_bind further (extends_value e) (λ a. extends_bind further (extends_values rest) (λ others. extends_give further (a ∷ others)))

    extends_optional : (e : Option Expression) → Extends further (optional_value scope callee e)
    extends_optional None = extends_give further (pos 0)
    extends_optional (Some e) = extends_value e

    mutual
      extends_statement : (s : Statement) → Extends further (statement scope callee s)
      extends_statement pass = extends_skip further
      extends_statement T.break = extends_stop further break
      extends_statement T.continue = extends_stop further continue
      extends_statement (T.return e) = extends_bind further (extends_optional e) (λ a. extends_stop further (return a))
      extends_statement (evaluate e) = extends_bind further (extends_value e) (λ a. extends_skip further)
      extends_statement (assign x e) = extends_bind further (extends_value e) (λ a. extends_write further x (W.Int a))
      extends_statement (assign_element x i e) =
          extends_bind further (extends_value e) (λ a. extends_bind further (extends_value i) (λ place. extends_write_element further x place a))
      extends_statement (augment x op e) =
          extends_bind further (extends_read further x) (λ held. extends_bind further (extends_value e) (λ a. extends_bind further (extends_operate further (operator_of op) (type_of scope (variable x)) (number_in_value held) a) (λ new. extends_write further x (W.Int new))))
      extends_statement (augment_element x i op e) =
          extends_bind further (extends_value i) (λ place. extends_bind further (extends_read_element further x place) (λ held. extends_bind further (extends_value e) (λ a. extends_bind further (extends_operate further (operator_of op) Int64 held a) (λ new. extends_write_element further x place new))))
      extends_statement (assign_repeated x e n) = extends_bind further (extends_value e) (λ a. extends_write further x _)
      extends_statement (assign_list x es) = extends_bind further (extends_values es) (λ items. extends_write further x (W.List items))
      extends_statement (if_then condition body rest) =
          extends_bind further (extends_value condition) (λ holds. extends_either (is_true holds) (block scope callee body) (otherwise scope callee rest) (extends_block body) (extends_otherwise rest))
      extends_statement (while_do condition body) = extends_while _ _ (extends_value condition) (extends_block body)
      extends_statement (for_range x from to body) =
          extends_bind further (extends_optional from) (λ start. extends_bind further (extends_value to) (λ end. extends_for_turns (int_gap start end) x start (block scope callee body) (extends_block body)))
      extends_statement (parallel body) =
          extends_bind further (extends_cursor_now further) (λ start. extends_parallel body start start)
      extends_statement (sequential body) = extends_block body
      extends_statement (record_as name body) = extends_recorded name (block scope callee body) (extends_block body)
      extends_statement (try_do body handlers) =
          extends_attempt (block scope callee body) (handler scope callee handlers) (extends_block body) (extends_handler handlers)

      extends_block : (b : Block) → Extends further (block scope callee b)
      extends_block done = extends_skip further
      extends_block (line_then line first rest) = extends_then further (extends_statement first) (extends_block rest)

      extends_parallel : (b : Block) (start greatest : ℤ) → Extends further (parallel_block scope callee b start greatest)
      extends_parallel done start greatest = extends_set_cursor further greatest
      extends_parallel (line_then line first rest) start greatest =
          extends_then further (extends_set_cursor further start) (extends_then further (extends_statement first) (extends_bind further (extends_cursor_now further) (λ t. extends_parallel rest start (int_max greatest t))))

      extends_otherwise : (rest : Otherwise) → Extends further (otherwise scope callee rest)
      extends_otherwise no_else = extends_skip further
      extends_otherwise (else_do body) = extends_block body
      extends_otherwise (elif_then line condition body rest) =
          extends_bind further (extends_value condition) (λ holds. extends_either (is_true holds) (block scope callee body) (otherwise scope callee rest) (extends_block body) (extends_otherwise rest))

      extends_handler : (handlers : Handlers) (x : Exc) → Extends further (handler scope callee handlers x)
      extends_handler no_handler x = extends_stop further (raised x)
      extends_handler (except_then line name body rest) x =
          extends_if (bytes_eq name (name_of_exception x)) (block scope callee body) (handler scope callee rest x) (extends_block body) (extends_handler rest x)

  extended_left : (values : List (Bytes × Value)) (c : Completion ⊤) (d : Completion ⊤) → Extended further c d → Extended further (leave_function values c) (leave_function values d)
  extended_left values (normal a s) d e = ap (λ d'. leave_function values d') e
  extended_left values (early (return v) s) d e = ap (λ d'. leave_function values d') e
  extended_left values (early break s) d e = ap (λ d'. leave_function values d') e
  extended_left values (early continue s) d e = ap (λ d'. leave_function values d') e
  extended_left values (early (raised x) s) d e = ap (λ d'. leave_function values d') e
  extended_left values (early budget s) d e = ap (λ d'. leave_function values d') e
  extended_left values (early unanswered s) d e =
      grown_from (record s { values = values }) s (leave_function values d) (asked_grow.same s) (keeps_left AskedGrow AskedGrow asked_grow s values d e)

  pub extends_body : (program : ProgramTree) (callee : Callee) → ((f : Bytes) (numbers : List ℤ) → Extends further (callee f numbers)) → (f : Option FunctionTree) (args : List ℤ) → Extends further (optional_body program callee f args)
  extends_body program callee k (Some f) args =
      record {
        from = λ s. extended_left s.values _ _ ((extends_block (record { program = program; names = names_of program f }) callee k f.body).from (record s { values = initial_values (names_of program f) args }));
        grows = keeps_body AskedGrow AskedGrow asked_grow program callee (λ g numbers. (k g numbers).grows) (Some f) args;
      }
  extends_body program callee k None args = extends_give further (pos 0)

  -- a call keeps the relation
  pub extends_function_call : (program : ProgramTree) (room : ℕ) (f : Bytes) (args : List ℤ) → Extends further (function_call program room f args)
  extends_function_call program zero f args = extends_then further (extends_take_unit further) (extends_stop further (raised StackOverflow))
  extends_function_call program (suc room) f args =
      extends_then further (extends_take_unit further) (extends_body program (function_call program room) (extends_function_call program room) (function_named program f) args)

-- a completion as a meaning has the requests of its state
requests_of_meaning : (c : Completion ℤ) → (meaning_of c).requests ≡ (final c).asked
requests_of_meaning (normal v s) = refl
requests_of_meaning (early reason s) = refl

-- an end that lacks no reply is the same, and has the same requests
same_meaning : (fewer more : Meaning) → more ≡ fewer → GoesOn fewer more
same_meaning fewer more e = record { ended = λ not. e; asked = ([], ap (λ m. m.requests) e ∙ sym (append-nil fewer.requests)) }

goes_on : (further : List Reply) (c d : Completion ℤ) → Extended further c d → GoesOn (meaning_of c) (meaning_of d)
goes_on further (normal v s) d e = same_meaning (meaning_of (normal v s)) (meaning_of d) (ap meaning_of e)
goes_on further (early break s) d e = same_meaning (meaning_of (early break s)) (meaning_of d) (ap meaning_of e)
goes_on further (early continue s) d e = same_meaning (meaning_of (early continue s)) (meaning_of d) (ap meaning_of e)
goes_on further (early (return v) s) d e = same_meaning (meaning_of (early (return v) s)) (meaning_of d) (ap meaning_of e)
goes_on further (early (raised x) s) d e = same_meaning (meaning_of (early (raised x) s)) (meaning_of d) (ap meaning_of e)
goes_on further (early budget s) d e = same_meaning (meaning_of (early budget s)) (meaning_of d) (ap meaning_of e)
goes_on further (early unanswered s) d e =
    let more = kept_final AskedGrow s d e in
    record { ended = λ not. absurd (not refl); asked = (more.0, requests_of_meaning d ∙ more.1) }

-- what a program means under more replies goes on from what it means under fewer
pub replies_extend_meanings : (program : ProgramTree) → RepliesExtend program
replies_extend_meanings program function args cursor units replies further =
    goes_on further _ _ ((extends_body further program (function_call program call_room) (extends_function_call further program call_room) (slice_get program function) args).from (opening cursor units replies))
