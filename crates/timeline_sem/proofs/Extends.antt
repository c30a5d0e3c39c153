-- What a part does under some replies it does under more of them: a part that ends, ends so again, and one that lacks a
-- reply has asked its requests and may ask further ones.
use Rattle.std.proofs.Common.{◌≡◌, ℕ, zero, suc, List, [], ◌∷◌, ◌++◌, Option, Some, None, refl, sym, ap, subst}
use Rattle.std.specs.Prelude.{ℤ, pos, ⊤, Bool, true, false, not}
use Rattle.rtio_types.specs.declared.event.Event.{Event}
use Rattle.rtio_types.specs.declared.outcome.Exc.{Exc}
use Rattle.rtio_types.specs.declared.outcome.Exc.TheVariants.{IndexError, ZeroDivisionError}
use Rattle.rtio_types.specs.declared.request.Request.{Request}
use Rattle.rtio_types.specs.declared.request.Request.TheVariants as Q
use Rattle.rtio_types.specs.declared.request.Reply.{Reply}
use Rattle.rtio_types.specs.declared.request.Reply.TheVariants as Y
use Rattle.rtio_types.specs.declared.request.Value.{Value}
use Rattle.rtio_types.specs.declared.request.Value.TheVariants as W
use Rattle.rtio_types.specs.Replies.{raised_by}
use Rattle.rtio_types.specs.Integers.{is_true}
use Rattle.kern_syntax.specs.Tree.{Bytes, Expression, integer, true_literal, false_literal, variable, element, group, unary, binary, compare, negation, conjunction, disjunction, call, method, Arguments, no_more, value_then, text_then}
use Rattle.kern_calls.specs.declared.types.ValueType.{ValueType}
use Rattle.kern_calls.specs.declared.calls.Builtin.{Builtin}
use Rattle.kern_calls.specs.declared.calls.Builtin.TheVariants as B
use Rattle.kern_calls.specs.declared.calls.Operation.{Operation}
use Rattle.kern_calls.specs.declared.calls.Operation.TheVariants as P
use Rattle.kern_calls.specs.Calls.{builtin_named, method_named}
use Rattle.kern_calls.specs.Types.{Scope, type_of, bits_of}
use Rattle.kern_syntax.specs.declared.expression.BinaryOperator.{BinaryOperator}
use Rattle.timeline_sem.specs.Actions.{State, Reason, break, continue, return, raised, budget, unanswered, Completion, normal, early, Action, go_on, give, skip, stop, take_unit_of, take_unit, next_reply_of, raise_if, ask, request, cursor_now, set_cursor, ◌>>=◌, ◌>>◌}
use Rattle.timeline_sem.specs.Timeline.{delay, tell, inquire, append_event, submit_or_collect, output, gate, on_edge, count_edges, count_all_edges, play_events, play_reply, play, pulse_for, move_to_real_time, reset_core, no_value, perform, event_at}
use Rattle.timeline_sem.specs.Numbers.{exact_result}
use Rattle.timeline_sem.specs.Expressions.{Callee, array_or_number, read, write as write_name, or_raise, place_in, with_item, list_in_value, number_in_value, read_element, write_element, operate, array_in, dataset_value, text_in, perform_builtin, perform_call, perform_method, unless_decided, expression, arguments}
use Rattle.timeline_sem.proofs.Keeps.{Kept, Keeps, keeps_go_on, keeps_bind, keeps_then, keeps_give, keeps_stop, keeps_skip, keeps_take_unit, keeps_ask, keeps_cursor_now, keeps_set_cursor, keeps_append, keeps_output, keeps_count, keeps_read, keeps_write}
use Rattle.timeline_sem.proofs.KeepsWhole.{AskedGrow, asked_grow, asked_grow_by_asking, grown_from}

module _ (further : List Reply) where
  -- the state with more replies left
  abbrev pub with_more : State → State
  with_more s = record s { replies = s.replies ++ further }

  -- what an end becomes with more replies: the same, but for the replies left, if it lacked none
  abbrev pub Extended : {A : Type 0} → Completion A → Completion A → Type 0
  Extended (normal a s) c = c ≡ normal a (with_more s)
  Extended (early break s) c = c ≡ early break (with_more s)
  Extended (early continue s) c = c ≡ early continue (with_more s)
  Extended (early (return v) s) c = c ≡ early (return v) (with_more s)
  Extended (early (raised x) s) c = c ≡ early (raised x) (with_more s)
  Extended (early budget s) c = c ≡ early budget (with_more s)
  Extended (early unanswered s) c = Kept AskedGrow AskedGrow s c

  -- a part that does so from each state, and only adds requests
  pub record Extends {A : Type 0} (action : Action A) : Type 0 where
    pub from : (s : State) → Extended (action s) (action (with_more s))
    pub grows : Keeps AskedGrow AskedGrow asked_grow action

  extended_go_on : {A B : Type 0} (c d : Completion A) (f : A → Action B) → Extended c d → ((a : A) → Extends (f a)) → Extended (go_on c f) (go_on d f)
  extended_go_on (normal a s) d f e k = subst (λ d'. Extended (f a s) (go_on d' f)) (sym e) ((k a).from s)
  extended_go_on (early break s) d f e k = ap (λ d'. go_on d' f) e
  extended_go_on (early continue s) d f e k = ap (λ d'. go_on d' f) e
  extended_go_on (early (return v) s) d f e k = ap (λ d'. go_on d' f) e
  extended_go_on (early (raised x) s) d f e k = ap (λ d'. go_on d' f) e
  extended_go_on (early budget s) d f e k = ap (λ d'. go_on d' f) e
  extended_go_on (early unanswered s) d f e k = keeps_go_on AskedGrow AskedGrow asked_grow s d f e (λ a. (k a).grows)

  pub extends_bind : {A B : Type 0} {m : Action A} {f : A → Action B} → Extends m → ((a : A) → Extends (f a)) → Extends (m >>= f)
  extends_bind {m} {f} km kf =
      record {
        from = λ s. extended_go_on (m s) (m (with_more s)) f (km.from s) kf;
        grows = keeps_bind AskedGrow AskedGrow asked_grow km.grows (λ a. (kf a).grows);
      }

  pub extends_then : {A B : Type 0} {m : Action A} {n : Action B} → Extends m → Extends n → Extends (m >> n)
  extends_then {m} {n} km kn =
      record {
        from = λ s. extended_go_on (m s) (m (with_more s)) (λ a. n) (km.from s) (λ a. kn);
        grows = keeps_then AskedGrow AskedGrow asked_grow km.grows kn.grows;
      }

  pub extends_give : {A : Type 0} (a : A) → Extends (give a)
  extends_give a = record { from = λ s. refl; grows = keeps_give AskedGrow AskedGrow asked_grow a }

  pub extends_stop : {A : Type 0} (reason : Reason) → Extends (stop {A = A} reason)
  extends_stop break = record { from = λ s. refl; grows = keeps_stop AskedGrow AskedGrow asked_grow break asked_grow.same }
  extends_stop continue = record { from = λ s. refl; grows = keeps_stop AskedGrow AskedGrow asked_grow continue asked_grow.same }
  extends_stop (return v) = record { from = λ s. refl; grows = keeps_stop AskedGrow AskedGrow asked_grow (return v) asked_grow.same }
  extends_stop (raised x) = record { from = λ s. refl; grows = keeps_stop AskedGrow AskedGrow asked_grow (raised x) asked_grow.same }
  extends_stop budget = record { from = λ s. refl; grows = keeps_stop AskedGrow AskedGrow asked_grow budget asked_grow.same }
  extends_stop unanswered =
      record { from = λ s. asked_grow.same s; grows = keeps_stop AskedGrow AskedGrow asked_grow unanswered asked_grow.same }

  pub extends_skip : Extends skip
  extends_skip = record { from = λ s. refl; grows = keeps_skip AskedGrow AskedGrow asked_grow }

  pub extends_cursor_now : Extends cursor_now
  extends_cursor_now = record { from = λ s. refl; grows = keeps_cursor_now AskedGrow AskedGrow asked_grow }

  pub extends_set_cursor : (t : ℤ) → Extends (set_cursor t)
  extends_set_cursor t = record { from = λ s. refl; grows = keeps_set_cursor AskedGrow AskedGrow asked_grow t }

  extended_taken : (s : State) (n : ℕ) → Extended (take_unit_of n s) (take_unit_of n (with_more s))
  extended_taken s zero = refl
  extended_taken s (suc n) = refl

  pub extends_take_unit : Extends take_unit
  extends_take_unit =
      record { from = λ s. extended_taken s s.units; grows = keeps_take_unit AskedGrow AskedGrow asked_grow }

  -- a reply that is there is the same with more behind it
  extended_reply : (s : State) (x : Option Exc) (reply : Reply) → Extended (raise_if x reply s) (raise_if x reply (with_more s))
  extended_reply s None reply = refl
  extended_reply s (Some x) reply = refl

  -- reading a reply asks nothing
  asked_replied : (x : Option Exc) (reply : Reply) (s : State) (others : List Reply) → Kept AskedGrow AskedGrow s (raise_if x reply (record s { replies = others }))
  asked_replied None reply s others = asked_grow.same s
  asked_replied (Some x) reply s others = asked_grow.same s

  asked_answered : (s : State) (replies : List Reply) → Kept AskedGrow AskedGrow s (go_on (next_reply_of replies s) (λ reply. raise_if (raised_by reply) reply))
  asked_answered s [] = asked_grow.same s
  asked_answered s (r ∷ others) = asked_replied (raised_by r) r s others

  extended_answer : (s : State) (replies : List Reply) → Extended (go_on (next_reply_of replies s) (λ reply. raise_if (raised_by reply) reply)) (go_on (next_reply_of (replies ++ further) (with_more s)) (λ reply. raise_if (raised_by reply) reply))
  extended_answer s [] =
      grown_from s (with_more s) _ (asked_grow.same s) (asked_answered (with_more s) further)
  extended_answer s (r ∷ others) = extended_reply (record s { replies = others }) (raised_by r) r

  pub extends_ask : (q : Request) → Extends (ask q)
  extends_ask q =
      record { from = λ s. extended_answer (record s { asked = s.asked ++ q ∷ [] }) s.replies; grows = keeps_ask AskedGrow AskedGrow asked_grow asked_grow_by_asking q }

  pub extends_request : (q : Request) → Extends (request q)
  extends_request q = extends_then extends_take_unit (extends_ask q)

  pub extends_tell : (q : Request) → Extends (tell q)
  extends_tell q = extends_bind (extends_request q) (λ r. extends_skip)

  pub extends_inquire : (q : Request) → Extends (inquire q)
  extends_inquire q = extends_bind (extends_request q) (λ r. extends_give _)

  pub extends_delay : (d : ℤ) → Extends (delay d)
  extends_delay d = extends_bind extends_cursor_now (λ t. extends_set_cursor _)

  extends_append : (event : Event) → Extends (append_event event)
  extends_append event = record { from = λ s. refl; grows = keeps_append AskedGrow AskedGrow asked_grow event }

  extends_submit : (c : Option (List Event)) (event : Event) → Extends (submit_or_collect c event)
  extends_submit None event = extends_tell (Q.Out event)
  extends_submit (Some events) event = extends_then extends_take_unit (extends_append event)

  pub extends_output : (channel address : ℕ) (d : ℤ) → Extends (output channel address d)
  extends_output channel address d = record {
    from = λ s. (extends_submit s.collected (event_at s.cursor channel address d)).from s;
    grows = keeps_output AskedGrow AskedGrow asked_grow channel address d;
  }

  extends_gate : (channel : ℕ) (sensitivity d : ℤ) → Extends (gate channel sensitivity d)
  extends_gate channel sensitivity d =
      extends_then (extends_output channel 2 sensitivity) (extends_then (extends_delay d) (extends_then (extends_output channel 2 (pos 0)) extends_cursor_now))

  extends_on_edge : (n : ℤ) (again : ℤ → Action ℤ) → ((m : ℤ) → Extends (again m)) → (reply : Reply) → Extends (on_edge n again reply)
  extends_on_edge n again k Y.NoEdge = extends_give n
  extends_on_edge n again k _ = k _

  extends_count_edges : (units : ℕ) (q : Request) (n : ℤ) → Extends (count_edges units q n)
  extends_count_edges zero q n = extends_stop budget
  extends_count_edges (suc left) q n =
      extends_bind (extends_request q) (extends_on_edge n (count_edges left q) (extends_count_edges left q))

  extends_play_events : (events : List Event) (t : ℤ) → Extends (play_events events t)
  extends_play_events [] t = extends_skip
  extends_play_events (event ∷ rest) t = extends_then (extends_tell _) (extends_play_events rest t)

  extends_play_reply : (reply : Reply) → Extends (play_reply reply)
  extends_play_reply (Y.Trace recording) =
      extends_bind extends_cursor_now (λ t. extends_then (extends_play_events recording.events t) (extends_delay recording.length))
  extends_play_reply _ = extends_skip

  extends_play : (q : Request) → Extends (play q)
  extends_play q = extends_bind (extends_request q) extends_play_reply

  extends_no_value : {action : Action ⊤} → Extends action → Extends (no_value action)
  extends_no_value k = extends_then k (extends_give (pos 0))

  extends_move : Extends move_to_real_time
  extends_move = extends_bind (extends_inquire Q.Counter) (λ x. extends_bind extends_cursor_now (λ t. extends_set_cursor _))

  extends_reset : Extends reset_core
  extends_reset = extends_bind (extends_inquire Q.Reset) (λ x. extends_set_cursor _)

  extends_pulse : (channel : ℕ) (d : ℤ) → Extends (pulse_for channel d)
  extends_pulse channel d =
      extends_then (extends_output channel 0 (pos 1)) (extends_then (extends_delay d) (extends_output channel 0 (pos 0)))

  pub extends_count : (q : Request) → Extends (count_all_edges q)
  extends_count q = record {
    from = λ s. (extends_count_edges s.units q (pos 0)).from s;
    grows = keeps_count AskedGrow AskedGrow asked_grow q;
  }

  pub extends_perform : (op : Operation) (numbers : List ℤ) (text : Bytes) → Extends (perform op numbers text)
  extends_perform (P.On c) numbers text = extends_no_value (extends_output c 0 (pos 1))
  extends_perform (P.Off c) numbers text = extends_no_value (extends_output c 0 (pos 0))
  extends_perform (P.Pulse c) numbers text = extends_no_value (extends_pulse c _)
  extends_perform (P.Write c) numbers text = extends_no_value (extends_output c _ _)
  extends_perform (P.GateRising c) numbers text = extends_gate c (pos 1) _
  extends_perform (P.GateFalling c) numbers text = extends_gate c (pos 2) _
  extends_perform (P.GateBoth c) numbers text = extends_gate c (pos 3) _
  extends_perform (P.Timestamp c) numbers text = extends_inquire _
  extends_perform (P.Count c) numbers text = extends_count _
  extends_perform P.Counter numbers text = extends_inquire Q.Counter
  extends_perform P.BreakRealtime numbers text = extends_no_value extends_move
  extends_perform P.Reset numbers text = extends_no_value extends_reset
  extends_perform P.WaitUntil numbers text = extends_no_value (extends_tell _)
  extends_perform P.Playback numbers text = extends_no_value (extends_play _)
  extends_perform P.PlaybackHandle numbers text = extends_no_value (extends_play _)
  extends_perform P.GetHandle numbers text = extends_inquire _
  extends_perform P.Erase numbers text = extends_no_value (extends_tell _)

  pub extends_read : (x : Bytes) → Extends (read x)
  extends_read x = record { from = λ s. refl; grows = keeps_read AskedGrow AskedGrow asked_grow x }

  pub extends_write : (x : Bytes) (new : Value) → Extends (write_name x new)
  extends_write x new = record { from = λ s. refl; grows = keeps_write AskedGrow AskedGrow asked_grow x new }

  pub extends_or_raise : {A : Type 0} (a : Option A) (x : Exc) → Extends (or_raise a x)
  extends_or_raise (Some a) x = extends_give a
  extends_or_raise None x = extends_stop (raised x)

  pub extends_read_element : (x : Bytes) (i : ℤ) → Extends (read_element x i)
  extends_read_element x i =
      extends_bind (extends_read x) (λ held. extends_or_raise (place_in (list_in_value held) i) IndexError)

  pub extends_write_element : (x : Bytes) (i new : ℤ) → Extends (write_element x i new)
  extends_write_element x i new =
      extends_bind (extends_read x) (λ held. extends_bind (extends_or_raise (with_item (list_in_value held) i new) IndexError) (λ items. extends_write x (W.List items)))

  pub extends_operate : (op : BinaryOperator) (t : ValueType) (a b : ℤ) → Extends (operate op t a b)
  extends_operate op t a b =
      extends_bind (extends_or_raise (exact_result op (bits_of t) a b) ZeroDivisionError) (λ exact. extends_give _)

  extends_array_or : (a : Option Bytes) (n : ℤ) → Extends (array_or_number a n)
  extends_array_or (Some x) n = extends_read x
  extends_array_or None n = extends_give _

  extends_dataset : (scope : Scope) (args : Arguments) (n : ℤ) → Extends (dataset_value scope args n)
  extends_dataset scope no_more n = extends_give _
  extends_dataset scope (text_then text rest) n = extends_dataset scope rest n
  extends_dataset scope (value_then e rest) n = extends_array_or (array_in scope e) n

  pub extends_builtin : (scope : Scope) (f : Builtin) (args : Arguments) (numbers : List ℤ) → Extends (perform_builtin scope f args numbers)
  extends_builtin scope B.NowMu args numbers = extends_cursor_now
  extends_builtin scope B.AtMu args numbers = extends_no_value (extends_set_cursor _)
  extends_builtin scope B.DelayMu args numbers = extends_no_value (extends_delay _)
  extends_builtin scope B.SetDataset args numbers =
      extends_bind (extends_dataset scope args _) (λ new. extends_no_value (extends_tell _))
  extends_builtin scope B.Len args numbers = extends_bind (extends_dataset scope args _) (λ held. extends_give _)
  extends_builtin scope B.ToInt32 args numbers = extends_give _
  extends_builtin scope B.ToInt64 args numbers = extends_give _

  extends_method : (op : Option Operation) (numbers : List ℤ) (text : Bytes) → Extends (perform_method op numbers text)
  extends_method (Some op) numbers text = extends_perform op numbers text
  extends_method None numbers text = extends_give _

  extends_unless : (b : Bool) (answer : ℤ) (second : Action ℤ) → Extends second → Extends (unless_decided b answer second)
  extends_unless true answer second k = extends_give answer
  extends_unless false answer second k = k

  module _ (scope : Scope) (callee : Callee) (extends_callee : (f : Bytes) (numbers : List ℤ) → Extends (callee f numbers)) where
    extends_call : (f : Bytes) (b : Option Builtin) (args : Arguments) (numbers : List ℤ) → Extends (perform_call scope callee f b args numbers)
    extends_call f (Some b) args numbers = extends_builtin scope b args numbers
    extends_call f None args numbers = extends_callee f numbers

    mutual
      -- the value of an expression keeps the relation
      pub extends_expression : (e : Expression) → Extends (expression scope callee e)
      extends_expression (integer n) = extends_give _
      extends_expression true_literal = extends_give _
      extends_expression false_literal = extends_give _
      extends_expression (variable x) = extends_bind (extends_read x) (λ held. extends_give (number_in_value held))
      extends_expression (element x i) = extends_bind (extends_expression i) (λ place. extends_read_element x place)
      extends_expression (group e) = extends_expression e
      extends_expression (unary op e) = extends_bind (extends_expression e) (λ a. extends_give _)
      extends_expression (binary op left right) =
          extends_bind (extends_expression left) (λ a. extends_bind (extends_expression right) (λ b. extends_operate op (type_of scope (binary op left right)) a b))
      extends_expression (compare op left right) =
          extends_bind (extends_expression left) (λ a. extends_bind (extends_expression right) (λ b. extends_give _))
      extends_expression (negation e) = extends_bind (extends_expression e) (λ a. extends_give _)
      extends_expression (conjunction left right) =
          extends_bind (extends_expression left) (λ a. extends_unless (not (is_true a)) (pos 0) (expression scope callee right) (extends_expression right))
      extends_expression (disjunction left right) =
          extends_bind (extends_expression left) (λ a. extends_unless (is_true a) (pos 1) (expression scope callee right) (extends_expression right))
      extends_expression (call f args) =
          extends_bind (extends_arguments args) (λ numbers. extends_call f (builtin_named f) args numbers)
      extends_expression (method o m args) =
          extends_bind (extends_arguments args) (λ numbers. extends_method (method_named o m) numbers (text_in args))

      pub extends_arguments : (args : Arguments) → Extends (arguments scope callee args)
      extends_arguments no_more = extends_give _
      extends_arguments (value_then e rest) =
          extends_bind (extends_expression e) (λ a. extends_bind (extends_arguments rest) (λ others. extends_give _))
      extends_arguments (text_then text rest) = extends_arguments rest
