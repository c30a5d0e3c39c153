-- What each step of the meaning keeps, the whole meaning keeps: a relation of states that is reflexive and transitive
-- and holds of each small change holds between the states before and after any part. Where a part ends for want of a
-- reply a second relation holds: the request that lacks its reply brings it about, and small changes before and behind
-- that request leave it.
use Rattle.std.proofs.Common.{◌≡◌, ℕ, zero, suc, List, [], ◌∷◌, ◌++◌, Option, Some, None, refl}
use Rattle.std.specs.Prelude.{ℤ, pos, ⊤, Bool, true, false, not}
use Rattle.rtio_types.specs.declared.event.Event.{Event}
use Rattle.rtio_types.specs.declared.outcome.Exc.{Exc}
use Rattle.rtio_types.specs.declared.outcome.Exc.TheVariants.{IndexError, ZeroDivisionError}
use Rattle.rtio_types.specs.declared.request.Request.{Request}
use Rattle.rtio_types.specs.declared.request.Request.TheVariants as Q
use Rattle.rtio_types.specs.declared.request.Reply.{Reply}
use Rattle.rtio_types.specs.declared.request.Reply.TheVariants as Y
use Rattle.rtio_types.specs.declared.request.Value.{Value}
use Rattle.rtio_types.specs.declared.request.Value.TheVariants as W
use Rattle.rtio_types.specs.Replies.{raised_by}
use Rattle.rtio_types.specs.Integers.{is_true}
use Rattle.kern_syntax.specs.Tree.{Bytes, Expression, integer, true_literal, false_literal, variable, element, group, unary, binary, compare, negation, conjunction, disjunction, call, method, Arguments, no_more, value_then, text_then}
use Rattle.kern_calls.specs.declared.types.ValueType.{ValueType}
use Rattle.kern_calls.specs.declared.calls.Builtin.{Builtin}
use Rattle.kern_calls.specs.declared.calls.Builtin.TheVariants as B
use Rattle.kern_calls.specs.declared.calls.Operation.{Operation}
use Rattle.kern_calls.specs.declared.calls.Operation.TheVariants as P
use Rattle.kern_calls.specs.Calls.{builtin_named, method_named}
use Rattle.kern_calls.specs.Types.{Scope, type_of, bits_of}
use Rattle.kern_syntax.specs.declared.expression.BinaryOperator.{BinaryOperator}
use Rattle.timeline_sem.specs.Actions.{State, Reason, break, continue, return, budget, raised, unanswered, Completion, normal, early, Action, go_on, give, skip, stop, take_unit_of, take_unit, next_reply_of, raise_if, ask, request, cursor_now, set_cursor, ◌>>=◌, ◌>>◌}
use Rattle.timeline_sem.specs.Timeline.{delay, tell, inquire, append_event, submit_or_collect, output, gate, on_edge, count_edges, count_all_edges, play_events, play_reply, play, pulse_for, move_to_real_time, reset_core, no_value, perform, event_at}
use Rattle.timeline_sem.specs.Numbers.{exact_result}
use Rattle.timeline_sem.specs.Expressions.{Callee, array_or_number, read, write as write_name, or_raise, place_in, with_item, list_in_value, number_in_value, read_element, write_element, operate, array_in, dataset_value, text_in, perform_builtin, perform_call, perform_method, unless_decided, expression, arguments}

-- a relation R that each small change of a state keeps, and a relation L that holds where a reply is lacking
pub record IsKept (R L : State → State → Type 0) : Type 0 where
  pub same : (s : State) → R s s
  pub then' : {a b c : State} → R a b → R b c → R a c
  pub then_lacking : {a b c : State} → R a b → L b c → L a c
  pub lacking_then : {a b c : State} → L a b → R b c → L a c
  pub units : (s : State) (n : ℕ) → s.units ≡ suc n → R s (record s { units = n })
  pub reply : (s : State) (n : ℕ) (q : Request) (r : Reply) (rest : List Reply) → s.units ≡ suc n → s.replies ≡ r ∷ rest → R s (record s { units = n; asked = s.asked ++ q ∷ []; replies = rest })
  pub unanswered : (s : State) (n : ℕ) (q : Request) → s.units ≡ suc n → s.replies ≡ [] → L s (record s { units = n; asked = s.asked ++ q ∷ [] })
  pub cursor : (s : State) (t : ℤ) → R s (record s { cursor = t })
  pub values : (s : State) (v : List (Bytes × Value)) → R s (record s { values = v })
  pub collected : (s : State) (c : Option (List Event)) → R s (record s { collected = c })

-- they also hold of a request alone, whose unit was taken before
pub record IsKeptByAsking (R L : State → State → Type 0) : Type 0 where
  pub reply : (s : State) (q : Request) (r : Reply) (rest : List Reply) → s.replies ≡ r ∷ rest → R s (record s { asked = s.asked ++ q ∷ []; replies = rest })
  pub unanswered : (s : State) (q : Request) → s.replies ≡ [] → L s (record s { asked = s.asked ++ q ∷ [] })

-- what holds between a state and that of an end
abbrev pub KeptEarly : (R L : State → State → Type 0) → Reason → State → State → Type 0
KeptEarly R L unanswered s s' = L s s'
KeptEarly R L break s s' = R s s'
KeptEarly R L continue s s' = R s s'
KeptEarly R L (return v) s s' = R s s'
KeptEarly R L (raised x) s s' = R s s'
KeptEarly R L budget s s' = R s s'

abbrev pub Kept : (R L : State → State → Type 0) {A : Type 0} → State → Completion A → Type 0
Kept R L s (normal a s') = R s s'
Kept R L s (early reason s') = KeptEarly R L reason s s'

module _ (R L : State → State → Type 0) (law : IsKept R L) where
  -- a part keeps the relation from each state
  pub record Keeps {A : Type 0} (action : Action A) : Type 0 where
    pub from : (s : State) → Kept R L s (action s)

  early_after : (reason : Reason) {a b : State} (c : State) → R a b → KeptEarly R L reason b c → KeptEarly R L reason a c
  early_after unanswered c r k = law.then_lacking r k
  early_after break c r k = law.then' r k
  early_after continue c r k = law.then' r k
  early_after (return v) c r k = law.then' r k
  early_after (raised x) c r k = law.then' r k
  early_after budget c r k = law.then' r k

  pub kept_after : {A : Type 0} (c : Completion A) {a b : State} → R a b → Kept R L b c → Kept R L a c
  kept_after (normal v s) r k = law.then' r k
  kept_after (early reason s) r k = early_after reason s r k

  pub early_then : (reason : Reason) (a : State) {b c : State} → KeptEarly R L reason a b → R b c → KeptEarly R L reason a c
  early_then unanswered a k r = law.lacking_then k r
  early_then break a k r = law.then' k r
  early_then continue a k r = law.then' k r
  early_then (return v) a k r = law.then' k r
  early_then (raised x) a k r = law.then' k r
  early_then budget a k r = law.then' k r

  pub keeps_go_on : {A B : Type 0} (s : State) (c : Completion A) (f : A → Action B) → Kept R L s c → ((a : A) → Keeps (f a)) → Kept R L s (go_on c f)
  keeps_go_on s (normal a s') f r k = kept_after (f a s') r ((k a).from s')
  keeps_go_on s (early reason s') f r k = r

  pub keeps_bind : {A B : Type 0} {m : Action A} {f : A → Action B} → Keeps m → ((a : A) → Keeps (f a)) → Keeps (m >>= f)
  keeps_bind {m} {f} km kf = record { from = λ s. keeps_go_on s (m s) f (km.from s) kf }

  pub keeps_then : {A B : Type 0} {m : Action A} {n : Action B} → Keeps m → Keeps n → Keeps (m >> n)
  keeps_then {m} {n} km kn = record { from = λ s. keeps_go_on s (m s) (λ a. n) (km.from s) (λ a. kn) }

  pub keeps_give : {A : Type 0} (a : A) → Keeps (give a)
  keeps_give a = record { from = law.same }

  -- an early end keeps what its reason asks for, where that holds of an unchanged state
  pub keeps_stop : {A : Type 0} (reason : Reason) → ((s : State) → KeptEarly R L reason s s) → Keeps (stop {A = A} reason)
  keeps_stop reason same = record { from = same }

  pub keeps_skip : Keeps skip
  keeps_skip = record { from = law.same }

  pub keeps_cursor_now : Keeps cursor_now
  keeps_cursor_now = record { from = law.same }

  pub keeps_set_cursor : (t : ℤ) → Keeps (set_cursor t)
  keeps_set_cursor t = record { from = λ s. law.cursor s t }

  keeps_taken : (s : State) (n : ℕ) → s.units ≡ n → Kept R L s (take_unit_of n s)
  keeps_taken s zero e = law.same s
  keeps_taken s (suc n) e = law.units s n e

  pub keeps_take_unit : Keeps take_unit
  keeps_take_unit = record { from = λ s. keeps_taken s s.units refl }

  keeps_raise_if : (x : Option Exc) (reply : Reply) (s : State) → Kept R L s (raise_if x reply s)
  keeps_raise_if None reply s = law.same s
  keeps_raise_if (Some x) reply s = law.same s

  -- a request's answer, where its unit is taken with it
  pub keeps_answer : (s : State) (n : ℕ) (q : Request) (replies : List Reply) → s.units ≡ suc n → s.replies ≡ replies → Kept R L s (go_on (next_reply_of replies (record s { units = n; asked = s.asked ++ q ∷ [] })) (λ reply. raise_if (raised_by reply) reply))
  keeps_answer s n q [] u e = law.unanswered s n q u e
  keeps_answer s n q (r ∷ rest) u e =
      kept_after (raise_if (raised_by r) r _) (law.reply s n q r rest u e) (keeps_raise_if (raised_by r) r _)

  keeps_request_of : (s : State) (n : ℕ) (q : Request) → s.units ≡ n → Kept R L s (go_on (take_unit_of n s) (λ a. ask q))
  keeps_request_of s zero q u = law.same s
  keeps_request_of s (suc n) q u = keeps_answer s n q s.replies u refl

  pub keeps_request : (q : Request) → Keeps (request q)
  keeps_request q = record { from = λ s. keeps_request_of s s.units q refl }

  keeps_asked : IsKeptByAsking R L → (s : State) (q : Request) (replies : List Reply) → s.replies ≡ replies → Kept R L s (go_on (next_reply_of replies (record s { asked = s.asked ++ q ∷ [] })) (λ reply. raise_if (raised_by reply) reply))
  keeps_asked asking s q [] e = asking.unanswered s q e
  keeps_asked asking s q (r ∷ rest) e =
      kept_after (raise_if (raised_by r) r _) (asking.reply s q r rest e) (keeps_raise_if (raised_by r) r _)

  pub keeps_ask : IsKeptByAsking R L → (q : Request) → Keeps (ask q)
  keeps_ask asking q = record { from = λ s. keeps_asked asking s q s.replies refl }

  pub keeps_tell : (q : Request) → Keeps (tell q)
  keeps_tell q = keeps_bind (keeps_request q) (λ r. keeps_skip)

  pub keeps_inquire : (q : Request) → Keeps (inquire q)
  keeps_inquire q = keeps_bind (keeps_request q) (λ r. keeps_give _)

  pub keeps_delay : (d : ℤ) → Keeps (delay d)
  keeps_delay d = keeps_bind keeps_cursor_now (λ t. keeps_set_cursor _)

  pub keeps_append : (event : Event) → Keeps (append_event event)
  keeps_append event = record { from = λ s. law.collected s _ }

  pub keeps_submit : (c : Option (List Event)) (event : Event) → Keeps (submit_or_collect c event)
  keeps_submit None event = keeps_tell (Q.Out event)
  keeps_submit (Some events) event = keeps_then keeps_take_unit (keeps_append event)

  pub keeps_output : (channel address : ℕ) (d : ℤ) → Keeps (output channel address d)
  keeps_output channel address d = record { from = λ s. (keeps_submit s.collected (event_at s.cursor channel address d)).from s }

  pub keeps_gate : (channel : ℕ) (sensitivity d : ℤ) → Keeps (gate channel sensitivity d)
  keeps_gate channel sensitivity d =
      keeps_then (keeps_output channel 2 sensitivity) (keeps_then (keeps_delay d) (keeps_then (keeps_output channel 2 (pos 0)) keeps_cursor_now))

  pub keeps_on_edge : (n : ℤ) (again : ℤ → Action ℤ) → ((m : ℤ) → Keeps (again m)) → (reply : Reply) → Keeps (on_edge n again reply)
  keeps_on_edge n again k Y.NoEdge = keeps_give n
  keeps_on_edge n again k _ = k _

  pub keeps_count_edges : (units : ℕ) (q : Request) (n : ℤ) → Keeps (count_edges units q n)
  keeps_count_edges zero q n = keeps_stop budget law.same
  keeps_count_edges (suc left) q n =
      keeps_bind (keeps_request q) (keeps_on_edge n (count_edges left q) (keeps_count_edges left q))

  pub keeps_play_events : (events : List Event) (t : ℤ) → Keeps (play_events events t)
  keeps_play_events [] t = keeps_skip
  keeps_play_events (event ∷ rest) t = keeps_then (keeps_tell _) (keeps_play_events rest t)

  pub keeps_play_reply : (reply : Reply) → Keeps (play_reply reply)
  keeps_play_reply (Y.Trace recording) =
      keeps_bind keeps_cursor_now (λ t. keeps_then (keeps_play_events recording.events t) (keeps_delay recording.length))
  keeps_play_reply _ = keeps_skip

  pub keeps_play : (q : Request) → Keeps (play q)
  keeps_play q = keeps_bind (keeps_request q) keeps_play_reply

  keeps_no_value : {action : Action ⊤} → Keeps action → Keeps (no_value action)
  keeps_no_value k = keeps_then k (keeps_give (pos 0))

  pub keeps_move : Keeps move_to_real_time
  keeps_move = keeps_bind (keeps_inquire Q.Counter) (λ x. keeps_bind keeps_cursor_now (λ t. keeps_set_cursor _))

  pub keeps_reset : Keeps reset_core
  keeps_reset = keeps_bind (keeps_inquire Q.Reset) (λ x. keeps_set_cursor _)

  pub keeps_pulse : (channel : ℕ) (d : ℤ) → Keeps (pulse_for channel d)
  keeps_pulse channel d =
      keeps_then (keeps_output channel 0 (pos 1)) (keeps_then (keeps_delay d) (keeps_output channel 0 (pos 0)))

  pub keeps_count : (q : Request) → Keeps (count_all_edges q)
  keeps_count q = record { from = λ s. (keeps_count_edges s.units q (pos 0)).from s }

  pub keeps_perform : (op : Operation) (numbers : List ℤ) (text : Bytes) → Keeps (perform op numbers text)
  keeps_perform (P.On c) numbers text = keeps_no_value (keeps_output c 0 (pos 1))
  keeps_perform (P.Off c) numbers text = keeps_no_value (keeps_output c 0 (pos 0))
  keeps_perform (P.Pulse c) numbers text = keeps_no_value (keeps_pulse c _)
  keeps_perform (P.Write c) numbers text = keeps_no_value (keeps_output c _ _)
  keeps_perform (P.GateRising c) numbers text = keeps_gate c (pos 1) _
  keeps_perform (P.GateFalling c) numbers text = keeps_gate c (pos 2) _
  keeps_perform (P.GateBoth c) numbers text = keeps_gate c (pos 3) _
  keeps_perform (P.Timestamp c) numbers text = keeps_inquire _
  keeps_perform (P.Count c) numbers text = keeps_count _
  keeps_perform P.Counter numbers text = keeps_inquire Q.Counter
  keeps_perform P.BreakRealtime numbers text = keeps_no_value keeps_move
  keeps_perform P.Reset numbers text = keeps_no_value keeps_reset
  keeps_perform P.WaitUntil numbers text = keeps_no_value (keeps_tell _)
  keeps_perform P.Playback numbers text = keeps_no_value (keeps_play _)
  keeps_perform P.PlaybackHandle numbers text = keeps_no_value (keeps_play _)
  keeps_perform P.GetHandle numbers text = keeps_inquire _
  keeps_perform P.Erase numbers text = keeps_no_value (keeps_tell _)

  pub keeps_read : (x : Bytes) → Keeps (read x)
  keeps_read x = record { from = law.same }

  pub keeps_write : (x : Bytes) (new : Value) → Keeps (write_name x new)
  keeps_write x new = record { from = λ s. law.values s _ }

  pub keeps_or_raise : {A : Type 0} (a : Option A) (x : Exc) → Keeps (or_raise a x)
  keeps_or_raise (Some a) x = keeps_give a
  keeps_or_raise None x = keeps_stop (raised x) law.same

  pub keeps_read_element : (x : Bytes) (i : ℤ) → Keeps (read_element x i)
  keeps_read_element x i =
      keeps_bind (keeps_read x) (λ held. keeps_or_raise (place_in (list_in_value held) i) IndexError)

  pub keeps_write_element : (x : Bytes) (i new : ℤ) → Keeps (write_element x i new)
  keeps_write_element x i new =
      keeps_bind (keeps_read x) (λ held. keeps_bind (keeps_or_raise (with_item (list_in_value held) i new) IndexError) (λ items. keeps_write x (W.List items)))

  pub keeps_operate : (op : BinaryOperator) (t : ValueType) (a b : ℤ) → Keeps (operate op t a b)
  keeps_operate op t a b =
      keeps_bind (keeps_or_raise (exact_result op (bits_of t) a b) ZeroDivisionError) (λ exact. keeps_give _)

  pub keeps_array_or : (a : Option Bytes) (n : ℤ) → Keeps (array_or_number a n)
  keeps_array_or (Some x) n = keeps_read x
  keeps_array_or None n = keeps_give _

  pub keeps_dataset : (scope : Scope) (args : Arguments) (n : ℤ) → Keeps (dataset_value scope args n)
  keeps_dataset scope no_more n = keeps_give _
  keeps_dataset scope (text_then text rest) n = keeps_dataset scope rest n
  keeps_dataset scope (value_then e rest) n = keeps_array_or (array_in scope e) n

  pub keeps_builtin : (scope : Scope) (f : Builtin) (args : Arguments) (numbers : List ℤ) → Keeps (perform_builtin scope f args numbers)
  keeps_builtin scope B.NowMu args numbers = keeps_cursor_now
  keeps_builtin scope B.AtMu args numbers = keeps_no_value (keeps_set_cursor _)
  keeps_builtin scope B.DelayMu args numbers = keeps_no_value (keeps_delay _)
  keeps_builtin scope B.SetDataset args numbers =
      keeps_bind (keeps_dataset scope args _) (λ new. keeps_no_value (keeps_tell _))
  keeps_builtin scope B.Len args numbers = keeps_bind (keeps_dataset scope args _) (λ held. keeps_give _)
  keeps_builtin scope B.ToInt32 args numbers = keeps_give _
  keeps_builtin scope B.ToInt64 args numbers = keeps_give _

  keeps_method : (op : Option Operation) (numbers : List ℤ) (text : Bytes) → Keeps (perform_method op numbers text)
  keeps_method (Some op) numbers text = keeps_perform op numbers text
  keeps_method None numbers text = keeps_give _

  keeps_unless : (b : Bool) (answer : ℤ) (second : Action ℤ) → Keeps second → Keeps (unless_decided b answer second)
  keeps_unless true answer second k = keeps_give answer
  keeps_unless false answer second k = k

  module _ (scope : Scope) (callee : Callee) (keeps_callee : (f : Bytes) (numbers : List ℤ) → Keeps (callee f numbers)) where
    keeps_call : (f : Bytes) (b : Option Builtin) (args : Arguments) (numbers : List ℤ) → Keeps (perform_call scope callee f b args numbers)
    keeps_call f (Some b) args numbers = keeps_builtin scope b args numbers
    keeps_call f None args numbers = keeps_callee f numbers

    mutual
      -- the value of an expression keeps the relation
      pub keeps_expression : (e : Expression) → Keeps (expression scope callee e)
      keeps_expression (integer n) = keeps_give _
      keeps_expression true_literal = keeps_give _
      keeps_expression false_literal = keeps_give _
      keeps_expression (variable x) = keeps_bind (keeps_read x) (λ held. keeps_give (number_in_value held))
      keeps_expression (element x i) = keeps_bind (keeps_expression i) (λ place. keeps_read_element x place)
      keeps_expression (group e) = keeps_expression e
      keeps_expression (unary op e) = keeps_bind (keeps_expression e) (λ a. keeps_give _)
      keeps_expression (binary op left right) =
          keeps_bind (keeps_expression left) (λ a. keeps_bind (keeps_expression right) (λ b. keeps_operate op (type_of scope (binary op left right)) a b))
      keeps_expression (compare op left right) =
          keeps_bind (keeps_expression left) (λ a. keeps_bind (keeps_expression right) (λ b. keeps_give _))
      keeps_expression (negation e) = keeps_bind (keeps_expression e) (λ a. keeps_give _)
      keeps_expression (conjunction left right) =
          keeps_bind (keeps_expression left) (λ a. keeps_unless (not (is_true a)) (pos 0) (expression scope callee right) (keeps_expression right))
      keeps_expression (disjunction left right) =
          keeps_bind (keeps_expression left) (λ a. keeps_unless (is_true a) (pos 1) (expression scope callee right) (keeps_expression right))
      keeps_expression (call f args) =
          keeps_bind (keeps_arguments args) (λ numbers. keeps_call f (builtin_named f) args numbers)
      keeps_expression (method o m args) =
          keeps_bind (keeps_arguments args) (λ numbers. keeps_method (method_named o m) numbers (text_in args))

      pub keeps_arguments : (args : Arguments) → Keeps (arguments scope callee args)
      keeps_arguments no_more = keeps_give _
      keeps_arguments (value_then e rest) =
          keeps_bind (keeps_expression e) (λ a. keeps_bind (keeps_arguments rest) (λ others. keeps_give _))
      keeps_arguments (text_then text rest) = keeps_arguments rest
