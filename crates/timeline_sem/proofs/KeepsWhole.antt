-- The same for statements, functions and calls, and what follows: units never rise, and requests are only added.
use Rattle.std.proofs.Common.{◌≡◌, ℕ, zero, suc, ◌≤◌, List, [], ◌∷◌, ◌++◌, Option, Some, None, refl, sym, ◌∙◌, ap, arith, append_assoc, append-nil}
use Rattle.std.specs.Prelude.{slice_get, ℤ, pos, ◌+ℤ◌, ⊤, Bool, true, false, bytes_eq, if◌then◌else◌}
use Rattle.std.specs.Int.{int_gap, int_max}
use Rattle.rtio_types.specs.declared.outcome.Exc.{Exc}
use Rattle.rtio_types.specs.declared.outcome.Exc.TheVariants.{StackOverflow}
use Rattle.rtio_types.specs.declared.request.Request.{Request}
use Rattle.rtio_types.specs.declared.request.Reply.{Reply}
use Rattle.rtio_types.specs.declared.request.Value.{Value}
use Rattle.rtio_types.specs.declared.request.Value.TheVariants as W
use Rattle.rtio_types.specs.Integers.{is_true}
use Rattle.kern_syntax.specs.Tree.{Bytes, Expression, variable, Statement, pass, evaluate, assign, assign_element, augment, augment_element, assign_repeated, assign_list, if_then, while_do, for_range, parallel, sequential, record_as, try_do, Block, done, line_then, Otherwise, no_else, else_do, elif_then, Handlers, no_handler, except_then, FunctionTree, ProgramTree}
use Rattle.kern_syntax.specs.Tree as T
use Rattle.kern_calls.specs.declared.types.ValueType.TheVariants.{Int64}
use Rattle.kern_calls.specs.Types.{Scope, type_of, names_of, function_named}
use Rattle.timeline_sem.specs.Actions.{State, Reason, break, continue, return, raised, budget, unanswered, Completion, normal, early, Action, skip, stop, take_unit_of}
use Rattle.timeline_sem.specs.Expressions.{Callee, number_in_value, expression}
use Rattle.timeline_sem.specs.Statements.{operator_of, when, either, after_turn, turn, while_turns, while_loop, for_turns, leave_recording, save_request, save_after, end_recording, recorded, after_try, attempt, values, optional_value, statement, block, parallel_block, otherwise, handler, name_of_exception}
use Rattle.timeline_sem.specs.Laws.{UnitsNeverRise, RequestsAreOnlyAdded, final}
use Rattle.timeline_sem.specs.Programs.{meaning, meaning_of, opening, call_room, leave_function, optional_body, function_call}
use Rattle.timeline_sem.proofs.Keeps.{IsKept, IsKeptByAsking, KeptEarly, Kept, Keeps, kept_after, early_then, keeps_bind, keeps_then, keeps_give, keeps_stop, keeps_skip, keeps_take_unit, keeps_ask, keeps_answer, keeps_go_on, keeps_cursor_now, keeps_set_cursor, keeps_read, keeps_write, keeps_read_element, keeps_write_element, keeps_operate, keeps_expression}

module _ (R L : State → State → Type 0) (law : IsKept R L) where
  keeps_when : (b : Bool) (action : Action ⊤) → Keeps R L law action → Keeps R L law (when b action)
  keeps_when true action k = k
  keeps_when false action k = keeps_skip R L law

  keeps_either : (b : Bool) (first second : Action ⊤) → Keeps R L law first → Keeps R L law second → Keeps R L law (either b first second)
  keeps_either true first second k l = k
  keeps_either false first second k l = l

  pub keeps_after_turn : (s : State) (c : Completion ⊤) (again : Action ⊤) → Kept R L s c → Keeps R L law again → Kept R L s (after_turn c again)
  keeps_after_turn s (normal a s') again r k = kept_after R L law (again s') r (k.from s')
  keeps_after_turn s (early continue s') again r k = kept_after R L law (again s') r (k.from s')
  keeps_after_turn s (early break s') again r k = r
  keeps_after_turn s (early (return v) s') again r k = r
  keeps_after_turn s (early (raised x) s') again r k = r
  keeps_after_turn s (early budget s') again r k = r
  keeps_after_turn s (early unanswered s') again r k = r

  pub keeps_turn : (body again : Action ⊤) → Keeps R L law body → Keeps R L law again → Keeps R L law (turn body again)
  keeps_turn body again k l =
      keeps_then R L law (keeps_take_unit R L law) (record { from = λ s. keeps_after_turn s (body s) again (k.from s) l })

  pub keeps_while_turns : (n : ℕ) (condition : Action ℤ) (body : Action ⊤) → Keeps R L law condition → Keeps R L law body → Keeps R L law (while_turns n condition body)
  keeps_while_turns zero condition body k l =
      keeps_bind R L law k (λ holds. keeps_when (is_true holds) (stop budget) (keeps_stop R L law budget law.same))
  keeps_while_turns (suc n) condition body k l =
      keeps_bind R L law k (λ holds. keeps_when (is_true holds) (turn body (while_turns n condition body)) (keeps_turn body (while_turns n condition body) l (keeps_while_turns n condition body k l)))

  pub keeps_while : (condition : Action ℤ) (body : Action ⊤) → Keeps R L law condition → Keeps R L law body → Keeps R L law (while_loop condition body)
  keeps_while condition body k l =
      record { from = λ s. (keeps_while_turns s.units condition body k l).from s }

  pub keeps_for_turns : (n : ℕ) (x : Bytes) (from : ℤ) (body : Action ⊤) → Keeps R L law body → Keeps R L law (for_turns n x from body)
  keeps_for_turns zero x from body k = keeps_skip R L law
  keeps_for_turns (suc n) x from body k =
      keeps_turn _ _ (keeps_then R L law (keeps_write R L law x (W.Int from)) k) (keeps_for_turns n x (from +ℤ pos 1) body k)

  left : (before s : State) → R s (leave_recording before s)
  left before s = law.then' (law.cursor s before.cursor) (law.collected _ before.collected)

  -- a recording that is saved when its unit was taken before
  pub keeps_save_after : IsKeptByAsking R L → (s : State) (q : Request) (before : State) (c : Completion ⊤) → Kept R L s c → Kept R L s (save_after q before c)
  keeps_save_after asking s q before (normal a s') r =
      kept_after R L law _ (law.then' r (left before s')) (((keeps_bind R L law (keeps_ask R L law asking q) (λ reply. keeps_skip R L law)).from (leave_recording before s')))
  keeps_save_after asking s q before (early reason s') r = early_then R L law reason s r (left before s')

  -- the unit of a recording that is saved is taken, what was there before is back, and the core is asked
  pub keeps_save : (s : State) (n : ℕ) (q : Request) (before : State) → s.units ≡ n → Kept R L s (save_after q before (take_unit_of n s))
  keeps_save s zero q before u = left before s
  keeps_save s (suc n) q before u =
      kept_after R L law _ (left before s) (keeps_go_on R L law (leave_recording before s) _ (λ reply. skip) (keeps_answer R L law (leave_recording before s) n q s.replies u refl) (λ reply. keeps_skip R L law))

  pub keeps_end_recording : (s : State) (name : Bytes) (before : State) (c : Completion ⊤) → Kept R L s c → Kept R L s (end_recording name before c)
  keeps_end_recording s name before (normal a s') r =
      kept_after R L law _ r (keeps_save s' s'.units (save_request name s') before refl)
  keeps_end_recording s name before (early reason s') r = early_then R L law reason s r (left before s')

  pub keeps_recorded : (name : Bytes) (body : Action ⊤) → Keeps R L law body → Keeps R L law (recorded name body)
  keeps_recorded name body k =
      record { from = λ s. keeps_end_recording s name s (body (record s { cursor = pos 0; collected = Some [] })) (kept_after R L law _ (law.then' (law.cursor s (pos 0)) (law.collected _ (Some []))) (k.from _)) }

  pub keeps_after_try : (s : State) (c : Completion ⊤) (handle : Exc → Action ⊤) → Kept R L s c → ((x : Exc) → Keeps R L law (handle x)) → Kept R L s (after_try c handle)
  keeps_after_try s (normal a s') handle r k = r
  keeps_after_try s (early (raised x) s') handle r k = kept_after R L law (handle x s') r ((k x).from s')
  keeps_after_try s (early continue s') handle r k = r
  keeps_after_try s (early break s') handle r k = r
  keeps_after_try s (early (return v) s') handle r k = r
  keeps_after_try s (early budget s') handle r k = r
  keeps_after_try s (early unanswered s') handle r k = r

  pub keeps_attempt : (body : Action ⊤) (handle : Exc → Action ⊤) → Keeps R L law body → ((x : Exc) → Keeps R L law (handle x)) → Keeps R L law (attempt body handle)
  keeps_attempt body handle k l =
      record { from = λ s. keeps_after_try s (body s) handle (k.from s) l }

  keeps_if : (b : Bool) (first second : Action ⊤) → Keeps R L law first → Keeps R L law second → Keeps R L law (if b then first else second)
  keeps_if true first second k l = k
  keeps_if false first second k l = l

  module _ (scope : Scope) (callee : Callee) (keeps_callee : (f : Bytes) (numbers : List ℤ) → Keeps R L law (callee f numbers)) where
    pub keeps_value : (e : Expression) → Keeps R L law (expression scope callee e)
    keeps_value e = keeps_expression R L law scope callee keeps_callee e

    keeps_values : (es : List Expression) → Keeps R L law (values scope callee es)
    keeps_values [] = keeps_give R L law []
    keeps_values (e ∷ rest) =
        keeps_bind R L law (keeps_value e) (λ a. keeps_bind R L law (keeps_values rest) (λ others. keeps_give R L law (a ∷ others)))

    keeps_optional : (e : Option Expression) → Keeps R L law (optional_value scope callee e)
    keeps_optional None = keeps_give R L law (pos 0)
    keeps_optional (Some e) = keeps_value e

    mutual
      pub keeps_statement : (s : Statement) → Keeps R L law (statement scope callee s)
      keeps_statement pass = keeps_skip R L law
      keeps_statement T.break = keeps_stop R L law break law.same
      keeps_statement T.continue = keeps_stop R L law continue law.same
      keeps_statement (T.return e) = keeps_bind R L law (keeps_optional e) (λ a. keeps_stop R L law (return a) law.same)
      keeps_statement (evaluate e) = keeps_bind R L law (keeps_value e) (λ a. keeps_skip R L law)
      keeps_statement (assign x e) = keeps_bind R L law (keeps_value e) (λ a. keeps_write R L law x (W.Int a))
      keeps_statement (assign_element x i e) =
          keeps_bind R L law (keeps_value e) (λ a. keeps_bind R L law (keeps_value i) (λ place. keeps_write_element R L law x place a))
      keeps_statement (augment x op e) =
          keeps_bind R L law (keeps_read R L law x) (λ held. keeps_bind R L law (keeps_value e) (λ a. keeps_bind R L law (keeps_operate R L law (operator_of op) (type_of scope (variable x)) (number_in_value held) a) (λ new. keeps_write R L law x (W.Int new))))
      keeps_statement (augment_element x i op e) =
          keeps_bind R L law (keeps_value i) (λ place. keeps_bind R L law (keeps_read_element R L law x place) (λ held. keeps_bind R L law (keeps_value e) (λ a. keeps_bind R L law (keeps_operate R L law (operator_of op) Int64 held a) (λ new. keeps_write_element R L law x place new))))
      keeps_statement (assign_repeated x e n) = keeps_bind R L law (keeps_value e) (λ a. keeps_write R L law x _)
      keeps_statement (assign_list x es) = keeps_bind R L law (keeps_values es) (λ items. keeps_write R L law x (W.List items))
      keeps_statement (if_then condition body rest) =
          keeps_bind R L law (keeps_value condition) (λ holds. keeps_either (is_true holds) (block scope callee body) (otherwise scope callee rest) (keeps_block body) (keeps_otherwise rest))
      keeps_statement (while_do condition body) = keeps_while _ _ (keeps_value condition) (keeps_block body)
      keeps_statement (for_range x from to body) =
          keeps_bind R L law (keeps_optional from) (λ start. keeps_bind R L law (keeps_value to) (λ end. keeps_for_turns (int_gap start end) x start (block scope callee body) (keeps_block body)))
      keeps_statement (parallel body) =
          keeps_bind R L law (keeps_cursor_now R L law) (λ start. keeps_parallel body start start)
      keeps_statement (sequential body) = keeps_block body
      keeps_statement (record_as name body) = keeps_recorded name (block scope callee body) (keeps_block body)
      keeps_statement (try_do body handlers) =
          keeps_attempt (block scope callee body) (handler scope callee handlers) (keeps_block body) (keeps_handler handlers)

      pub keeps_block : (b : Block) → Keeps R L law (block scope callee b)
      keeps_block done = keeps_skip R L law
      keeps_block (line_then line first rest) = keeps_then R L law (keeps_statement first) (keeps_block rest)

      pub keeps_parallel : (b : Block) (start greatest : ℤ) → Keeps R L law (parallel_block scope callee b start greatest)
      keeps_parallel done start greatest = keeps_set_cursor R L law greatest
      keeps_parallel (line_then line first rest) start greatest =
          keeps_then R L law (keeps_set_cursor R L law start) (keeps_then R L law (keeps_statement first) (keeps_bind R L law (keeps_cursor_now R L law) (λ t. keeps_parallel rest start (int_max greatest t))))

      pub keeps_otherwise : (rest : Otherwise) → Keeps R L law (otherwise scope callee rest)
      keeps_otherwise no_else = keeps_skip R L law
      keeps_otherwise (else_do body) = keeps_block body
      keeps_otherwise (elif_then line condition body rest) =
          keeps_bind R L law (keeps_value condition) (λ holds. keeps_either (is_true holds) (block scope callee body) (otherwise scope callee rest) (keeps_block body) (keeps_otherwise rest))

      pub keeps_handler : (handlers : Handlers) (x : Exc) → Keeps R L law (handler scope callee handlers x)
      keeps_handler no_handler x = keeps_stop R L law (raised x) law.same
      keeps_handler (except_then line name body rest) x =
          keeps_if (bytes_eq name (name_of_exception x)) (block scope callee body) (handler scope callee rest x) (keeps_block body) (keeps_handler rest x)

  pub keeps_left : (s : State) (values : List (Bytes × Value)) (c : Completion ⊤) → Kept R L s c → Kept R L s (leave_function values c)
  keeps_left s values (normal a s') r = law.then' r (law.values s' values)
  keeps_left s values (early (return v) s') r = law.then' r (law.values s' values)
  keeps_left s values (early break s') r = law.then' r (law.values s' values)
  keeps_left s values (early continue s') r = law.then' r (law.values s' values)
  keeps_left s values (early (raised x) s') r = law.then' r (law.values s' values)
  keeps_left s values (early budget s') r = law.then' r (law.values s' values)
  keeps_left s values (early unanswered s') r = law.lacking_then r (law.values s' values)

  pub keeps_body : (program : ProgramTree) (callee : Callee) → ((f : Bytes) (numbers : List ℤ) → Keeps R L law (callee f numbers)) → (f : Option FunctionTree) (args : List ℤ) → Keeps R L law (optional_body program callee f args)
  keeps_body program callee k (Some f) args =
      record { from = λ s. keeps_left s s.values _ (kept_after R L law _ (law.values s _) ((keeps_block (record { program = program; names = names_of program f }) callee k f.body).from _)) }
  keeps_body program callee k None args = keeps_give R L law (pos 0)

  -- a call keeps the relation
  pub keeps_function_call : (program : ProgramTree) (room : ℕ) (f : Bytes) (args : List ℤ) → Keeps R L law (function_call program room f args)
  keeps_function_call program zero f args = keeps_then R L law (keeps_take_unit R L law) (keeps_stop R L law (raised StackOverflow) law.same)
  keeps_function_call program (suc room) f args =
      keeps_then R L law (keeps_take_unit R L law) (keeps_body program (function_call program room) (keeps_function_call program room) (function_named program f) args)

-- where one relation stands for both, it holds up to the state of each end
kept_early_final : (R : State → State → Type 0) (reason : Reason) (s s' : State) → KeptEarly R R reason s s' → R s s'
kept_early_final R unanswered s s' k = k
kept_early_final R break s s' k = k
kept_early_final R continue s s' k = k
kept_early_final R (return v) s s' k = k
kept_early_final R (raised x) s s' k = k
kept_early_final R budget s s' k = k

pub kept_final : (R : State → State → Type 0) {A : Type 0} (s : State) (c : Completion A) → Kept R R s c → R s (final c)
kept_final R s (normal a s') k = k
kept_final R s (early reason s') k = kept_early_final R reason s s' k

-- the units never rise
abbrev pub UnitsFall : State → State → Type 0
UnitsFall s s' = s'.units ≤ s.units

pub units_fall : IsKept UnitsFall UnitsFall
units_fall =
    record {
      same = λ s. omega arith;
      then' = λ r q. omega arith;
      then_lacking = λ r q. omega arith;
      lacking_then = λ r q. omega arith;
      units = λ s n e. omega arith;
      reply = λ s n q r rest u e. omega arith;
      unanswered = λ s n q u e. omega arith;
      cursor = λ s t. omega arith;
      values = λ s v. omega arith;
      collected = λ s c. omega arith;
    }

units_never_rise : (program : ProgramTree) (room : ℕ) (f : Option FunctionTree) (args : List ℤ) (s : State) → (final (optional_body program (function_call program room) f args s)).units ≤ s.units
units_never_rise program room f args s =
    kept_final UnitsFall s _ ((keeps_body UnitsFall UnitsFall units_fall program (function_call program room) (keeps_function_call UnitsFall UnitsFall units_fall program room) f args).from s)

-- requests are only added
abbrev pub AskedGrow : State → State → Type 0
AskedGrow s s' = (more : List Request) × (s'.asked ≡ s.asked ++ more)

asked_grow_then : (a b c : State) → AskedGrow a b → AskedGrow b c → AskedGrow a c
asked_grow_then a b c r q = (r.0 ++ q.0, q.1 ∙ ap (λ l. l ++ q.0) r.1 ∙ append_assoc a.asked r.0 q.0)

pub asked_grow : IsKept AskedGrow AskedGrow
asked_grow =
    record {
      same = λ s. ([], sym (append-nil s.asked));
      then' = λ {a} {b} {c} r q. asked_grow_then a b c r q;
      then_lacking = λ {a} {b} {c} r q. asked_grow_then a b c r q;
      lacking_then = λ {a} {b} {c} r q. asked_grow_then a b c r q;
      units = λ s n e. ([], sym (append-nil s.asked));
      reply = λ s n q r rest u e. (q ∷ [], refl);
      unanswered = λ s n q u e. (q ∷ [], refl);
      cursor = λ s t. ([], sym (append-nil s.asked));
      values = λ s v. ([], sym (append-nil s.asked));
      collected = λ s c. ([], sym (append-nil s.asked));
    }

pub asked_grow_by_asking : IsKeptByAsking AskedGrow AskedGrow
asked_grow_by_asking =
    record {
      reply = λ s q r rest e. (q ∷ [], refl);
      unanswered = λ s q e. (q ∷ [], refl);
    }

-- requests that are only added from a state on are so from one with the same requests
pub grown_from : {A : Type 0} (s t : State) (c : Completion A) → AskedGrow s t → Kept AskedGrow AskedGrow t c → Kept AskedGrow AskedGrow s c
grown_from s t c r k = kept_after AskedGrow AskedGrow asked_grow c {a = s} {b = t} r k

-- a completion as a meaning has the units and requests of its state
units_of_meaning : (c : Completion ℤ) → (meaning_of c).units ≡ (final c).units
units_of_meaning (normal v s) = refl
units_of_meaning (early reason s) = refl

-- no function ends with more units than it began with
units_of_functions : (program : ProgramTree) (function : ℕ) (args : List ℤ) (cursor : ℤ) (units : ℕ) (replies : List Reply) → (meaning program function args cursor units replies).units ≤ units
units_of_functions program function args cursor units replies =
    let c = optional_body program (function_call program call_room) (slice_get program function) args (opening cursor units replies) in
    omega (arith, units_of_meaning c, units_never_rise program call_room (slice_get program function) args (opening cursor units replies))

-- nor does a call
pub units_of_all : (program : ProgramTree) → UnitsNeverRise program
units_of_all program =
    record {
      of_functions = units_of_functions program;
      of_calls = λ room name args s. kept_final UnitsFall s _ ((keeps_function_call UnitsFall UnitsFall units_fall program room name args).from s);
    }

-- a call keeps the requests asked before it
pub requests_of_calls : (program : ProgramTree) → RequestsAreOnlyAdded program
requests_of_calls program room name args s =
    kept_final AskedGrow s _ ((keeps_function_call AskedGrow AskedGrow asked_grow program room name args).from s)
