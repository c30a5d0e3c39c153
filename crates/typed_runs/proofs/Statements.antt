-- Typed statements leave values of the names' types, and end by `break`, `continue` and `return` only where they may.
use Rattle.std.proofs.Common.{◌≡◌, ℕ, suc, List, [], ◌∷◌, Option, Some, length, replicate, refl, sym, ◌∙◌, ap, subst, arith}
use Rattle.std.specs.Prelude.{ℤ, pos, ⊤, bytes_eq, unwrap_or}
use Rattle.std.proofs.lemmas.List.{length-replicate}
use Rattle.std.specs.Int.{int_gap, int_max}
use Rattle.rtio_types.specs.declared.outcome.Exc.{Exc}
use Rattle.rtio_types.specs.declared.request.Value.TheVariants as W
use Rattle.rtio_types.specs.Integers.{is_true}
use Rattle.kern_syntax.specs.declared.program.DeclaredType.{DeclaredType}
use Rattle.kern_syntax.specs.declared.program.DeclaredType.TheVariants as D
use Rattle.kern_syntax.specs.declared.expression.BinaryOperator.{BinaryOperator}
use Rattle.kern_syntax.specs.Tree.{Bytes, Expression, variable, Statement, Block, Otherwise, Handlers}
use Rattle.kern_calls.specs.declared.types.ValueType.{ValueType}
use Rattle.kern_calls.specs.declared.types.ValueType.TheVariants as V
use Rattle.kern_calls.specs.Calls.{look_up}
use Rattle.kern_calls.specs.Types.{Names, Scope, type_of, wider_type, declared_type}
use Rattle.kern_expression_types.specs.declared.place.Given.{Given}
use Rattle.kern_expression_types.specs.declared.place.Given.TheVariants.{Typed}
use Rattle.kern_expression_types.specs.Fits.{declared_wanted}
use Rattle.kern_expression_types.specs.Before.{Functions}
use Rattle.kern_judgement.specs.Fitting.{Standing, IsInteger, IsScalar, Fits}
use Rattle.kern_judgement.specs.Fitting as F
use Rattle.kern_judgement.specs.Expressions.{HasType, AreIntegers}
use Rattle.kern_judgement.specs.Expressions as E
use Rattle.kern_judgement.specs.Statements.{Takes, Returns, nothing, a_value, HasBounds, from_zero, between, IsTypedStatement, of_pass, of_break, of_continue, of_return, of_evaluate, of_assign, of_assign_element, of_augment, of_augment_element, of_assign_repeated, of_assign_list, of_if, of_while, of_for, of_parallel, of_sequential, of_record, of_try, IsTypedBlock, of_done, of_line, AreTypedBranches, of_no_else, of_else, of_elif, AreTypedHandlers, of_no_handler, of_except}
use Rattle.kern_judgement.specs.Told.{TellsNames}
use Rattle.timeline_sem.specs.Actions.{break, continue, return, raised, Action, ◌>>=◌}
use Rattle.timeline_sem.specs.Expressions.{Callee, number_in_value, write, operate, expression}
use Rattle.timeline_sem.specs.Statements.{operator_of, for_turns, values, optional_value, statement, block, parallel_block, otherwise, handler, name_of_exception}
use Rattle.typed_runs.specs.Values.{IsNumberOf, IsResultOf}
use Rattle.typed_runs.proofs.Calculus.{Anything, RunsTyped, typed_bind, typed_then, typed_weaken, typed_give, typed_skip, typed_stop, typed_cursor_now, typed_set_cursor, typed_outward}
use Rattle.typed_runs.proofs.NamedValues.{typed_look, typed_write, typed_read_element, typed_write_element, typed_operate}
use Rattle.typed_runs.proofs.Numbers.{wrapped, kept_number, wider_integer}
use Rattle.typed_runs.proofs.NamesBehind.{tells_front, takes_behind, takes_held, block_behind, branches_behind, handlers_behind}
use Rattle.typed_runs.proofs.Kept.{value_of_number, kept_array, wider_keeps_left, wider_keeps_right, loop_numbers}
use Rattle.typed_runs.proofs.Flow.{typed_either, typed_if, typed_while, typed_for_turns, typed_recorded, typed_attempt}

-- each typed expression gives a number of its type, and leaves values of the names' types, wherever it stands
pub record GiveTheirTypes (functions : Functions) (scope : Scope) (callee : Callee) : Type 0 where
  pub numbers : (here : Standing) (names : Names) (e : Expression) (t : ValueType)
      → HasType functions here names e (Typed t) → IsScalar t → TellsNames names scope → (at : Standing)
      → RunsTyped scope.names at (IsNumberOf t) (expression scope callee e)
  pub alone : (here : Standing) (names : Names) (e : Expression) (g : Given)
      → HasType functions here names e g → TellsNames names scope → (at : Standing)
      → RunsTyped scope.names at Anything (expression scope callee e)

module _ (functions : Functions) (scope : Scope) (callee : Callee) (gives : GiveTheirTypes functions scope callee) where
  -- from values of the names' types a part gives what has this property, and leaves such values
  abbrev Gives : Standing → {A : Type 0} → (A → Type 0) → Action A → Type 0
  Gives here P action = RunsTyped scope.names here P action

  -- a part leaves values of the names' types
  abbrev Leaves : Standing → {A : Type 0} → Action A → Type 0
  Leaves here action = RunsTyped scope.names here Anything action

  -- one part and then another that takes its value
  abbrev bind : (here : Standing) {A B : Type 0} {P : A → Type 0} {Q : B → Type 0} {m : Action A} {f : A → Action B}
      → Gives here P m → ((a : A) → P a → Gives here Q (f a)) → Gives here Q (m >>= f)
  bind here = typed_bind scope.names here

  -- an expression with a type of one number gives a number of it
  typed_number : (here : Standing) {names : Names} {e : Expression} {t : ValueType} → HasType functions here names e (Typed t)
      → IsScalar t → TellsNames names scope → Gives here (IsNumberOf t) (expression scope callee e)
  typed_number here {names} {e} {t} h scalar tells = gives.numbers here names e t h scalar tells here

  -- an expression leaves values of the names' types, whatever it gives
  typed_any : (here : Standing) {names : Names} {e : Expression} {g : Given} → HasType functions here names e g → TellsNames names scope
      → Leaves here (expression scope callee e)
  typed_any here {names} {e} {g} h tells = gives.alone here names e g h tells here

  -- as many values as there are expressions
  typed_values : (here : Standing) {names : Names} {es : List Expression} → AreIntegers functions here names es → TellsNames names scope
      → Gives here (λ items. length items ≡ length es) (values scope callee es)
  typed_values here E.none tells = typed_give scope.names here [] refl
  typed_values here (E.one h more) tells =
      bind here (typed_any here h.1 tells)
      (λ a p. bind here (typed_values here more tells)
      (λ others long. typed_give scope.names here (a ∷ others) (ap suc long)))

  -- what fits where a declared type is wanted gives a number of it
  typed_fitting : (here : Standing) {names : Names} {e : Expression} (declared : DeclaredType) {g : Given}
      → HasType functions here names e g → Fits (declared_wanted declared) g → TellsNames names scope
      → Gives here (IsNumberOf (declared_type declared)) (expression scope callee e)
  typed_fitting here D.Int32 h F.int32 tells = typed_number here h (F.integer F.int32) tells
  typed_fitting here D.Int64 h fits tells = typed_weaken scope.names here (λ n p. tt) (typed_any here h tells)
  typed_fitting here D.Bool h F.bool tells = typed_number here h F.bool tells

  -- a `return` has a value of what the function gives
  typed_returned : (here : Standing) {names : Names} {result : Option DeclaredType} {e : Option Expression}
      → Returns functions here names result e → TellsNames names scope → Gives here (IsResultOf result) (optional_value scope callee e)
  typed_returned here nothing tells = typed_give scope.names here (pos 0) refl
  typed_returned here (a_value {declared} h fits) tells = typed_fitting here declared h fits tells

  -- a value of a type is given to a name that takes such
  typed_assigned : (here : Standing) {x : Bytes} {t : ValueType} {names after : Names} → Takes functions x t names after
      → TellsNames after scope → (n : ℤ) → IsNumberOf t n → Leaves here (write x (W.Int n))
  typed_assigned here {x} {t} takes tells n h =
      let held = takes_held functions scope takes tells in
      typed_write scope.names here x held.type (W.Int n) held.there
      (value_of_number held.type n (kept_number held.type t held.keeps n h))

  -- an array is given to a name that takes such
  typed_array_assigned : (here : Standing) {x : Bytes} {n : ℕ} {names after : Names} → Takes functions x (V.Array n) names after
      → TellsNames after scope → (items : List ℤ) → length items ≡ n → Leaves here (write x (W.List items))
  typed_array_assigned here {x} {n} takes tells items long =
      let held = takes_held functions scope takes tells in
      let own : look_up scope.names x ≡ Some (V.Array n) = held.there ∙ ap Some (kept_array n held.keeps) in
      typed_write scope.names here x (V.Array n) (W.List items) own long

  -- an augmented assignment wraps at the width of the name's type
  typed_augmented : (here : Standing) (x : Bytes) (t : ValueType) → look_up scope.names x ≡ Some t → IsInteger t
      → (op : BinaryOperator) (a b : ℤ) → Gives here (IsNumberOf t) (operate op (type_of scope (variable x)) a b)
  typed_augmented here x t there whole op a b =
      let same : type_of scope (variable x) ≡ t = ap (λ o. unwrap_or o V.Int64) there in
      subst (λ u. Gives here (IsNumberOf t) (operate op u a b)) (sym same)
      (typed_operate scope.names here op t a b (λ exact. wrapped t whole exact))

  -- the bounds of a loop give numbers of its variable's type
  typed_start : (here : Standing) {names : Names} {from : Option Expression} {to : Expression} {t : ValueType}
      → HasBounds functions here names from to t → TellsNames names scope → Gives here (IsNumberOf t) (optional_value scope callee from)
  typed_start here (from_zero h F.int32) tells = typed_give scope.names here (pos 0) (grind arith)
  typed_start here (from_zero h F.int64) tells = typed_give scope.names here (pos 0) tt
  typed_start here (between {t} {u} h whole k also) tells =
      typed_weaken scope.names here (λ n p. kept_number (wider_type t u) t (wider_keeps_left whole also) n p)
      (typed_number here h (F.integer whole) tells)

  typed_end : (here : Standing) {names : Names} {from : Option Expression} {to : Expression} {t : ValueType}
      → HasBounds functions here names from to t → TellsNames names scope → Gives here (IsNumberOf t) (expression scope callee to)
  typed_end here (from_zero h whole) tells = typed_number here h (F.integer whole) tells
  typed_end here (between {t} {u} h whole k also) tells =
      typed_weaken scope.names here (λ n p. kept_number (wider_type t u) u (wider_keeps_right whole also) n p)
      (typed_number here k (F.integer also) tells)

  -- that type is an integer's
  bounds_whole : (here : Standing) {names : Names} {from : Option Expression} {to : Expression} {t : ValueType}
      → HasBounds functions here names from to t → IsInteger t
  bounds_whole here (from_zero h whole) = whole
  bounds_whole here (between {t} {u} h whole k also) = wider_integer t u whole also

  -- a `for` gives its variable such numbers
  typed_for : (here : Standing) {x : Bytes} {from : Option Expression} {to : Expression} {t : ValueType}
      {names after : Names} (body : Action ⊤) → HasBounds functions here names from to t
      → Takes functions x t names after → TellsNames after scope → Leaves (F.in_a_loop here) body
      → Leaves here (optional_value scope callee from >>= (λ start. expression scope callee to
      >>= (λ end. for_turns (int_gap start end) x start body)))
  typed_for here {x} {t = t} body bounds takes tells k =
      let front = tells_front scope (takes_behind functions takes) tells in
      let held = takes_held functions scope takes tells in
      bind here (typed_start here bounds front)
      (λ start first. bind here (typed_end here bounds front)
      (λ end last. typed_for_turns scope.names here (int_gap start end) x held.type start body held.there
      (loop_numbers held.type t start end held.keeps (bounds_whole here bounds) first last) k))

  mutual
    -- a typed statement leaves values of the names' types
    pub typed_statement : (here : Standing) {names after : Names} {s : Statement} → IsTypedStatement functions here names s after
        → TellsNames after scope → Leaves here (statement scope callee s)
    typed_statement here of_pass tells = typed_skip scope.names here
    typed_statement here (of_break l) tells = typed_stop scope.names here break l
    typed_statement here (of_continue l) tells = typed_stop scope.names here continue l
    typed_statement here (of_return r m) tells =
        bind here (typed_returned here r tells) (λ a p. typed_stop scope.names here (return a) (m, p))
    typed_statement here (of_evaluate h n) tells =
        bind here (typed_any here h tells) (λ a p. typed_skip scope.names here)
    typed_statement here (of_assign h scalar takes) tells =
        bind here (typed_number here h scalar (tells_front scope (takes_behind functions takes) tells))
        (λ a p. typed_assigned here takes tells a p)
    typed_statement here (of_assign_element {x} array i e) tells =
        bind here (typed_any here e.1 tells)
        (λ a p. bind here (typed_any here i.1 tells)
        (λ place q. typed_write_element scope.names here x array.0 place a (tells x (V.Array array.0) array.1)))
    typed_statement here (of_augment {x} {op} {e} {t} there whole h also keeps) tells =
        bind here (typed_look scope.names here x)
        (λ held o. bind here (typed_any here h tells)
        (λ a p. bind here (typed_augmented here x t (tells x t there) whole (operator_of op) (number_in_value held) a)
        (λ new q. typed_write scope.names here x t (W.Int new) (tells x t there) (value_of_number t new q))))
    typed_statement here (of_augment_element {x} {i} {op} array place h) tells =
        bind here (typed_any here place.1 tells)
        (λ at o. bind here (typed_read_element scope.names here x at)
        (λ held p. bind here (typed_any here h.1 tells)
        (λ a q. bind here (typed_operate scope.names here {P = Anything} (operator_of op) V.Int64 held a (λ exact. tt))
        (λ new r. typed_write_element scope.names here x array.0 at new (tells x (V.Array array.0) array.1)))))
    typed_statement here (of_assign_repeated {n = n} h l m takes) tells =
        bind here (typed_any here h.1 (tells_front scope (takes_behind functions takes) tells))
        (λ a p. typed_array_assigned here takes tells (replicate n a) (length-replicate n a))
    typed_statement here (of_assign_list h l m takes) tells =
        bind here (typed_values here h (tells_front scope (takes_behind functions takes) tells))
        (λ items long. typed_array_assigned here takes tells items long)
    typed_statement here (of_if h body rest) tells =
        let before = tells_front scope (branches_behind functions rest) tells in
        bind here (typed_any here h (tells_front scope (block_behind functions body) before))
        (λ holds p. typed_either scope.names here (is_true holds) _ _ (typed_block here body before) (typed_otherwise here rest tells))
    typed_statement here (of_while h body) tells =
        typed_while scope.names here _ _ (typed_any here h (tells_front scope (block_behind functions body) tells))
        (typed_block (F.in_a_loop here) body tells)
    typed_statement here (of_for bounds takes body) tells =
        typed_for here _ bounds takes (tells_front scope (block_behind functions body) tells)
        (typed_block (F.in_a_loop here) body tells)
    typed_statement here (of_parallel body) tells =
        let within = F.in_parallel here in
        typed_outward scope.names within here refl refl
        (bind within (typed_cursor_now scope.names within) (λ start p. typed_parallel within body tells start start))
    typed_statement here (of_sequential body) tells = typed_block here body tells
    typed_statement here (of_record {name} still body) tells =
        let within = F.in_a_record here in
        typed_outward scope.names within here refl refl (typed_recorded scope.names within name _ (typed_block within body tells))
    typed_statement here (of_try body handlers) tells =
        typed_attempt scope.names here _ _ (typed_block here body (tells_front scope (handlers_behind functions handlers) tells))
        (typed_handler here handlers tells)

    pub typed_block : (here : Standing) {names after : Names} {b : Block} → IsTypedBlock functions here names b after
        → TellsNames after scope → Leaves here (block scope callee b)
    typed_block here of_done tells = typed_skip scope.names here
    typed_block here (of_line first rest) tells =
        typed_then scope.names here (typed_statement here first (tells_front scope (block_behind functions rest) tells))
        (typed_block here rest tells)

    -- each statement of a parallel block from the start cursor
    pub typed_parallel : (here : Standing) {names after : Names} {b : Block} → IsTypedBlock functions here names b after
        → TellsNames after scope → (start greatest : ℤ) → Leaves here (parallel_block scope callee b start greatest)
    typed_parallel here of_done tells start greatest = typed_set_cursor scope.names here greatest
    typed_parallel here (of_line first rest) tells start greatest =
        typed_then scope.names here (typed_set_cursor scope.names here start)
        (typed_then scope.names here (typed_statement here first (tells_front scope (block_behind functions rest) tells))
        (bind here (typed_cursor_now scope.names here)
        (λ t p. typed_parallel here rest tells start (int_max greatest t))))

    pub typed_otherwise : (here : Standing) {names after : Names} {rest : Otherwise} → AreTypedBranches functions here names rest after
        → TellsNames after scope → Leaves here (otherwise scope callee rest)
    typed_otherwise here of_no_else tells = typed_skip scope.names here
    typed_otherwise here (of_else body) tells = typed_block here body tells
    typed_otherwise here (of_elif h body rest) tells =
        let before = tells_front scope (branches_behind functions rest) tells in
        bind here (typed_any here h (tells_front scope (block_behind functions body) before))
        (λ holds p. typed_either scope.names here (is_true holds) _ _ (typed_block here body before)
        (typed_otherwise here rest tells))

    pub typed_handler : (here : Standing) {names after : Names} {handlers : Handlers}
        → AreTypedHandlers functions here names handlers after → TellsNames after scope → (x : Exc)
        → Leaves here (handler scope callee handlers x)
    typed_handler here of_no_handler tells x = typed_stop scope.names here (raised x) tt
    typed_handler here (of_except {exception = exception} e body rest) tells x =
        typed_if scope.names here (bytes_eq exception (name_of_exception x)) _ _
        (typed_block here body (tells_front scope (handlers_behind functions rest) tells)) (typed_handler here rest tells x)
