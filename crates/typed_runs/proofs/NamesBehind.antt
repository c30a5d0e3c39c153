-- The names behind a part of a typed body begin with those before it, so what is known of a name stays known.
use Rattle.std.proofs.Common.{◌≡◌, List, [], ◌∷◌, ◌++◌, Some, None, refl, sym, ◌∙◌, ap, subst, append_assoc, append-nil}
use Rattle.std.specs.Prelude.{Bool, true, false, bytes_eq, is_some, if◌then◌else◌, map}
use Rattle.std.proofs.lemmas.Bool.{false≢true}
use Rattle.kern_syntax.specs.Tree.{Bytes, Statement, Block, Otherwise, Handlers, ParameterTree}
use Rattle.kern_calls.specs.declared.types.ValueType.{ValueType}
use Rattle.kern_calls.specs.Calls.{look_up}
use Rattle.kern_calls.specs.Types.{Names, Scope, declared_type}
use Rattle.kern_expression_types.specs.Before.{Functions}
use Rattle.kern_judgement.specs.Fitting.{Standing, Keeps, same}
use Rattle.kern_judgement.specs.Statements.{Takes, new, kept, IsTypedStatement, of_pass, of_break, of_continue, of_return, of_evaluate, of_assign, of_assign_element, of_augment, of_augment_element, of_assign_repeated, of_assign_list, of_if, of_while, of_for, of_parallel, of_sequential, of_record, of_try, IsTypedBlock, of_done, of_line, AreTypedBranches, of_no_else, of_else, of_elif, AreTypedHandlers, of_no_handler, of_except}
use Rattle.kern_judgement.specs.Programs.{HasParameters, none, one}
use Rattle.kern_judgement.specs.Told.{TellsNames}

-- names that begin with others
pub record BeginWith (names after : Names) : Type 0 where
  pub more : Names
  pub is : after ≡ names ++ more

begin_same : (names : Names) → BeginWith names names
begin_same names = record { more = []; is = sym (append-nil names) }

begin_one : (names : Names) (x : Bytes) (t : ValueType) → BeginWith names (names ++ (x, t) ∷ [])
begin_one names x t = record { more = (x, t) ∷ []; is = refl }

begin_then : {a b c : Names} → BeginWith a b → BeginWith b c → BeginWith a c
begin_then {a} f g =
    record { more = f.more ++ g.more; is = g.is ∙ ap (λ l. l ++ g.more) f.is ∙ append_assoc a f.more g.more }

-- a name that is found is found in front of others
pub found_in_front : (names more : Names) (x : Bytes) (t : ValueType) → look_up names x ≡ Some t → look_up (names ++ more) x ≡ Some t
found_in_front [] more x t e = absurd (false≢true (ap is_some e))
found_in_front (n ∷ names) more x t e = by_test (bytes_eq x n.0) e (found_in_front names more x t)
  where
    by_test : (b : Bool) → (if b then Some n.1 else look_up names x) ≡ Some t
        → (look_up names x ≡ Some t → look_up (names ++ more) x ≡ Some t) → (if b then Some n.1 else look_up (names ++ more) x) ≡ Some t
    by_test true e' k = e'
    by_test false e' k = k e'

-- a name behind others that lack it is found
found_behind : (names : Names) (x : Bytes) (t : ValueType) → look_up names x ≡ None → look_up (names ++ (x, t) ∷ []) x ≡ Some t
found_behind [] x t e = ap (λ b. if b then Some t else None) ((Rattle.std.proofs.lemmas.Slice.Eq.bytes_eq-Decides x x).1 refl)
found_behind (n ∷ names) x t e = by_test (bytes_eq x n.0) e (found_behind names x t)
  where
    by_test : (b : Bool) → (if b then Some n.1 else look_up names x) ≡ None
        → (look_up names x ≡ None → look_up (names ++ (x, t) ∷ []) x ≡ Some t)
        → (if b then Some n.1 else look_up (names ++ (x, t) ∷ []) x) ≡ Some t
    by_test true e' k = absurd (false≢true (sym (ap is_some e')))
    by_test false e' k = k e'

-- what a scope tells of more names it tells of fewer
pub tells_front : {names after : Names} (scope : Scope) → BeginWith names after → TellsNames after scope → TellsNames names scope
tells_front {names} scope f tells x t e =
    tells x t (subst (λ l. look_up l x ≡ Some t) (sym f.is) (found_in_front names f.more x t e))

-- the type that the scope tells of a name that takes a value keeps that value
pub record Held (scope : Scope) (x : Bytes) (t : ValueType) : Type 0 where
  pub type : ValueType
  pub there : look_up scope.names x ≡ Some type
  pub keeps : Keeps type t

module _ (functions : Functions) where
  -- a name that takes a value goes behind the others, or is among them
  pub takes_behind : {x : Bytes} {t : ValueType} {names after : Names} → Takes functions x t names after → BeginWith names after
  takes_behind {x} {t} {names} (new free lacking room) = begin_one names x t
  takes_behind {names = names} (kept free there keeps) = begin_same names

  -- and its type keeps that value
  pub takes_held : {x : Bytes} {t : ValueType} {names after : Names} (scope : Scope) → Takes functions x t names after
      → TellsNames after scope → Held scope x t
  takes_held {x} {t} {names} scope (new free lacking room) tells =
      record { type = t; there = tells x t (found_behind names x t lacking); keeps = same }
  takes_held {x} scope (kept {held} free there keeps) tells =
      record { type = held; there = tells x held there; keeps = keeps }

  mutual
    -- the names behind a statement begin with those before it
    pub statement_behind : {here : Standing} {names after : Names} {s : Statement} → IsTypedStatement functions here names s after
        → BeginWith names after
    statement_behind {names = names} of_pass = begin_same names
    statement_behind {names = names} (of_break l) = begin_same names
    statement_behind {names = names} (of_continue l) = begin_same names
    statement_behind {names = names} (of_return r m) = begin_same names
    statement_behind {names = names} (of_evaluate h n) = begin_same names
    statement_behind (of_assign h n takes) = takes_behind takes
    statement_behind {names = names} (of_assign_element a i e) = begin_same names
    statement_behind {names = names} (of_augment l i h u k) = begin_same names
    statement_behind {names = names} (of_augment_element a i e) = begin_same names
    statement_behind (of_assign_repeated h l m takes) = takes_behind takes
    statement_behind (of_assign_list h l m takes) = takes_behind takes
    statement_behind (of_if h body rest) = begin_then (block_behind body) (branches_behind rest)
    statement_behind (of_while h body) = block_behind body
    statement_behind (of_for bounds takes body) = begin_then (takes_behind takes) (block_behind body)
    statement_behind (of_parallel body) = block_behind body
    statement_behind (of_sequential body) = block_behind body
    statement_behind (of_record r body) = block_behind body
    statement_behind (of_try body handlers) = begin_then (block_behind body) (handlers_behind handlers)

    pub block_behind : {here : Standing} {names after : Names} {b : Block} → IsTypedBlock functions here names b after
        → BeginWith names after
    block_behind {names = names} of_done = begin_same names
    block_behind (of_line first rest) = begin_then (statement_behind first) (block_behind rest)

    pub branches_behind : {here : Standing} {names after : Names} {rest : Otherwise} → AreTypedBranches functions here names rest after
        → BeginWith names after
    branches_behind {names = names} of_no_else = begin_same names
    branches_behind (of_else body) = block_behind body
    branches_behind (of_elif h body rest) = begin_then (block_behind body) (branches_behind rest)

    pub handlers_behind : {here : Standing} {names after : Names} {handlers : Handlers}
        → AreTypedHandlers functions here names handlers after → BeginWith names after
    handlers_behind {names = names} of_no_handler = begin_same names
    handlers_behind (of_except e body rest) = begin_then (block_behind body) (handlers_behind rest)

  -- the names behind parameters are theirs, in their order, behind those before them
  pub parameters_behind : {names after : Names} {parameters : List ParameterTree} → HasParameters functions names parameters after
      → after ≡ names ++ map (λ p. (p.name, declared_type p.declared)) parameters
  parameters_behind {names} none = sym (append-nil names)
  parameters_behind {names} (one {p} {rest} l t r more) =
      parameters_behind more ∙ append_assoc names ((p.name, declared_type p.declared) ∷ [])
      (map (λ p. (p.name, declared_type p.declared)) rest)
