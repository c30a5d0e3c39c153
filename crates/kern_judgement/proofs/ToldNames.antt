-- The names behind a statement that is typed by the rules are those that the definitions tell, and only grow.
use Rattle.std.proofs.Common.{◌≡◌, [], ◌∷◌, ◌++◌, Option, Some, refl, sym, ◌∙◌, ap, map, append_assoc, append-nil}
use Rattle.std.specs.Prelude.{List, Bool, true, false, bytes_eq, is_some, if◌then◌else◌}
use Rattle.std.proofs.lemmas.Bool.{false≢true}
use Rattle.kern_syntax.specs.Tree.{Bytes, Expression, Statement, Block, Otherwise, Handlers, ParameterTree, ProgramTree}
use Rattle.kern_calls.specs.declared.types.ValueType.{ValueType}
use Rattle.kern_calls.specs.Calls.{look_up}
use Rattle.kern_calls.specs.Types.{Names, declared_type, wider_type, scope_of, type_of, range_type, with_name, names_after, names_after_block, names_after_otherwise, names_after_handlers}
use Rattle.kern_expression_types.specs.declared.place.Given.TheVariants.{Typed}
use Rattle.kern_expression_types.specs.Before.{Functions}
use Rattle.kern_judgement.specs.Expressions.{HasType}
use Rattle.kern_judgement.specs.Fitting.{Standing, in_a_loop, in_parallel, in_a_record}
use Rattle.kern_judgement.specs.Programs as P
use Rattle.kern_judgement.specs.Programs.{HasParameters}
use Rattle.kern_judgement.specs.Statements.{Takes, new, kept, HasBounds, from_zero, between, IsTypedStatement, of_pass, of_break, of_continue, of_return, of_evaluate, of_assign, of_assign_element, of_augment, of_augment_element, of_assign_repeated, of_assign_list, of_if, of_while, of_for, of_parallel, of_sequential, of_record, of_try, IsTypedBlock, of_done, of_line, AreTypedBranches, of_no_else, of_else, of_elif, AreTypedHandlers, of_no_handler, of_except}
use Rattle.kern_judgement.specs.Told.{TellsFunctions}
use Rattle.kern_judgement.proofs.ToldTypes.{told}

-- what is known of names stays known
pub record Kept (names after : Names) : Type 0 where
  pub known : (x : Bytes) (t : ValueType) → look_up names x ≡ Some t → look_up after x ≡ Some t

kept_same : (names : Names) → Kept names names
kept_same names = record { known = λ x t e. e }

kept_then : {a b c : Names} → Kept a b → Kept b c → Kept a c
kept_then f g = record { known = λ x t e. g.known x t (f.known x t e) }

-- a name that is known is known also where another is put behind
known_behind : (names : Names) (x : Bytes) (t : ValueType) (y : Bytes) (u : ValueType) → look_up names y ≡ Some u
    → look_up (names ++ (x, t) ∷ []) y ≡ Some u
known_behind [] x t y u e = absurd (false≢true (ap is_some e))
known_behind (n ∷ names) x t y u e = by_test (bytes_eq y n.0) e (known_behind names x t y u)
  where
    by_test : (b : Bool) → (if b then Some n.1 else look_up names y) ≡ Some u
        → (look_up names y ≡ Some u → look_up (names ++ (x, t) ∷ []) y ≡ Some u)
        → (if b then Some n.1 else look_up (names ++ (x, t) ∷ []) y) ≡ Some u
    by_test true e' k = e'
    by_test false e' k = k e'

-- the parameters are the first names, in their order
abbrev pub named : List ParameterTree → Names
named parameters = map (λ p. (p.name, declared_type p.declared)) parameters

pub parameters_told : (functions : Functions) (names : Names) {parameters : List ParameterTree} {after : Names}
    → HasParameters functions names parameters after → after ≡ names ++ named parameters
parameters_told functions names P.none = sym (append-nil names)
parameters_told functions names (P.one {p = p} {rest = rest} _ _ _ others) =
    parameters_told functions (names ++ (p.name, declared_type p.declared) ∷ []) others
    ∙ append_assoc names ((p.name, declared_type p.declared) ∷ []) (named rest)

module _ (functions : Functions) where
  takes_grows : {x : Bytes} {t : ValueType} {names after : Names} → Takes functions x t names after → Kept names after
  takes_grows {x = x} {t = t} {names = names} (new free none room) = record { known = λ y u e. known_behind names x t y u e }
  takes_grows {names = names} (kept free there keeps) = kept_same names

  mutual
    -- names only grow behind a statement
    pub statement_grows : (here : Standing) (names : Names) {s : Statement} {after : Names}
        → IsTypedStatement functions here names s after → Kept names after
    statement_grows here names of_pass = kept_same names
    statement_grows here names (of_break _) = kept_same names
    statement_grows here names (of_continue _) = kept_same names
    statement_grows here names (of_return _ _) = kept_same names
    statement_grows here names (of_evaluate _ _) = kept_same names
    statement_grows here names (of_assign _ _ takes) = takes_grows takes
    statement_grows here names (of_assign_element _ _ _) = kept_same names
    statement_grows here names (of_augment _ _ _ _ _) = kept_same names
    statement_grows here names (of_augment_element _ _ _) = kept_same names
    statement_grows here names (of_assign_repeated _ _ _ takes) = takes_grows takes
    statement_grows here names (of_assign_list _ _ _ takes) = takes_grows takes
    statement_grows here names (of_if {between = m} _ body rest) = kept_then (block_grows here names body) (branches_grow here m rest)
    statement_grows here names (of_while _ body) = block_grows (in_a_loop here) names body
    statement_grows here names (of_for {between = m} _ takes body) = kept_then (takes_grows takes) (block_grows (in_a_loop here) m body)
    statement_grows here names (of_parallel body) = block_grows (in_parallel here) names body
    statement_grows here names (of_sequential body) = block_grows here names body
    statement_grows here names (of_record _ body) = block_grows (in_a_record here) names body
    statement_grows here names (of_try {between = m} body handlers) = kept_then (block_grows here names body) (handlers_grow here m handlers)

    -- and behind a block
    pub block_grows : (here : Standing) (names : Names) {b : Block} {after : Names} → IsTypedBlock functions here names b after
        → Kept names after
    block_grows here names of_done = kept_same names
    block_grows here names (of_line {between = m} s rest) = kept_then (statement_grows here names s) (block_grows here m rest)

    -- and behind the further branches of an `if`
    pub branches_grow : (here : Standing) (names : Names) {rest : Otherwise} {after : Names}
        → AreTypedBranches functions here names rest after → Kept names after
    branches_grow here names of_no_else = kept_same names
    branches_grow here names (of_else body) = block_grows here names body
    branches_grow here names (of_elif {between = m} _ body rest) = kept_then (block_grows here names body) (branches_grow here m rest)

    -- and behind handlers
    pub handlers_grow : (here : Standing) (names : Names) {handlers : Handlers} {after : Names}
        → AreTypedHandlers functions here names handlers after → Kept names after
    handlers_grow here names of_no_handler = kept_same names
    handlers_grow here names (of_except {between = m} _ body rest) = kept_then (block_grows here names body) (handlers_grow here m rest)

  -- the functions that may be called are told by the program
  module _ (program : ProgramTree) (callable : (names : Names) → TellsFunctions functions (scope_of program names)) where
    type_told : (here : Standing) (names : Names) {e : Expression} {t : ValueType} → HasType functions here names e (Typed t)
        → type_of (scope_of program names) e ≡ t
    type_told here names {t = t} e = told functions here names (scope_of program names) (λ x u q. q) (callable names) e t refl

    takes_told : {x : Bytes} {t : ValueType} {names after : Names} → Takes functions x t names after → with_name names x t ≡ after
    takes_told {x = x} {t = t} {names = names} (new free none room) = ap (λ o. if is_some o then names else names ++ (x, t) ∷ []) none
    takes_told {x = x} {t = t} {names = names} (kept free there keeps) = ap (λ o. if is_some o then names else names ++ (x, t) ∷ []) there

    bounds_told : (here : Standing) (names : Names) {from : Option Expression} {to : Expression} {t : ValueType}
        → HasBounds functions here names from to t → range_type (scope_of program names) from to ≡ t
    bounds_told here names (from_zero end _) = type_told here names end
    bounds_told here names (between {to = to} {t = t} start _ end _) =
        ap (λ u. wider_type u (type_of (scope_of program names) to)) (type_told here names start)
        ∙ ap (λ u. wider_type t u) (type_told here names end)

    mutual
      -- the names behind a statement are those that the definitions tell
      pub statement_told : (here : Standing) (names : Names) {s : Statement} {after : Names}
          → IsTypedStatement functions here names s after → names_after program s names ≡ after
      statement_told here names of_pass = refl
      statement_told here names (of_break _) = refl
      statement_told here names (of_continue _) = refl
      statement_told here names (of_return _ _) = refl
      statement_told here names (of_evaluate _ _) = refl
      statement_told here names (of_assign {x = x} e _ takes) = ap (λ u. with_name names x u) (type_told here names e) ∙ takes_told takes
      statement_told here names (of_assign_element _ _ _) = refl
      statement_told here names (of_augment _ _ _ _ _) = refl
      statement_told here names (of_augment_element _ _ _) = refl
      statement_told here names (of_assign_repeated _ _ _ takes) = takes_told takes
      statement_told here names (of_assign_list _ _ _ takes) = takes_told takes
      statement_told here names (of_if {rest = r} {between = m} _ body rest) =
          ap (λ n. names_after_otherwise program r n) (block_told here names body) ∙ branches_told here m rest
      statement_told here names (of_while _ body) = block_told (in_a_loop here) names body
      statement_told here names (of_for {x = x} {body = b} {between = m} bounds takes body) =
          ap (λ u. names_after_block program b (with_name names x u)) (bounds_told here names bounds)
          ∙ (ap (λ n. names_after_block program b n) (takes_told takes) ∙ block_told (in_a_loop here) m body)
      statement_told here names (of_parallel body) = block_told (in_parallel here) names body
      statement_told here names (of_sequential body) = block_told here names body
      statement_told here names (of_record _ body) = block_told (in_a_record here) names body
      statement_told here names (of_try {handlers = h} {between = m} body handlers) =
          ap (λ n. names_after_handlers program h n) (block_told here names body) ∙ handlers_told here m handlers

      -- and those behind a block
      pub block_told : (here : Standing) (names : Names) {b : Block} {after : Names} → IsTypedBlock functions here names b after
          → names_after_block program b names ≡ after
      block_told here names of_done = refl
      block_told here names (of_line {rest = r} {between = m} s rest) =
          ap (λ n. names_after_block program r n) (statement_told here names s) ∙ block_told here m rest

      -- and those behind the further branches of an `if`
      pub branches_told : (here : Standing) (names : Names) {rest : Otherwise} {after : Names}
          → AreTypedBranches functions here names rest after → names_after_otherwise program rest names ≡ after
      branches_told here names of_no_else = refl
      branches_told here names (of_else body) = block_told here names body
      branches_told here names (of_elif {rest = r} {between = m} _ body rest) =
          ap (λ n. names_after_otherwise program r n) (block_told here names body) ∙ branches_told here m rest

      -- and those behind handlers
      pub handlers_told : (here : Standing) (names : Names) {handlers : Handlers} {after : Names}
          → AreTypedHandlers functions here names handlers after → names_after_handlers program handlers names ≡ after
      handlers_told here names of_no_handler = refl
      handlers_told here names (of_except {rest = r} {between = m} _ body rest) =
          ap (λ n. names_after_handlers program r n) (block_told here names body) ∙ handlers_told here m rest
