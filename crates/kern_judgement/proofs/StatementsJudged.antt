-- What holds of a statement by the rules the verdict finds.
use Rattle.std.proofs.Common.{◌≡◌, ℕ, ◌≤◌, ◌<◌, List, length, Option, Some, None, refl, ◌∙◌, ap, arith}
use Rattle.std.specs.Prelude.{true, false, not, ◌&&◌, nat_le}
use Rattle.kern_syntax.specs.declared.program.DeclaredType.{DeclaredType}
use Rattle.kern_syntax.specs.Tree as T
use Rattle.kern_syntax.specs.Tree.{Bytes, Expression, Statement, pass, evaluate, assign, assign_element, augment, augment_element, assign_repeated, assign_list, if_then, while_do, for_range, parallel, sequential, record_as, try_do, Block, done, line_then, Otherwise, no_else, else_do, elif_then, Handlers, no_handler, except_then}
use Rattle.kern_calls.specs.declared.types.ValueType.{ValueType}
use Rattle.kern_calls.specs.declared.types.ValueType.TheVariants as V
use Rattle.kern_calls.specs.declared.wanted.Wanted.TheVariants as W
use Rattle.kern_calls.specs.Calls.{look_up}
use Rattle.kern_calls.specs.Types.{Names, wider_type}
use Rattle.kern_expression_types.specs.declared.place.Given.{Given}
use Rattle.kern_expression_types.specs.declared.place.Given.TheVariants as G
use Rattle.kern_expression_types.specs.declared.place.Place.{Place}
use Rattle.kern_expression_types.specs.declared.fault.TypeKind.TheVariants as K
use Rattle.kern_expression_types.specs.Before.{Functions, is_in, is_taken, exceptions}
use Rattle.kern_expression_types.specs.Verdicts.{Verdict, well, ◌>>=◌}
use Rattle.kern_expression_types.specs.Fits.{misfit, kept_misfit, declared_wanted, fit}
use Rattle.kern_expression_types.specs.Expressions.{element_verdict, expression_verdict, fitting_verdict}
use Rattle.kern_types.specs.Statements.{most_names, at_line, inside_loop, inside_parallel, inside_record, turn_verdict, kept_verdict, assigned_verdict, array_verdict, value_verdict, return_verdict, alone_verdict, element_assigned_verdict, name_augmented_verdict, element_augmented_verdict, value_assigned_verdict, repeated_verdict, listed_verdict, range_verdict, statement_verdict, block_verdict, branches_verdict, handlers_verdict}
use Rattle.kern_judgement.specs.Fitting.{standing_of, IsInteger, IsScalar, IsNoArray, Fits, Keeps}
use Rattle.kern_judgement.specs.Expressions.{HasType, IsAnInteger, AreIntegers}
use Rattle.kern_judgement.specs.Statements.{Takes, Returns, HasBounds, IsArray, IsTypedStatement, IsTypedBlock, AreTypedBranches, AreTypedHandlers}
use Rattle.kern_judgement.proofs.Inverted.{chained, unrefused, refused_none, is_found}
use Rattle.kern_judgement.proofs.ExpressionsJudged.{expression_judged, fitting_judged, condition_passes, elements_judged}
use Rattle.kern_judgement.proofs.Fitting.{fits_judged, integer_judged, scalar_judged, alone_judged, keeps_judged}

-- where there is room the count isn't beyond the most
not_full : (n : ℕ) → n < most_names → nat_le most_names n ≡ false
not_full n less = grind (arith, less)

-- the length of an array isn't refused
right_size : (n : ℕ) → 1 ≤ n → n ≤ 512 → not (nat_le 1 n && nat_le n 512) ≡ false
right_size n some less =
    let a : nat_le 1 n ≡ true = grind (arith, some) in
    let b : nat_le n 512 ≡ true = grind (arith, less) in
    ap (λ t. not (t && nat_le n 512)) a ∙ ap not b

module _ (functions : Functions) where
  -- at a place behind names
  module _ (place : Place) (names : Names) where
    -- the verdict on an expression here
    abbrev value : Expression → Verdict Given
    value e = expression_verdict functions place names e

    -- an integer by the rules
    abbrev AnInteger : Expression → Type 0
    AnInteger e = IsAnInteger functions (standing_of place) names e

    -- an integer is found to be one
    is_integer : (e : Expression) (i : AnInteger e) → value e ≡ well (G.Typed i.0)
    is_integer e i = expression_judged functions place names i.1

    -- an integer, where one is wanted
    fitting_integer : (e : Expression) → AnInteger e → fitting_verdict functions place names W.Int64 e ≡ well tt
    fitting_integer e i = fitting_judged functions place names W.Int64 e (G.Typed i.0) i.1 (Fits.int64 i.2)

    -- an integer fits where the wider one is wanted
    fits : (t : ValueType) → IsInteger t → fit place.line W.Int64 (G.Typed t) ≡ well tt
    fits t i = refused_none (misfit W.Int64 (G.Typed t)) place.line (fits_judged (Fits.int64 i))

    -- an element, with an index that is an integer
    element_is : (x : Bytes) (t : ValueType) → IsArray functions names x → IsInteger t
        → element_verdict place.line names x (G.Typed t) ≡ well tt
    element_is x t a i =
        chained _ _ (V.Array a.0) tt (is_found (look_up names x) place.line K.Unknown (V.Array a.0) a.1)
        (fits t i)

    -- a name that may be assigned to, and holds this or nothing yet
    not_taken : (x : Bytes) (value held : Option ValueType) (after : Names) → is_taken functions x ≡ false
        → look_up names x ≡ held → kept_verdict place names x value held ≡ well after
        → assigned_verdict functions place names x value ≡ well after
    not_taken x value held after free is e =
        chained _ _ tt after (unrefused (is_taken functions x) place.line K.Name free)
        (ap (kept_verdict place names x value) is ∙ e)

    -- a name is assigned a value of this type
    pub takes_judged : (x : Bytes) (t : ValueType) (after : Names) → Takes functions x t names after
        → assigned_verdict functions place names x (Some t) ≡ well after
    takes_judged x t after (Takes.new free gone room) =
        let full = nat_le most_names (length names) in
        let left = unrefused full place.line K.Size (not_full (length names) room) in
        not_taken x (Some t) None after free gone (chained _ _ tt after left refl)
    takes_judged x t after (Takes.kept {held = held} free there keeps) =
        let kept = refused_none (kept_misfit held t) place.line (keeps_judged keeps) in
        not_taken x (Some t) (Some held) after free there
        (chained _ _ tt after kept refl)

    -- a name is assigned an array
    array_judged : (x : Bytes) (n : ℕ) (after : Names) → 1 ≤ n → n ≤ 512 → Takes functions x (V.Array n) names after
        → array_verdict functions place names x n ≡ well after
    array_judged x n after some less takes =
        let wrong = not (nat_le 1 n && nat_le n 512) in
        chained _ _ tt after (unrefused wrong place.line K.Size (right_size n some less))
        (takes_judged x (V.Array n) after takes)

    -- what a `return` has
    returned : {result : Option DeclaredType} {e : Option Expression} → Returns functions (standing_of place) names result e
        → value_verdict functions place names result e ≡ well tt
    returned Returns.nothing = refl
    returned (Returns.a_value {declared = declared} {e = e} {g = g} h f) =
        fitting_judged functions place names (declared_wanted declared) e g h f

    -- the bounds of a loop
    bounds : {from : Option Expression} {to : Expression} {t : ValueType}
        → HasBounds functions (standing_of place) names from to t → range_verdict functions place names from to ≡ well t
    bounds (HasBounds.from_zero {to = to} {t = t} h i) =
        chained _ _ (G.Typed t) t (is_integer to (t, h, i)) (integer_judged place.line i)
    bounds (HasBounds.between {from = from} {to = to} {t = t} {u = u} h i k j) =
        let wider = wider_type t u in
        chained _ _ (G.Typed t) wider (is_integer from (t, h, i))
        (chained _ _ (G.Typed u) wider (is_integer to (u, k, j))
        (chained _ _ t wider (integer_judged place.line i)
        (chained _ _ u wider (integer_judged place.line j) refl)))

    -- a statement that leaves the names as they are
    unchanged : (v : Verdict (Unit {0})) → v ≡ well tt → (v >>= λ a. well names) ≡ well names
    unchanged v e = chained _ _ tt names e refl

    -- `break` and `continue`
    turned : place.in_loop ≡ true → turn_verdict place ≡ well tt
    turned e = unrefused (not place.in_loop) place.line K.BlockExit (ap not e)

    -- `return`
    returns : (e : Option Expression) → Returns functions (standing_of place) names place.result e → place.may_return ≡ true
        → return_verdict functions place names e ≡ well tt
    returns e r may =
        chained _ _ tt tt (returned r)
        (unrefused (not place.may_return) place.line K.BlockExit (ap not may))

    -- an expression that stands alone
    evaluated : (e : Expression) (g : Given) → HasType functions (standing_of place) names e g → IsNoArray g
        → alone_verdict functions place names e ≡ well tt
    evaluated e g h a = chained _ _ g tt (expression_judged functions place names h) (alone_judged place.line a)

    -- an element is assigned
    element_assigned : (x : Bytes) (i e : Expression) → IsArray functions names x → AnInteger i → AnInteger e
        → element_assigned_verdict functions place names x i e ≡ well tt
    element_assigned x i e array index number =
        chained _ _ (G.Typed number.0) tt (is_integer e number)
        (chained _ _ (G.Typed index.0) tt (is_integer i index)
        (chained _ _ tt tt (element_is x index.0 array index.2) (fits number.0 number.2)))

    -- a number is added to what a name holds
    augmented : (x : Bytes) (e : Expression) (t : ValueType) (u : AnInteger e) → look_up names x ≡ Some t → IsInteger t
        → Keeps t (wider_type t u.0) → name_augmented_verdict functions place names x e ≡ well tt
    augmented x e t u there i keeps =
        let held = is_found (look_up names x) place.line K.Unknown t there in
        let kept = refused_none (kept_misfit t (wider_type t u.0)) place.line (keeps_judged keeps) in
        chained _ _ (G.Typed t) tt (chained _ _ t (G.Typed t) held refl)
        (chained _ _ (G.Typed u.0) tt (is_integer e u)
        (chained _ _ t tt (integer_judged place.line i)
        (chained _ _ u.0 tt (integer_judged place.line u.2) kept)))

    -- a number is added to an element
    element_augmented : (x : Bytes) (i e : Expression) → IsArray functions names x → AnInteger i → AnInteger e
        → element_augmented_verdict functions place names x i e ≡ well tt
    element_augmented x i e array index number =
        chained _ _ (G.Typed index.0) tt (is_integer i index)
        (chained _ _ tt tt (element_is x index.0 array index.2) (fitting_integer e number))

    -- a value is assigned
    value_assigned : (x : Bytes) (e : Expression) (t : ValueType) (after : Names)
        → HasType functions (standing_of place) names e (G.Typed t) → IsScalar t → Takes functions x t names after
        → value_assigned_verdict functions place names x e ≡ well after
    value_assigned x e t after h s takes =
        chained _ _ (G.Typed t) after (expression_judged functions place names h)
        (ap (assigned_verdict functions place names x) (scalar_judged s) ∙ takes_judged x t after takes)

    -- an array of equal elements is assigned
    repeated : (x : Bytes) (e : Expression) (n : ℕ) (after : Names) → AnInteger e
        → array_verdict functions place names x n ≡ well after → repeated_verdict functions place names x e n ≡ well after
    repeated x e n after i array = chained _ _ tt after (fitting_integer e i) array

    -- an array of these elements is assigned
    listed : (x : Bytes) (es : List Expression) (after : Names) → AreIntegers functions (standing_of place) names es
        → array_verdict functions place names x (length es) ≡ well after → listed_verdict functions place names x es ≡ well after
    listed x es after all array =
        let r = elements_judged functions place names all in
        chained _ _ r.0 after r.1
        (chained _ _ tt after r.2 array)

  mutual
    -- what holds of a statement by the rules the verdict finds
    pub judged_statement : (s : Statement) (place : Place) (names after : Names)
        → IsTypedStatement functions (standing_of place) names s after → statement_verdict functions s place names ≡ well after
    judged_statement pass place names after IsTypedStatement.of_pass = refl
    judged_statement T.break place names after (IsTypedStatement.of_break q) =
        unchanged place names (turn_verdict place) (turned place names q)
    judged_statement T.continue place names after (IsTypedStatement.of_continue q) =
        unchanged place names (turn_verdict place) (turned place names q)
    judged_statement (T.return e) place names after (IsTypedStatement.of_return r q) =
        unchanged place names (return_verdict functions place names e) (returns place names e r q)
    judged_statement (evaluate e) place names after (IsTypedStatement.of_evaluate {g = g} h a) =
        unchanged place names (alone_verdict functions place names e) (evaluated place names e g h a)
    judged_statement (assign x e) place names after (IsTypedStatement.of_assign {t = t} h s takes) =
        value_assigned place names x e t after h s takes
    judged_statement (assign_element x i e) place names after (IsTypedStatement.of_assign_element a j k) =
        unchanged place names (element_assigned_verdict functions place names x i e) (element_assigned place names x i e a j k)
    judged_statement (augment x op e) place names after (IsTypedStatement.of_augment {t = t} {u = u} there i h j keeps) =
        unchanged place names (name_augmented_verdict functions place names x e)
        (augmented place names x e t (u, h, j) there i keeps)
    judged_statement (augment_element x i op e) place names after (IsTypedStatement.of_augment_element a j k) =
        unchanged place names (element_augmented_verdict functions place names x i e) (element_augmented place names x i e a j k)
    judged_statement (assign_repeated x e n) place names after (IsTypedStatement.of_assign_repeated i some less takes) =
        repeated place names x e n after i (array_judged place names x n after some less takes)
    judged_statement (assign_list x es) place names after (IsTypedStatement.of_assign_list all some less takes) =
        listed place names x es after all (array_judged place names x (length es) after some less takes)
    judged_statement (if_then c b rest) place names after (IsTypedStatement.of_if {between = m} h p q) =
        chained _ _ tt after (condition_passes functions place names c h)
        (chained _ _ m after (judged_block b place names m p)
        (judged_branches rest place m after q))
    judged_statement (while_do c b) place names after (IsTypedStatement.of_while h p) =
        chained _ _ tt after (condition_passes functions place names c h)
        (judged_block b (inside_loop place) names after p)
    judged_statement (for_range x from to b) place names after (IsTypedStatement.of_for {t = t} {between = m} h takes p) =
        chained _ _ m after (chained _ _ t m (bounds place names h) (takes_judged place names x t m takes))
        (judged_block b (inside_loop place) m after p)
    judged_statement (parallel b) place names after (IsTypedStatement.of_parallel p) =
        judged_block b (inside_parallel place) names after p
    judged_statement (sequential b) place names after (IsTypedStatement.of_sequential p) = judged_block b place names after p
    judged_statement (record_as name b) place names after (IsTypedStatement.of_record q p) =
        chained _ _ tt after (unrefused place.in_record place.line K.NestedRecord q)
        (judged_block b (inside_record place) names after p)
    judged_statement (try_do b handlers) place names after (IsTypedStatement.of_try {between = m} p q) =
        chained _ _ m after (judged_block b place names m p)
        (judged_handlers handlers place m after q)

    -- what holds of a block by the rules the verdict finds
    pub judged_block : (b : Block) (place : Place) (names after : Names)
        → IsTypedBlock functions (standing_of place) names b after → block_verdict functions b place names ≡ well after
    judged_block done place names after IsTypedBlock.of_done = refl
    judged_block (line_then line s rest) place names after (IsTypedBlock.of_line {between = m} p q) =
        chained _ _ m after (judged_statement s (at_line place line) names m p)
        (judged_block rest place m after q)

    -- what holds of the further branches of an `if` by the rules the verdict finds
    pub judged_branches : (rest : Otherwise) (place : Place) (names after : Names)
        → AreTypedBranches functions (standing_of place) names rest after → branches_verdict functions rest place names ≡ well after
    judged_branches no_else place names after AreTypedBranches.of_no_else = refl
    judged_branches (else_do b) place names after (AreTypedBranches.of_else p) = judged_block b place names after p
    judged_branches (elif_then line c b rest) place names after (AreTypedBranches.of_elif {between = m} h p q) =
        let truth = condition_passes functions (at_line place line) names c h in
        let first = chained _ (λ z. block_verdict functions b place names) tt m truth (judged_block b place names m p) in
        chained _ _ m after first (judged_branches rest place m after q)

    -- what holds of `except` branches by the rules the verdict finds
    pub judged_handlers : (handlers : Handlers) (place : Place) (names after : Names)
        → AreTypedHandlers functions (standing_of place) names handlers after
        → handlers_verdict functions handlers place names ≡ well after
    judged_handlers no_handler place names after AreTypedHandlers.of_no_handler = refl
    judged_handlers (except_then line name b rest) place names after (AreTypedHandlers.of_except {between = m} known p q) =
        let unknown = not (is_in exceptions name) in
        chained _ _ tt after (unrefused unknown line K.Unknown (ap not known))
        (chained _ _ m after (judged_block b place names m p)
        (judged_handlers rest place m after q))
