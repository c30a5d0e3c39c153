-- What the verdict finds of a statement holds by the rules.
use Rattle.std.proofs.Common.{◌≡◌, ℕ, ◌≤◌, ◌<◌, List, [], ◌∷◌, ◌++◌, length, Option, Some, None, refl, sym, ◌∙◌, ap, subst, arith}
use Rattle.std.specs.Prelude.{Bool, true, false, not, ◌&&◌, nat_le}
use Rattle.std.proofs.lemmas.Bool.{false≢true}
use Rattle.kern_syntax.specs.declared.program.DeclaredType.{DeclaredType}
use Rattle.kern_syntax.specs.declared.statement.Augment.{Augment}
use Rattle.kern_syntax.specs.Tree as T
use Rattle.kern_syntax.specs.Tree.{Bytes, Expression, Statement, pass, evaluate, assign, assign_element, augment, augment_element, assign_repeated, assign_list, if_then, while_do, for_range, parallel, sequential, record_as, try_do, Block, done, line_then, Otherwise, no_else, else_do, elif_then, Handlers, no_handler, except_then}
use Rattle.kern_calls.specs.declared.types.ValueType.{ValueType}
use Rattle.kern_calls.specs.declared.types.ValueType.TheVariants as V
use Rattle.kern_calls.specs.declared.wanted.Wanted.TheVariants as W
use Rattle.kern_calls.specs.Calls.{look_up}
use Rattle.kern_calls.specs.Types.{Names, wider_type}
use Rattle.kern_expression_types.specs.declared.place.Given.{Given}
use Rattle.kern_expression_types.specs.declared.place.Given.TheVariants as G
use Rattle.kern_expression_types.specs.declared.place.Place.{Place}
use Rattle.kern_expression_types.specs.declared.fault.TypeKind.TheVariants as K
use Rattle.kern_expression_types.specs.Before.{Functions, is_in, is_taken, exceptions}
use Rattle.kern_expression_types.specs.Verdicts.{Verdict, well, ◌>>=◌, refuse_if, refuse_some, found_or}
use Rattle.kern_expression_types.specs.Fits.{misfit, kept_misfit, declared_wanted, fit, fit_each, as_integer, scalar_of}
use Rattle.kern_expression_types.specs.Expressions.{variable_verdict, element_verdict, expression_verdict, condition_verdict, fitting_verdict, elements_verdict}
use Rattle.kern_types.specs.Statements.{most_names, at_line, inside_loop, inside_parallel, inside_record, turn_verdict, kept_verdict, assigned_verdict, array_verdict, value_verdict, return_verdict, alone_verdict, element_assigned_verdict, name_augmented_verdict, element_augmented_verdict, value_assigned_verdict, repeated_verdict, listed_verdict, range_verdict, loop_verdict, statement_verdict, block_verdict, branches_verdict, handlers_verdict}
use Rattle.kern_judgement.specs.Fitting.{standing_of}
use Rattle.kern_judgement.specs.Expressions.{HasType, IsAnInteger}
use Rattle.kern_judgement.specs.Statements.{Takes, Returns, HasBounds, IsArray, IsTypedStatement, IsTypedBlock, AreTypedBranches, AreTypedHandlers}
use Rattle.kern_judgement.proofs.Inverted.{same_found, no_fault, inverted, not_refused, none_refused, was_there, same_there}
use Rattle.kern_judgement.proofs.ExpressionsFound.{expression_found, fitting_found, integer_fitting, condition_has, elements_found}
use Rattle.kern_judgement.proofs.Fitting.{same_type, fits_found, array_fits, integer_found, scalar_found, alone_found, keeps_found}

-- a test that is refused where it fails holds
pub not_false : (b : Bool) → not b ≡ false → b ≡ true
not_false true e = refl
not_false false e = absurd (false≢true (sym e))

-- a count that isn't beyond the most leaves room
room : (n : ℕ) → nat_le most_names n ≡ false → n < most_names
room n e = grind (arith, e)

-- the length of an array that isn't refused
sizes : (n : ℕ) → not (nat_le 1 n && nat_le n 512) ≡ false → (1 ≤ n) × (n ≤ 512)
sizes n q = by_test (nat_le 1 n) (nat_le n 512) refl refl q
  where
    by_test : (b c : Bool) → nat_le 1 n ≡ b → nat_le n 512 ≡ c → not (b && c) ≡ false → (1 ≤ n) × (n ≤ 512)
    by_test true true l r q' = let some : 1 ≤ n = grind (arith, l) in let less : n ≤ 512 = grind (arith, r) in (some, less)
    by_test true false l r q' = absurd (false≢true (sym q'))
    by_test false c l r q' = absurd (false≢true (sym q'))

module _ (functions : Functions) where
  -- at a place behind names
  module _ (place : Place) (names : Names) where
    -- the verdict on an expression here
    abbrev value : Expression → Verdict Given
    value e = expression_verdict functions place names e

    -- what an expression gives by the rules
    abbrev Gives : Expression → Given → Type 0
    Gives e g = HasType functions (standing_of place) names e g

    -- an integer by the rules
    abbrev AnInteger : Expression → Type 0
    AnInteger e = IsAnInteger functions (standing_of place) names e

    -- a statement is typed, and leaves these names
    abbrev Leaves : Statement → (after : Names) → Type 0
    Leaves s after = IsTypedStatement functions (standing_of place) names s after

    -- an expression of a type that is known
    has : (e : Expression) (g h : Given) → value e ≡ well g → g ≡ h → Gives e h
    has e g h v q = subst (Gives e) q (expression_found functions place names e g v)

    -- an integer, from what it was found to be
    an_integer : (e : Expression) (g : Given) → value e ≡ well g → misfit W.Int64 g ≡ None → AnInteger e
    an_integer e g v q =
        integer_fitting functions place names e g (expression_found functions place names e g v) (fits_found W.Int64 g q)

    -- an integer, where one is wanted
    fitting_integer : (e : Expression) (u : Unit {0}) → fitting_verdict functions place names W.Int64 e ≡ well u → AnInteger e
    fitting_integer e u v =
        let a = inverted (value e) _ u v in
        an_integer e a.0 a.1 (none_refused (misfit W.Int64 a.0) place.line u a.2)

    -- an element's array, and that its index fits
    element_is : (x : Bytes) (index : Given) (u : Unit {0}) → element_verdict place.line names x index ≡ well u
        → IsArray functions names x × (misfit W.Int64 index ≡ None)
    element_is x index u e =
        let a = inverted (found_or (look_up names x) place.line K.Unknown) _ u e in
        let b = inverted (fit place.line W.Array (G.Typed a.0)) (λ z. fit place.line W.Int64 index) u a.2 in
        let fits = none_refused (misfit W.Array (G.Typed a.0)) place.line b.0 b.1 in
        let n = array_fits (fits_found W.Array (G.Typed a.0) fits) in
        let there = was_there (look_up names x) place.line K.Unknown a.0 a.1 in
        let array : IsArray functions names x = (n.0, there ∙ ap Some (same_type n.1)) in
        (array, none_refused (misfit W.Int64 index) place.line u b.2)

    -- what a name takes by the rules, from a value that may be there
    abbrev IsTaken : Bytes → Option ValueType → (after : Names) → Type 0
    IsTaken x value after = (t : ValueType) × (value ≡ Some t) × Takes functions x t names after

    -- a name that holds this, or nothing yet, is assigned a value
    kept : (x : Bytes) (value : Option ValueType) (after : Names) (o : Option ValueType) → is_taken functions x ≡ false
        → look_up names x ≡ o → kept_verdict place names x value o ≡ well after → IsTaken x value after
    kept x value after None free q e =
        let a = inverted (refuse_if (nat_le most_names (length names)) place.line K.Size) _ after e in
        let b = inverted (found_or value place.line K.Mismatch) _ after a.2 in
        let left = room (length names) (not_refused _ place.line K.Size a.0 a.1) in
        let takes : Takes functions x b.0 names (names ++ (x, b.0) ∷ []) = Takes.new free q left in
        (b.0, was_there value place.line K.Mismatch b.0 b.1, subst (Takes functions x b.0 names) (same_found b.2) takes)
    kept x value after (Some held) free q e =
        let a = inverted (found_or value place.line K.Mismatch) _ after e in
        let b = inverted (refuse_some (kept_misfit held a.0) place.line) _ after a.2 in
        let keeps = keeps_found held a.0 (none_refused (kept_misfit held a.0) place.line b.0 b.1) in
        let takes : Takes functions x a.0 names names = Takes.kept free q keeps in
        (a.0, was_there value place.line K.Mismatch a.0 a.1, subst (Takes functions x a.0 names) (same_found b.2) takes)

    -- a name is assigned a value that may be there
    assigned : (x : Bytes) (value : Option ValueType) (after : Names)
        → assigned_verdict functions place names x value ≡ well after → IsTaken x value after
    assigned x value after e =
        let a = inverted (refuse_if (is_taken functions x) place.line K.Name) _ after e in
        kept x value after (look_up names x) (not_refused (is_taken functions x) place.line K.Name a.0 a.1) refl a.2

    -- a name is assigned a value of this type
    pub takes_found : (x : Bytes) (t : ValueType) (after : Names)
        → assigned_verdict functions place names x (Some t) ≡ well after → Takes functions x t names after
    takes_found x t after e =
        let a = assigned x (Some t) after e in
        subst (λ u. Takes functions x u names after) (sym (same_there a.1)) a.2

    -- a name is assigned an array
    array_found : (x : Bytes) (n : ℕ) (after : Names) → array_verdict functions place names x n ≡ well after
        → (1 ≤ n) × (n ≤ 512) × Takes functions x (V.Array n) names after
    array_found x n after e =
        let a = inverted (refuse_if (not (nat_le 1 n && nat_le n 512)) place.line K.Size) _ after e in
        let s = sizes n (not_refused _ place.line K.Size a.0 a.1) in
        (s.0, s.1, takes_found x (V.Array n) after a.2)

    -- what a `return` has
    returned : (result : Option DeclaredType) (e : Option Expression) (u : Unit {0})
        → value_verdict functions place names result e ≡ well u → Returns functions (standing_of place) names result e
    returned None None u v = Returns.nothing
    returned (Some t) None u v = absurd (no_fault v)
    returned None (Some e) u v = absurd (no_fault (inverted (value e) _ u v).2)
    returned (Some t) (Some e) u v =
        let f = fitting_found functions place names (declared_wanted t) e u v in
        Returns.a_value f.1 f.2

    -- the bounds of a loop
    bounds : (from : Option Expression) (to : Expression) (t : ValueType)
        → range_verdict functions place names from to ≡ well t → HasBounds functions (standing_of place) names from to t
    bounds None to t e =
        let a = inverted (value to) _ t e in
        let i = integer_found place.line a.0 t a.2 in
        HasBounds.from_zero (has to a.0 (G.Typed t) a.1 i.0) i.1
    bounds (Some from) to t e =
        let a = inverted (value from) _ t e in
        let b = inverted (value to) _ t a.2 in
        let c = inverted (as_integer place.line a.0) _ t b.2 in
        let d = inverted (as_integer place.line b.0) _ t c.2 in
        let i = integer_found place.line a.0 c.0 c.1 in
        let j = integer_found place.line b.0 d.0 d.1 in
        let first = has from a.0 (G.Typed c.0) a.1 i.0 in
        let last = has to b.0 (G.Typed d.0) b.1 j.0 in
        let wider : wider_type c.0 d.0 ≡ t = same_found d.2 in
        subst (HasBounds functions (standing_of place) names (Some from) to) wider (HasBounds.between first i.1 last j.1)

    -- a statement that leaves the names as they are
    unchanged : (s : Statement) (v : Verdict (Unit {0})) (after : Names) → ((u : Unit {0}) → v ≡ well u → Leaves s names)
        → (v >>= λ a. well names) ≡ well after → Leaves s after
    unchanged s v after typed e =
        let i = inverted v (λ a. well names) after e in
        subst (Leaves s) (same_found i.2) (typed i.0 i.1)

    -- `break` and `continue`
    turned : (u : Unit {0}) → turn_verdict place ≡ well u → place.in_loop ≡ true
    turned u e = not_false place.in_loop (not_refused (not place.in_loop) place.line K.BlockExit u e)

    -- `return`
    returns : (e : Option Expression) (u : Unit {0}) → return_verdict functions place names e ≡ well u → Leaves (T.return e) names
    returns e u v =
        let b = inverted (value_verdict functions place names place.result e) _ u v in
        let may = not_false place.may_return (not_refused (not place.may_return) place.line K.BlockExit u b.2) in
        IsTypedStatement.of_return (returned place.result e b.0 b.1) may

    -- an expression that stands alone
    evaluated : (e : Expression) (u : Unit {0}) → alone_verdict functions place names e ≡ well u → Leaves (evaluate e) names
    evaluated e u v =
        let a = inverted (value e) _ u v in
        IsTypedStatement.of_evaluate (expression_found functions place names e a.0 a.1) (alone_found place.line a.0 u a.2)

    -- an element is assigned
    element_assigned : (x : Bytes) (i e : Expression) (u : Unit {0})
        → element_assigned_verdict functions place names x i e ≡ well u → Leaves (assign_element x i e) names
    element_assigned x i e u v =
        let a = inverted (value e) _ u v in
        let b = inverted (value i) _ u a.2 in
        let c = inverted (element_verdict place.line names x b.0) (λ z. fit place.line W.Int64 a.0) u b.2 in
        let n = element_is x b.0 c.0 c.1 in
        let fits = none_refused (misfit W.Int64 a.0) place.line u c.2 in
        IsTypedStatement.of_assign_element n.0 (an_integer i b.0 b.1 n.1) (an_integer e a.0 a.1 fits)

    -- a number is added to what a name holds
    augmented : (x : Bytes) (op : Augment) (e : Expression) (u : Unit {0})
        → name_augmented_verdict functions place names x e ≡ well u → Leaves (augment x op e) names
    augmented x op e u v =
        let a = inverted (variable_verdict place.line names x) _ u v in
        let b = inverted (found_or (look_up names x) place.line K.Unknown) _ a.0 a.1 in
        let c = inverted (value e) _ u a.2 in
        let d = inverted (as_integer place.line a.0) _ u c.2 in
        let f = inverted (as_integer place.line c.0) _ u d.2 in
        let i = integer_found place.line a.0 d.0 d.1 in
        let j = integer_found place.line c.0 f.0 f.1 in
        let same : b.0 ≡ d.0 = same_type (same_found b.2 ∙ i.0) in
        let there = was_there (look_up names x) place.line K.Unknown b.0 b.1 ∙ ap Some same in
        let sum = wider_type d.0 f.0 in
        let keeps = keeps_found d.0 sum (none_refused (kept_misfit d.0 sum) place.line u f.2) in
        IsTypedStatement.of_augment there i.1 (has e c.0 (G.Typed f.0) c.1 j.0) j.1 keeps

    -- a number is added to an element
    element_augmented : (x : Bytes) (i : Expression) (op : Augment) (e : Expression) (u : Unit {0})
        → element_augmented_verdict functions place names x i e ≡ well u → Leaves (augment_element x i op e) names
    element_augmented x i op e u v =
        let a = inverted (value i) _ u v in
        let b = inverted (element_verdict place.line names x a.0) (λ z. fitting_verdict functions place names W.Int64 e) u a.2 in
        let n = element_is x a.0 b.0 b.1 in
        IsTypedStatement.of_augment_element n.0 (an_integer i a.0 a.1 n.1) (fitting_integer e u b.2)

    -- a value is assigned
    value_assigned : (x : Bytes) (e : Expression) (after : Names)
        → value_assigned_verdict functions place names x e ≡ well after → Leaves (assign x e) after
    value_assigned x e after v =
        let a = inverted (value e) _ after v in
        let r = assigned x (scalar_of a.0) after a.2 in
        let n = scalar_found a.0 r.0 r.1 in
        IsTypedStatement.of_assign (has e a.0 (G.Typed r.0) a.1 n.0) n.1 r.2

    -- an array of equal elements is assigned
    repeated : (x : Bytes) (e : Expression) (n : ℕ) (after : Names)
        → repeated_verdict functions place names x e n ≡ well after → Leaves (assign_repeated x e n) after
    repeated x e n after v =
        let a = inverted (fitting_verdict functions place names W.Int64 e) (λ z. array_verdict functions place names x n) after v in
        let r = array_found x n after a.2 in
        IsTypedStatement.of_assign_repeated (fitting_integer e a.0 a.1) r.0 r.1 r.2

    -- an array of these elements is assigned
    listed : (x : Bytes) (es : List Expression) (after : Names)
        → listed_verdict functions place names x es ≡ well after → Leaves (assign_list x es) after
    listed x es after v =
        let a = inverted (elements_verdict functions place names es) _ after v in
        let b = inverted (fit_each place.line W.Int64 a.0) _ after a.2 in
        let r = array_found x (length es) after b.2 in
        IsTypedStatement.of_assign_list (elements_found functions place names es a.0 a.1 b.0 b.1) r.0 r.1 r.2

  mutual
    -- what the verdict finds of a statement holds by the rules
    pub found_statement : (s : Statement) (place : Place) (names after : Names)
        → statement_verdict functions s place names ≡ well after → IsTypedStatement functions (standing_of place) names s after
    found_statement pass place names after e = subst (Leaves place names pass) (same_found e) IsTypedStatement.of_pass
    found_statement T.break place names after e =
        unchanged place names T.break _ after (λ u v. IsTypedStatement.of_break (turned place names u v)) e
    found_statement T.continue place names after e =
        unchanged place names T.continue _ after (λ u v. IsTypedStatement.of_continue (turned place names u v)) e
    found_statement (T.return x) place names after e = unchanged place names (T.return x) _ after (returns place names x) e
    found_statement (evaluate x) place names after e = unchanged place names (evaluate x) _ after (evaluated place names x) e
    found_statement (assign x v) place names after e = value_assigned place names x v after e
    found_statement (assign_element x i v) place names after e =
        unchanged place names (assign_element x i v) _ after (element_assigned place names x i v) e
    found_statement (augment x op v) place names after e =
        unchanged place names (augment x op v) _ after (augmented place names x op v) e
    found_statement (augment_element x i op v) place names after e =
        unchanged place names (augment_element x i op v) _ after (element_augmented place names x i op v) e
    found_statement (assign_repeated x v n) place names after e = repeated place names x v n after e
    found_statement (assign_list x vs) place names after e = listed place names x vs after e
    found_statement (if_then c b rest) place names after e =
        let a = inverted (condition_verdict functions place names c) _ after e in
        let h = inverted (block_verdict functions b place names) _ after a.2 in
        let truth = condition_has functions place names c a.0 a.1 in
        IsTypedStatement.of_if truth (found_block b place names h.0 h.1) (found_branches rest place h.0 after h.2)
    found_statement (while_do c b) place names after e =
        let a = inverted (condition_verdict functions place names c) _ after e in
        let truth = condition_has functions place names c a.0 a.1 in
        IsTypedStatement.of_while truth (found_block b (inside_loop place) names after a.2)
    found_statement (for_range x from to b) place names after e =
        let a = inverted (loop_verdict functions place names x from to) _ after e in
        let h = inverted (range_verdict functions place names from to) _ a.0 a.1 in
        let takes = takes_found place names x h.0 a.0 h.2 in
        IsTypedStatement.of_for (bounds place names from to h.0 h.1) takes (found_block b (inside_loop place) a.0 after a.2)
    found_statement (parallel b) place names after e =
        IsTypedStatement.of_parallel (found_block b (inside_parallel place) names after e)
    found_statement (sequential b) place names after e = IsTypedStatement.of_sequential (found_block b place names after e)
    found_statement (record_as name b) place names after e =
        let a = inverted (refuse_if place.in_record place.line K.NestedRecord) _ after e in
        let outside = not_refused place.in_record place.line K.NestedRecord a.0 a.1 in
        IsTypedStatement.of_record outside (found_block b (inside_record place) names after a.2)
    found_statement (try_do b handlers) place names after e =
        let a = inverted (block_verdict functions b place names) _ after e in
        IsTypedStatement.of_try (found_block b place names a.0 a.1) (found_handlers handlers place a.0 after a.2)

    -- what the verdict finds of a block holds by the rules
    pub found_block : (b : Block) (place : Place) (names after : Names)
        → block_verdict functions b place names ≡ well after → IsTypedBlock functions (standing_of place) names b after
    found_block done place names after e =
        subst (IsTypedBlock functions (standing_of place) names done) (same_found e) IsTypedBlock.of_done
    found_block (line_then line s rest) place names after e =
        let a = inverted (statement_verdict functions s (at_line place line) names) _ after e in
        IsTypedBlock.of_line (found_statement s (at_line place line) names a.0 a.1) (found_block rest place a.0 after a.2)

    -- what the verdict finds of the further branches of an `if` holds by the rules
    pub found_branches : (rest : Otherwise) (place : Place) (names after : Names)
        → branches_verdict functions rest place names ≡ well after → AreTypedBranches functions (standing_of place) names rest after
    found_branches no_else place names after e =
        subst (AreTypedBranches functions (standing_of place) names no_else) (same_found e) AreTypedBranches.of_no_else
    found_branches (else_do b) place names after e = AreTypedBranches.of_else (found_block b place names after e)
    found_branches (elif_then line c b rest) place names after e =
        let first = condition_verdict functions (at_line place line) names c in
        let a = inverted (first >>= λ z. block_verdict functions b place names) _ after e in
        let h = inverted first (λ z. block_verdict functions b place names) a.0 a.1 in
        let truth = condition_has functions (at_line place line) names c h.0 h.1 in
        AreTypedBranches.of_elif truth (found_block b place names a.0 h.2) (found_branches rest place a.0 after a.2)

    -- what the verdict finds of `except` branches holds by the rules
    pub found_handlers : (handlers : Handlers) (place : Place) (names after : Names)
        → handlers_verdict functions handlers place names ≡ well after
        → AreTypedHandlers functions (standing_of place) names handlers after
    found_handlers no_handler place names after e =
        subst (AreTypedHandlers functions (standing_of place) names no_handler) (same_found e) AreTypedHandlers.of_no_handler
    found_handlers (except_then line name b rest) place names after e =
        let unknown = not (is_in exceptions name) in
        let a = inverted (refuse_if unknown line K.Unknown) _ after e in
        let h = inverted (block_verdict functions b place names) _ after a.2 in
        let known = not_false (is_in exceptions name) (not_refused unknown line K.Unknown a.0 a.1) in
        AreTypedHandlers.of_except known (found_block b place names h.0 h.1) (found_handlers rest place h.0 after h.2)
