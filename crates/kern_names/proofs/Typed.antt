-- What each function of a typed program has: no two parameters of one name, and arrays whose lengths have two bytes.
use Rattle.std.proofs.Common.{◌≡◌, ℕ, zero, suc, ◌≤◌, List, [], ◌∷◌, ◌++◌, length, All, Contains, Option, Some, None, refl, sym, ap, subst, arith}
use Rattle.std.specs.Prelude.{Bool, true, false, not, ◌&&◌, ◌||◌, nat_le, is_some, IsTrue}
use Rattle.std.proofs.lemmas.Bool.{false≢true}
use Rattle.std.proofs.lemmas.List.Elements.{All-contains}
use Rattle.kern_syntax.specs.Tree.{Bytes, Statement, pass, evaluate, assign, assign_element, augment, augment_element, assign_repeated, assign_list, if_then, while_do, for_range, parallel, sequential, record_as, try_do, Block, done, line_then, Otherwise, no_else, else_do, elif_then, Handlers, no_handler, except_then, ParameterTree, FunctionTree, ProgramTree}
use Rattle.kern_syntax.specs.Tree as T
use Rattle.kern_calls.specs.declared.types.ValueType.{ValueType}
use Rattle.kern_calls.specs.declared.types.ValueType.TheVariants as V
use Rattle.kern_calls.specs.declared.wanted.Wanted.TheVariants as W
use Rattle.kern_calls.specs.Calls.{look_up}
use Rattle.kern_calls.specs.Types.{Names, declared_type, function_named}
use Rattle.kern_expression_types.specs.declared.place.Place.{Place}
use Rattle.kern_expression_types.specs.declared.fault.TypeKind.{TypeKind}
use Rattle.kern_expression_types.specs.declared.fault.TypeKind.TheVariants as K
use Rattle.kern_expression_types.specs.Before.{Functions, exceptions, is_in, is_reserved, is_taken}
use Rattle.kern_expression_types.specs.Expressions.{condition_verdict, elements_verdict, fitting_verdict}
use Rattle.kern_expression_types.specs.Fits.{fit_each}
use Rattle.kern_expression_types.specs.Verdicts.{Verdict, well, fault, ◌>>=◌, refuse_if, is_well}
use Rattle.kern_types.specs.Plain.{with_plain}
use Rattle.kern_types.specs.Programs.{IsTyped, body_functions, body_place, body_verdict, function_verdict, functions_verdict, most_functions, most_parameters, parameter_verdict, parameters_verdict, program_verdict}
use Rattle.kern_types.specs.Statements.{array_verdict, assigned_verdict, at_line, block_verdict, branches_verdict, handlers_verdict, inside_loop, inside_parallel, inside_record, loop_verdict, statement_verdict}
use Rattle.kern_names.specs.Arrays.{ArrayFits, StatementArraysFit, BlockArraysFit, OtherwiseArraysFit, HandlersArraysFit}
use Rattle.kern_names.specs.Parameters.{AreNew}

no_fault : {A : Type 0} {line : ℕ} {kind : TypeKind} {a : A} → fault line kind ≡ well a → ⊥
no_fault e = false≢true (ap is_well e)

abbrev found_in : {A : Type 0} → A → Verdict A → A
found_in d (well a) = a
found_in d (fault line kind) = d

same_found : {A : Type 0} {a b : A} → well a ≡ well b → a ≡ b
same_found {a = a} e = ap (found_in a) e

-- both parts were without fault
inverted : {A B : Type 0} (v : Verdict A) (f : A → Verdict B) (b : B) → (v >>= f) ≡ well b → (a : A) × (v ≡ well a) × (f a ≡ well b)
inverted (well a) f b e = (a, refl, e)
inverted (fault line kind) f b e = absurd (no_fault e)

not_refused : (t : Bool) (line : ℕ) (kind : TypeKind) (u : Unit {0}) → refuse_if t line kind ≡ well u → t ≡ false
not_refused true line kind u e = absurd (no_fault e)
not_refused false line kind u e = refl

well_is : (v : Verdict (Unit {0})) → IsTrue (is_well v) → v ≡ well tt
well_is (well u) e = refl
well_is (fault line kind) e = absurd (false≢true e)

missing : (o : Option ValueType) (b : Bool) → (is_some o || b) ≡ false → o ≡ None
missing None b e = refl
missing (Some t) b e = absurd (false≢true (sym e))

-- an array has at most 512 numbers
few_enough : (b c : Bool) (n : ℕ) → nat_le n 512 ≡ c → not (b && c) ≡ false → ArrayFits n
few_enough true true n less e = let few : n ≤ 512 = grind (arith, less) in omega (arith, few)
few_enough true false n less e = absurd (false≢true (sym e))
few_enough false c n less e = absurd (false≢true (sym e))

module _ (functions : Functions) where
  array_fits : (place : Place) (names : Names) (x : Bytes) (n : ℕ) (after : Names) → array_verdict functions place names x n ≡ well after → ArrayFits n
  array_fits place names x n after e =
      let a = inverted (refuse_if (not (nat_le 1 n && nat_le n 512)) place.line K.Size) (λ z. assigned_verdict functions place names x (Some (V.Array n))) after e in
      few_enough (nat_le 1 n) (nat_le n 512) n refl (not_refused _ _ _ a.0 a.1)

  mutual
    statement_fits : (s : Statement) (place : Place) (names after : Names) → statement_verdict functions s place names ≡ well after → StatementArraysFit s
    statement_fits pass place names after e = tt
    statement_fits T.break place names after e = tt
    statement_fits T.continue place names after e = tt
    statement_fits (T.return value) place names after e = tt
    statement_fits (evaluate value) place names after e = tt
    statement_fits (assign x value) place names after e = tt
    statement_fits (assign_element x i value) place names after e = tt
    statement_fits (augment x op value) place names after e = tt
    statement_fits (augment_element x i op value) place names after e = tt
    statement_fits (assign_repeated x value n) place names after e =
        let a = inverted (fitting_verdict functions place names W.Int64 value) (λ z. array_verdict functions place names x n) after e in
        array_fits place names x n after a.2
    statement_fits (assign_list x values) place names after e =
        let a = inverted (elements_verdict functions place names values) (λ given. fit_each place.line W.Int64 given >>= λ z. array_verdict functions place names x (length values)) after e in
        let b = inverted (fit_each place.line W.Int64 a.0) (λ z. array_verdict functions place names x (length values)) after a.2 in
        array_fits place names x (length values) after b.2
    statement_fits (if_then condition b rest) place names after e =
        let a = inverted (condition_verdict functions place names condition) (λ z. block_verdict functions b place names >>= λ m. branches_verdict functions rest place m) after e in
        let h = inverted (block_verdict functions b place names) (λ m. branches_verdict functions rest place m) after a.2 in
        (block_fits b place names h.0 h.1, otherwise_fits rest place h.0 after h.2)
    statement_fits (while_do condition b) place names after e =
        let a = inverted (condition_verdict functions place names condition) (λ z. block_verdict functions b (inside_loop place) names) after e in
        block_fits b (inside_loop place) names after a.2
    statement_fits (for_range x from to b) place names after e =
        let a = inverted (loop_verdict functions place names x from to) (λ m. block_verdict functions b (inside_loop place) m) after e in
        block_fits b (inside_loop place) a.0 after a.2
    statement_fits (parallel b) place names after e = block_fits b (inside_parallel place) names after e
    statement_fits (sequential b) place names after e = block_fits b place names after e
    statement_fits (record_as text b) place names after e =
        let a = inverted (refuse_if place.in_record place.line K.NestedRecord) (λ z. block_verdict functions b (inside_record place) names) after e in
        block_fits b (inside_record place) names after a.2
    statement_fits (try_do b handlers) place names after e =
        let a = inverted (block_verdict functions b place names) (λ m. handlers_verdict functions handlers place m) after e in
        (block_fits b place names a.0 a.1, handlers_fit handlers place a.0 after a.2)

    block_fits : (b : Block) (place : Place) (names after : Names) → block_verdict functions b place names ≡ well after → BlockArraysFit b
    block_fits done place names after e = tt
    block_fits (line_then line s rest) place names after e =
        let a = inverted (statement_verdict functions s (at_line place line) names) (λ m. block_verdict functions rest place m) after e in
        (statement_fits s (at_line place line) names a.0 a.1, block_fits rest place a.0 after a.2)

    otherwise_fits : (rest : Otherwise) (place : Place) (names after : Names) → branches_verdict functions rest place names ≡ well after → OtherwiseArraysFit rest
    otherwise_fits no_else place names after e = tt
    otherwise_fits (else_do b) place names after e = block_fits b place names after e
    otherwise_fits (elif_then line condition b rest) place names after e =
        let a = inverted (condition_verdict functions (at_line place line) names condition >>= λ z. block_verdict functions b place names) (λ m. branches_verdict functions rest place m) after e in
        let h = inverted (condition_verdict functions (at_line place line) names condition) (λ z. block_verdict functions b place names) a.0 a.1 in
        (block_fits b place names a.0 h.2, otherwise_fits rest place a.0 after a.2)

    handlers_fit : (handlers : Handlers) (place : Place) (names after : Names) → handlers_verdict functions handlers place names ≡ well after → HandlersArraysFit handlers
    handlers_fit no_handler place names after e = tt
    handlers_fit (except_then line x b rest) place names after e =
        let a = inverted (refuse_if (not (is_in exceptions x)) line K.Unknown) (λ z. block_verdict functions b place names >>= λ m. handlers_verdict functions rest place m) after e in
        let h = inverted (block_verdict functions b place names) (λ m. handlers_verdict functions rest place m) after a.2 in
        (block_fits b place names h.0 h.1, handlers_fit rest place h.0 after h.2)

  -- each parameter's name is new
  parameters_new : (line : ℕ) (ps : List ParameterTree) (names after : Names) → parameters_verdict functions line ps names ≡ well after → AreNew names ps
  parameters_new line [] names after e = tt
  parameters_new line (p ∷ rest) names after e =
      let next = names ++ (p.name, declared_type p.declared) ∷ [] in
      let a = inverted (parameter_verdict functions line p names) (λ m. parameters_verdict functions line rest m) after e in
      let b = inverted (refuse_if (is_some (look_up names p.name) || is_taken functions p.name) line K.Name) (λ z. refuse_if (nat_le most_parameters (length names)) line K.Size >>= λ y. well next) a.0 a.1 in
      let c = inverted (refuse_if (nat_le most_parameters (length names)) line K.Size) (λ y. well next) a.0 b.2 in
      (missing (look_up names p.name) (is_taken functions p.name) (not_refused _ _ _ b.0 b.1), subst (λ ns. AreNew ns rest) (sym (same_found c.2)) (parameters_new line rest a.0 after a.2))

-- a function whose names can be told one by one
pub record HasOwnNames (f : FunctionTree) : Type 0 where
  pub parameters : AreNew [] f.parameters
  pub arrays : BlockArraysFit f.body

-- one without a fault is such a function
own_names : (program earlier : ProgramTree) (plain : List Bytes) (f : FunctionTree) (names : Names) → function_verdict program earlier plain f ≡ well names → HasOwnNames f
own_names program earlier plain f names e =
    let functions = body_functions program earlier plain f in
    let a = inverted (refuse_if (is_some (function_named earlier f.name) || is_reserved f.name) f.line K.Name) (λ z. refuse_if (nat_le most_functions (length earlier)) f.line K.Size >>= λ y. body_verdict functions f) names e in
    let b = inverted (refuse_if (nat_le most_functions (length earlier)) f.line K.Size) (λ y. body_verdict functions f) names a.2 in
    let c = inverted (parameters_verdict functions f.line f.parameters []) (λ ns. block_verdict functions f.body (body_place f) ns) names b.2 in
    record { parameters = parameters_new functions f.line f.parameters [] c.0 c.1; arrays = block_fits functions f.body (body_place f) c.0 names c.2 }

-- so is each of some functions
all_own : (program earlier : ProgramTree) (plain : List Bytes) (fs : ProgramTree) (u : Unit {0}) → functions_verdict program earlier plain fs ≡ well u → All HasOwnNames fs
all_own program earlier plain [] u e k d within = absurd (omega (arith, within))
all_own program earlier plain (f ∷ fs) u e zero d within =
    let a = inverted (function_verdict program earlier plain f) (λ z. functions_verdict program (earlier ++ f ∷ []) (with_plain plain f) fs) u e in
    own_names program earlier plain f a.0 a.1
all_own program earlier plain (f ∷ fs) u e (suc k) d within =
    let a = inverted (function_verdict program earlier plain f) (λ z. functions_verdict program (earlier ++ f ∷ []) (with_plain plain f) fs) u e in
    all_own program (earlier ++ f ∷ []) (with_plain plain f) fs u a.2 k d (omega (arith, within))

-- and each of a typed program
pub typed_own : (program : ProgramTree) → IsTyped program → (f : FunctionTree) → Contains program f → HasOwnNames f
typed_own program typed f here =
    All-contains HasOwnNames program f (all_own program [] [] program tt (well_is (program_verdict program) typed)) here
