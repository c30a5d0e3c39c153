-- What the verdict finds of functions and programs holds by the rules.
use Rattle.std.proofs.Common.{◌≡◌, ℕ, ◌<◌, List, [], ◌∷◌, ◌++◌, length, Option, Some, None, refl, sym, subst, arith}
use Rattle.std.specs.Prelude.{Bool, true, false, not, ◌||◌, ◌==◌, nat_le, IsTrue, is_some, codes}
use Rattle.std.proofs.lemmas.Bool.{false≢true}
use Rattle.kern_syntax.specs.Tree.{Bytes, ParameterTree, FunctionTree, ProgramTree}
use Rattle.kern_calls.specs.Calls.{look_up}
use Rattle.kern_calls.specs.Types.{Names, declared_type, function_named}
use Rattle.kern_expression_types.specs.declared.fault.TypeKind.TheVariants as K
use Rattle.kern_expression_types.specs.Before.{Functions, is_reserved, is_taken}
use Rattle.kern_expression_types.specs.Verdicts.{Verdict, well, fault, refuse_if, is_well}
use Rattle.kern_types.specs.Plain.{with_plain}
use Rattle.kern_types.specs.Programs.{most_functions, most_parameters, parameter_verdict, parameters_verdict, body_place, body_functions, body_verdict, function_verdict, has_main, main_verdict, functions_verdict, program_verdict, IsTyped}
use Rattle.kern_judgement.specs.Programs.{HasParameters, IsTypedBody, IsTypedFunction, HasMain, AreTypedFunctions, IsTypedByRules}
use Rattle.kern_judgement.proofs.Inverted.{same_found, inverted, not_refused}
use Rattle.kern_judgement.proofs.StatementsFound.{not_false, found_block}

-- neither of two tests holds
neither : (a b : Bool) → (a || b) ≡ false → (a ≡ false) × (b ≡ false)
neither true b e = absurd (false≢true (sym e))
neither false b e = (refl, e)

-- what isn't there
not_there : {A : Type 0} (o : Option A) → is_some o ≡ false → o ≡ None
not_there None e = refl
not_there (Some a) e = absurd (false≢true (sym e))

-- a count that isn't beyond the most leaves room for a parameter
room_for_parameter : (n : ℕ) → nat_le most_parameters n ≡ false → n < most_parameters
room_for_parameter n e = grind (arith, e)

-- and for a function
room_for_function : (n : ℕ) → nat_le most_functions n ≡ false → n < most_functions
room_for_function n e = grind (arith, e)

-- what the verdict finds of parameters holds by the rules
pub parameters_found : (functions : Functions) (line : ℕ) (ps : List ParameterTree) (names after : Names)
    → parameters_verdict functions line ps names ≡ well after → HasParameters functions names ps after
parameters_found functions line [] names after e = subst (HasParameters functions names []) (same_found e) HasParameters.none
parameters_found functions line (p ∷ ps) names after e =
    let known = is_some (look_up names p.name) in
    let taken = is_taken functions p.name in
    let full = nat_le most_parameters (length names) in
    let a = inverted (parameter_verdict functions line p names) _ after e in
    let b = inverted (refuse_if (known || taken) line K.Name) _ a.0 a.1 in
    let c = inverted (refuse_if full line K.Size) _ a.0 b.2 in
    let n = neither known taken (not_refused (known || taken) line K.Name b.0 b.1) in
    let room = room_for_parameter (length names) (not_refused full line K.Size c.0 c.1) in
    let rest = parameters_found functions line ps a.0 after a.2 in
    let more : names ++ (p.name, declared_type p.declared) ∷ [] ≡ a.0 = same_found c.2 in
    let others = subst (λ m. HasParameters functions m ps after) (sym more) rest in
    HasParameters.one (not_there (look_up names p.name) n.0) n.1 room others

-- what the verdict finds of a function's body holds by the rules
pub body_found : (functions : Functions) (f : FunctionTree) (after : Names)
    → body_verdict functions f ≡ well after → IsTypedBody functions f after
body_found functions f after e =
    let a = inverted (parameters_verdict functions f.line f.parameters []) _ after e in
    record {
      parameters = a.0;
      has_parameters = parameters_found functions f.line f.parameters [] a.0 a.1;
      body = found_block functions f.body (body_place f) a.0 after a.2;
    }

-- the `main` of a program
main_found : (program : ProgramTree) (u : Unit {0}) → main_verdict program ≡ well u → HasMain program
main_found program u e =
    let has = has_main (function_named program (codes "main")) in
    there (function_named program (codes "main")) refl (not_false has (not_refused (not has) 1 K.NoMain u e))
  where
    empty : (ps : List ParameterTree) → (length ps == 0) ≡ true → ps ≡ []
    empty [] q = refl
    empty (p ∷ ps) q = absurd (grind (arith, q))

    there : (o : Option FunctionTree) → function_named program (codes "main") ≡ o → has_main o ≡ true → HasMain program
    there None q h = absurd (false≢true h)
    there (Some f) q h = record { main = f; is_there = q; takes_nothing = empty f.parameters h }

module _ (program : ProgramTree) where
  -- what the verdict finds of a function behind others holds by the rules
  pub function_found : (earlier : ProgramTree) (plain : List Bytes) (f : FunctionTree) (after : Names)
      → function_verdict program earlier plain f ≡ well after → IsTypedFunction program earlier plain f after
  function_found earlier plain f after e =
      let known = is_some (function_named earlier f.name) in
      let reserved = is_reserved f.name in
      let full = nat_le most_functions (length earlier) in
      let a = inverted (refuse_if (known || reserved) f.line K.Name) _ after e in
      let b = inverted (refuse_if full f.line K.Size) _ after a.2 in
      let n = neither known reserved (not_refused (known || reserved) f.line K.Name a.0 a.1) in
      record {
        is_new = not_there (function_named earlier f.name) n.0;
        is_free = n.1;
        has_room = room_for_function (length earlier) (not_refused full f.line K.Size b.0 b.1);
        body = body_found (body_functions program earlier plain f) f after b.2;
      }

  -- what the verdict finds of the functions that are left, and of `main`, holds by the rules
  functions_found : (earlier : ProgramTree) (plain : List Bytes) (rest : ProgramTree) (u : Unit {0})
      → functions_verdict program earlier plain rest ≡ well u → AreTypedFunctions program earlier plain rest × HasMain program
  functions_found earlier plain [] u e = (AreTypedFunctions.none, main_found program u e)
  functions_found earlier plain (f ∷ rest) u e =
      let a = inverted (function_verdict program earlier plain f) _ u e in
      let r = functions_found (earlier ++ f ∷ []) (with_plain plain f) rest u a.2 in
      (AreTypedFunctions.one (function_found earlier plain f a.0 a.1) r.0, r.1)

  -- a program that the verdict finds without fault is typed by the rules
  pub found_program : IsTyped program → IsTypedByRules program
  found_program typed =
      let r = functions_found [] [] program tt (well_is (program_verdict program) typed) in
      record { functions = r.0; has_main = r.1 }
    where
      well_is : (v : Verdict (Unit {0})) → IsTrue (is_well v) → v ≡ well tt
      well_is (well u) e = refl
      well_is (fault line kind) e = absurd (false≢true e)
