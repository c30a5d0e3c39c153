-- What holds of functions and programs by the rules the verdict finds.
use Rattle.std.proofs.Common.{◌≡◌, ℕ, ◌<◌, List, [], ◌∷◌, ◌++◌, length, Option, None, refl, ◌∙◌, ap, arith}
use Rattle.std.specs.Prelude.{Bool, false, not, ◌||◌, ◌==◌, nat_le, is_some, codes}
use Rattle.kern_syntax.specs.Tree.{Bytes, ParameterTree, FunctionTree, ProgramTree}
use Rattle.kern_calls.specs.Calls.{look_up}
use Rattle.kern_calls.specs.Types.{Names, declared_type, function_named}
use Rattle.kern_expression_types.specs.declared.fault.TypeKind.TheVariants as K
use Rattle.kern_expression_types.specs.Before.{Functions, is_reserved, is_taken}
use Rattle.kern_expression_types.specs.Verdicts.{well, is_well}
use Rattle.kern_types.specs.Plain.{with_plain}
use Rattle.kern_types.specs.Programs.{most_functions, most_parameters, parameter_verdict, parameters_verdict, body_place, body_functions, body_verdict, function_verdict, has_main, main_verdict, functions_verdict, IsTyped}
use Rattle.kern_judgement.specs.Programs.{HasParameters, IsTypedBody, IsTypedFunction, HasMain, AreTypedFunctions, IsTypedByRules}
use Rattle.kern_judgement.proofs.Inverted.{chained, unrefused}
use Rattle.kern_judgement.proofs.StatementsJudged.{judged_block}

-- where there is room for a parameter the count isn't beyond the most
room_for_parameter : (n : ℕ) → n < most_parameters → nat_le most_parameters n ≡ false
room_for_parameter n less = grind (arith, less)

-- the same of a function
room_for_function : (n : ℕ) → n < most_functions → nat_le most_functions n ≡ false
room_for_function n less = grind (arith, less)

-- what isn't there and isn't refused either
neither : {A : Type 0} (o : Option A) (b : Bool) → o ≡ None → b ≡ false → (is_some o || b) ≡ false
neither o b e q = ap (λ p. is_some p || b) e ∙ q

-- what holds of parameters by the rules the verdict finds
pub parameters_judged : (functions : Functions) (line : ℕ) (ps : List ParameterTree) (names after : Names)
    → HasParameters functions names ps after → parameters_verdict functions line ps names ≡ well after
parameters_judged functions line [] names after HasParameters.none = refl
parameters_judged functions line (p ∷ ps) names after (HasParameters.one gone free room rest) =
    let more = names ++ (p.name, declared_type p.declared) ∷ [] in
    let wrong = is_some (look_up names p.name) || is_taken functions p.name in
    let full = nat_le most_parameters (length names) in
    let new = neither (look_up names p.name) (is_taken functions p.name) gone free in
    let left = chained _ _ tt more (unrefused full line K.Size (room_for_parameter (length names) room)) refl in
    let first : parameter_verdict functions line p names ≡ well more = chained _ _ tt more (unrefused wrong line K.Name new) left in
    chained _ _ more after first (parameters_judged functions line ps more after rest)

-- what holds of a function's body by the rules the verdict finds
pub body_judged : (functions : Functions) (f : FunctionTree) (after : Names)
    → IsTypedBody functions f after → body_verdict functions f ≡ well after
body_judged functions f after b =
    chained _ _ b.parameters after (parameters_judged functions f.line f.parameters [] b.parameters b.has_parameters)
    (judged_block functions f.body (body_place f) b.parameters after b.body)

-- the `main` of a program
main_judged : (program : ProgramTree) → HasMain program → main_verdict program ≡ well tt
main_judged program m =
    let has = has_main (function_named program (codes "main")) in
    let takes_nothing = ap (λ (ps : List ParameterTree). not (length ps == 0)) m.takes_nothing in
    unrefused (not has) 1 K.NoMain (ap (λ o. not (has_main o)) m.is_there ∙ takes_nothing)

module _ (program : ProgramTree) where
  -- what holds of a function behind others by the rules the verdict finds
  pub function_judged : (earlier : ProgramTree) (plain : List Bytes) (f : FunctionTree) (after : Names)
      → IsTypedFunction program earlier plain f after → function_verdict program earlier plain f ≡ well after
  function_judged earlier plain f after t =
      let wrong = is_some (function_named earlier f.name) || is_reserved f.name in
      let full = nat_le most_functions (length earlier) in
      let new = neither (function_named earlier f.name) (is_reserved f.name) t.is_new t.is_free in
      chained _ _ tt after (unrefused wrong f.line K.Name new)
      (chained _ _ tt after (unrefused full f.line K.Size (room_for_function (length earlier) t.has_room))
      (body_judged (body_functions program earlier plain f) f after t.body))

  -- what holds of the functions that are left, and of `main`, by the rules the verdict finds
  functions_judged : (earlier : ProgramTree) (plain : List Bytes) (rest : ProgramTree)
      → AreTypedFunctions program earlier plain rest → HasMain program
      → functions_verdict program earlier plain rest ≡ well tt
  functions_judged earlier plain [] all m = main_judged program m
  functions_judged earlier plain (f ∷ rest) (AreTypedFunctions.one {after = after} t all) m =
      chained _ _ after tt (function_judged earlier plain f after t)
      (functions_judged (earlier ++ f ∷ []) (with_plain plain f) rest all m)

  -- a program that is typed by the rules the verdict finds without fault
  pub judged_program : IsTypedByRules program → IsTyped program
  judged_program t = ap is_well (functions_judged [] [] program t.functions t.has_main)
