-- The types that `type_of` tells are those that expressions have by the rules.
use Rattle.std.proofs.Common.{◌≡◌, Option, Some, None, ◌∙◌, ap, refl}
use Rattle.std.specs.Prelude.{option_and_then, unwrap_or}
use Rattle.kern_syntax.specs.declared.program.DeclaredType.{DeclaredType}
use Rattle.kern_syntax.specs.Tree.{Expression}
use Rattle.kern_calls.specs.declared.types.ValueType.{ValueType}
use Rattle.kern_calls.specs.declared.types.ValueType.TheVariants as V
use Rattle.kern_calls.specs.Calls.{builtin_result, operation_result}
use Rattle.kern_calls.specs.Types.{Names, Scope, binary_type, result_type, call_type, type_of}
use Rattle.kern_expression_types.specs.declared.place.Given.{Given}
use Rattle.kern_expression_types.specs.declared.place.Given.TheVariants.{Typed}
use Rattle.kern_expression_types.specs.Fits.{given_result}
use Rattle.kern_expression_types.specs.Before.{Functions}
use Rattle.kern_judgement.specs.Expressions.{HasType, of_integer, of_true, of_false, of_variable, of_element, of_group, of_unary, of_binary, of_compare, of_negation, of_conjunction, of_disjunction, of_builtin, of_function, of_method}
use Rattle.kern_judgement.specs.Fitting.{Standing}
use Rattle.kern_judgement.specs.Told.{TellsNames, TellsFunctions}

same_type : {t u : ValueType} → Typed t ≡ Typed u → t ≡ u
same_type e = cc

-- a call whose value has a type has that of its result
result_told : (result : Option DeclaredType) (t : ValueType) → given_result result ≡ Typed t → result_type result ≡ t
result_told None t q = absurd (cc)
result_told (Some declared) t q = same_type q

module _
    (functions : Functions)
    (here : Standing)
    (names : Names)
    (scope : Scope)
    (known : TellsNames names scope)
    (callable : TellsFunctions functions scope)
  where
    -- an expression that gives a value of a type has that type in the scope
    pub told : {e : Expression} {g : Given} → HasType functions here names e g → (t : ValueType) → g ≡ Typed t → type_of scope e ≡ t
    told (of_integer n) t q = same_type q
    told of_true t q = same_type q
    told of_false t q = same_type q
    told (of_variable {x = x} {t = u} there) t q = ap (λ o. unwrap_or o V.Int64) (known x u there) ∙ same_type q
    told (of_element there index integer) t q = same_type q
    told (of_group inner) t q = told inner t q
    told (of_unary {t = u} inner integer) t q = told inner u refl ∙ same_type q
    told (of_binary {op = op} {a = a} {b = b} {t = u} {u = v} left _ right _) t q =
        ap (λ w. binary_type op w (type_of scope b)) (told left u refl) ∙ (ap (λ w. binary_type op u w) (told right v refl) ∙ same_type q)
    told (of_compare left right both) t q = same_type q
    told (of_negation inner) t q = same_type q
    told (of_conjunction left right) t q = same_type q
    told (of_disjunction left right) t q = same_type q
    told (of_builtin {f = f} {builtin = builtin} is given fit still) t q =
        ap (λ o. call_type scope.program f o) is ∙ result_told (builtin_result builtin) t q
    told (of_function {f = f} {called = called} is there given fit still) t q =
        ap (λ o. call_type scope.program f o) is
        ∙ (ap (λ o. result_type (option_and_then (λ h. h.result) o)) (callable f called there) ∙ result_told called.result t q)
    told (of_method {op = op} is given fit still) t q =
        ap (λ o. result_type (option_and_then operation_result o)) is ∙ result_told (operation_result op) t q
